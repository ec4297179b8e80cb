use Rattle.sqlite.specs.Held.{state}
use Rattle.adr_desk.specs.Since.{stored_in}
use Rattle.adr_desk.proofs.kept.keep.Given as goal

-- what the tables store now
abbrev pub ghosts-made : goal.ghosts-made
ghosts-made g a = record { kept = stored_in (state g.S.Store a._conn.now) }
