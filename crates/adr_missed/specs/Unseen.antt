-- The live keys that were not polled, as rows, and as they are told of what is kept.
use Rattle.std.specs.Prelude.{ℕ, List, map, Option, Result, Ok}
use Rattle.sqlite.specs.Order.{Row}
use Rattle.adr_text.specs.Refusals.{◌>>=◌, unless}
use Rattle.adr_text.specs.declared.refusal.Refusal.{Refusal}
use Rattle.adr_text.specs.declared.refusal.Refusal.TheVariants.{NoScan}
use Rattle.adr_state.specs.declared.keys.MirrorKey.{MirrorKey}
use Rattle.adr_state.specs.Scans.{probes}
use Rattle.adr_db.specs.Kept.{Kept, at_most}
use Rattle.adr_db.specs.Rows.{key_row}

-- the rows of the live keys that were not polled
abbrev pub unseen_rows : Kept → List Row
unseen_rows kept = map key_row (probes kept.mirror kept.polled)

-- those keys by what is kept, where a scan is open; the first of them where there is a limit, at most so many; `NoScan`
-- where none is open
abbrev pub unseen_kept : Option ℕ → Kept → Result (List MirrorKey) Refusal
unseen_kept limit kept = unless NoScan kept.meta.scan >>= λ _. Ok (at_most limit (probes kept.mirror kept.polled))
