use Rattle.std.proofs.Common.{take}
use Rattle.std.specs.List.{AllZip}
use Rattle.adr_db.proofs.reading.all_in.Given as goal

abbrev pub invariant-rows : goal.invariant-rows
invariant-rows g l = AllZip g.T.FromRow.reads (take l.row-index l.rows) l.all
