use Rattle.std.proofs.Common.{length}
use Rattle.table_files.proofs.escape.push_text.Given as goal

abbrev pub decreases-loop-at : goal.decreases-loop-at
decreases-loop-at l = length l.rest
