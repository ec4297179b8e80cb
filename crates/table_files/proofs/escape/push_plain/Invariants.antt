use Rattle.std.proofs.Common.{length}
use Rattle.table_files.proofs.escape.push_plain.Given as goal

abbrev pub decreases-loop-first : goal.decreases-loop-first
decreases-loop-first l = length l.rest
