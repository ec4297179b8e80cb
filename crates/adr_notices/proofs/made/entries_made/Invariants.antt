use Rattle.std.proofs.Common.{◌≡◌, ◌++◌, drop}
use Rattle.adr_notices.specs.Made.{entries_made}
use Rattle.adr_notices.proofs.made.entries_made.Given as goal

-- the entries so far, and those of the changes that are left
abbrev pub invariant-loop-change : goal.invariant-loop-change
invariant-loop-change l =
    l.all.items ++ entries_made l.client l.subs l.before l.after (drop l.change-index l.changes) ≡ entries_made l.client l.subs l.before l.after l.changes
