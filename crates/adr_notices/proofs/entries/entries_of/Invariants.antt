use Rattle.std.proofs.Common.{◌≡◌, ◌++◌}
use Rattle.adr_notices.specs.Matching.{entries_of}
use Rattle.adr_notices.proofs.entries.entries_of.Given as goal

-- the entries so far, and those for the subscriptions that are left
abbrev pub invariant-loop-number : goal.invariant-loop-number
invariant-loop-number l = l.entries.items ++ entries_of l.number-iterator l.notice ≡ entries_of l.subs l.notice
