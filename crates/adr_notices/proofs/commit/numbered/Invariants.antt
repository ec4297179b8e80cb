use Rattle.std.proofs.Common.{◌≡◌, ◌++◌, ◌+◌, length}
use Rattle.adr_notices.specs.Committed.{numbered}
use Rattle.adr_notices.proofs.commit.numbered.Given as goal

-- the entries that have a number, and those that are left
abbrev pub invariant-loop-entry : goal.invariant-loop-entry
invariant-loop-entry l =
    (l.rows.items ++ numbered l.number l.entry-iterator.rest.items ≡ numbered l.last l.fn.entries) × (l.number + length l.entry-iterator.rest.items ≡ l.last + length l.fn.entries)
