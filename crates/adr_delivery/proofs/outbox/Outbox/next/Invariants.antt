use Rattle.std.proofs.Common.{◌≡◌}
use Rattle.adr_delivery.specs.Next.{next_entry, next_after}
use Rattle.adr_delivery.proofs.outbox.Outbox.next.Given as goal

-- what is next of the entries that are left is next of all
abbrev pub invariant-loop-number : goal.invariant-loop-number
invariant-loop-number l = next_after l.seen.keys l.now l.number-iterator ≡ next_entry l.now l.self.entries
