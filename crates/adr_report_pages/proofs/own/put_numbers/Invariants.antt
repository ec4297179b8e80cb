use Rattle.std.proofs.Common.{◌≡◌, map}
use Rattle.adr_db.proofs.Common.{nat_cmp}
use Rattle.adr_state.specs.Keys.{with_rows}
use Rattle.adr_report_pages.proofs.own.put_numbers.Given as goal

abbrev pub invariant-numbers : goal.invariant-numbers
invariant-numbers l = l.numbers ≡ with_rows nat_cmp l.fn.numbers (map (λ n. (n, l.resource)) l.yielded)
