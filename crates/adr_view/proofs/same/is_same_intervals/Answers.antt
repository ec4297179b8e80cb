use Rattle.std.proofs.Common.{◌≡◌, ◌∙◌, rules}
use Rattle.std.specs.Cmp.Lexicographic.{pointwise}
use Rattle.adr_objects.specs.declared.shown.ShownInterval.{ShownInterval}
use Rattle.adr_objects.specs.contracts.shown.ShownIntervalPartialEq.TheImpl as interval
use Rattle.adr_view.specs.Same.{is_same_interval}
use Rattle.adr_view.proofs.same.is_same_intervals.Goals as goal

same : (a b : ShownInterval) → interval.eq-value.it a b ≡ is_same_interval a b
same a b = search rules

pub returns : goal.returns
returns c = c.eq.ensures ∙ λ i. pointwise (λ a b. same a b i) c.args.a.now c.args.b.now
