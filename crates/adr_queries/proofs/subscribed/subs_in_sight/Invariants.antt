use Rattle.std.proofs.Common.{◌≡◌, ◌++◌, map, filter}
use Rattle.adr_queries.specs.declared.answer.Object.TheVariants as object
use Rattle.adr_state.specs.Subs.{sub_object}
use Rattle.adr_view.specs.Sights.{sees_owner}
use Rattle.adr_queries.specs.Subscribed.{subs_in_sight}
use Rattle.adr_queries.proofs.subscribed.subs_in_sight.Given as goal

-- the subscriptions so far, and those that are left
abbrev pub invariant-loop-number : goal.invariant-loop-number
invariant-loop-number l = l.all.items ++ map (λ s. object.Sub (sub_object s)) (filter (λ s. sees_owner l.sight s.1.owner) l.number-iterator) ≡ subs_in_sight l.sight l.portfolio
