use Rattle.std.proofs.Common.{◌≡◌, ◌++◌, map, filter}
use Rattle.adr_queries.specs.declared.answer.Object.TheVariants as object
use Rattle.adr_state.specs.Vens.{ven_object}
use Rattle.adr_view.specs.Sights.{sees_ven}
use Rattle.adr_queries.specs.Listings.{vens_in_sight}
use Rattle.adr_queries.proofs.ven.vens_in_sight.Given as goal

-- the vens so far, and those that are left
abbrev pub invariant-loop-number : goal.invariant-loop-number
invariant-loop-number l = l.all.items ++ map (λ v. object.Ven (ven_object v)) (filter (λ v. sees_ven l.sight v.0) l.number-iterator) ≡ vens_in_sight l.base l.sight
