-- What is asked of what the tables keep is asked of the state that they hold.
use Rattle.std.proofs.Common.{◌≡◌, List, Result, Ok, IfErr, subst}
use Rattle.std.specs.List.{AllByRecursion, Contains}
use Rattle.std.proofs.lemmas.Result.{IfErr-weaker}
use Rattle.adr_db.proofs.Common.{Ghosts, Held, state, Refusal, IsRefusalOf}
use Rattle.adr_state.specs.declared.state.State.{State}
use Rattle.adr_db.specs.BaseCalls.{Refuses}
use Rattle.adr_db.specs.Calls.{IsOneOf}
use Rattle.adr_db.specs.Images.{image_kept}
use Rattle.adr_db.proofs.Results.{ok_then}
use Rattle.adr_held.specs.Held.{kept_of}
use Rattle.adr_held.proofs.HeldLemmas.{image_again}
use Rattle.adr_answers.specs.Calls.{FindsOr}
use Rattle.adr_desk.specs.Steps.{LooksUp, RefusesAs}
use Rattle.adr_desk.proofs.ListedLemmas.{Listed, one_of_listed}

module _ {S : Type 0} (g : Ghosts S) (old new : Held S) {A : Type 0} (look : State → Result A Refusal) where
  pub looked_up : (r : Result A Refusal) → FindsOr g old new (λ kept. look (image_kept kept)) r → LooksUp look (state g old) (state g new) r
  looked_up r finds clean = ok_then r (λ answer found held was. subst (λ (s : State). look s ≡ Ok answer) (image_again held) (found (kept_of held) was.keeps).0) (finds clean)

  pub refused_up : {T : Type 0} (r : Result T Refusal) → Refuses g old new (λ kept. look (image_kept kept)) r → RefusesAs look (state g old) (state g new) r
  refused_up r refuses clean = IfErr-weaker r _ _ (λ e refused held was. subst (λ (s : State). IsRefusalOf e (look s)) (image_again held) (refused (kept_of held) was.keeps)) (refuses clean)

-- what refuses by one of these is listed where these are
pub each_listed : {T : Type 0} (ones these : List Refusal) → AllByRecursion (Contains these) ones → (r : Result T Refusal) → IfErr r (IsOneOf ones) → IfErr r (Listed these)
each_listed ones these all r h = IfErr-weaker r _ _ (one_of_listed these ones all) h
