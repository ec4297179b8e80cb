-- A command on a lent transaction, and then its commit.
use Rattle.std.proofs.Common.{◌≡◌, true, Ok, Result, arith, refl, subst}
use Rattle.adr_db.proofs.Common.{Ghosts, Held, state, HasCleanDisk, Refusal, Stays, Commits}
use Rattle.adr_state.specs.declared.state.State.{State}
use Rattle.adr_held.specs.Held.{HoldsState}
use Rattle.adr_db.proofs.Results.{on_then}
use Rattle.adr_queries.specs.declared.answer.Answer.{Answer}
use Rattle.adr_machine.specs.Edits.{told_by}
use Rattle.adr_desk.specs.Steps.{StepsTables, HoldsStepped, LeftStepped}
use Rattle.adr_desk.specs.Transactions.{Ends}
use Rattle.adr_desk.proofs.Transactions.{held_now, left_now, ends_whole, told_whole, told_ok}

-- what is true of a connection is true of an equal one
pub moved : {H : Type 0} (P : H → Type 0) (x y : H) → x ≡ y → P x → P y
moved P x y same h = subst P same h

module _ {S : Type 0} (g : Ghosts S) (old begun last end : Held S) (step : State → Result (Answer × State) Refusal) (said : Answer) (ended : Result Unit Refusal) (answer : Result Answer Refusal) where
  -- all of it is committed, or nothing is left of it
  pub applied_whole : begun ≡ record old { in_transaction = true } → Stays g begun last {T = Answer} {E = Refusal} (Ok said) → StepsTables step (state g begun) (state g last) (Ok said) → Ends g last end ended → answer ≡ told_by (λ u. said) ended
      → Commits g old end (λ s. (held : State) → HoldsState held (state g old) → HoldsStepped step held s) (λ trees. (held : State) → HoldsState held (state g old) → LeftStepped step held trees) answer
  applied_whole is stays makes ends same =
      rw same (told_whole g old end ended said _ _ (ends_whole g old last end said ended _ _ (subst (λ (b : Held S). Stays g b last {T = Answer} {E = Refusal} (Ok said)) is stays)
      (λ clean held was. let it = (subst (λ (b : Held S). StepsTables step (state g b) (state g last) (Ok said)) is makes) clean held (held_now held (state g old) _ refl was) in (said, it.after, it.stepped, it.holds))
      (λ a b same done held was. let it = done held was in (it.0, it.1, it.2, held_now it.1 a b same it.3))
      (λ s done held was. let it = done held was in (it.0, it.1, it.2, left_now it.1 s it.3))
      ends))

  -- and what is answered is right for what was committed
  pub applied_makes : begun ≡ record old { in_transaction = true } → StepsTables step (state g begun) (state g last) (Ok said) → Ends g last end ended → answer ≡ told_by (λ u. said) ended → StepsTables step (state g old) (state g end) answer
  applied_makes is makes ends same clean =
      let early : HasCleanDisk (state g last) = omega (arith, ends.crash.clean) in
      rw same (told_ok ended said _ (on_then ended (λ shown held was.
      let it = (subst (λ (b : Held S). StepsTables step (state g b) (state g last) (Ok said)) is makes) early held (held_now held (state g old) _ refl was) in
      record { after = it.after; stepped = it.stepped; holds = held_now it.after (state g last) _ shown.1.now_is it.holds }) (ends.ok clean)))
