-- What was read in what is dropped, and then a transaction that is committed.
use Rattle.std.proofs.Common.{◌≡◌, true, List, Ok, Err, Result, IfOk, OnOk, OnErr, IsTrue, subst, arith, refl, ◌∙◌}
use Rattle.sqlite.specs.State as sql
use Rattle.sqlite.proofs.StateLemmas.{survives_then}
use Rattle.adr_db.proofs.Common.{Ghosts, Held, state, HasCleanDisk, Refusal, Stays, Commits, Trees, MirrorKey}
use Rattle.adr_db.proofs.Results.{on_then}
use Rattle.adr_state.specs.declared.state.State.{State}
use Rattle.adr_held.specs.Held.{HoldsState}
use Rattle.adr_queries.specs.declared.answer.Answer.{Answer}
use Rattle.adr_machine.specs.Edits.{told_by}
use Rattle.adr_lent.proofs.Streams.{clean_before}
use Rattle.adr_desk.specs.Ends.{HasMissed, StepsMissed}
use Rattle.adr_desk.specs.Steps.{HoldsStepped, LeftStepped}
use Rattle.adr_desk.specs.Transactions.{Ends, IsDropped}
use Rattle.adr_desk.proofs.Transactions.{held_now, left_now, ends_whole, told_whole, told_ok}

err_then : {T E P Q : Type 0} (r : Result T E) → (P → Q) → OnErr r P → OnErr r Q
err_then (Ok x) f h = tt
err_then (Err e) f h = f h

module _ {S : Type 0} (g : Ghosts S) (old mid end : Held S) (dropped : IsDropped g old mid) where
  -- what is committed then is committed of what there was before
  pub dropped_whole : {T : Type 0} (D D' : sql.State → Type 0) (L L' : Trees → Type 0) (r : Result T Refusal) → (HasCleanDisk (state g mid) → (s : sql.State) → D s → D' s) → (HasCleanDisk (state g mid) → (trees : Trees) → L trees → L' trees)
      → Commits g mid end D L r → Commits g old end D' L' r
  dropped_whole D D' L L' r moves leaves h =
      let early : HasCleanDisk (state g end) → HasCleanDisk (state g mid) = clean_before (state g mid) (state g end) L h.crash in
      record {
        done = λ clean. on_then r (λ d. (moves (early clean) (state g end) d.0, d.1)) (h.done clean);
        is_open = h.is_open;
        was_open = λ clean opened. dropped.was_open (early clean) (h.was_open clean opened);
        undone = λ clean opened. let same = dropped.same (early clean) (h.was_open clean opened) in err_then r (λ u. (u.0 ∙ same.1, u.1 ∙ same.1)) (h.undone clean opened);
        over = h.over;
        crash = survives_then (state g old) (state g mid) (state g end) _ L L' (λ clean db none. absurd none) (λ clean db left. leaves (early clean) db left) dropped.crash h.crash;
      }

  pub dropped_unchanged : {T : Type 0} (r : Result T Refusal) → (HasCleanDisk (state g end) → IsTrue (state g end).is_open → HasCleanDisk (state g mid) × IsTrue (state g mid).is_open)
      → (HasCleanDisk (state g end) → IsTrue (state g end).is_open → OnErr r ((state g end).now ≡ (state g mid).now)) → HasCleanDisk (state g end) → IsTrue (state g end).is_open → OnErr r ((state g end).now ≡ (state g old).now)
  dropped_unchanged r early h clean opened = let at = early clean opened in err_then r (λ is. is ∙ (dropped.same at.0 at.1).0) (h clean opened)

-- ---- a step of each state whose scan missed these keys

module _ {S : Type 0} (g : Ghosts S) (old begun last end : Held S) (keys : List MirrorKey) (step : State → Result (Answer × State) Refusal) (said : Answer) (ended : Result Unit Refusal) (answer : Result Answer Refusal) where
  -- all of it is committed, or nothing is left of it
  pub shut_whole : begun ≡ record old { in_transaction = true } → Stays g begun last {T = Answer} {E = Refusal} (Ok said) → StepsMissed keys step (state g begun) (state g last) (Ok said) → Ends g last end ended → answer ≡ told_by (λ u. said) ended
      → Commits g old end (λ s. (held : State) → HoldsState held (state g old) → HasMissed keys held → HoldsStepped step held s) (λ trees. (held : State) → HoldsState held (state g old) → HasMissed keys held → LeftStepped step held trees) answer
  shut_whole is stays makes ends same =
      rw same (told_whole g old end ended said _ _ (ends_whole g old last end said ended _ _ (subst (λ (b : Held S). Stays g b last {T = Answer} {E = Refusal} (Ok said)) is stays)
      (λ clean held was told. let it = (subst (λ (b : Held S). StepsMissed keys step (state g b) (state g last) (Ok said)) is makes) clean held (held_now held (state g old) _ refl was) told in (said, it.after, it.stepped, it.holds))
      (λ a b same done held was told. let it = done held was told in (it.0, it.1, it.2, held_now it.1 a b same it.3))
      (λ s done held was told. let it = done held was told in (it.0, it.1, it.2, left_now it.1 s it.3))
      ends))

  -- and what is answered is right for what was committed
  pub shut_makes : begun ≡ record old { in_transaction = true } → StepsMissed keys step (state g begun) (state g last) (Ok said) → Ends g last end ended → answer ≡ told_by (λ u. said) ended → StepsMissed keys step (state g old) (state g end) answer
  shut_makes is makes ends same clean =
      let early : HasCleanDisk (state g last) = omega (arith, ends.crash.clean) in
      rw same (told_ok ended said _ (on_then ended (λ shown held was told.
      let it = (subst (λ (b : Held S). StepsMissed keys step (state g b) (state g last) (Ok said)) is makes) early held (held_now held (state g old) _ refl was) told in
      record { after = it.after; stepped = it.stepped; holds = held_now it.after (state g last) _ shown.1.now_is it.holds }) (ends.ok clean)))

-- what is so after Ok, and what is so of what was answered
pub both_of : {T E : Type 0} (X : Type 0) (P : T → Type 0) (r : Result T E) → OnOk r X → IfOk r P → IfOk r (λ x. X × P x)
both_of X P (Ok x) a b = (a, b)
both_of X P (Err e) a b = tt
