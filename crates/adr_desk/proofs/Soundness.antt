-- From what the store shows to what the desk is.
use Rattle.std.proofs.Common.{◌≡◌, Ok, Err, Result, IfOk, IfErr, OnErr, IsTrue, sym, ap, subst, ◌∙◌, arith}
use Rattle.std.proofs.Math.Logic.{∥∥₁_elim, ∥∥₁_map}
use Rattle.std.specs.Coded.{Coded, Coded-set, coded×, coded_result, Unit-prop}
use Rattle.adr_db.proofs.Common.{Trees, Ghosts, Held, state as shows, HasCleanDisk, Refusal, OutOfMemory, Store, Commits, IsRefusalOf}
use Rattle.sqlite.specs.State.{Survives}
use Rattle.sqlite.specs.State as sql
use Rattle.adr_text.specs.contracts.refusal.Refusal as refusal
use Rattle.adr_state.specs.contracts.state.State as state
use Rattle.adr_queries.specs.contracts.answer.Answer as answer
use Rattle.adr_state.specs.declared.state.State.{State}
use Rattle.adr_db.specs.Kept.{Kept, Keeps}
use Rattle.adr_held.specs.Held.{HoldsState, kept_of}
use Rattle.adr_db.specs.Images.{image_kept}
use Rattle.adr_db.specs.ReadBack.{state_in}
use Rattle.adr_held.proofs.HeldLemmas.{held_again, image_again}
use Rattle.adr_queries.specs.declared.answer.Answer.{Answer}
use Rattle.adr_desk.specs.Since.{Stored, WasHeld, HoldsSince}
use Rattle.adr_desk.specs.Steps.{IsStepped, HoldsStepped}
use Rattle.adr_desk.specs.Transactions.{IsDropped}
use Rattle.adr_desk.proofs.Transactions.{held_now}

-- answers and states are told apart
abbrev pub answer_coded : Coded Answer
answer_coded = answer.the_row.coded

abbrev pub state_coded : Coded State
state_coded = state.the_row.coded

abbrev result_coded : {A : Type 0} → Coded A → Coded (Result A Refusal)
result_coded coded = coded_result coded refusal.the_row.coded

refusal_prop : {A : Type 0} → Coded A → (e : Refusal) (r : Result A Refusal) → IsProp (IsRefusalOf e r)
refusal_prop coded OutOfMemory r = Unit-prop
refusal_prop coded Store r = Unit-prop
refusal_prop coded e r = Coded-set (result_coded coded) _ _

-- what holds where a premise does
pub ok_given : {T E G : Type 0} (P : T → Type 0) (r : Result T E) → (G → IfOk r P) → IfOk r (λ x. G → P x)
ok_given P (Ok x) h = h
ok_given P (Err e) h = tt

pub err_given : {T E G : Type 0} (P : E → Type 0) (r : Result T E) → (G → IfErr r P) → IfErr r (λ e. G → P e)
err_given P (Ok x) h = tt
err_given P (Err e) h = h

pub on_err_given : {T E G : Type 0} (P : Type 0) (r : Result T E) → (G → OnErr r P) → OnErr r (G → P)
on_err_given P (Ok x) h = tt
on_err_given P (Err e) h = h

-- the tables hold what they read back as, where they hold a state
pub holds_again : (held : State) (s : sql.State) → HoldsState held s → HoldsState (state_in s) s
holds_again held s h = subst (λ (t : State). HoldsState t s) (sym (held_again s held h)) h

-- and still do, where all is as it was
pub holds_still : (a b : sql.State) → b.now ≡ a.now → HoldsState (state_in a) a → HoldsState (state_in b) b
holds_still a b same h = holds_again (state_in a) b (held_now (state_in a) a b same h)

-- where the tables held some state as a desk was made, they hold the one that they read back as
pub holds_now : {S : Type 0} (g : Ghosts S) (stored : Stored) (conn : Held S) → ∥ HoldsSince g stored conn ∥₁ → ∥ ((held : State) × WasHeld held stored) ∥₁
    → HasCleanDisk (shows g conn) → IsTrue (shows g conn).is_open → ∥ HoldsState (state_in (shows g conn)) (shows g conn) ∥₁
holds_now g stored conn holds began clean is_open = ∥∥₁_elim holds squash₁ (λ since. ∥∥₁_map began (λ b. since b.0 b.1 clean is_open))

module _ {S : Type 0} (g : Ghosts S) (stored : Stored) (old new : Held S) where
  -- what a transaction that was committed or dropped left is held
  held_after : (step : State → Result (Answer × State) Refusal) (r : Result Answer Refusal)
      → (HasCleanDisk (shows g new) → IsTrue (shows g new).is_open → OnErr r ((shows g new).now ≡ (shows g old).now))
      → {IsLeft : Trees → Type 0} → Commits g old new (λ s. (held : State) → HoldsState held (shows g old) → HoldsStepped step held s) IsLeft r
      → HoldsSince g stored old → HoldsSince g stored new
  held_after step (Ok x) same whole since held was clean is_open =
      let early : HasCleanDisk (shows g old) = omega (arith, whole.crash.clean) in
      let it = (whole.done clean).0 (state_in (shows g old)) (since held was early (whole.was_open clean is_open)) in
      holds_again it.1 (shows g new) it.3
  held_after step (Err e) same whole since held was clean is_open =
      let early : HasCleanDisk (shows g old) = omega (arith, whole.crash.clean) in
      holds_still (shows g old) (shows g new) (same clean is_open) (since held was early (whole.was_open clean is_open))

  pub own_after : (step : State → Result (Answer × State) Refusal) (r : Result Answer Refusal)
      → (HasCleanDisk (shows g new) → IsTrue (shows g new).is_open → OnErr r ((shows g new).now ≡ (shows g old).now))
      → {IsLeft : Trees → Type 0} → Commits g old new (λ s. (held : State) → HoldsState held (shows g old) → HoldsStepped step held s) IsLeft r
      → ∥ HoldsSince g stored old ∥₁ → ∥ HoldsSince g stored new ∥₁
  own_after step r same whole holds = ∥∥₁_map holds (held_after step r same whole)

  -- and what one left that was only dropped
  pub own_still : IsDropped g old new → ∥ HoldsSince g stored old ∥₁ → ∥ HoldsSince g stored new ∥₁
  own_still dropped holds =
      ∥∥₁_map holds (λ since held was clean is_open.
      let early : HasCleanDisk (shows g old) = omega (arith, dropped.crash.clean) in
      holds_still (shows g old) (shows g new) (dropped.same clean is_open).0 (since held was early (dropped.was_open clean is_open)))

  -- what was held before, where the store is open after
  pub held_before : {IsLeft : Trees → Type 0} → Survives (shows g old) (shows g new) IsLeft → (HasCleanDisk (shows g new) → IsTrue (shows g new).is_open → IsTrue (shows g old).is_open) → ∥ HoldsSince g stored old ∥₁
      → ∥ ((held : State) × WasHeld held stored) ∥₁ → HasCleanDisk (shows g new) → IsTrue (shows g new).is_open → ∥ HoldsState (state_in (shows g old)) (shows g old) ∥₁
  held_before survives was_open holds began clean is_open =
      let early : HasCleanDisk (shows g old) = omega (arith, survives.clean) in
      holds_now g stored old holds began early (was_open clean is_open)

module _ {S : Type 0} (g : Ghosts S) (old new : Held S) where
  -- what is read is the state that is read back
  pub image_told : (image : State) → ((kept : Kept) → Keeps kept (shows g old) → image ≡ image_kept kept) → ∥ HoldsState (state_in (shows g old)) (shows g old) ∥₁ → image ≡ state_in (shows g old)
  image_told image finds was = ∥∥₁_elim was (Coded-set state_coded _ _) (λ h. finds (kept_of (state_in (shows g old))) h.keeps ∙ image_again (state_in (shows g old)))

  -- what is answered is the machine's step, on the state that is read back
  pub step_taken : (step : State → Result (Answer × State) Refusal) (answer : Answer) → ((held : State) → HoldsState held (shows g old) → IsStepped step held answer (shows g new))
      → ∥ HoldsState (state_in (shows g old)) (shows g old) ∥₁ → step (state_in (shows g old)) ≡ Ok (answer, state_in (shows g new))
  step_taken step answer makes was =
      ∥∥₁_elim was (Coded-set (result_coded (coded× answer_coded state_coded)) _ _) (λ h.
      let it = makes (state_in (shows g old)) h in
      it.stepped ∙ ap (λ (t : State). Ok (answer, t)) (sym (held_again (shows g new) it.after it.holds)))

  -- a refusal is the machine's own
  pub refused_as : {A : Type 0} → Coded A → (taken : State → Result A Refusal) (refusal : Refusal) → ((held : State) → HoldsState held (shows g old) → IsRefusalOf refusal (taken held))
      → ∥ HoldsState (state_in (shows g old)) (shows g old) ∥₁ → IsRefusalOf refusal (taken (state_in (shows g old)))
  refused_as coded taken refusal refuses was = ∥∥₁_elim was (refusal_prop coded refusal (taken (state_in (shows g old)))) (λ h. refuses (state_in (shows g old)) h)

  -- what is told is the machine's reply
  pub reply_told : (reply : State → Result Answer Refusal) (answer : Answer) → ((held : State) → HoldsState held (shows g old) → reply held ≡ Ok answer)
      → ∥ HoldsState (state_in (shows g old)) (shows g old) ∥₁ → reply (state_in (shows g old)) ≡ Ok answer
  reply_told reply answer tells was = ∥∥₁_elim was (Coded-set (result_coded answer_coded) _ _) (λ h. tells (state_in (shows g old)) h)
