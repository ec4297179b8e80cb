-- What is decided step by step: what was found first, and what is decided behind it.
use Rattle.std.proofs.Common.{◌≡◌, Result, Ok, Err, sym, ap, subst, ◌∙◌}
use Rattle.std.specs.Result.{IsErrAnd}
use Rattle.adr_text.specs.Refusals.{◌>>=◌}
use Rattle.adr_db.proofs.Common.{Ghosts, Held, state, HasCleanDisk, IsRefusalOf, Refusal}
use Rattle.adr_db.specs.BaseCalls.{Refuses}
use Rattle.adr_db.specs.Calls.{Finds}
use Rattle.adr_db.specs.Kept.{Kept, Keeps}
use Rattle.adr_db.proofs.Results.{handed_on, then_refused}
use Rattle.adr_answers.specs.Calls.{FindsOr}

-- a whole that is decided of a first thing, and then of what that gave
module _ {S : Type 0} (g : Ghosts S) (old mid new : Held S) {A B : Type 0} (whole : Kept → Result B Refusal) (first : Kept → Result A Refusal) (next : Kept → A → Result B Refusal)
    (is : (kept : Kept) → Keeps kept (state g old) → whole kept ≡ (first kept >>= next kept)) where
  -- the first is refused, and that is handed on
  pub refused_first : (r : Result B Refusal) (e : Refusal) → IsErrAnd r (λ x. x ≡ e) → Refuses g old new {T = A} first (Err e) → Refuses g old new whole r
  refused_first r e handed refuses clean = handed_on _ r e handed (λ kept was. subst (IsRefusalOf e) (sym (is kept was)) (then_refused e (first kept) (next kept) (refuses clean kept was)))

  -- it went well, and the rest is decided of what it gave
  module _ (early : HasCleanDisk (state g new) → HasCleanDisk (state g mid)) (x : A) (finds : FindsOr g old mid {E = Refusal} first (Ok x)) where
    pub finds_then : (r : Result B Refusal) → FindsOr g mid new (λ kept. next kept x) r → FindsOr g old new whole r
    finds_then (Ok y) then clean = λ kept was.
        let one = finds (early clean) kept was in
        let two = then clean kept one.1 in
        (is kept was ∙ ap (λ r. r >>= next kept) one.0 ∙ two.0, two.1)
    finds_then (Err e) then clean = tt

    pub refuses_then : (r : Result B Refusal) → Refuses g mid new (λ kept. next kept x) r → Refuses g old new whole r
    refuses_then (Ok y) then clean = tt
    refuses_then (Err e) then clean = λ kept was.
        let one = finds (early clean) kept was in
        subst (IsRefusalOf e) (sym (is kept was ∙ ap (λ r. r >>= next kept) one.0)) (then clean kept one.1)

-- what was read is found
pub as_found : {S : Type 0} (g : Ghosts S) (old mid : Held S) {A : Type 0} (f : Kept → A) (x : A) → Finds g old mid {E = Refusal} (λ kept x. x ≡ f kept) (Ok x) → FindsOr g old mid {E = Refusal} (λ kept. Ok (f kept)) (Ok x)
as_found g old mid f x finds clean kept was = let it = finds clean kept was in (ap Ok (sym it.0), it.1)
