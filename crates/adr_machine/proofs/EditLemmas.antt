-- What holds of what a decision makes: a test that refuses makes nothing.
use Rattle.std.proofs.Common.{◌≡◌, Bool, true, false, cond, Option, Some, None, Result, Ok, Err, IfOk, refl}
use Rattle.std.specs.Prelude.{IfSome}
use Rattle.adr_text.specs.Refusals.{◌>>=◌, or_else}
use Rattle.adr_text.specs.declared.refusal.Refusal.{Refusal}
use Rattle.adr_state.specs.Names.{if_new, if_free}

module _ {A : Type 0} (P : A → Type 0) where
  -- behind a test that refuses
  pub tested : (refuses : Bool) (e : Refusal) (r : Result A Refusal) → (refuses ≡ false → IfOk r P) → IfOk (cond refuses (Err e) r) P
  tested true e r h = tt
  tested false e r h = h refl

  -- where it is allowed
  pub allowed_then : (allowed : Bool) (e : Refusal) (r : Result A Refusal) → IfOk r P → IfOk (cond allowed r (Err e)) P
  allowed_then true e r h = h
  allowed_then false e r h = tt

  -- one after another
  pub first_then : {B : Type 0} (Q : B → Type 0) (r : Result B Refusal) (f : B → Result A Refusal) → IfOk r Q → ((x : B) → Q x → IfOk (f x) P) → IfOk (r >>= f) P
  first_then Q (Ok x) f h further = further x h
  first_then Q (Err e) f h further = tt

  -- of what is there
  pub found_then : {B : Type 0} (Q : B → Type 0) (e : Refusal) (o : Option B) (f : B → Result A Refusal) → IfSome o Q → ((x : B) → Q x → IfOk (f x) P) → IfOk (or_else e o >>= f) P
  found_then Q e None f h further = tt
  found_then Q e (Some x) f h further = further x h

  -- what is new, where there is room, and what has another name
  pub new_then : (taken full : Bool) (made : A) → (taken ≡ false → full ≡ false → P made) → IfOk (if_new taken full made) P
  new_then true full made h = tt
  new_then false true made h = tt
  new_then false false made h = h refl refl

  pub free_then : (taken : Bool) (made : A) → (taken ≡ false → P made) → IfOk (if_free taken made) P
  free_then true made h = tt
  free_then false made h = h refl

-- it may be anything
pub whatever : {A : Type 0} (r : Result A Refusal) → IfOk r (λ x. Unit {0})
whatever (Ok x) = tt
whatever (Err e) = tt
