-- Results that are handed on, and refusals that stand in their place.
use Rattle.std.proofs.Common.{◌≡◌, Bool, true, false, Result, Ok, Err, IfOk, IfErr, OnOk, refl, sym, subst}
use Rattle.std.specs.Result.{IsErrAnd}
use Rattle.adr_text.specs.Refusals.{unless, ◌>>=◌}
use Rattle.adr_db.proofs.Common.{Refusal, OutOfMemory, Store, IsRefusalOf}

pub ok_then : {T E : Type 0} {P Q : T → Type 0} (r : Result T E) → ((x : T) → P x → Q x) → IfOk r P → IfOk r Q
ok_then (Ok x) f h = f x h
ok_then (Err e) f h = tt

pub on_then : {T E P Q : Type 0} (r : Result T E) → (P → Q) → OnOk r P → OnOk r Q
on_then (Ok x) f h = f h
on_then (Err e) f h = tt

pub ok_from : {T E X : Type 0} {P : T → Type 0} (r : Result T E) → ((x : T) → X → P x) → OnOk r X → IfOk r P
ok_from (Ok x) f h = f x h
ok_from (Err e) f h = tt

-- a refusal that is handed on
pub handed_on : {T : Type 0} (P : Refusal → Type 0) (r : Result T Refusal) (e : Refusal) → IsErrAnd r (λ x. x ≡ e) → P e → IfErr r P
handed_on P (Ok x) e h p = absurd h
handed_on P (Err x) e h p = subst P (sym h) p

-- a refusal that what is decided gives stands in its place
pub own_refuses : {A : Type 0} (e own : Refusal) (r : Result A Refusal) → e ≡ own → r ≡ Err own → IsRefusalOf own r → IsRefusalOf e r
own_refuses e own r is same h = subst (λ e. IsRefusalOf e r) (sym is) h

-- the refusal that it is
pub refused_so : {A : Type 0} (e : Refusal) (r : Result A Refusal) → r ≡ Err e → IsRefusalOf e r
refused_so OutOfMemory r is = tt
refused_so Store r is = tt
refused_so _ r is = is

pub err_then : {T E : Type 0} {P Q : E → Type 0} (r : Result T E) → ((e : E) → P e → Q e) → IfErr r P → IfErr r Q
err_then (Ok x) f h = tt
err_then (Err e) f h = f e h

-- by what it is
pub found_so : {A : Type 0} {P : A → Type 0} (r : Result A Refusal) → ((x : A) → r ≡ Ok x → P x) → IfOk r P
found_so (Ok x) h = h x refl
found_so (Err e) h = tt

pub refused_then : {A : Type 0} {P : Refusal → Type 0} (r : Result A Refusal) → ((e : Refusal) → r ≡ Err e → P e) → IfErr r P
refused_then (Ok x) h = tt
refused_then (Err e) h = h e refl

-- a refusal of one thing is one of what follows from it
pub then_refused : {A B : Type 0} (e : Refusal) (first : Result A Refusal) (next : A → Result B Refusal) → IsRefusalOf e first → IsRefusalOf e (first >>= next)
then_refused OutOfMemory first next h = tt
then_refused Store first next h = tt
then_refused e (Ok x) next h = absurd cc
then_refused e (Err d) next h = cc

-- a test passes where what was tested holds, and tells its own refusal where it does not
pub passed : (own : Refusal) (holds : Bool) (u : Unit {0}) → unless own holds ≡ Ok u → holds ≡ true
passed own true u h = refl
passed own false u h = absurd cc

pub stopped : (own : Refusal) (holds : Bool) (e : Refusal) → unless own holds ≡ Err e → (holds ≡ false) × (e ≡ own)
stopped own true e h = absurd cc
stopped own false e h = (refl, let it : own ≡ e = cc in sym it)
