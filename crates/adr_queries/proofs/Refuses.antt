-- Results that are refused by nothing but some refusals.
use Rattle.std.proofs.Common.{ℕ, Bool, true, false, cond, Option, Some, None, Result, Ok, Err, IfErr}
use Rattle.adr_text.specs.Refusals.{◌>>=◌, or_else}
use Rattle.adr_text.specs.declared.refusal.Refusal.{Refusal}
use Rattle.adr_text.specs.declared.refusal.Refusal.TheVariants.{Forbidden}
use Rattle.adr_state.specs.declared.base.Base.{Base}
use Rattle.adr_state.specs.Vens.{ven_at}
use Rattle.adr_queries.specs.declared.role.Role.{Role}
use Rattle.adr_queries.specs.declared.role.Role.TheVariants as role
use Rattle.adr_queries.specs.Roles.{sight_by, sight_of}

-- a result is no other refusal than these
pub record Refuses {A : Type 0} (P : Refusal → Type 0) (r : Result A Refusal) : Type 0 where
  pub so : IfErr r P

module _ (P : Refusal → Type 0) where
  pub never : {A : Type 0} (x : A) → Refuses P (Ok x)
  never x = record { so = tt }

  pub either : {A : Type 0} (test : Bool) (r q : Result A Refusal) → Refuses P r → Refuses P q → Refuses P (cond test r q)
  either true r q this that = this
  either false r q this that = that

  pub tested : {A : Type 0} (refuses : Bool) (e : Refusal) (r : Result A Refusal) → P e → Refuses P r → Refuses P (cond refuses (Err e) r)
  tested refuses e r first others = either refuses (Err e) r (record { so = first }) others

  pub first_then : {A B : Type 0} (r : Result B Refusal) (f : B → Result A Refusal) → Refuses P r → ((x : B) → Refuses P (f x)) → Refuses P (r >>= f)
  first_then (Ok x) f first others = others x
  first_then (Err e) f first others = record { so = first.so }

  pub found_then : {A B : Type 0} (e : Refusal) (o : Option B) (f : B → Result A Refusal) → P e → ((x : B) → Refuses P (f x)) → Refuses P (or_else e o >>= f)
  found_then e None f first others = record { so = first }
  found_then e (Some x) f first others = others x

-- what is out of sight
module _ (P : Refusal → Type 0) (base : Base) (forbidden : P Forbidden) where
  pub sight_so : (role : Role) → Refuses P (sight_of base role)
  sight_so role.Operator = never P _
  sight_so (role.Ven id) = by (ven_at id base.portfolio)
    where
      by : (o : Option ℕ) → Refuses P (sight_by o)
      by None = record { so = forbidden }
      by (Some n) = never P _
  sight_so role.Utility = record { so = forbidden }
