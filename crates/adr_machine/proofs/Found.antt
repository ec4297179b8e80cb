-- What an id names is there.
use Rattle.std.proofs.Common.{◌≡◌, ℕ, Bool, true, cond, List, Option, Some, None, Ok, Err, IfOk, refl, ap}
use Rattle.std.specs.Prelude.{is_some, IsSome, IfSome, option_map, option_and_then}
use Rattle.std.specs.Ordering.{nat_cmp}
use Rattle.std.proofs.lemmas.Bool.{cond_both}
use Rattle.adr_text.specs.declared.refusal.Refusal.TheVariants as refusal
use Rattle.adr_subscription.specs.declared.kept_sub.Sub.{Sub}
use Rattle.adr_state.specs.declared.portfolio.Portfolio.{Portfolio}
use Rattle.adr_state.specs.declared.portfolio.Report.{Report}
use Rattle.adr_state.specs.Digits.{number_in}
use Rattle.adr_state.specs.Keys.{at}
use Rattle.adr_state.specs.Vens.{ven_with_id}
use Rattle.adr_state.specs.Resources.{resource_with_id}
use Rattle.adr_state.specs.Subs.{sub_with_id}
use Rattle.adr_view.specs.declared.sight.Sight.{Sight}
use Rattle.adr_view.specs.Sights.{sees_owner}
use Rattle.adr_view.specs.Subs.{sub_in_sight}
use Rattle.adr_view.specs.Reports.{report_with_id}
use Rattle.adr_machine.proofs.EditLemmas.{found_then}

abbrev pub IsFound : {V : Type 0} → List (ℕ × V) → ℕ → Type 0
IsFound rows n = IsSome (at nat_cmp n rows)

pub row_there : {V : Type 0} (rows : List (ℕ × V)) (o : Option ℕ) → IfSome {T = ℕ × V} (option_and_then (λ n. option_map (λ v. (n, v)) (at nat_cmp n rows)) o) (λ r. IsFound rows r.0)
row_there rows None = tt
row_there {V} rows (Some n) = elim (at nat_cmp n rows) as (λ o. at nat_cmp n rows ≡ o → IfSome {T = ℕ × V} (option_map (λ v. (n, v)) o) (λ r. IsFound rows r.0)) [
  | None ↦ λ is. tt
  | Some v ↦ λ is. ap is_some is
] refl

-- its number alone
pub number_there : {V : Type 0} (rows : List (ℕ × V)) (o : Option (ℕ × V)) → IfSome o (λ r. IsFound rows r.0) → IfSome (option_map (λ r. r.0) o) (IsFound rows)
number_there rows None h = tt
number_there rows (Some r) h = h

-- where it passes a test, too
pub passing : {A : Type 0} (P Q : A → Type 0) (passes : A → Bool) (o : Option A) → IfSome o P → ((x : A) → P x → passes x ≡ true → Q x) → IfSome (option_and_then (λ x. cond (passes x) (Some x) None) o) Q
passing P Q passes None h then_so = tt
passing P Q passes (Some x) h then_so = cond_both (passes x) (Some x) None (λ o. IfSome o Q) (then_so x h) (λ fails. tt)

pub ven_there : (id : List ℕ) (p : Portfolio) → IfSome (ven_with_id id p) (λ v. IsFound p.vens v.0)
ven_there id p = row_there p.vens (number_in 118 id)

pub resource_there : (id : List ℕ) (p : Portfolio) → IfSome (resource_with_id id p) (λ r. IsFound p.resources r.0)
resource_there id p = row_there p.resources (number_in 114 id)

-- the row of a number, where there is one
abbrev pub IsRow : {V : Type 0} → List (ℕ × V) → Option ℕ → ℕ × V → Type 0
IsRow rows number r = (number ≡ Some r.0) × (at nat_cmp r.0 rows ≡ Some r.1)

pub row_is : {V : Type 0} (rows : List (ℕ × V)) (o : Option ℕ) → IfSome {T = ℕ × V} (option_and_then (λ n. option_map (λ v. (n, v)) (at nat_cmp n rows)) o) (IsRow rows o)
row_is rows None = tt
row_is {V} rows (Some n) = elim (at nat_cmp n rows) as (λ o. at nat_cmp n rows ≡ o → IfSome {T = ℕ × V} (option_map (λ v. (n, v)) o) (IsRow rows (Some n))) [
  | None ↦ λ is. tt
  | Some v ↦ λ is. (refl, is)
] refl

-- the report of an id, and the subscription of one
abbrev pub IsReportOf : List ℕ → Portfolio → ℕ × Report → Type 0
IsReportOf id p r = IsRow p.reports (number_in 112 id) r

pub report_there : (id : List ℕ) (p : Portfolio) → IfSome (report_with_id id p) (IsReportOf id p)
report_there id p = row_is p.reports (number_in 112 id)

abbrev pub IsSubOf : List ℕ → Portfolio → ℕ × Sub → Type 0
IsSubOf id p s = IsRow p.subs (number_in 115 id) s

pub sub_there : (id : List ℕ) (p : Portfolio) → IfSome (sub_with_id id p) (IsSubOf id p)
sub_there id p = row_is p.subs (number_in 115 id)

pub in_sight_there : (sight : Sight) (id : List ℕ) (p : Portfolio) → IfOk (sub_in_sight sight id p) (IsSubOf id p)
in_sight_there sight id p =
    found_then (IsSubOf id p) (IsSubOf id p) refusal.NotFound (sub_with_id id p) _ (sub_there id p) (λ s there. cond_both (sees_owner sight s.1.owner) (Ok s) (Err refusal.Forbidden) (λ r. IfOk r (IsSubOf id p)) (λ seen. there) (λ unseen. tt))
