-- What was found and is in sight is there.
use Rattle.std.proofs.Common.{◌≡◌, ℕ, Bool, true, false, cond, List, Option, None, Some, Result, Ok, Err, subst}
use Rattle.std.specs.Prelude.{is_some}
use Rattle.adr_text.specs.declared.refusal.Refusal.TheVariants.{Forbidden}
use Rattle.adr_db.proofs.Common.{Refusal, Sub, at, nat_cmp}
use Rattle.adr_view.specs.declared.sight.Sight.{Sight}
use Rattle.adr_view.specs.Sights.{sees_owner}
use Rattle.adr_counted.specs.There.{IsThere}
use Rattle.adr_subs.specs.Found.{in_sight}

pub seen_there : (sight : Sight) (rows : List (ℕ × Sub)) (found : Option (ℕ × Sub)) (s : ℕ × Sub) → in_sight sight found ≡ Ok s → IsThere found rows → is_some (at nat_cmp s.0 rows) ≡ true
seen_there sight rows None s is there = absurd cc
seen_there sight rows (Some x) s is there = by (sees_owner sight x.1.owner) is
  where
    by : (b : Bool) → ◌≡◌ {A = Result (ℕ × Sub) Refusal} (cond b (Ok x) (Err Forbidden)) (Ok s) → is_some (at nat_cmp s.0 rows) ≡ true
    by true is = let same : x ≡ s = cc in subst (λ (s : ℕ × Sub). is_some (at nat_cmp s.0 rows) ≡ true) same there
    by false is = absurd cc
