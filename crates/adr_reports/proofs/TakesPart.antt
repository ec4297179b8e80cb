-- Whoever has a weight in an event takes part in it where its ven is there, and no one else does.
use Rattle.std.proofs.Common.{◌≡◌, ℕ, true, false, Option, Some, None, refl, option_map}
use Rattle.std.specs.Prelude.{is_some, option_and_then}
use Rattle.adr_db.proofs.Common.{nat_cmp, at, Participant, Resource, Ven}
use Rattle.adr_state.specs.declared.portfolio.Portfolio.{Portfolio}
use Rattle.adr_state.specs.Participants.{as_participant}

module _ (p : Portfolio) (r : ℕ × Resource) where
  pub without_weight : (weight : Option ℕ) → is_some weight ≡ false → is_some (option_and_then (as_participant p r) weight) ≡ false
  without_weight None none = refl
  without_weight (Some w) none = absurd cc

  pub with_weight : (weight : Option ℕ) → is_some weight ≡ true → is_some (option_and_then (as_participant p r) weight) ≡ is_some (at nat_cmp r.1.ven p.vens)
  with_weight None some = absurd cc
  with_weight (Some w) some = by (at nat_cmp r.1.ven p.vens)
    where
      by : (o : Option Ven) → is_some {T = Participant} (option_map (λ ven. record { resource = r.0; weight = w; name = r.1.name; ven_name = ven.name }) o) ≡ is_some o
      by None = refl
      by (Some ven) = refl
