-- What is decided of a new subscription, and of one that was looked for.
use Rattle.std.specs.Prelude.{ℕ, Bool, Option, Result, Ok, Err, if◌then◌else◌}
use Rattle.adr_text.specs.Refusals.{◌>>=◌, or_else}
use Rattle.adr_text.specs.declared.refusal.Refusal.{Refusal}
use Rattle.adr_text.specs.declared.refusal.Refusal.TheVariants.{NotFound, Forbidden, LimitReached}
use Rattle.adr_subscription.specs.declared.kept_sub.Sub.{Sub}
use Rattle.adr_subscription.specs.declared.object.SubObject.{SubObject}
use Rattle.adr_subscription.specs.declared.subscription.SubIn.{SubIn}
use Rattle.adr_state.specs.Portfolios.{PortfolioChange}
use Rattle.adr_state.specs.Stamping.{fresh}
use Rattle.adr_state.specs.Subs.{sub_replaced, sub_removed}
use Rattle.adr_view.specs.declared.sight.Sight.{Sight}
use Rattle.adr_view.specs.Sights.{sees_owner}

-- a new one of an owner, and 10 where there are as many as may be
abbrev pub made : Bool → ℕ → Option ℕ → SubIn → Result Sub Refusal
made full now owner body = if full then Err LimitReached else Ok (record { owner = owner; body = body; stamps = fresh now })

-- the one that was found, where it is in sight
abbrev pub in_sight : Sight → Option (ℕ × Sub) → Result (ℕ × Sub) Refusal
in_sight sight found = or_else NotFound found >>= λ s. if sees_owner sight s.1.owner then Ok s else Err Forbidden

-- it says this from now on
abbrev pub replaced : Sight → ℕ → Option (ℕ × Sub) → SubIn → Result (SubObject × PortfolioChange) Refusal
replaced sight now found body = in_sight sight found >>= λ s. Ok (sub_replaced now body s)

-- it goes, and is answered
abbrev pub removed : Sight → Option (ℕ × Sub) → Result (SubObject × PortfolioChange) Refusal
removed sight found = in_sight sight found >>= λ s. Ok (sub_removed s)
