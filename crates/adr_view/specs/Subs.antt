-- What is decided of subscriptions, by what is in sight of who gives the command.
use Rattle.std.specs.Prelude.{ℕ, List, Result, Ok, Err, if◌then◌else◌}
use Rattle.adr_text.specs.Refusals.{◌>>=◌, or_else}
use Rattle.adr_text.specs.declared.refusal.Refusal.{Refusal}
use Rattle.adr_text.specs.declared.refusal.Refusal.TheVariants.{NotFound, Forbidden}
use Rattle.adr_subscription.specs.declared.object.SubObject.{SubObject}
use Rattle.adr_subscription.specs.declared.kept_sub.Sub.{Sub}
use Rattle.adr_subscription.specs.declared.subscription.SubIn.{SubIn}
use Rattle.adr_state.specs.declared.portfolio.Portfolio.{Portfolio}
use Rattle.adr_state.specs.Portfolios.{PortfolioChange}
use Rattle.adr_state.specs.Subs.{sub_with_id, sub_replaced, sub_removed}
use Rattle.adr_view.specs.declared.sight.Sight.{Sight}
use Rattle.adr_view.specs.Sights.{sees_owner}

-- the subscription of an id, with its number, where it is in sight: 6 where it is not there, 8 where it is another's
abbrev pub sub_in_sight : Sight → List ℕ → Portfolio → Result (ℕ × Sub) Refusal
sub_in_sight sight id p = or_else NotFound (sub_with_id id p) >>= λ s. if sees_owner sight s.1.owner then Ok s else Err Forbidden

-- the subscription of an id says this from now on: 6 where it is not there, 8 where it is another's
abbrev pub sub_put : Sight → ℕ → List ℕ → SubIn → Portfolio → Result (SubObject × PortfolioChange) Refusal
sub_put sight now id body p = sub_in_sight sight id p >>= λ s. Ok (sub_replaced now body s)

-- the subscription of an id goes, and is answered as it was: 6 where it is not there, 8 where it is another's
abbrev pub sub_delete : Sight → List ℕ → Portfolio → Result (SubObject × PortfolioChange) Refusal
sub_delete sight id p = sub_in_sight sight id p >>= λ s. Ok (sub_removed s)
