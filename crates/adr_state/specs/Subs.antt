-- Subscriptions by their ids, as they are told, and what is decided of them.
use Rattle.std.specs.Prelude.{ℕ, List, Option, option_map, option_and_then, Result, Ok, Err, if◌then◌else◌}
use Rattle.std.specs.Ordering.{nat_cmp}
use Rattle.adr_text.specs.declared.refusal.Refusal.{Refusal}
use Rattle.adr_text.specs.declared.refusal.Refusal.TheVariants.{LimitReached}
use Rattle.adr_subscription.specs.declared.object.SubObject.{SubObject}
use Rattle.adr_subscription.specs.declared.kept_sub.Sub.{Sub}
use Rattle.adr_subscription.specs.declared.subscription.SubIn.{SubIn}
use Rattle.adr_state.specs.declared.portfolio.Portfolio.{Portfolio}
use Rattle.adr_state.specs.declared.limits.Limits.{Limits}
use Rattle.adr_state.specs.Keys.{at}
use Rattle.adr_state.specs.Digits.{number_in}
use Rattle.adr_state.specs.Names.{is_full}
use Rattle.adr_state.specs.Stamping.{fresh, modified_at}
use Rattle.adr_state.specs.Portfolios.{PortfolioChange, PutSub, DropSub}

-- the subscription of an id, with its number
abbrev pub sub_with_id : List ℕ → Portfolio → Option (ℕ × Sub)
sub_with_id id p = option_and_then (λ n. option_map (λ s. (n, s)) (at nat_cmp n p.subs)) (number_in 115 id)

-- a subscription as it is told: its number, what it asks for, and its stamps
abbrev pub sub_object : ℕ × Sub → SubObject
sub_object s = record { number = s.0; sub = s.1.body; stamps = s.1.stamps }

-- a subscription is put, and answered
abbrev pub putting_sub : ℕ → Sub → SubObject × PortfolioChange
putting_sub n sub = (sub_object (n, sub), PutSub n sub)

-- a new one of an owner, under the number that is handed in, and 10 where there are as many as may be
abbrev pub sub_post : Limits → ℕ → ℕ → Option ℕ → SubIn → Portfolio → Result (SubObject × PortfolioChange) Refusal
sub_post limits now n owner body p =
    if is_full limits.subs p.subs then Err LimitReached else Ok (putting_sub n (record { owner = owner; body = body; stamps = fresh now }))

-- it says this from now on; its owner stays, and it is modified now
abbrev pub sub_replaced : ℕ → SubIn → ℕ × Sub → SubObject × PortfolioChange
sub_replaced now body s = putting_sub s.0 (record { owner = s.1.owner; body = body; stamps = modified_at now s.1.stamps })

-- it goes, and is answered as it was
abbrev pub sub_removed : ℕ × Sub → SubObject × PortfolioChange
sub_removed s = (sub_object s, DropSub s.0)
