use Rattle.std.proofs.Common.{◌≡◌, ℕ, Bool, true, false, cond, Option, Ok, Err, Result, refl, sym, ap, ap₂, ◌∙◌}
use Rattle.std.specs.Prelude.{nat_le}
use Rattle.adr_text.specs.Refusals.{◌>>=◌}
use Rattle.adr_subscription.specs.declared.kept_sub.Sub.{Sub}
use Rattle.adr_subscription.specs.declared.object.SubObject.{SubObject}
use Rattle.adr_subscription.specs.declared.subscription.SubIn.{SubIn}
use Rattle.adr_state.specs.Subs.{putting_sub}
use Rattle.adr_db.proofs.Common.{Refusal, LimitReached, PortfolioChange, fresh, is_full}
use Rattle.adr_db.specs.declared.meta.Meta.{Meta}
use Rattle.adr_db.proofs.Results.{handed_on, ok_then, refused_so}
use Rattle.adr_subs.specs.Found.{made}
use Rattle.adr_subs.proofs.posting.post.Goals as goal

-- it is put where there is room for it
abbrev put_made : ℕ → Result Sub Refusal → Result (SubObject × PortfolioChange) Refusal
put_made n sub = sub >>= λ sub. Ok (putting_sub n sub)

by_room : (full : Bool) (now n : ℕ) (owner : Option ℕ) (body : SubIn) → cond full (Err LimitReached) (Ok (putting_sub n (record { owner = owner; body = body; stamps = fresh now }))) ≡ put_made n (made full now owner body)
by_room true now n owner body = refl
by_room false now n owner body = refl

pub returns-in_err-sub-clause-refuses : goal.returns-in_err-sub-clause-refuses
returns-in_err-sub-clause-refuses g c clean =
    let n = c.args.number in
    let e = c.in_err-sub.field-0.0 in
    handed_on _ c.from_residual.result e c.from_residual.ensures.1 (λ beside base was same.
    let room = ap₂ nat_le c.get.ensures.value (ap (λ (m : Meta). m.subs) same) in
    refused_so e _ (by_room (is_full c.args.limits.now.subs base.portfolio.subs) c.args.now n c.args.owner c.args.body ∙ ap (λ full. put_made n (made full c.args.now c.args.owner c.args.body)) (sym room) ∙ ap (put_made n) (sym c.made.ensures.gives ∙ c.in_err-sub.was)))

pub returns-clause-carries : goal.returns-clause-carries
returns-clause-carries g c clean =
    let n = c.args.number in
    ok_then c.add_kept.result (λ x carries beside base was same.
    let room = ap₂ nat_le c.get.ensures.value (ap (λ (m : Meta). m.subs) same) in
    let put = carries beside base was same in
    record {
      change = put.change;
      decided = by_room (is_full c.args.limits.now.subs base.portfolio.subs) c.args.now n c.args.owner c.args.body ∙ ap (λ full. put_made n (made full c.args.now c.args.owner c.args.body)) (sym room) ∙ ap (put_made n) (sym c.made.ensures.gives ∙ c.in_ok-sub.was) ∙ put.decided;
      left = put.left;
    }) (c.add_kept.ensures.carries clean)
