use Rattle.std.proofs.Common.{◌≡◌, ℕ, true, false, nat_le, nat_lt, Result, Ok, Err, sym, ap, ◌∙◌}
use Rattle.std.proofs.lemmas.Bool.{leb-true, leb-false, lt-ltb, le-ltb}
use Rattle.adr_text.specs.Refusals.{unless, ◌>>=◌}
use Rattle.adr_text.specs.declared.refusal.Refusal.TheVariants.{BadShare}
use Rattle.adr_state.specs.Shares.{share_object}
use Rattle.adr_state.specs.Weights.{most_weight}
use Rattle.adr_db.proofs.Common.{Refusal, PortfolioChange}
use Rattle.adr_db.proofs.Results.{handed_on, refused_so, passed, stopped, then_refused}
use Rattle.adr_portfolio.proofs.share.set_of.Goals as goal

-- a share that passes is no larger than the largest
passes : (share : ℕ) (u : Unit {0}) → unless BadShare (nat_le share most_weight) ≡ Ok u → nat_lt most_weight share ≡ false
passes share u is = le-ltb most_weight share (leb-true share most_weight (passed BadShare _ u is))

pub set_weight-requires : goal.set_weight-requires
set_weight-requires g c = leb-true c.args.share most_weight (passed BadShare _ _ (sym c.unless.ensures.gives ∙ c.in_ok-unless.was))

pub returns-in_err-unless-clause-refuses : goal.returns-in_err-unless-clause-refuses
returns-in_err-unless-clause-refuses g c clean =
    let e = c.in_err-unless.field-0.0 in
    let no = stopped BadShare _ e (sym c.unless.ensures.gives ∙ c.in_err-unless.was) in
    let above : nat_lt most_weight c.args.share ≡ true = lt-ltb most_weight c.args.share (leb-false c.args.share most_weight no.0) in
    handed_on _ c.from_residual.result e c.from_residual.ensures.1 (λ beside base was same. refused_so e _ (rw above (ap Err (sym no.1))))

pub returns-in_err-set_weight-clause-refuses : goal.returns-in_err-set_weight-clause-refuses
returns-in_err-set_weight-clause-refuses g c clean =
    let e = c.in_err-set_weight.field-0.0 in
    let within = passes c.args.share _ (sym c.unless.ensures.gives ∙ c.in_ok-unless.was) in
    handed_on _ c.from_residual-in_err-set_weight.result e c.from_residual-in_err-set_weight.ensures.1 (λ beside base was same. rw within (then_refused e _ _ (c.in_err-set_weight.ensures.refuses clean beside base was same)))

pub returns-clause-carries : goal.returns-clause-carries
returns-clause-carries g c clean beside base was same =
    let share = c.args.share in
    let within = passes share _ (sym c.unless.ensures.gives ∙ c.in_ok-unless.was) in
    let set = c.in_ok-set_weight.ensures.sets clean beside base was same in
    record {
      change = set.change;
      decided = rw within (ap (λ (r : Result PortfolioChange Refusal). r >>= λ change. Ok (share_object (c.args.key, share), change)) set.decided);
      left = set.left;
    }
