use Rattle.std.proofs.Common.{rules, ◌≡◌, ◌==◌, true, false, ℕ, Err, ap, sym, subst, ◌∙◌, arith, refl}
use Rattle.std.specs.Prelude.{is_some}
use Rattle.std.proofs.lemmas.Bool.{not-true, not-false}
use Rattle.adr_db.proofs.Common.{state, HasCleanDisk, LimitReached, PutShare, DropShare}
use Rattle.adr_db.specs.declared.meta.Meta.{Meta}
use Rattle.adr_db.specs.Bases.{kept_beside}
use Rattle.adr_db.specs.BaseCalls.{IsCounted}
use Rattle.adr_db.proofs.Results.{handed_on, on_then, refused_so, passed, stopped}
use Rattle.adr_portfolio.proofs.Decisions.{beyond_is}
use Rattle.adr_portfolio.proofs.share.set_weight.Goals as goal

pub returns-then-share-eq0-clause-sets : goal.returns-then-share-eq0-clause-sets
returns-then-share-eq0-clause-sets g c clean =
    let early : HasCleanDisk (state g.S.Store c.read_share.new.tx.conn.now) = omega (arith, c.remove_share.ensures.lent.stays.crash.clean) in
    let zero : (c.args.share == 0) ≡ true = search rules in
    on_then c.remove_share.result (λ counts beside base was same.
    let found = c.in_ok-found.ensures.finds early (kept_beside beside base) was in
    record { change = DropShare c.args.key.now; decided = rw zero refl; left = counts beside base found.1 same (c.is_some-is_there.ensures ∙ ap is_some found.0) }) (c.remove_share.ensures.counts clean)

pub returns-in_err-unless-clause-refuses : goal.returns-in_err-unless-clause-refuses
returns-in_err-unless-clause-refuses g c clean =
    let e = c.in_err-unless.field-0.0 in
    let some : (c.args.share == 0) ≡ false = search rules in
    let none = stopped LimitReached _ e (sym c.unless.ensures.gives ∙ c.in_err-unless.was) in
    handed_on _ c.from_residual-in_err-unless.result e c.from_residual-in_err-unless.ensures.1 (λ beside base was same.
    let found = c.in_ok-found.ensures.finds clean (kept_beside beside base) was in
    let beyond = c.is_beyond.ensures ∙ beyond_is c.args.limits.now c.args.key.now base.portfolio _ _ (c.is_some-is_there.ensures ∙ ap is_some found.0) (ap (λ (m : Meta). m.shares) same) in
    refused_so e _ (rw (some, sym beyond ∙ not-false _ none.0) (ap Err (sym none.1))))

pub returns-clause-sets : goal.returns-clause-sets
returns-clause-sets g c clean =
    let early : HasCleanDisk (state g.S.Store c.read_share.new.tx.conn.now) = omega (arith, c.put_share.ensures.lent.stays.crash.clean) in
    let some : (c.args.share == 0) ≡ false = search rules in
    on_then c.put_share.result (λ counts beside base was same.
    let found = c.in_ok-found.ensures.finds early (kept_beside beside base) was in
    let there = c.is_some-is_there.ensures ∙ ap is_some found.0 in
    let beyond = c.is_beyond.ensures ∙ beyond_is c.args.limits.now c.args.key.now base.portfolio _ _ there (ap (λ (m : Meta). m.shares) same) in
    record {
      change = PutShare c.args.key.now c.args.share;
      decided = rw (some, sym beyond ∙ not-true _ (passed LimitReached _ _ (sym c.unless.ensures.gives ∙ c.in_ok-unless.was))) refl;
      left = subst (λ (n : ℕ). IsCounted (PutShare c.args.key.now n) beside base c.args.meta.now c.put_share.new.meta (state g.S.Store c.put_share.new.tx.conn.now)) c.weight_of.ensures (counts beside base found.1 same there);
    }) (c.put_share.ensures.counts clean)
