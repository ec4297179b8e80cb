use Rattle.std.proofs.Common.{◌≡◌, true, ℕ, List, [], Ok, refl, sym, ap, subst, ◌∙◌, arith}
use Rattle.std.proofs.lemmas.Result.{IfErr-weaker}
use Rattle.adr_db.proofs.Common.{state, HasCleanDisk}
use Rattle.adr_db.specs.Bases.{kept_beside, with_base, HoldsBeside}
use Rattle.adr_db.proofs.Results.{ok_then}
use Rattle.adr_state.specs.declared.portfolio.Portfolio.{Portfolio}
use Rattle.adr_state.specs.Frozen.{is_frozen, with_frozen}
use Rattle.adr_state.specs.Portfolios.{Freeze}
use Rattle.adr_view.proofs.FrozenLemmas.{still_frozen}
use Rattle.adr_counted.proofs.Decided.{carried_as}
use Rattle.adr_frozen.proofs.freezing.frozen_by.Goals as goal

-- an event that is frozen already stays as it is
pub returns-then-is_kept-clause-carries : goal.returns-then-is_kept-clause-carries
returns-then-is_kept-clause-carries g c clean =
    let id = c.args.id.now in
    let early : HasCleanDisk (state g.S.Store c.is_frozen.new.tx.conn.now) = omega (arith, c.pairs_kept.ensures.lent.stays.crash.clean) in
    ok_then c.pairs_kept.result (λ pairs finds beside base was same.
    let frozen = c.in_ok-is_kept.ensures.finds early (kept_beside beside base) was in
    let found = finds (kept_beside beside base) frozen.1 in
    let is : is_frozen base.portfolio id ≡ true = sym frozen.0 ∙ c.if-is_kept.true in
    let stays : base.portfolio ≡ with_frozen id [] base.portfolio = sym (still_frozen base.portfolio id [] is) in
    record {
      change = Freeze id [];
      decided = rw is (ap (λ (pairs : List (ℕ × ℕ)). Ok (pairs, Freeze id [])) (sym found.0));
      left = record {
        holds = subst (λ (p : Portfolio). HoldsBeside beside (record base { portfolio = p }) (state g.S.Store c.pairs_kept.new.tx.conn.now)) stays found.1;
        counted = same ∙ ap (λ (p : Portfolio). with_base c.args.meta.now (record base { portfolio = p })) stays;
      };
    }) (c.pairs_kept.ensures.finds clean)

pub returns-clause-carries : goal.returns-clause-carries
returns-clause-carries g c clean =
    let early : HasCleanDisk (state g.S.Store c.is_frozen.new.tx.conn.now) = omega (arith, c.frozen_now.ensures.lent.stays.crash.clean) in
    ok_then c.frozen_now.result (λ x carries beside base was same.
    let frozen = c.in_ok-is_kept.ensures.finds early (kept_beside beside base) was in
    let fresh = sym frozen.0 ∙ c.if-is_kept.false in
    carried_as (carries beside base frozen.1 same fresh) (rw fresh refl)) (c.frozen_now.ensures.carries clean)

pub returns-clause-refuses : goal.returns-clause-refuses
returns-clause-refuses g c clean =
    let early : HasCleanDisk (state g.S.Store c.is_frozen.new.tx.conn.now) = omega (arith, clean, c.frozen_now.ensures.lent.stays.crash.clean) in
    IfErr-weaker c.frozen_now.result _ _ (λ e refuses beside base was same.
    let frozen = c.in_ok-is_kept.ensures.finds early (kept_beside beside base) was in
    rw (sym frozen.0 ∙ c.if-is_kept.false) (refuses beside base frozen.1 same)) (c.frozen_now.ensures.refuses clean)
