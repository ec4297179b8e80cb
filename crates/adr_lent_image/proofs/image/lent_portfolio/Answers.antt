use Rattle.adr_state.specs.declared.portfolio.Portfolio.{Portfolio}
use Rattle.adr_db.proofs.Common.{state}
use Rattle.adr_lent.proofs.Streams.{clean_before, stands_then}
use Rattle.adr_lent_image.proofs.image.lent_portfolio.Goals as goal

pub returns-clause-finds : goal.returns-clause-finds
returns-clause-finds g c clean kept was =
    let frozen_clean = clean_before (state g.S.Store c.lent_frozen.new.conn) (state g.S.Store c.lent_frozen_shares.new.conn) _ c.lent_frozen_shares.ensures.stands.crash clean in
    let subs_clean = clean_before (state g.S.Store c.lent_subs.new.conn) (state g.S.Store c.lent_frozen.new.conn) _ c.lent_frozen.ensures.stands.crash frozen_clean in
    let reports_clean = clean_before (state g.S.Store c.lent_reports.new.conn) (state g.S.Store c.lent_subs.new.conn) _ c.lent_subs.ensures.stands.crash subs_clean in
    let shares_clean = clean_before (state g.S.Store c.lent_shares.new.conn) (state g.S.Store c.lent_reports.new.conn) _ c.lent_reports.ensures.stands.crash reports_clean in
    let resources_clean = clean_before (state g.S.Store c.lent_resources.new.conn) (state g.S.Store c.lent_shares.new.conn) _ c.lent_shares.ensures.stands.crash shares_clean in
    let vens_clean = clean_before (state g.S.Store c.lent_vens.new.conn) (state g.S.Store c.lent_resources.new.conn) _ c.lent_resources.ensures.stands.crash resources_clean in
    let vens = c.in_ok-vens.ensures.finds vens_clean kept was in
    let resources = c.in_ok-resources.ensures.finds resources_clean kept vens.1 in
    let shares = c.in_ok-shares.ensures.finds shares_clean kept resources.1 in
    let reports = c.in_ok-reports.ensures.finds reports_clean kept shares.1 in
    let subs = c.in_ok-subs.ensures.finds subs_clean kept reports.1 in
    let frozen = c.in_ok-frozen.ensures.finds frozen_clean kept subs.1 in
    let frozen_shares = c.in_ok-frozen_shares.ensures.finds clean kept frozen.1 in (
      λ i.
          let portfolio : Portfolio = record { vens = vens.0 i; resources = resources.0 i; shares = shares.0 i; reports = reports.0 i; subs = subs.0 i; frozen = frozen.0 i; frozen_shares = frozen_shares.0 i } in
          portfolio,
      frozen_shares.1,
    )

-- each table is read over what stands before it
pub returns-in_err-frozen_shares-clause-stands : goal.returns-in_err-frozen_shares-clause-stands
returns-in_err-frozen_shares-clause-stands g c = let s = g.S.Store in stands_then s _ _ _ (stands_then s _ _ _ (stands_then s _ _ _ (stands_then s _ _ _ (stands_then s _ _ _ (stands_then s _ _ _ c.lent_vens.ensures.stands c.lent_resources.ensures.stands) c.lent_shares.ensures.stands) c.lent_reports.ensures.stands) c.lent_subs.ensures.stands) c.lent_frozen.ensures.stands) c.lent_frozen_shares.ensures.stands

pub returns-clause-stands : goal.returns-clause-stands
returns-clause-stands g c = let s = g.S.Store in stands_then s _ _ _ (stands_then s _ _ _ (stands_then s _ _ _ (stands_then s _ _ _ (stands_then s _ _ _ (stands_then s _ _ _ c.lent_vens.ensures.stands c.lent_resources.ensures.stands) c.lent_shares.ensures.stands) c.lent_reports.ensures.stands) c.lent_subs.ensures.stands) c.lent_frozen.ensures.stands) c.lent_frozen_shares.ensures.stands
