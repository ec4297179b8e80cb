use Rattle.std.proofs.Common.{sym, subst}
use Rattle.adr_state.specs.Portfolios.{without_share}
use Rattle.adr_db.specs.Bases.{kept_beside}
use Rattle.adr_db.proofs.Results.{on_then}
use Rattle.adr_counted.specs.Gone.{IsGone}
use Rattle.adr_counted.proofs.Puts.{gone_counted}
use Rattle.adr_counted.proofs.Going.{share_goes}
use Rattle.adr_counted.proofs.share.remove_share.Goals as goal

pub returns-clause-counts : goal.returns-clause-counts
returns-clause-counts g c clean =
    on_then c.remove_share.result (λ leaves beside base was same so. record {
      holds = leaves (kept_beside beside base) was;
      counted = gone_counted c.one_share.result base (without_share c.args.key.now base.portfolio) c.args.meta.now _ same (subst (λ gone. IsGone gone base.portfolio (without_share c.args.key.now base.portfolio)) (sym c.one_share.ensures) (share_goes base.portfolio c.args.key.now c.args.is_there so)) c.in_ok-count_gone.ensures.less;
    }) (c.remove_share.ensures.leaves clean)
