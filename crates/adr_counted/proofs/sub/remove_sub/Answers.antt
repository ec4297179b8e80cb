use Rattle.std.proofs.Common.{sym, subst}
use Rattle.adr_state.specs.Portfolios.{without_sub}
use Rattle.adr_db.specs.Bases.{kept_beside}
use Rattle.adr_db.proofs.Results.{on_then}
use Rattle.adr_counted.specs.Gone.{IsGone}
use Rattle.adr_counted.proofs.Puts.{gone_counted}
use Rattle.adr_counted.proofs.Going.{sub_goes}
use Rattle.adr_counted.proofs.sub.remove_sub.Goals as goal

pub returns-clause-counts : goal.returns-clause-counts
returns-clause-counts g c clean =
    on_then c.remove_sub.result (λ leaves beside base was same there. record {
      holds = leaves (kept_beside beside base) was;
      counted = gone_counted c.one_sub.result base (without_sub c.args.id base.portfolio) c.args.meta.now _ same (subst (λ gone. IsGone gone base.portfolio (without_sub c.args.id base.portfolio)) (sym c.one_sub.ensures) (sub_goes base.portfolio c.args.id there)) c.in_ok-count_gone.ensures.less;
    }) (c.remove_sub.ensures.leaves clean)
