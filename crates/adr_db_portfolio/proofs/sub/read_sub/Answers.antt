use Rattle.std.proofs.Common.{◌≡◌, Option, Some, refl, ap}
use Rattle.std.specs.Prelude.{IfSome}
use Rattle.adr_subscription.specs.Types.{IsSub}
use Rattle.adr_db.proofs.Common.{nat_cmp, Sub}
use Rattle.adr_db.specs.Admitted.{ReadsSub}
use Rattle.adr_db.proofs.Entries.{entry_is}
use Rattle.adr_db.proofs.KeptMaps.{one_finds}
use Rattle.adr_db.proofs.Maps.{sub_map}
use Rattle.adr_db.proofs.Results.{ok_then}
use Rattle.adr_db.proofs.Subs.{sub_read}
use Rattle.adr_db_portfolio.proofs.SubStatements.{texts}
use Rattle.adr_db_portfolio.proofs.sub.read_sub.Goals as goal

pub returns-clause-finds : goal.returns-clause-finds
returns-clause-finds g c clean =
    let id = c.args.id in
    ok_then c.first_of.result (λ read finds kept was. let found = finds kept was in (found.0 (entry_is nat_cmp (λ sub. IsSub sub.body) kept.portfolio.subs was.subs id), found.1))
    (one_finds sub_map g.S.Store c.args.tx.now.conn.now c.first_of.new.tx.conn.now _ ReadsSub (λ (read there : Option Sub). IfSome there (λ sub. IsSub sub.body) → read ≡ there) id _ refl texts.reads_one (λ is. refl) (λ read sub reads is. ap Some (sub_read id read sub is reads))
    (rw (c.in_ok-number.ensures.value, c.get.ensures) at c.first_of.ensures.shows) clean)

pub returns-clause-fails : goal.returns-clause-fails
returns-clause-fails g c = rw (c.in_ok-number.ensures.value, c.get.ensures) at c.first_of.ensures.fails
