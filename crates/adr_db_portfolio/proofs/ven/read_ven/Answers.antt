use Rattle.std.proofs.Common.{◌≡◌, Option, Some, refl, ap}
use Rattle.adr_db.proofs.Common.{Ven, cells}
use Rattle.adr_db.specs.Rows.{ven_columns}
use Rattle.adr_db.proofs.Rows.{ven_kept}
use Rattle.adr_db.proofs.KeptMaps.{one_finds}
use Rattle.adr_db.proofs.Maps.{ven_map}
use Rattle.adr_db_portfolio.proofs.VenStatements.{texts}
use Rattle.adr_db_portfolio.proofs.ven.read_ven.Goals as goal

pub returns-clause-finds : goal.returns-clause-finds
returns-clause-finds g c =
    one_finds ven_map g.S.Store c.args.tx.now.conn.now c.first_of.new.tx.conn.now _ (λ row ven. ven_columns ven ≡ cells 1 3 row) (λ (found there : Option Ven). found ≡ there) c.args.id _ refl texts.reads_one refl (λ a b same. ap Some (ven_kept a b same)) (rw (c.in_ok-number.ensures.value, c.get.ensures) at c.first_of.ensures.shows)

pub returns-clause-fails : goal.returns-clause-fails
returns-clause-fails g c = rw (c.in_ok-number.ensures.value, c.get.ensures) at c.first_of.ensures.fails
