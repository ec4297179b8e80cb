use Rattle.std.proofs.Common.{◌≡◌, Option, Some, refl, ap}
use Rattle.adr_db.proofs.Common.{Resource, cells}
use Rattle.adr_db.specs.Rows.{resource_columns}
use Rattle.adr_db.proofs.Rows.{resource_kept}
use Rattle.adr_db.proofs.KeptMaps.{one_finds}
use Rattle.adr_db.proofs.Maps.{resource_map}
use Rattle.adr_db_portfolio.proofs.ResourceStatements.{texts}
use Rattle.adr_db_portfolio.proofs.resource.read_resource.Goals as goal

pub returns-clause-finds : goal.returns-clause-finds
returns-clause-finds g c =
    one_finds resource_map g.S.Store c.args.tx.now.conn.now c.first_of.new.tx.conn.now _ (λ row resource. resource_columns resource ≡ cells 1 4 row) (λ (found there : Option Resource). found ≡ there) c.args.id _ refl texts.reads_one refl (λ a b same. ap Some (resource_kept a b same)) (rw (c.in_ok-number.ensures.value, c.get.ensures) at c.first_of.ensures.shows)

pub returns-clause-fails : goal.returns-clause-fails
returns-clause-fails g c = rw (c.in_ok-number.ensures.value, c.get.ensures) at c.first_of.ensures.fails
