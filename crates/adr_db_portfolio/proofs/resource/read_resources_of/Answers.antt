use Rattle.std.proofs.Common.{◌≡◌, map, filter, refl}
use Rattle.std.specs.Prelude.{◌==◌}
use Rattle.adr_db.specs.Rows.{number_row, resource_row}
use Rattle.adr_db.specs.Admitted.{ReadsNumber}
use Rattle.adr_db.proofs.Common.{is_text}
use Rattle.adr_db.proofs.Maps.{resource_map}
use Rattle.adr_db.proofs.Ranges.{picked_finds}
use Rattle.adr_db_portfolio.proofs.Numbers.{number_passes, numbers_read}
use Rattle.adr_db_portfolio.proofs.ResourceStatements.{reads_of}
use Rattle.adr_db_portfolio.proofs.resource.read_resources_of.Goals as goal

pub returns-clause-finds : goal.returns-clause-finds
returns-clause-finds g c =
    let ven = c.args.ven in
    picked_finds resource_map 1 (is_text 1) (number_row ven) (λ r. r.1.ven == ven) (λ r. number_passes 1 ven r.1.ven (resource_row r) refl) ReadsNumber (λ kept numbers. numbers ≡ map (λ r. r.0) (filter (λ r. r.1.ven == ven) kept.portfolio.resources)) g.S.Store c.args.tx.now.conn.now c.all_of.new.tx.conn.now _ _ reads_of
    (λ numbers kept are read. numbers_read _ numbers read) (rw (c.in_ok-number.ensures.value, c.get.ensures) at c.all_of.ensures.shows)

pub returns-clause-fails : goal.returns-clause-fails
returns-clause-fails g c = rw (c.in_ok-number.ensures.value, c.get.ensures) at c.all_of.ensures.fails
