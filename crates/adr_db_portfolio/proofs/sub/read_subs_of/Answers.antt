use Rattle.std.proofs.Common.{◌≡◌, map, filter}
use Rattle.adr_db.specs.Rows.{number_row}
use Rattle.adr_db.specs.Admitted.{ReadsNumber}
use Rattle.adr_db.proofs.Common.{is_sub_of, is_text}
use Rattle.adr_db.proofs.Maps.{sub_map}
use Rattle.adr_db.proofs.Ranges.{picked_finds}
use Rattle.adr_db_portfolio.proofs.Numbers.{owner_passes, numbers_read}
use Rattle.adr_db_portfolio.proofs.SubStatements.{reads_of}
use Rattle.adr_db_portfolio.proofs.sub.read_subs_of.Goals as goal

pub returns-clause-finds : goal.returns-clause-finds
returns-clause-finds g c =
    let ven = c.args.ven in
    picked_finds sub_map 1 (is_text 1) (number_row ven) (λ s. is_sub_of ven s.1) (λ s. owner_passes ven s) ReadsNumber (λ kept numbers. numbers ≡ map (λ s. s.0) (filter (λ s. is_sub_of ven s.1) kept.portfolio.subs)) g.S.Store c.args.tx.now.conn.now c.all_of.new.tx.conn.now _ _ reads_of
    (λ numbers kept are read. numbers_read _ numbers read) (rw (c.in_ok-number.ensures.value, c.get.ensures) at c.all_of.ensures.shows)

pub returns-clause-fails : goal.returns-clause-fails
returns-clause-fails g c = rw (c.in_ok-number.ensures.value, c.get.ensures) at c.all_of.ensures.fails
