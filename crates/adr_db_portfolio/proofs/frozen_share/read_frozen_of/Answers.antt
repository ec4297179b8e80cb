use Rattle.std.proofs.Common.{◌≡◌, map, filter, refl}
use Rattle.std.specs.Prelude.{◌==◌}
use Rattle.adr_db.specs.Rows.{number_row, frozen_share_row}
use Rattle.adr_db.specs.Admitted.{ReadsFrozenKey}
use Rattle.adr_db.proofs.Common.{is_text}
use Rattle.adr_db.proofs.Maps.{frozen_share_map}
use Rattle.adr_db.proofs.Ranges.{picked_finds}
use Rattle.adr_db_portfolio.proofs.Numbers.{number_passes, frozen_read}
use Rattle.adr_db_portfolio.proofs.FrozenStatements.{reads_of}
use Rattle.adr_db_portfolio.proofs.frozen_share.read_frozen_of.Goals as goal

pub returns-clause-finds : goal.returns-clause-finds
returns-clause-finds g c =
    let n = c.args.resource in
    picked_finds frozen_share_map 2 (is_text 1) (number_row n) (λ s. s.0.resource == n) (λ s. number_passes 1 n s.0.resource (frozen_share_row s) refl) ReadsFrozenKey (λ kept keys. keys ≡ map (λ s. s.0) (filter (λ s. s.0.resource == n) kept.portfolio.frozen_shares)) g.S.Store c.args.tx.now.conn.now c.all_of.new.tx.conn.now _ _ reads_of
    (λ keys kept are read. frozen_read _ keys read) (rw (c.in_ok-number.ensures.value, c.get.ensures) at c.all_of.ensures.shows)

pub returns-clause-fails : goal.returns-clause-fails
returns-clause-fails g c = rw (c.in_ok-number.ensures.value, c.get.ensures) at c.all_of.ensures.fails
