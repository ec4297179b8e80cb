use Rattle.std.proofs.Common.{◌≡◌, ℕ, ap₂}
use Rattle.adr_db.proofs.Common.{ShareKey, column, cells}
use Rattle.adr_db.specs.Rows.{number, share_key_row}
use Rattle.adr_db.proofs.Rows.{number_kept, share_key_kept}
use Rattle.adr_db.proofs.Maps.{share_map}
use Rattle.adr_db_portfolio.proofs.ShareStatements.{reads_all}
use Rattle.adr_db_portfolio.proofs.Whole.{whole_finds}
use Rattle.adr_db_portfolio.proofs.share.read_shares.Goals as goal

pub returns-clause-finds : goal.returns-clause-finds
returns-clause-finds g c =
    whole_finds share_map g.S.Store c.args.tx.now.conn.now c.all_of.new.tx.conn.now reads_all (λ row e. (share_key_row e.0 ≡ cells 0 2 row) × (number e.1 ≡ column row 2)) _ _
    (λ kept are d e has read. ap₂ (λ (k : ShareKey) (v : ℕ). (k, v)) (share_key_kept d.0 e.0 read.0) (number_kept d.1 e.1 read.1)) c.in_ok-entries.ensures.shows c.table_of.ensures.map
