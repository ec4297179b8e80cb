use Rattle.adr_db.specs.Admitted.{ReadsSubEntry}
use Rattle.adr_db.proofs.Maps.{sub_map}
use Rattle.adr_db.proofs.Subs.{sub_entry_read}
use Rattle.adr_db_portfolio.proofs.SubStatements.{reads_all}
use Rattle.adr_db_portfolio.proofs.Whole.{whole_finds}
use Rattle.adr_db_portfolio.proofs.sub.read_subs.Goals as goal

pub returns-clause-finds : goal.returns-clause-finds
returns-clause-finds g c =
    whole_finds sub_map g.S.Store c.args.tx.now.conn.now c.all_of.new.tx.conn.now reads_all ReadsSubEntry _ _ (λ kept are d e has. sub_entry_read kept.portfolio.subs are.1 d e has) c.in_ok-entries.ensures.shows c.table_of.ensures.map
