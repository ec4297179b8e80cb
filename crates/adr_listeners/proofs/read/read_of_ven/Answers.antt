use Rattle.adr_db.specs.Rows.{number_row}
use Rattle.adr_db.proofs.Common.{is_sub_of, is_text}
use Rattle.adr_db_portfolio.proofs.Numbers.{owner_passes}
use Rattle.adr_listeners.proofs.SubStatements.{picked_subs, reads_of_ven}
use Rattle.adr_listeners.proofs.read.read_of_ven.Goals as goal

pub returns-clause-finds : goal.returns-clause-finds
returns-clause-finds g c =
    let ven = c.args.ven in
    picked_subs (is_text 1) (number_row ven) (λ e. is_sub_of ven e.1) (owner_passes ven) g.S.Store c.args.tx.now.conn.now c.all_of.new.tx.conn.now _ _ reads_of_ven (rw (c.in_ok-number.ensures.value, c.get.ensures) at c.all_of.ensures.shows)

pub returns-clause-fails : goal.returns-clause-fails
returns-clause-fails g c = rw (c.in_ok-number.ensures.value, c.get.ensures) at c.all_of.ensures.fails
