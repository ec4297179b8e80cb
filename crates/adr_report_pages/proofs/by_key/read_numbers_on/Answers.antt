use Rattle.adr_report_pages.proofs.Queries.{numbers_find}
use Rattle.adr_report_pages.proofs.by_key.read_numbers_on.Goals as goal

pub returns-clause-finds : goal.returns-clause-finds
returns-clause-finds g c = numbers_find g.S.Store c.args.tx.now.conn.now c.all_of.new.tx.conn.now c.args.resource c.args.most _ (rw (c.in_ok-n.ensures.value, c.get.ensures, c.row_limit.ensures) at c.all_of.ensures.shows)
