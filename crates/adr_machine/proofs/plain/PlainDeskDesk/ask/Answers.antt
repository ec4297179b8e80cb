use Rattle.adr_queries.specs.Listed.{listed_for}
use Rattle.adr_queries.specs.Replies.{reply}
use Rattle.adr_queries.proofs.Listed.{reply_listed, as_listed}
use Rattle.adr_machine.proofs.plain.PlainDeskDesk.ask.Goals as goal

pub returns-clause-listed : goal.returns-clause-listed
returns-clause-listed c =
    let s = c.state.result.now in
    let query = c.args.query.now in
    as_listed (listed_for query) c.reply.result (reply s query) (reply_listed s query) c.reply.ensures.refused c.reply.ensures.no_store
