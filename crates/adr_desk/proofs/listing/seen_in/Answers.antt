use Rattle.adr_queries.specs.Roles.{sight_of}
use Rattle.adr_desk.proofs.AskLemmas.{looked_up, refused_up}
use Rattle.adr_desk.proofs.listing.seen_in.Goals as goal

pub returns-clause-tells : goal.returns-clause-tells
returns-clause-tells g c = looked_up g.S.Store c.args.tx.now.conn.now c.sight_in.new.tx.conn.now (λ held. sight_of held.base c.args.role.now) c.sight_in.result c.sight_in.ensures.finds

pub returns-clause-refuses : goal.returns-clause-refuses
returns-clause-refuses g c = refused_up g.S.Store c.args.tx.now.conn.now c.sight_in.new.tx.conn.now (λ held. sight_of held.base c.args.role.now) c.sight_in.result c.sight_in.ensures.refuses
