use Rattle.adr_queries.specs.declared.role.Role.TheVariants.{Ven}
use Rattle.adr_queries.specs.Listings.{vens_reply}
use Rattle.adr_queries.specs.Replies.{reply}
use Rattle.adr_desk.proofs.AskLemmas.{looked_up, refused_up}
use Rattle.adr_desk.proofs.site_listing.vens_in.Goals as goal

pub returns-clause-tells : goal.returns-clause-tells
unfolding reply
returns-clause-tells g c = looked_up g.S.Store c.args.tx.now.conn.now c.own_vens.new.tx.conn.now (λ s. vens_reply s.base (Ven c.args.id.now) c.args.part) c.own_vens.result c.own_vens.ensures.finds

pub returns-clause-refuses : goal.returns-clause-refuses
unfolding reply
returns-clause-refuses g c = refused_up g.S.Store c.args.tx.now.conn.now c.own_vens.new.tx.conn.now (λ s. vens_reply s.base (Ven c.args.id.now) c.args.part) c.own_vens.result c.own_vens.ensures.refuses
