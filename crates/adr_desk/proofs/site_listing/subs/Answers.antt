use Rattle.std.proofs.Common.{refl}
use Rattle.adr_queries.specs.Replies.{reply}
use Rattle.adr_lent.proofs.Streams.{stands_itself}
use Rattle.adr_desk.proofs.site_listing.subs.Goals as goal

pub returns-in-Utility-clause-refuses : goal.returns-in-Utility-clause-refuses
unfolding reply
returns-in-Utility-clause-refuses g c clean held was = rw c.in-Utility.is refl

pub returns-in-Utility-clause-dropped : goal.returns-in-Utility-clause-dropped
returns-in-Utility-clause-dropped g c = record { same = λ clean opened. (refl, refl); was_open = λ clean opened. opened; over = c.requires; crash = (stands_itself g.S.Store c.args.conn.now).crash }
