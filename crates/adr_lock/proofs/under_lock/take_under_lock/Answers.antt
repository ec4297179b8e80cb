use Rattle.adr_lock.proofs.Offices.{in_office}
use Rattle.adr_lock.proofs.under_lock.take_under_lock.Goals as goal

-- the book is the one that the lock keeps
pub returns-clause-outcome : goal.returns-clause-outcome
returns-clause-outcome g c =
    in_office c.args.office.now (g.C.Clock.tells c.args.clock.now) c.deref_mut.result.now c.take_in_book-outcome.new.book c.args.pass.now c.take_in_book-outcome.new.pass
    c.now-now.result c.args.call c.take_in_book-outcome.result c.now-now.ensures c.take_in_book-outcome.ensures.outcome
