use Rattle.adr_book.proofs.Leading.{leads_to}
use Rattle.adr_book.proofs.kept.Book.is_replayed.Goals as goal

pub returns : goal.returns
returns g c =
    λ sound.
    let book = c.args.self.now in
    leads_to (g.D.Desk.settings book.desk) (g.T.Trail.base book.trail) (g.D.Desk.state book.desk) (g.T.Trail.commands book.trail) (book.leads sound)
