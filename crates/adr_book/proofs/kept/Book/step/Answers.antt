use Rattle.std.proofs.Common.{length, sym, ◌∙◌}
use Rattle.adr_machine.specs.Listed.{listed}
use Rattle.adr_book.specs.Refused.{MayRefuse}
use Rattle.adr_book.proofs.Listing.{handed_on, entry_listed}
use Rattle.adr_book.proofs.kept.Book.step.Goals as goal

-- who is not let in is refused for the pass or for the trail
pub returns-in_err-admit_step-clause-listed : goal.returns-in_err-admit_step-clause-listed
returns-in_err-admit_step-clause-listed g c =
    let book = c.args.self.now in
    let may = g.D.Desk.may_refuse in
    let seen = c.args.pass.now.turn in
    let e = c.in_err-admit_step.field-0.0 in
    handed_on (MayRefuse may seen c.args.command.now) c.from_residual.result e c.from_residual.ensures.1
    (entry_listed may (listed c.args.command.now) seen e g.T.Trail.keeps book.turn (g.D.Desk.settings book.desk).limits.trail (length (g.T.Trail.commands book.trail)) (sym c.admit_step.ensures ∙ c.in_err-admit_step.was))
