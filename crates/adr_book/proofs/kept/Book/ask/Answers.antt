use Rattle.std.proofs.Common.{[], ◌∷◌, sym, ◌∙◌}
use Rattle.adr_text.specs.declared.refusal.Refusal.TheVariants.{Stale}
use Rattle.adr_queries.specs.Listed.{listed_for, IsListed}
use Rattle.adr_queries.proofs.Listed.{listed_for_of_machine}
use Rattle.adr_book.specs.Entry.{entry_to_ask, IsOfDesk}
use Rattle.adr_book.proofs.Listing.{handed_on, listed_behind, of_desk, ends_after}
use Rattle.adr_book.proofs.kept.Book.ask.Goals as goal

-- the desk's refusal is handed on

pub returns-in_err-answer-clause-listed : goal.returns-in_err-answer-clause-listed
returns-in_err-answer-clause-listed g c =
    let P = g.D.Desk.may_refuse in
    let first = Stale c.args.pass.now.turn ∷ [] in
    let these = listed_for c.args.query.now in
    let e = c.in_err-answer.field-0.0 in
    handed_on (IsListed P (Stale c.args.pass.now.turn ∷ these)) c.from_residual-in_err-answer.result e c.from_residual-in_err-answer.ensures.1
    (listed_behind P first these e c.in_err-answer.ensures.listed)

pub returns-in_err-answer-clause-entry : goal.returns-in_err-answer-clause-entry
returns-in_err-answer-clause-entry g c =
    let query = c.args.query.now in
    let e = c.in_err-answer.field-0.0 in
    ends_after (entry_to_ask c.args.self.now c.args.pass.now) c.in_ok-admit.field-0 c.from_residual-in_err-answer.result (sym c.admit.ensures ∙ c.in_ok-admit.was)
    (handed_on IsOfDesk c.from_residual-in_err-answer.result e c.from_residual-in_err-answer.ensures.1 (of_desk g.D.Desk.may_refuse (listed_for query) (listed_for_of_machine query) e c.in_err-answer.ensures.listed))
