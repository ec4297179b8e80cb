-- What comes of a call of a book is what comes of it in the office whose lock keeps the book.
use Rattle.std.proofs.Common.{ℕ, Result}
use Rattle.adr_text.specs.declared.refusal.Refusal.{Refusal}
use Rattle.adr_queries.specs.declared.answer.Answer.{Answer}
use Rattle.adr_machine.specs.declared.desk.Desk.{Ghosts}
use Rattle.adr_book.specs.declared.kept.Book.{Book}
use Rattle.adr_book.specs.declared.kept.Pass.{Pass}
use Rattle.adr_book.specs.declared.office.Office.{Office}
use Rattle.adr_book.specs.declared.trail.Trail as trail
use Rattle.adr_lock.specs.declared.call.Call.{Call}
use Rattle.adr_lock.specs.declared.call.Call.TheVariants.{Step, Look}
use Rattle.adr_lock.specs.Outcomes.{InBook, InOffice}

pub in_office : {D T L : Type 0} {g : Ghosts D} {h : trail.Ghosts T D} (office : Office D T L g h) (tells : ℕ → Type 0) (old new : Book D T L g h) (before after : Pass L) (now : ℕ) (call : Call) (outcome : Result Answer Refusal)
    → tells now → InBook old before now call outcome new after → InOffice office tells before call outcome after
in_office office tells old new before after now (Step command) outcome told came = (old, new, now, told, came)
in_office office tells old new before after now (Look query) outcome told came = (old, new, came)
