-- What comes of what is asked of an office.
use Rattle.std.specs.Prelude.{◌≡◌, ℕ, Result, Ok}
use Rattle.adr_text.specs.declared.refusal.Refusal.{Refusal}
use Rattle.adr_queries.specs.declared.answer.Answer.{Answer}
use Rattle.adr_queries.specs.declared.answer.Answer.TheVariants.{Done}
use Rattle.adr_machine.specs.declared.desk.Desk.{Ghosts}
use Rattle.adr_book.specs.declared.kept.Pass.{Pass}
use Rattle.adr_book.specs.declared.office.Office.{Office}
use Rattle.adr_book.specs.declared.trail.Trail as trail
use Rattle.adr_lock.specs.Outcomes.{StepsInOffice, LooksInOffice}
use Rattle.adr_asked.specs.declared.asked.Asked.{Asked}
use Rattle.adr_asked.specs.declared.asked.Asked.TheVariants as asked

-- a command is a step of the book behind the lock at a moment that the clock tells, a query a look at it; where nothing is asked, it is done
abbrev pub AsksOffice : {D T L : Type 0} {g : Ghosts D} {h : trail.Ghosts T D} → Office D T L g h → (ℕ → Type 0) → Pass L → Asked → Result Answer Refusal → Pass L → Type 0
AsksOffice office tells before asked.Nothing outcome after = (outcome ≡ Ok Done) × (after ≡ before)
AsksOffice office tells before (asked.Command command) outcome after = StepsInOffice office tells before command outcome after
AsksOffice office tells before (asked.Page command skipped) outcome after = StepsInOffice office tells before command outcome after
AsksOffice office tells before (asked.Query query) outcome after = LooksInOffice office before query outcome after
