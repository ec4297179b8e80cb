-- What comes of what is asked of a book, alone or under an office's lock.
use Rattle.std.specs.Prelude.{◌≡◌, ℕ, ◌+◌, ◌≤◌, [], ◌∷◌, ◌++◌, Result, Ok, Err}
use Rattle.adr_text.specs.Refusals.{IsRefusalOf}
use Rattle.adr_text.specs.declared.refusal.Refusal.{Refusal}
use Rattle.adr_queries.specs.declared.answer.Answer.{Answer}
use Rattle.adr_queries.specs.declared.query.Query.{Query}
use Rattle.adr_machine.specs.declared.command.Command.{Command}
use Rattle.adr_machine.specs.declared.desk.Desk.{Ghosts}
use Rattle.adr_book.specs.declared.kept.Book.{Book}
use Rattle.adr_book.specs.declared.kept.Pass.{Pass}
use Rattle.adr_book.specs.declared.office.Office.{Office}
use Rattle.adr_book.specs.declared.trail.Trail as trail
use Rattle.adr_book.specs.Entry.{step_in, reply_in}
use Rattle.adr_book.specs.Refused.{MayRefuse, MayRefuseQuery}
use Rattle.adr_book.specs.Same.{IsSame}
use Rattle.adr_book.specs.Words.{base_of, trail_of, turn_of, state_of, IsSound, seen_by, taken_by}
use Rattle.adr_lock.specs.declared.call.Call.{Call}
use Rattle.adr_lock.specs.declared.call.Call.TheVariants as call

module _ {D T L : Type 0} {g : Ghosts D} {h : trail.Ghosts T D} where
  -- a book took the step at this moment: the command stands in its trail, it is one turn more of the book and of the pass, and the answer is the machine's, where the desk is sound
  pub record IsTaken (before after : Pass L) (now : ℕ) (command : Command) (answer : Answer) (old new : Book D T L g h) : Type 0 where
    pub trail : trail_of new ≡ trail_of old ++ (now, command) ∷ []
    pub base : base_of new ≡ base_of old
    pub turn : turn_of new ≡ turn_of old + 1
    pub share : taken_by after ≡ taken_by before + 1
    pub seen : seen_by after ≡ turn_of new
    pub answers : IsSound new → step_in old before now command ≡ Ok (answer, state_of new)

  -- a book answered the query: the pass has no turn more, and the answer is the machine's, where the desk is sound
  pub record IsAnswered (before after : Pass L) (query : Query) (answer : Answer) (old new : Book D T L g h) : Type 0 where
    pub same : IsSame old new
    pub share : taken_by after ≡ taken_by before
    pub seen : seen_by after ≡ turn_of old
    pub answers : IsSound new → reply_in old before query ≡ Ok answer

  -- a book refused the step so: for want of memory, by its store, or as is listed and, where the desk is sound, as the machine does at this moment
  pub record RefusesStep (before after : Pass L) (now : ℕ) (command : Command) (refusal : Refusal) (old new : Book D T L g h) : Type 0 where
    pub same : IsSame old new
    pub unchanged : after ≡ before
    pub listed : MayRefuse g.may_refuse (seen_by before) command refusal
    pub refuses : IsSound new → IsRefusalOf refusal (step_in old before now command)

  -- a book refused the query so: for want of memory, by its store, or as is listed and, where the desk is sound, as the machine does
  pub record RefusesQuery (before after : Pass L) (query : Query) (refusal : Refusal) (old new : Book D T L g h) : Type 0 where
    pub same : IsSame old new
    pub unchanged : after ≡ before
    pub listed : MayRefuseQuery g.may_refuse (seen_by before) query refusal
    pub refuses : IsSound new → IsRefusalOf refusal (reply_in old before query)

  -- what comes of a command at a moment
  abbrev pub IsStep : Book D T L g h → Pass L → ℕ → Command → Result Answer Refusal → Book D T L g h → Pass L → Type 0
  IsStep old before now command (Ok answer) new after = IsTaken before after now command answer old new
  IsStep old before now command (Err refusal) new after = RefusesStep before after now command refusal old new

  -- what comes of a query
  abbrev pub IsLook : Book D T L g h → Pass L → Query → Result Answer Refusal → Book D T L g h → Pass L → Type 0
  IsLook old before query (Ok answer) new after = IsAnswered before after query answer old new
  IsLook old before query (Err refusal) new after = RefusesQuery before after query refusal old new

  -- what comes of a call of a book at a moment, with a pass before and after it
  abbrev pub InBook : Book D T L g h → Pass L → ℕ → Call → Result Answer Refusal → Book D T L g h → Pass L → Type 0
  InBook old before now (call.Step command) outcome new after = IsStep old before now command.now outcome new after
  InBook old before now (call.Look query) outcome new after = IsLook old before query.now outcome new after

  -- what comes of a command, at some moment of those that a clock tells, by some book over a desk like the office's: the office says no more here than which desk and which ledger
  abbrev pub StepsInOffice : Office D T L g h → (ℕ → Type 0) → Pass L → Command → Result Answer Refusal → Pass L → Type 0
  StepsInOffice office tells before command outcome after = (old : Book D T L g h) × (new : Book D T L g h) × (now : ℕ) × tells now × IsStep old before now command outcome new after

  -- of a query, by some book over a desk like the office's
  abbrev pub LooksInOffice : Office D T L g h → Pass L → Query → Result Answer Refusal → Pass L → Type 0
  LooksInOffice office before query outcome after = (old : Book D T L g h) × (new : Book D T L g h) × IsLook old before query outcome new after

  -- of a call, be it a command or a query
  abbrev pub InOffice : Office D T L g h → (ℕ → Type 0) → Pass L → Call → Result Answer Refusal → Pass L → Type 0
  InOffice office tells before (call.Step command) outcome after = StepsInOffice office tells before command.now outcome after
  InOffice office tells before (call.Look query) outcome after = LooksInOffice office before query.now outcome after

-- how a call may be refused, with a pass that was told of this turn
abbrev pub MayRefuseCall : Type 0 → ℕ → Call → Refusal → Type 0
MayRefuseCall may_refuse seen (call.Step command) refusal = MayRefuse may_refuse seen command.now refusal
MayRefuseCall may_refuse seen (call.Look query) refusal = MayRefuseQuery may_refuse seen query.now refusal

-- the holder has taken one turn more at most
abbrev pub TakesOneAtMost : {L : Type 0} → Pass L → Pass L → Type 0
TakesOneAtMost before after = taken_by after ≤ taken_by before + 1
