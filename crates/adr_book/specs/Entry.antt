-- What is tested before the desk is asked, and what a call with a pass then takes.
use Rattle.std.specs.Prelude.{◌≡◌, ℕ, Bool, ◌&&◌, ◌||◌, nat_le, nat_lt, if◌then◌else◌, length, Result, Ok, Err, IfErr}
use Rattle.adr_text.specs.Refusals.{◌>>=◌}
use Rattle.adr_text.specs.declared.refusal.Refusal.{Refusal}
use Rattle.adr_text.specs.declared.refusal.Refusal.TheVariants.{TrailFull, Stale}
use Rattle.adr_state.specs.declared.state.State.{State}
use Rattle.adr_queries.specs.declared.answer.Answer.{Answer}
use Rattle.adr_queries.specs.declared.query.Query.{Query}
use Rattle.adr_queries.specs.Replies.{reply}
use Rattle.adr_machine.specs.declared.command.Command.{Command}
use Rattle.adr_machine.specs.declared.desk.Desk.{Ghosts}
use Rattle.adr_machine.specs.Steps.{step}
use Rattle.adr_book.specs.declared.kept.Book.{Book}
use Rattle.adr_book.specs.declared.kept.Pass.{Pass}
use Rattle.adr_book.specs.declared.trail.Trail as trail
use Rattle.adr_book.specs.Trail.{most_turns}
use Rattle.adr_book.specs.Words.{trail_of, turn_of, state_of, settings_of, seen_by}

-- a holder that was told of this turn comes to a book of that one: it may not be ahead, which is 16 otherwise
abbrev pub not_ahead : ℕ → ℕ → Result (Unit {0}) Refusal
not_ahead seen turn = if nat_lt turn seen then Err (Stale seen) else Ok tt

-- whether there is no room for one command more, where the trail is kept in memory or not, so many may stand in it and so many do
abbrev pub is_full_at : Bool → ℕ → ℕ → ℕ → Bool
is_full_at keeps limit count turn = (keeps && nat_le limit count) || nat_le most_turns turn

-- one command more: a trail that is kept has to be below its limit, and the turn below the last one, which is 5 otherwise
abbrev pub with_room : Bool → ℕ → ℕ → ℕ → Result (Unit {0}) Refusal
with_room keeps limit count turn = if is_full_at keeps limit count turn then Err TrailFull else Ok tt

module _ {D T L : Type 0} {g : Ghosts D} {h : trail.Ghosts T D} where
  -- a book takes no command more
  abbrev pub is_full : Book D T L g h → Bool
  is_full book = is_full_at h.keeps (settings_of book).limits.trail (length (trail_of book)) (turn_of book)

  -- who comes with a pass to ask
  abbrev pub entry_to_ask : Book D T L g h → Pass L → Result (Unit {0}) Refusal
  entry_to_ask book pass = not_ahead (seen_by pass) (turn_of book)

  -- who comes with a pass to take a step: first the pass, then the trail
  abbrev pub entry_to_step : Book D T L g h → Pass L → Result (Unit {0}) Refusal
  entry_to_step book pass = entry_to_ask book pass >>= λ _. with_room h.keeps (settings_of book).limits.trail (length (trail_of book)) (turn_of book)

  -- the step that a command takes in a book to which it comes with a pass
  abbrev pub step_in : Book D T L g h → Pass L → ℕ → Command → Result (Answer × State) Refusal
  step_in book pass now command = entry_to_step book pass >>= λ _. step (settings_of book) (state_of book) now command

  -- the answer to a query that comes in the same way
  abbrev pub reply_in : Book D T L g h → Pass L → Query → Result Answer Refusal
  reply_in book pass query = entry_to_ask book pass >>= λ _. reply (state_of book) query

-- a refusal that is neither for a pass nor for a trail
abbrev pub IsOfDesk : Refusal → Type 0
IsOfDesk (Stale turn) = ⊥
IsOfDesk TrailFull = ⊥
IsOfDesk refusal = Unit {0}

-- how a call ended that was let in by such a test: where the test refuses, the call is refused by just that; else it is refused neither for the pass nor for the trail
abbrev pub EndsAfter : {A : Type 0} → Result (Unit {0}) Refusal → Result A Refusal → Type 0
EndsAfter (Ok _) r = IfErr r IsOfDesk
EndsAfter (Err refusal) r = r ≡ Err refusal
