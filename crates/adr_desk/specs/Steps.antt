-- What a command makes of the tables, what is answered to it, and what a query is told.
use Rattle.std.specs.Prelude.{◌≡◌, ℕ, Result, Ok, IfOk, IfErr, All}
use Rattle.sqlite.specs.Tree.{Trees}
use Rattle.sqlite.specs.State.{HasCleanDisk}
use Rattle.sqlite.specs.State as sql
use Rattle.adr_text.specs.Refusals.{◌>>=◌, IsRefusalOf}
use Rattle.adr_text.specs.declared.refusal.Refusal.{Refusal}
use Rattle.adr_state.specs.declared.base.Base.{Base}
use Rattle.adr_state.specs.declared.state.State.{State}
use Rattle.adr_state.specs.declared.limits.Settings.{Settings}
use Rattle.adr_refresh.specs.Laws.{HasAllThatDiffer}
use Rattle.adr_refresh.specs.Refresh.{kept_view}
use Rattle.adr_touched.specs.declared.touched.Touched.{Touched}
use Rattle.adr_touched.specs.Touched.{sources_in, StandsTouched}
use Rattle.adr_kept_view.specs.KeptViews.{ReadsBack}
use Rattle.adr_db.specs.declared.meta.Meta.{Meta}
use Rattle.adr_db.specs.Kept.{Keeps, with_meta}
use Rattle.adr_db.specs.Bases.{Beside, with_base, meta_of, HoldsBeside}
use Rattle.adr_held.specs.Held.{kept_of, HoldsState, AreLeftWith}
use Rattle.adr_queries.specs.declared.answer.Answer.{Answer}
use Rattle.adr_machine.specs.declared.command.Command.{Command}
use Rattle.adr_machine.specs.declared.outcome.Outcome.{Outcome}
use Rattle.adr_machine.specs.Steps.{committed, step}

-- ---- an edit

-- of the edit of a base comes this; the tables hold the base that it makes, beside what stood there, and the caller's numbers are those before with
-- those of that base; and among what it touched is each source that is not shown as before
pub record IsEdited (edit : Base → Result (Outcome × Base) Refusal) (beside : Beside) (base : Base) (before after : Meta) (said : Outcome) (touched : Touched) (s : sql.State) : Type 0 where
  pub next : Base
  pub edited : edit base ≡ Ok (said, next)
  pub holds : HoldsBeside beside next s
  pub counted : after ≡ with_base before next
  pub stands : StandsTouched base touched
  pub all : HasAllThatDiffer base next (sources_in touched)

-- after Ok, so it is of each base that the tables held, where those of the caller's numbers which a base has were those of the base
abbrev pub EditsTables : (Base → Result (Outcome × Base) Refusal) → Meta → Meta → sql.State → sql.State → Result (Outcome × Touched) Refusal → Type 0
EditsTables edit before after old new result =
    HasCleanDisk new → IfOk result (λ r. (beside : Beside) (base : Base) → HoldsBeside beside base old → before ≡ with_base before base → IsEdited edit beside base before after r.0 r.1 new)

-- ---- a step, whose numbers are not put yet

-- the step that an edit makes: then comes its commit
abbrev pub step_of : Settings → (Base → Result (Outcome × Base) Refusal) → ℕ → State → Result (Answer × State) Refusal
step_of settings edit now held = edit held.base >>= λ e. committed settings held now e.0 e.1

-- the machine's step
abbrev pub step_by : Settings → ℕ → Command → State → Result (Answer × State) Refusal
step_by settings now command held = step settings held now command

-- the tables hold a state, with these numbers of the node in the place of its own
abbrev pub HoldsBut : Meta → State → sql.State → Type 0
HoldsBut numbers held s = Keeps (with_meta numbers (kept_of held)) s

-- the step of a state answers this; the tables hold the state that it makes, but for its numbers, and these the caller has;
-- and the texts that they keep of what is shown then read back
pub record IsCommitted (step : State → Result (Answer × State) Refusal) (held : State) (before after : Meta) (answer : Answer) (s : sql.State) : Type 0 where
  pub next : State
  pub stepped : step held ≡ Ok (answer, next)
  pub holds : HoldsBut before next s
  pub reads : All ReadsBack (kept_view next.base)
  pub counted : after ≡ meta_of next

-- after Ok, so it is of each state that the tables held, where the caller's numbers were its own
abbrev pub CommitsTables : (State → Result (Answer × State) Refusal) → Meta → Meta → sql.State → sql.State → Result Answer Refusal → Type 0
CommitsTables step before after old new result = HasCleanDisk new → IfOk result (λ answer. (held : State) → HoldsState held old → before ≡ meta_of held → IsCommitted step held before after answer new)

-- a refusal is the machine's own on each such state, or want of memory or the store's in its place
abbrev pub RefusesToCommit : {A T : Type 0} → (State → Result A Refusal) → Meta → sql.State → sql.State → Result T Refusal → Type 0
RefusesToCommit taken before old new result = HasCleanDisk new → IfErr result (λ refusal. (held : State) → HoldsState held old → before ≡ meta_of held → IsRefusalOf refusal (taken held))

-- ---- a step

-- the step of the state that the tables held answers this, and they hold the state that it makes
pub record IsStepped (step : State → Result (Answer × State) Refusal) (held : State) (answer : Answer) (s : sql.State) : Type 0 where
  pub after : State
  pub stepped : step held ≡ Ok (answer, after)
  pub holds : HoldsState after s

-- after Ok, the tables hold what the step makes of each state that they held
abbrev pub StepsTables : (State → Result (Answer × State) Refusal) → sql.State → sql.State → Result Answer Refusal → Type 0
StepsTables step old new result = HasCleanDisk new → IfOk result (λ answer. (held : State) → HoldsState held old → IsStepped step held answer new)

-- tables hold the state which a step makes
abbrev pub HoldsStepped : (State → Result (Answer × State) Refusal) → State → sql.State → Type 0
HoldsStepped step held s = (answer : Answer) × (after : State) × (step held ≡ Ok (answer, after)) × HoldsState after s

-- trees that a crash left hold the state which a step makes
abbrev pub LeftStepped : (State → Result (Answer × State) Refusal) → State → Trees → Type 0
LeftStepped step held trees = (answer : Answer) × (after : State) × (step held ≡ Ok (answer, after)) × AreLeftWith after trees

-- ---- a query

-- after Ok, the answer is what is looked for in each state that the tables held
abbrev pub LooksUp : {A : Type 0} → (State → Result A Refusal) → sql.State → sql.State → Result A Refusal → Type 0
LooksUp look old new result = HasCleanDisk new → IfOk result (λ answer. (held : State) → HoldsState held old → look held ≡ Ok answer)

-- so of a reply
abbrev pub TellsTables : (State → Result Answer Refusal) → sql.State → sql.State → Result Answer Refusal → Type 0
TellsTables reply old new result = LooksUp reply old new result

-- ---- refusals

-- a refusal is the machine's own on each state that the tables held, or want of memory or the store's in its place
abbrev pub RefusesAs : {A T : Type 0} → (State → Result A Refusal) → sql.State → sql.State → Result T Refusal → Type 0
RefusesAs taken old new result = HasCleanDisk new → IfErr result (λ refusal. (held : State) → HoldsState held old → IsRefusalOf refusal (taken held))
