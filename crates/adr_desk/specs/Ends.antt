-- The end of a scan whose keys were read before.
use Rattle.std.specs.Prelude.{◌≡◌, List, None, Result, Ok, IfOk, IfErr}
use Rattle.sqlite.specs.State.{HasCleanDisk}
use Rattle.sqlite.specs.State as sql
use Rattle.adr_text.specs.Refusals.{IsRefusalOf}
use Rattle.adr_text.specs.declared.refusal.Refusal.{Refusal}
use Rattle.adr_state.specs.declared.keys.MirrorKey.{MirrorKey}
use Rattle.adr_state.specs.declared.state.State.{State}
use Rattle.adr_db.specs.declared.meta.Meta.{Meta}
use Rattle.adr_db.specs.Bases.{meta_of}
use Rattle.adr_held.specs.Held.{HoldsState}
use Rattle.adr_missed.specs.Missed.{missed}
use Rattle.adr_queries.specs.declared.answer.Answer.{Answer}
use Rattle.adr_desk.specs.Steps.{IsCommitted, IsStepped}

-- the scan of a state missed these keys
abbrev pub HasMissed : List MirrorKey → State → Type 0
HasMissed keys held = missed None held.base ≡ Ok keys

-- after Ok, a step is made of each state that the tables held whose scan missed these keys, but for its numbers, where the caller's were its own
abbrev pub CommitsMissed : List MirrorKey → (State → Result (Answer × State) Refusal) → Meta → Meta → sql.State → sql.State → Result Answer Refusal → Type 0
CommitsMissed keys step before after old new result = HasCleanDisk new → IfOk result (λ answer. (held : State) → HoldsState held old → HasMissed keys held → before ≡ meta_of held → IsCommitted step held before after answer new)

-- a refusal is the machine's own on each such state, or want of memory or the store's in its place
abbrev pub RefusesMissed : {A T : Type 0} → List MirrorKey → (State → Result A Refusal) → Meta → sql.State → sql.State → Result T Refusal → Type 0
RefusesMissed keys taken before old new result = HasCleanDisk new → IfErr result (λ refusal. (held : State) → HoldsState held old → HasMissed keys held → before ≡ meta_of held → IsRefusalOf refusal (taken held))

-- ---- with the numbers, which are read and put

-- after Ok, the tables hold what the step makes of each state that they held whose scan missed these keys
abbrev pub StepsMissed : List MirrorKey → (State → Result (Answer × State) Refusal) → sql.State → sql.State → Result Answer Refusal → Type 0
StepsMissed keys step old new result = HasCleanDisk new → IfOk result (λ answer. (held : State) → HoldsState held old → HasMissed keys held → IsStepped step held answer new)

-- a refusal is the machine's own on each such state, or want of memory or the store's in its place
abbrev pub RefusesSteps : {A T : Type 0} → List MirrorKey → (State → Result A Refusal) → sql.State → sql.State → Result T Refusal → Type 0
RefusesSteps keys taken old new result = HasCleanDisk new → IfErr result (λ refusal. (held : State) → HoldsState held old → HasMissed keys held → IsRefusalOf refusal (taken held))
