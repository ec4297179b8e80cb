-- What a command decides, carried out on the tables.
use Rattle.std.specs.Prelude.{◌≡◌, ℕ, Bool, List, Result, Ok, IfOk, IfErr}
use Rattle.std.specs.List.{Contains}
use Rattle.sqlite.specs.Store.{Ghosts}
use Rattle.sqlite.specs.Held.{Held, state}
use Rattle.sqlite.specs.State.{State, HasCleanDisk}
use Rattle.adr_text.specs.Refusals.{◌>>=◌}
use Rattle.adr_text.specs.declared.refusal.Refusal.{Refusal}
use Rattle.adr_objects.specs.declared.shown.Stamps.{Stamps}
use Rattle.adr_subscription.specs.declared.subscription.SubIn.{SubIn}
use Rattle.adr_state.specs.declared.base.Base.{Base}
use Rattle.adr_state.specs.declared.limits.Limits.{Limits}
use Rattle.adr_state.specs.Subs.{sub_post}
use Rattle.adr_state.specs.declared.keys.ViewKey.{ViewKey}
use Rattle.adr_state.specs.BaseChanges.{BaseChange, changed}
use Rattle.adr_db.specs.declared.meta.Meta.{Meta}
use Rattle.adr_db.specs.Bases.{Beside, with_base, HoldsBeside}
use Rattle.adr_db.specs.BaseCalls.{RefusesOn}
use Rattle.adr_touched.specs.declared.touched.Touched.{Touched}
use Rattle.adr_touched.specs.Touched.{Covers}
use Rattle.adr_view.specs.Sights.{owner_in}
use Rattle.adr_view.specs.Subs.{sub_put}
use Rattle.adr_queries.specs.declared.role.Role.{Role}
use Rattle.adr_queries.specs.Roles.{sight_of}
use Rattle.adr_machine.specs.declared.command.Command.{Command}
use Rattle.adr_machine.specs.declared.outcome.Outcome.{Outcome}
use Rattle.adr_machine.specs.Listed.{listed}
use Rattle.adr_machine.specs.Steps.{answered_by}
use Rattle.adr_objects.specs.declared.body.Found.{Found}
use Rattle.adr_state.specs.declared.keys.MirrorKey.{MirrorKey}
use Rattle.adr_state.specs.Evidence.{evidence, gone}
use Rattle.adr_machine.specs.Edits.{Decision, counted, of_portfolio, sub_outcome}

-- what is decided of a base is that this comes of it, with a change, which is carried out: the tables hold the base after it, beside what stood there, and
-- the caller's numbers are those before with those of that base; and what it touched covers the change
pub record IsDecided (decide : Base → Result Decision Refusal) (beside : Beside) (base : Base) (before after : Meta) (said : Outcome) (touched : Touched) (s : State) : Type 0 where
  pub change : BaseChange
  pub decided : decide base ≡ Ok (record { outcome = said; change = change })
  pub holds : HoldsBeside beside (changed change base) s
  pub counted : after ≡ with_base before (changed change base)
  pub covers : Covers change base touched

module _ {S : Type 0} (g : Ghosts S) (old new : Held S) where
  -- after Ok, what is decided of each base that the tables held is carried out, where those of the caller's numbers which a base has were those
  -- of the base
  abbrev pub Decides : (Base → Result Decision Refusal) → Meta → Meta → Result (Outcome × Touched) Refusal → Type 0
  Decides decide before after result =
      HasCleanDisk (state g new) → IfOk result (λ r. (beside : Beside) (base : Base) → HoldsBeside beside base (state g old) → before ≡ with_base before base → IsDecided decide beside base before after r.0 r.1 (state g new))

  -- so it is, and a refusal is that of the decision, or want of memory or the store's in its place
  pub record CarriesOut (decide : Base → Result Decision Refusal) (before after : Meta) (result : Result (Outcome × Touched) Refusal) : Type 0 where
    pub decides : Decides decide before after result
    pub refuses : RefusesOn g old new decide before result

-- what is decided of evidence, and of a deletion: the changes are counted
abbrev pub found_decided : Limits → List Found → Bool → Base → Result Decision Refusal
found_decided limits founds polled base = evidence limits founds polled base >>= λ change. Ok (counted change)

abbrev pub gone_decided : Limits → MirrorKey → Base → Result Decision Refusal
gone_decided limits key base = gone limits key base >>= λ change. Ok (counted change)

-- what comes of it, with what it touched
abbrev pub with_touched : Touched → Outcome → Outcome × Touched
with_touched touched said = (said, touched)

-- what is decided of a new subscription each of whose addresses may be called, by what the role sees
abbrev pub sub_made : Limits → ℕ → ℕ → Role → SubIn → Base → Result Decision Refusal
sub_made limits now n role body base = sight_of base role >>= λ sight. of_portfolio sub_outcome (sub_post limits now n (owner_in sight) body base.portfolio)

-- the same of a subscription that is put again, by its id
abbrev pub sub_put_again : ℕ → Role → List ℕ → SubIn → Base → Result Decision Refusal
sub_put_again now role id body base = sight_of base role >>= λ sight. of_portfolio sub_outcome (sub_put sight now id body base.portfolio)

-- what comes of a command is answered, whatever the stamps, or refused as is listed for it
abbrev pub IsAnswered : Command → Outcome → Type 0
IsAnswered command comes = (before : List (ViewKey × Stamps)) (after : ℕ × List (ViewKey × Stamps)) → IfErr (answered_by comes before after) (Contains (listed command))
