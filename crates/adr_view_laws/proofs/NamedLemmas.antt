-- What a step makes of the portfolio: a change that puts and drops reports as they are named.
use Rattle.std.proofs.Common.{◌≡◌, ℕ, ◌+◌, Result, Err, IfOk, refl}
use Rattle.std.proofs.lemmas.Bool.{cond_both}
use Rattle.adr_text.specs.Refusals.{◌>>=◌}
use Rattle.adr_text.specs.declared.refusal.Refusal.TheVariants.{Forbidden}
use Rattle.adr_state.specs.Serials.{drawn}
use Rattle.adr_queries.specs.declared.answer.Answer.{Answer}
use Rattle.adr_machine.specs.declared.outcome.Outcome.{Outcome}
use Rattle.adr_machine.specs.Deliveries.{delivered}
use Rattle.adr_machine.specs.Edits.{decided, draws_number, edit, edit_of, is_allowed, is_delivery}
use Rattle.adr_machine.specs.Steps.{answered_by, committed, delivery_step, edit_step, outbox_then}
use Rattle.adr_machine.specs.Steps.{changed as restamped_by}
use Rattle.adr_machine.proofs.EditLemmas.{first_then, whatever}
use Rattle.adr_laws.proofs.Common.{Base, BaseChange, Command, Refusal, SetScan, Settings, State, changed, step_at}
use Rattle.adr_machine.specs.Named.{NamesReport}
use Rattle.adr_machine.proofs.Rooms.{ChangesAsNamed, IsFit, decided_room}

-- the portfolio after a command is that after such a change
abbrev pub IsChangedAsNamed : State → Command → Base → Type 0
IsChangedAsNamed s c after = (change : BaseChange) × ChangesAsNamed (s.base.serial + 1) (NamesReport c) change × (after.portfolio ≡ (changed change s.base).portfolio)

-- whatever comes first
each : {A B : Type 0} (P : A → Type 0) (r : Result B Refusal) (f : B → Result A Refusal) → ((x : B) → IfOk (f x) P) → IfOk (r >>= f) P
each P r f h = first_then P (λ x. Unit {0}) r f (whatever r) (λ x any. h x)

module _ (settings : Settings) (s : State) (now : ℕ) (c : Command) where
  abbrev Edits : Outcome × Base → Type 0
  Edits e = IsChangedAsNamed s c e.1

  abbrev Takes : Answer × State → Type 0
  Takes taken = IsChangedAsNamed s c taken.1.base

  edit_named : IfOk (edit settings.limits now s.base c) Edits
  unfolding edit
  edit_named =
      let next : ℕ = s.base.serial + 1 in
      cond_both (is_allowed c) (edit_of settings.limits now s.base c) (Err Forbidden) (λ r. IfOk r Edits)
      (λ allowed. first_then Edits (λ d. IsFit settings.limits now next s.base (NamesReport c) d.change) (decided settings.limits now next s.base c) _ (decided_room settings.limits now next s.base (NamesReport c) c (λ n named. named)) (λ d fit.
      each Edits (drawn settings.limits s.base.serial (draws_number c)) _ (λ serial. (d.change, fit.1, refl))))
      (λ forbidden. tt)

  committed_named : (e : Outcome × Base) → Edits e → IfOk (committed settings s now e.0 e.1) Takes
  committed_named e h = each Takes (outbox_then settings s now e.1) _ (λ next. each Takes (answered_by e.0 s.stamps (restamped_by s now e.1)) _ (λ a. h))

  pub step_named : IfOk (step_at settings s (now, c)) Takes
  step_named =
      cond_both (is_delivery c) (delivery_step settings s now c) (edit_step settings s now c) (λ r. IfOk r Takes)
      (λ delivers. each Takes (delivered settings.limits now s.outbox c) _ (λ d. (SetScan s.base.scan, tt, refl)))
      (λ edits. first_then Takes Edits (edit settings.limits now s.base c) _ edit_named committed_named)
