-- What is done with an entry of the outbox is the step.
use Rattle.std.proofs.Common.{◌≡◌, ℕ, Bool, true, List, Option, Result, Ok, Err, refl, sym, ap, subst, ◌∙◌}
use Rattle.std.specs.Prelude.{option_map}
use Rattle.adr_db.proofs.Common.{Ghosts, Held, state, IsRefusalOf, Refusal}
use Rattle.adr_text.specs.Refusals.{◌>>=◌}
use Rattle.adr_delivery.specs.declared.outbox.Outbox.{Outbox}
use Rattle.adr_state.specs.declared.state.State.{State}
use Rattle.adr_state.specs.declared.limits.Settings.{Settings}
use Rattle.adr_db.specs.declared.meta.Meta.{Meta}
use Rattle.adr_db.specs.Kept.{Kept, Keeps}
use Rattle.adr_db.specs.Bases.{meta_of, counting}
use Rattle.adr_held.specs.Held.{kept_of}
use Rattle.adr_db.specs.Images.{outbox_of}
use Rattle.adr_db.proofs.Results.{then_refused}
use Rattle.adr_queries.specs.declared.answer.Answer.{Answer}
use Rattle.adr_machine.specs.declared.command.Command.{Command}
use Rattle.adr_queries.specs.declared.answer.Answer.TheVariants as answer
use Rattle.adr_machine.specs.declared.command.Command.TheVariants.{Lease, Sent, Failed}
use Rattle.adr_machine.specs.Deliveries.{job_told, done as machine_done, delivered}
use Rattle.adr_machine.specs.Edits.{is_delivery, told_by}
use Rattle.adr_machine.specs.Steps.{step}
use Rattle.adr_delivery.specs.declared.entry.Entry.{Entry}
use Rattle.adr_delivery.specs.declared.job.Job.{Job}
use Rattle.adr_delivery.specs.Jobs.{job_of}
use Rattle.adr_delivery.specs.Outboxes.{lease_next}
use Rattle.adr_state.specs.declared.limits.Limits.{Limits}
use Rattle.adr_outbox.specs.Told.{job_leased, done}
use Rattle.adr_outbox.specs.Turned.{IsTurned, TurnsOutbox, RefusesOutbox}
use Rattle.adr_desk.specs.Steps.{step_by, CommitsTables, RefusesToCommit}
use Rattle.adr_desk.proofs.DecisionLemmas.{told_refused}

module _ {S : Type 0} (g : Ghosts S) (old new : Held S) (settings : Settings) (now : ℕ) (command : Command) (is : is_delivery command ≡ true) where
  abbrev decide : Outbox → Result (Answer × Outbox) Refusal
  decide o = delivered settings.limits now o command

  -- the outbox of numbers that are those of a state
  outbox_is : (held : State) (before : Meta) → before ≡ meta_of held → outbox_of before (kept_of held) ≡ held.outbox
  outbox_is held before same = ap (λ (m : Meta). outbox_of m (kept_of held)) same

  step_is : (held : State) → step settings held now command ≡ (decide held.outbox >>= λ d. Ok (d.0, record held { outbox = d.1 }))
  step_is held = rw is refl

  pub delivery_commits : (before after : Meta) (r : Result Answer Refusal) → TurnsOutbox g old new decide before after r → CommitsTables (step_by settings now command) before after (state g old) (state g new) r
  delivery_commits before after (Err e) turns clean = tt
  delivery_commits before after (Ok x) turns clean = λ held was same.
      let it : IsTurned decide before after (kept_of held) x (state g new) = turns clean (kept_of held) was.keeps (ap (λ (m : Meta). m.pending) same) in
      record {
        next = record held { outbox = it.outbox };
        stepped = step_is held ∙ ap (λ (r : Result (Answer × Outbox) Refusal). r >>= λ d. Ok (d.0, record held { outbox = d.1 })) (ap decide (sym (outbox_is held before same)) ∙ it.decided);
        holds = subst (λ (m : Meta). let kept : Kept = kept_of held in Keeps (record kept { meta = m; remotes = it.outbox.remotes; entries = it.outbox.entries }) (state g new)) (sym same) it.keeps;
        reads = was.reads;
        counted = it.counted ∙ ap (counting it.outbox) same;
      }

  pub delivery_refused : (before : Meta) (r : Result Answer Refusal) → RefusesOutbox g old new decide before r → RefusesToCommit (step_by settings now command) before (state g old) (state g new) r
  delivery_refused before (Ok x) refuses clean = tt
  delivery_refused before (Err e) refuses clean = λ held was same.
      subst (IsRefusalOf e) (sym (step_is held)) (then_refused e (decide held.outbox) _ (subst (λ (o : Outbox). IsRefusalOf e (decide o)) (outbox_is held before same) (refuses clean (kept_of held) was.keeps (ap (λ (m : Meta). m.pending) same))))

-- a command about anything else leaves all
pub rest_done : (limits : Limits) (now : ℕ) (o : Outbox) (c : Command) → (c ≡ Lease → ⊥) → ((n lease : ℕ) (remote : Option (List ℕ)) → c ≡ Sent n lease remote → ⊥) → ((n lease : ℕ) (forget : Bool) → c ≡ Failed n lease forget → ⊥)
    → delivered limits now o c ≡ Ok (answer.Done, o)
rest_done limits now o Lease leases sends fails = absurd (leases refl)
rest_done limits now o (Sent n lease remote) leases sends fails = absurd (sends n lease remote refl)
rest_done limits now o (Failed n lease forget) leases sends fails = absurd (fails n lease forget refl)
rest_done limits now o c leases sends fails = refl

-- what is told of a lease, by what is to be sent
abbrev Leased : Type 0
Leased = Option (ℕ × Entry) × Outbox

abbrev as_job : Leased → Result (Option Job × Outbox) Refusal
as_job l = Ok (option_map (job_of l.1) l.0, l.1)

abbrev as_answer : Option Job × Outbox → Result (Answer × Outbox) Refusal
as_answer d = Ok (answer.Job d.0, d.1)

abbrev as_told : Leased → Result (Answer × Outbox) Refusal
as_told l = Ok (job_told l.1 l.0, l.1)

abbrev as_jobs : Result Leased Refusal → Result (Option Job × Outbox) Refusal
as_jobs r = r >>= as_job

leased_so : (r : Result Leased Refusal) → (r >>= as_told) ≡ (as_jobs r >>= as_answer)
leased_so (Ok l) = refl
leased_so (Err e) = refl

-- that it was done, by what becomes of the outbox
abbrev as_done : Unit {0} × Outbox → Result (Answer × Outbox) Refusal
as_done d = Ok (answer.Done, d.1)

done_so : (r : Result Outbox Refusal) → machine_done r ≡ (done r >>= as_done)
done_so (Ok o) = refl
done_so (Err e) = refl

module _ {S : Type 0} (g : Ghosts S) (old new : Held S) where
  -- the next entry was leased
  module _ (limits : Limits) (now : ℕ) (meta : Meta) where
    pub lease_told : (kept : Kept) (job : Option Job) → IsTurned (job_leased limits.serial now) meta meta kept job (state g new) → IsTurned (λ o. delivered limits now o Lease) meta meta kept (answer.Job job) (state g new)
    lease_told kept job it = record {
      outbox = it.outbox;
      decided = leased_so (lease_next limits.serial now (outbox_of meta kept)) ∙ ap (λ (r : Result (Option Job × Outbox) Refusal). r >>= as_answer) it.decided;
      keeps = it.keeps;
      counted = it.counted;
    }

    pub lease_refused : (kept : Kept) (e : Refusal) → IsRefusalOf e (job_leased limits.serial now (outbox_of meta kept)) → IsRefusalOf e (delivered limits now (outbox_of meta kept) Lease)
    lease_refused kept e h = told_refused e (lease_next limits.serial now (outbox_of meta kept)) (λ l. (option_map (job_of l.1) l.0, l.1)) (λ l. (job_told l.1 l.0, l.1)) h

  -- something became of an entry
  module _ (decide : Outbox → Result Outbox Refusal) where
    pub done_turns : (before after : Meta) (r : Result Unit Refusal) → TurnsOutbox g old new (λ o. done (decide o)) before after r → TurnsOutbox g old new (λ o. machine_done (decide o)) before after (told_by (λ u. answer.Done) r)
    done_turns before after (Err e) turns clean = tt
    done_turns before after (Ok x) turns clean = λ kept was same.
        let it : IsTurned (λ o. done (decide o)) before after kept x (state g new) = turns clean kept was same in
        record {
          outbox = it.outbox;
          decided = done_so (decide (outbox_of before kept)) ∙ ap (λ (r : Result (Unit {0} × Outbox) Refusal). r >>= as_done) it.decided;
          keeps = it.keeps;
          counted = it.counted;
        }

    pub done_refused : (before : Meta) (r : Result Unit Refusal) → RefusesOutbox g old new decide before r → RefusesOutbox g old new (λ o. machine_done (decide o)) before (told_by (λ u. answer.Done) r)
    done_refused before (Ok x) refuses clean = tt
    done_refused before (Err e) refuses clean = λ kept was same. then_refused e (decide (outbox_of before kept)) _ (refuses clean kept was same)
