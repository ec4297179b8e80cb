-- The end of a scan whose keys were read before is what the machine decides.
use Rattle.std.proofs.Common.{◌≡◌, ℕ, ◌+◌, List, None, Result, Ok, refl, sym, ap, subst, ◌∙◌}
use Rattle.adr_db.proofs.Common.{Refusal, Base, BaseChange, SetScan, MirrorKey, Limits, scan_end}
use Rattle.sqlite.specs.State as sql
use Rattle.adr_text.specs.Refusals.{◌>>=◌}
use Rattle.adr_db.specs.declared.meta.Meta.{Meta}
use Rattle.adr_db.specs.Bases.{Beside}
use Rattle.adr_db.specs.BaseCalls.{IsMade}
use Rattle.adr_machine.specs.Edits.{answered, decided, edit_of}
use Rattle.adr_machine.specs.declared.command.Command.TheVariants.{ScanEnd}
use Rattle.adr_machine.specs.declared.outcome.Outcome.TheVariants as outcome
use Rattle.adr_queries.specs.declared.answer.Answer.TheVariants as answer
use Rattle.adr_missed.specs.Missed.{closing}
use Rattle.adr_touched.specs.declared.touched.Touched.{Touched}
use Rattle.adr_touched.specs.Touched.{Covers, CoversWhatTouchesNothing}
use Rattle.adr_desk.specs.Steps.{IsEdited}
use Rattle.adr_desk.specs.Decisions.{IsDecided}
use Rattle.adr_desk.proofs.DecisionLemmas.{is_edited}

module _ (limits : Limits) (now : ℕ) (beside : Beside) (base : Base) (before meta : Meta) (keys : List MirrorKey) (touched : Touched) (none : CoversWhatTouchesNothing touched) (s : sql.State) (it : IsMade closing (λ was _ found. scan_end was ≡ Ok (found, SetScan None)) beside base before meta keys s) where
  closes : SetScan None ≡ it.change
  closes =
      let two : ◌≡◌ {A = Result BaseChange Refusal} (Ok (SetScan None)) (Ok it.change) = sym (ap (λ (r : Result (List MirrorKey × BaseChange) Refusal). r >>= λ d. Ok d.1) it.right) ∙ it.decided in
      cc two

  is_decided : IsDecided (λ base. decided limits now (base.serial + 1) base ScanEnd) beside base before meta (outcome.Told (answer.Probes keys)) touched s
  is_decided = record {
    change = it.change;
    decided = ap (λ (r : Result (List MirrorKey × BaseChange) Refusal). r >>= λ d. Ok (answered (answer.Probes d.0) d.1)) it.right ∙ ap (λ (change : BaseChange). Ok (answered (answer.Probes keys) change)) closes;
    holds = it.holds;
    counted = it.counted;
    covers = subst (λ (c : BaseChange). Covers c base touched) closes (none (SetScan None) base refl);
  }

  pub shut_edited : IsEdited (λ base. edit_of limits now base ScanEnd) beside base before meta (outcome.Told (answer.Probes keys)) touched s
  shut_edited = is_edited limits now ScanEnd base (base.serial + 1) refl beside before meta (outcome.Told (answer.Probes keys)) touched s is_decided meta.serial refl
