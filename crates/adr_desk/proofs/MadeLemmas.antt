-- Where a command stands once its edit is made.
use Rattle.std.proofs.Common.{◌≡◌, ◌≤◌, ℕ, Result, IfOk, sym, ap, subst, ◌∙◌, arith}
use Rattle.std.specs.List.{All}
use Rattle.std.proofs.lemmas.List.Elements.{All-weaker}
use Rattle.sqlite.specs.State as sql
use Rattle.adr_text.specs.declared.refusal.Refusal.{Refusal}
use Rattle.adr_state.specs.declared.base.Base.{Base}
use Rattle.adr_state.specs.declared.state.State.{State}
use Rattle.adr_state.specs.declared.limits.Settings.{Settings}
use Rattle.adr_view.specs.Views.{view}
use Rattle.adr_db.specs.declared.meta.Meta.{Meta}
use Rattle.adr_db.specs.Bases.{with_base, meta_of}
use Rattle.adr_held.specs.Held.{beside_of, HoldsState}
use Rattle.adr_held.proofs.HeldLemmas.{held_keeps}
use Rattle.adr_machine.specs.declared.command.Command.{Command}
use Rattle.adr_machine.specs.declared.outcome.Outcome.{Outcome}
use Rattle.adr_machine.specs.Edits.{edit_of}
use Rattle.adr_machine.proofs.Listed.{edit_of_quiet}
use Rattle.adr_touched.specs.declared.touched.Touched.{Touched}
use Rattle.adr_held.proofs.VenLemmas.{anyones_keep}
use Rattle.adr_desk.specs.Steps.{IsEdited}
use Rattle.adr_desk.specs.Told.{IsMade}
use Rattle.adr_desk.proofs.StayLemmas.{still_addressed}
use Rattle.adr_desk.proofs.StepLemmas.{WasDecided, was_decided}

module _ (settings : Settings) (now : ℕ) (command : Command) (held : State) (said : Outcome) (touched : Touched) (old s : sql.State) (holds : HoldsState held old) (numbers then : Meta) (same : numbers ≡ meta_of held)
    (made : IsEdited (λ base. edit_of settings.limits now base command) (beside_of held) held.base numbers then said touched s) where
  pub numbers_so : then ≡ with_base (meta_of held) made.next
  numbers_so = made.counted ∙ ap (λ (m : Meta). with_base m made.next) same

  pub is_made : IsMade held.base made.next (beside_of held) then command touched
  is_made =
      let was : WasDecided settings.limits now command held.base said made.next = was_decided settings.limits now command held.base said made.next made.edited in
      let shown = held_keeps old held holds in
      let rises : held.base.serial ≤ made.next.serial = subst (λ (b : Base). held.base.serial ≤ b.serial) (sym was.makes) was.rises in
      record {
        edited = record {
          stood = shown.0;
          vens = anyones_keep settings.limits now command held said made.next made.edited shown.0 holds.right;
          keeps = shown.1;
          stands = made.stands;
          all = made.all;
          waits = ap (λ (m : Meta). m.pending) numbers_so;
          drawn = subst (λ (m : Meta). All (λ e. e.0 ≤ m.serial) held.outbox.entries) (sym numbers_so) (All-weaker (λ e. e.0 ≤ held.base.serial) (λ e. e.0 ≤ made.next.serial) (λ e within. omega (arith, within, rises)) held.outbox.entries holds.right.entries_drawn);
        };
        quiet = λ is. subst (λ (r : Result (Outcome × Base) Refusal). IfOk r (λ e. view e.1 ≡ view held.base)) made.edited (edit_of_quiet settings.limits now held.base command is);
        addressed = λ no. still_addressed settings.limits now command held said made.next made.edited no holds.right;
      }
