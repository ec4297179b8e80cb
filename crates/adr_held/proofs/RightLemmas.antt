-- The state at first is right, and each step of the machine leaves it so.
use Rattle.std.proofs.Common.{◌≡◌, ◌≤◌, ℕ, true, List, [], Result, IfOk, refl, ap, subst}
use Rattle.sqlite.specs.State as sql
use Rattle.adr_subscription.specs.declared.kept_sub.Sub.{Sub}
use Rattle.adr_delivery.specs.declared.entry.Entry.{Entry}
use Rattle.adr_delivery.specs.declared.outbox.Outbox.{Outbox}
use Rattle.adr_delivery.specs.Outboxes.{has_addressee}
use Rattle.adr_view.specs.Views.{view}
use Rattle.adr_view.proofs.OrderLemmas.{none_sorted}
use Rattle.adr_view.proofs.RowLemmas.{each_there}
use Rattle.adr_queries.specs.declared.answer.Answer.{Answer}
use Rattle.adr_machine.specs.Edits.{Decision, draws_number}
use Rattle.adr_machine.specs.Steps.{changes_of, side_after, side_before}
use Rattle.adr_kept_view.specs.KeptViews.{ReadsBack}
use Rattle.adr_laws.proofs.Common.{All, All-contains, All-nil, All-weaker, Command, Refusal, Settings, State, changed, empty, state_after, step_at, view_cmp}
use Rattle.adr_laws.proofs.Decisions.{IsAnswered, after_step, base_after, entries_by, next_by, rises_on, state_by}
use Rattle.adr_laws.proofs.NumberLemmas.{rises, serial_then}
use Rattle.adr_laws.proofs.RunLemmas.{run_keeps}
use Rattle.adr_held.specs.Right.{IsRight}
use Rattle.adr_held.specs.Laws.{EmptyIsHeld, RightStays, RunsAreRight}
use Rattle.adr_held.proofs.StampLemmas.{stamped_then}
use Rattle.adr_held.proofs.ResourceLemmas.{drawn_later, drawn_then}
use Rattle.adr_held.proofs.MadeLemmas.{Goes, made_goes}
use Rattle.adr_held.proofs.DeliveryLemmas.{Waits, delivered_all, left_and_further}

-- ---- at first

none_right : IsRight empty
unfolding view
none_right = record {
  stamped = record { in_order = none_sorted view_cmp; same_keys = λ k. refl };
  resources_drawn = All-nil (λ n. n ≤ 0);
  entries_drawn = All-nil (λ (e : ℕ × Entry). e.0 ≤ 0);
  addressed = All-nil (λ (e : ℕ × Entry). has_addressee {S = Sub} [] e ≡ true);
}

pub empty_held : (s : sql.State) → EmptyIsHeld s
unfolding view
empty_held s keeps = record { keeps = keeps; reads = All-nil ReadsBack; right = none_right }

-- ---- a step

all_wait : (s : State) → IsRight s → All (Waits s.base.serial s.base.portfolio.subs) s.outbox.entries
all_wait s h =
    each_there (Waits s.base.serial s.base.portfolio.subs) s.outbox.entries
    (λ e there. (All-contains (λ e. e.0 ≤ s.base.serial) s.outbox.entries e h.entries_drawn there, All-contains (λ e. has_addressee s.base.portfolio.subs e ≡ true) s.outbox.entries e h.addressed there))

module _ (serial : ℕ) (subs : List (ℕ × Sub)) (entries : List (ℕ × Entry)) (all : All (Waits serial subs) entries) where
  number_drawn : All (λ e. e.0 ≤ serial) entries
  number_drawn = All-weaker (Waits serial subs) (λ e. e.0 ≤ serial) (λ e one. one.0) entries all

  goes_somewhere : All (λ e. has_addressee subs e ≡ true) entries
  goes_somewhere = All-weaker (Waits serial subs) (λ e. has_addressee subs e ≡ true) (λ e one. one.1) entries all

module _ (settings : Settings) (s : State) (c : ℕ × Command) (h : IsRight s) where
  right_delivered : (o : Outbox) → All (Waits s.base.serial s.base.portfolio.subs) o.entries → IsRight (record s { outbox = o })
  right_delivered o all = record {
    stamped = h.stamped;
    resources_drawn = h.resources_drawn;
    entries_drawn = number_drawn s.base.serial s.base.portfolio.subs o.entries all;
    addressed = goes_somewhere s.base.serial s.base.portfolio.subs o.entries all;
  }

  made : (d : Decision) → All (Goes (changed d.change s.base).portfolio.subs) (entries_by settings s c d)
  made d = let base = base_after s.base c.1 d in made_goes base.portfolio.subs settings.client (side_before s) (side_after s c.0 base) (changes_of s base)

  right_by : (d : Decision) (a : Answer) → IsAnswered settings s c d a → IsRight (state_by settings s c d)
  right_by d a is =
      let serial = serial_then s.base.serial (draws_number c.1) in
      let subs = (changed d.change s.base).portfolio.subs in
      let next = next_by settings s c d in
      let all : All (Waits next.1 subs) next.0.entries = left_and_further subs s.base.serial serial s.outbox.entries (entries_by settings s c d) (rises s.base.serial (draws_number c.1)) h.entries_drawn (made d) in
      record {
        stamped = stamped_then s.stamps s.base (base_after s.base c.1 d) c.0 next.1;
        resources_drawn = drawn_later serial next.1 (changed d.change s.base).portfolio.resources (rises_on settings s c d) (drawn_then (draws_number c.1) s.base d.change is.fits.fits h.resources_drawn);
        entries_drawn = number_drawn next.1 subs next.0.entries all;
        addressed = goes_somewhere next.1 subs next.0.entries all;
      }

  step_right : IsRight (state_after s (step_at settings s c))
  step_right =
      after_step settings s c (λ r. IsRight (state_after s r)) (λ refusal. h)
      (λ a o is done. right_delivered o (subst (λ (r : Result (Answer × Outbox) Refusal). IfOk r (λ d. All (Waits s.base.serial s.base.portfolio.subs) d.1.entries)) done
      (delivered_all (Waits s.base.serial s.base.portfolio.subs) (λ n e d one. one) s.outbox (all_wait s h) settings.limits c.0 c.1 is))) right_by

pub step_stays : RightStays
step_stays settings now command held next answer is h = subst IsRight (ap (state_after held) is) (step_right settings held (now, command) h)

pub runs_right : RunsAreRight
runs_right settings cs = run_keeps (step_at settings) IsRight (step_right settings) empty cs none_right
