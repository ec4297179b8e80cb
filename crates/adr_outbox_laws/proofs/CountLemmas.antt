-- Each count counts what its name says.
use Rattle.std.proofs.Common.{◌≡◌, ℕ, Bool, true, false, List, Option, Some, None, Result, refl, sym, subst, ◌∙◌}
use Rattle.std.specs.Prelude.{IfOk, option_map}
use Rattle.std.specs.Option.{option_map_or}
use Rattle.std.proofs.lemmas.Bool.{true≢false}
use Rattle.adr_text.specs.declared.refusal.Refusal.{Refusal}
use Rattle.adr_delivery.specs.declared.entry.Entry.{Entry}
use Rattle.adr_delivery.specs.declared.outbox.EntryCounts.{EntryCounts}
use Rattle.adr_delivery.specs.declared.outbox.Outbox.{Outbox}
use Rattle.adr_delivery.specs.Deliveries.{later, leased}
use Rattle.adr_delivery.specs.Failing.{one_more, wait_after}
use Rattle.adr_delivery.specs.Next.{next_entry}
use Rattle.adr_delivery.specs.Outboxes.{entry_leased, failed, lease_next, sent, with_delivery, with_entry, without_entry}
use Rattle.adr_delivery.specs.Tallies.{plus}
use Rattle.adr_state.specs.declared.limits.Limits.{Limits}
use Rattle.adr_queries.specs.declared.answer.Answer.{Answer}
use Rattle.adr_machine.specs.declared.command.Command.{Command}
use Rattle.adr_machine.specs.declared.command.Command.TheVariants.{Lease, Sent, Failed}
use Rattle.adr_machine.specs.Deliveries.{delivered}
use Rattle.adr_machine.specs.Edits.{is_delivery}
use Rattle.adr_machine.proofs.EditLemmas.{first_then, whatever}
use Rattle.adr_laws.proofs.Decisions.{after_step, of_delivery}
use Rattle.adr_outbox_laws.specs.Counts.{CountsTell, EachCountTells, is_failure, sent_then}

-- ---- commands about entries

-- what such a command leaves of the counts
record Leaves (c : Command) (before after : EntryCounts) : Type 0 where
  sent : after.sent ≡ sent_then c before.sent
  given_up : is_failure c ≡ false → after.given_up ≡ before.given_up
  dropped : after.dropped ≡ before.dropped
  made : after.made ≡ before.made

module _ (o : Outbox) where
  abbrev LeavesSo : Command → Outbox → Type 0
  LeavesSo c next = Leaves c o.counts next.counts

  no_count : LeavesSo Lease o
  no_count = record { sent = refl; given_up = λ none. refl; dropped = refl; made = refl }

  lease_leaves : (most now : ℕ) → IfOk (lease_next most now o) (λ l. LeavesSo Lease l.1)
  lease_leaves most now = by (next_entry now o.entries) refl
    where
      by : (next : Option (ℕ × Entry)) → next_entry now o.entries ≡ next → IfOk (lease_next most now o) (λ l. LeavesSo Lease l.1)
      by None is = rw is no_count
      by (Some e) is = rw is (first_then (λ l. LeavesSo Lease l.1) (λ d. Unit {0}) (leased most now e.1.delivery) _ (whatever (leased most now e.1.delivery)) (λ d any. no_count))

  sent_leaves : (n lease : ℕ) (remote : Option (List ℕ)) → IfOk (sent n lease remote o) (LeavesSo (Sent n lease remote))
  sent_leaves n lease remote =
      first_then (LeavesSo (Sent n lease remote)) (λ e. Unit {0}) (entry_leased n lease o.entries) _ (whatever (entry_leased n lease o.entries)) (λ e any. record { sent = refl; given_up = λ none. refl; dropped = refl; made = refl })

  failed_leaves : (now n lease : ℕ) (forget : Bool) → IfOk (failed now n lease forget o) (LeavesSo (Failed n lease forget))
  failed_leaves now n lease forget = first_then (LeavesSo (Failed n lease forget)) (λ e. Unit {0}) (entry_leased n lease o.entries) _ (whatever (entry_leased n lease o.entries)) (λ e any. by e (one_more e.delivery.failures))
    where
      by : (e : Entry) (failures : Option ℕ)
          → LeavesSo (Failed n lease forget) (option_map_or (λ d. with_entry n (with_delivery d e) o) (option_map (λ k. record { failures = k; leases = e.delivery.leases; lease = None; due = later now (wait_after e.delivery.failures) }) failures) (record o { entries = without_entry n o; counts = record o.counts { given_up = plus o.counts.given_up 1 } }))
      by e None = record { sent = refl; given_up = λ none. absurd (true≢false none); dropped = refl; made = refl }
      by e (Some k) = record { sent = refl; given_up = λ none. refl; dropped = refl; made = refl }

  delivered_leaves : (limits : Limits) (now : ℕ) (c : Command) → is_delivery c ≡ true → IfOk (delivered limits now o c) (λ d. LeavesSo c d.1)
  delivered_leaves limits now c =
      of_delivery (λ c. IfOk (delivered limits now o c) (λ d. LeavesSo c d.1)) (first_then (λ d. LeavesSo Lease d.1) (λ l. LeavesSo Lease l.1) (lease_next limits.serial now o) _ (lease_leaves limits.serial now) (λ l h. h))
      (λ n lease remote. first_then (λ d. LeavesSo (Sent n lease remote) d.1) (LeavesSo (Sent n lease remote)) (sent n lease remote o) _ (sent_leaves n lease remote) (λ next h. h))
      (λ n lease forget. first_then (λ d. LeavesSo (Failed n lease forget) d.1) (LeavesSo (Failed n lease forget)) (failed now n lease forget o) _ (failed_leaves now n lease forget) (λ next h. h)) c

-- ---- any command

-- one that is not about an entry is no `Sent`
not_sent : (c : Command) (count : ℕ) → is_delivery c ≡ false → count ≡ sent_then c count
not_sent (Sent entry lease remote) count edits = absurd (true≢false edits)
not_sent _ count edits = refl

pub each_count_tells : EachCountTells
each_count_tells settings s c = after_step settings s c (λ r. IfOk r (λ taken. CountsTell c.1 s taken.1)) (λ refusal. tt)
    (λ a o is done.
    let h : Leaves c.1 s.outbox.counts o.counts = subst (λ (r : Result (Answer × Outbox) Refusal). IfOk r (λ d. Leaves c.1 s.outbox.counts d.1.counts)) done (delivered_leaves s.outbox settings.limits c.0 c.1 is) in
    record { sent = h.sent; given_up = h.given_up; dropped = h.dropped ∙ rw is refl; made = λ delivers. h.made })
    (λ d a is. record { sent = not_sent c.1 s.outbox.counts.sent is.edits; given_up = λ none. refl; dropped = rw is.edits refl; made = λ delivers. absurd (true≢false (sym delivers ∙ is.edits)) })
