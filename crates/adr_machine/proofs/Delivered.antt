-- What a command about an entry of the outbox is refused by.
use Rattle.std.proofs.Common.{◌≡◌, ℕ, Bool, true, false, List, Contains, Option, Some, None, Ok, Err, refl, arith}
use Rattle.adr_text.specs.declared.refusal.Refusal.{Refusal}
use Rattle.adr_text.specs.declared.refusal.Refusal.TheVariants.{Exhausted, LeaseLost}
use Rattle.adr_delivery.specs.declared.entry.Entry.{Entry}
use Rattle.adr_delivery.specs.declared.outbox.Outbox.{Outbox}
use Rattle.adr_delivery.specs.Deliveries as delivery
use Rattle.adr_delivery.specs.Next.{next_entry}
use Rattle.adr_delivery.specs.Outboxes.{entry_at, entry_leased, lease_next, sent, failed}
use Rattle.adr_state.specs.declared.limits.Limits.{Limits}
use Rattle.adr_queries.proofs.Refuses.{Refuses, never, either, tested, first_then, found_then}
use Rattle.adr_machine.specs.declared.command.Command.{Command}
use Rattle.adr_machine.specs.declared.command.Command.TheVariants.{Lease, Sent, Failed}
use Rattle.adr_machine.specs.Deliveries.{delivered}
use Rattle.adr_machine.specs.Edits.{is_delivery}
use Rattle.adr_machine.specs.Listed.{listed}

module _ (P : Refusal → Type 0) where
  lease_so : (most now : ℕ) (o : Outbox) → P Exhausted → Refuses P (lease_next most now o)
  lease_so most now o exhausted = by (next_entry now o.entries) refl
    where
      by : (next : Option (ℕ × Entry)) → next_entry now o.entries ≡ next → Refuses P (lease_next most now o)
      by None is = rw is (never P _)
      by (Some e) is = rw is (first_then P (delivery.leased most now e.1.delivery) _ (tested P _ Exhausted (Ok _) exhausted (never P _)) (λ d. never P _))

  module _ (lost : P LeaseLost) where
    held_so : (n lease : ℕ) (o : Outbox) → Refuses P (entry_leased n lease o.entries)
    held_so n lease o = found_then P LeaseLost (entry_at n o.entries) _ lost (λ e. either P (delivery.has_lease lease e.delivery) (Ok e) (Err LeaseLost) (never P e) (record { so = lost }))

    sent_so : (n lease : ℕ) (remote : Option (List ℕ)) (o : Outbox) → Refuses P (sent n lease remote o)
    sent_so n lease remote o = first_then P (entry_leased n lease o.entries) _ (held_so n lease o) (λ e. never P _)

    failed_so : (now n lease : ℕ) (forget : Bool) (o : Outbox) → Refuses P (failed now n lease forget o)
    failed_so now n lease forget o = first_then P (entry_leased n lease o.entries) _ (held_so n lease o) (λ e. never P _)

pub delivered_listed : (limits : Limits) (now : ℕ) (o : Outbox) (c : Command) → is_delivery c ≡ true → Refuses (Contains (listed c)) (delivered limits now o c)
delivered_listed limits now o Lease is = first_then _ (lease_next limits.serial now o) _ (lease_so _ limits.serial now o (0, omega arith, refl)) (λ l. never _ _)
delivered_listed limits now o (Sent entry lease remote) is = first_then _ (sent entry lease remote o) _ (sent_so _ (0, omega arith, refl) entry lease remote o) (λ next. never _ _)
delivered_listed limits now o (Failed entry lease forget) is = first_then _ (failed now entry lease forget o) _ (failed_so _ (0, omega arith, refl) now entry lease forget o) (λ next. never _ _)
delivered_listed limits now o c is = absurd (let no : false ≡ true = is in cc)
