-- What a failed delivery makes of the outbox that is kept.
use Rattle.std.proofs.Common.{◌≡◌, ℕ, Bool, cond, None, Some, Option, Ok, length, refl, sym, ap, subst, ◌∙◌}
use Rattle.std.specs.Prelude.{is_some}
use Rattle.std.specs.Option.{option_map_or}
use Rattle.adr_text.specs.Refusals.{◌>>=◌}
use Rattle.adr_db.proofs.Common.{State}
use Rattle.adr_db.proofs.Entries.{NumbersRise}
use Rattle.adr_delivery.specs.declared.delivery.Delivery.{Delivery}
use Rattle.adr_delivery.specs.declared.entry.Entry.{Entry}
use Rattle.adr_delivery.specs.declared.outbox.Outbox.{Outbox}
use Rattle.adr_delivery.specs.Deliveries.{after_failure}
use Rattle.adr_delivery.specs.Outboxes.{entry_leased, with_delivery, with_entry, without_entry, without_remote, failed, failed_at}
use Rattle.adr_delivery.specs.Tallies.{plus}
use Rattle.adr_db.specs.declared.meta.Meta.{Meta}
use Rattle.adr_db.specs.Kept.{Kept, Keeps, with_waiting, without_waiting}
use Rattle.adr_db.specs.Bases.{counting}
use Rattle.adr_db.specs.Images.{outbox_of}
use Rattle.adr_outbox.specs.Turned.{with_outbox, IsTurned}
use Rattle.adr_outbox.specs.Told.{done}
use Rattle.adr_outbox.specs.Settled.{after_failed, given_up, counted_failed}
use Rattle.adr_outbox.proofs.Waiting.{as_many, one_less, leased_there}

module _ (now n lease : ℕ) (forget : Bool) (e : Entry) (before after : Meta) (kept : Kept) (up : NumbersRise kept.entries) (leased : entry_leased n lease kept.entries ≡ Ok e) (same : before.pending ≡ length kept.entries) (counted : after ≡ counted_failed now e before) where
  abbrev o : Outbox
  o = outbox_of before kept

  -- the outbox and what is kept after a delivery that stands like this, or none
  abbrev outbox_after : Option Delivery → Outbox
  outbox_after d = option_map_or (λ d. with_entry n (with_delivery d e) o) d (record o { entries = without_entry n o; counts = record o.counts { given_up = plus o.counts.given_up 1 } })

  abbrev kept_after : Option Delivery → Kept
  kept_after d = option_map_or (λ d. with_waiting n (with_delivery d e) kept) d (without_waiting n kept)

  abbrev forgetting : Outbox → Outbox
  forgetting o = record o { remotes = without_remote e.addressee forget kept.remotes }

  same_kept : (d : Option Delivery) → record (kept_after d) { remotes = without_remote e.addressee forget (kept_after d).remotes } ≡ with_outbox (forgetting (outbox_after d)) kept
  same_kept None = refl
  same_kept (Some d) = refl

  same_counts : (d : Option Delivery) → cond (is_some d) before (given_up before) ≡ counting (forgetting (outbox_after d)) before
  same_counts None = let left = one_less n e kept.entries before.pending (leased_there n lease kept.entries e leased) same in λ i. record (given_up before) { pending = left i }
  same_counts (Some d) = let still = same ∙ sym (as_many n (with_delivery d e) e kept.entries up (leased_there n lease kept.entries e leased)) in λ i. record before { pending = still i }

  pub failed_turns : (s : State) → Keeps (record (after_failed now n e kept) { remotes = without_remote e.addressee forget (after_failed now n e kept).remotes }) s → IsTurned (λ o. done (failed now n lease forget o)) before after kept tt s
  failed_turns s keeps = record {
    outbox = forgetting (failed_at now n e o);
    decided = ap (λ r. done (r >>= λ e. Ok (record (failed_at now n e o) { remotes = without_remote e.addressee forget o.remotes }))) leased;
    keeps = subst (λ k. Keeps k s) (same_kept (after_failure now e.delivery)) keeps;
    counted = counted ∙ same_counts (after_failure now e.delivery);
  }
