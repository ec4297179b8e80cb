-- What a lease makes of the outbox that is kept.
use Rattle.std.proofs.Common.{◌≡◌, ℕ, None, Some, Option, Ok, Result, length, refl, sym, ap, ◌∙◌}
use Rattle.std.specs.Prelude.{option_map}
use Rattle.adr_text.specs.Refusals.{◌>>=◌}
use Rattle.adr_text.specs.declared.refusal.Refusal.{Refusal}
use Rattle.adr_db.proofs.Common.{State}
use Rattle.adr_db.proofs.Entries.{NumbersRise}
use Rattle.adr_delivery.specs.declared.addressee.Addressee.{Addressee}
use Rattle.adr_delivery.specs.declared.addressee.Addressee.TheVariants.{Utility, Subscriber}
use Rattle.adr_delivery.specs.declared.delivery.Delivery.{Delivery}
use Rattle.adr_delivery.specs.declared.entry.Entry.{Entry}
use Rattle.adr_delivery.specs.declared.job.Job.{Job}
use Rattle.adr_delivery.specs.declared.outbox.Outbox.{Outbox}
use Rattle.adr_delivery.specs.Deliveries.{leased}
use Rattle.adr_delivery.specs.Jobs.{job_for, job_of}
use Rattle.adr_delivery.specs.Next.{next_entry}
use Rattle.adr_delivery.specs.Outboxes.{with_delivery, with_entry, leased_at, lease_next, remote_for}
use Rattle.adr_db.specs.declared.meta.Meta.{Meta}
use Rattle.adr_db.specs.Kept.{Kept, Keeps, with_waiting}
use Rattle.adr_db.specs.Images.{outbox_of}
use Rattle.adr_outbox.specs.Turned.{IsTurned}
use Rattle.adr_outbox.specs.Told.{job_leased}
use Rattle.adr_outbox.proofs.Waiting.{next_at, as_many}

-- an entry says nothing of the ids
pub same_ids : (numbers : Meta) (n : ℕ) (e : Entry) (kept : Kept) (a : Addressee) → remote_for a (outbox_of numbers (with_waiting n e kept)) ≡ remote_for a (outbox_of numbers kept)
same_ids numbers n e kept (Utility event) = refl
same_ids numbers n e kept (Subscriber subscription address token) = refl

-- what is decided where this is the next entry
lease_is : (most now : ℕ) (o : Outbox) (next : Option (ℕ × Entry)) → next_entry now o.entries ≡ next → (lease : Result (Option (ℕ × Entry) × Outbox) Refusal)
    → ((e : ℕ × Entry) → next ≡ Some e → leased_at most now o e ≡ lease) → (next ≡ None → lease ≡ Ok (None, o)) → lease_next most now o ≡ lease
lease_is most now o None is lease some none = rw is (sym (none refl))
lease_is most now o (Some e) is lease some none = rw is (some e refl)

module _ (most now : ℕ) (numbers : Meta) (kept : Kept) (same : numbers.pending ≡ length kept.entries) where
  abbrev o : Outbox
  o = outbox_of numbers kept

  -- there is none
  pub none_leased : (s : State) → None ≡ next_entry now kept.entries → Keeps kept s → IsTurned (job_leased most now) numbers numbers kept None s
  none_leased s none keeps = record {
    outbox = o;
    decided = ap (λ (r : Result (Option (ℕ × Entry) × Outbox) Refusal). r >>= λ l. Ok (option_map (job_of l.1) l.0, l.1)) (lease_is most now o None (sym none) (Ok (None, o)) (λ e is. absurd cc) (λ is. refl));
    keeps = keeps;
    counted = λ i. record numbers { pending = same i };
  }

  -- this one has a lease more, and is told as a job
  pub one_leased : (s : State) (n : ℕ) (e : Entry) (d : Delivery) (job : Job) → NumbersRise kept.entries → Some (n, e) ≡ next_entry now kept.entries → leased most now e.delivery ≡ Ok d
      → job ≡ job_for (remote_for e.addressee o) (n, with_delivery d e) → Keeps (with_waiting n (with_delivery d e) kept) s → IsTurned (job_leased most now) numbers numbers kept (Some job) s
  one_leased s n e d job up is lease told keeps =
      let after = with_entry n (with_delivery d e) o in
      let leases : leased_at most now o (n, e) ≡ Ok (Some (n, with_delivery d e), after) =
      ap (λ (r : Result Delivery Refusal). r >>= λ d. Ok (Some (n, with_delivery d e), with_entry n (with_delivery d e) o)) lease in
      let next = lease_is most now o (Some (n, e)) (sym is) (Ok (Some (n, with_delivery d e), after)) (λ x found. let same_one : (n, e) ≡ x = cc in ap (leased_at most now o) (sym same_one) ∙ leases) (λ none. absurd cc) in
      let still = same ∙ sym (as_many n (with_delivery d e) e kept.entries up (next_at now kept.entries up n e (sym is))) in
      record {
        outbox = after;
        decided = ap (λ (r : Result (Option (ℕ × Entry) × Outbox) Refusal). r >>= λ l. Ok (option_map (job_of l.1) l.0, l.1)) next ∙ ap (λ remote. Ok (Some (job_for remote (n, with_delivery d e)), after)) (same_ids numbers n (with_delivery d e) kept e.addressee) ∙ ap (λ j. Ok (Some j, after)) (sym told);
        keeps = keeps;
        counted = λ i. record numbers { pending = still i };
      }
