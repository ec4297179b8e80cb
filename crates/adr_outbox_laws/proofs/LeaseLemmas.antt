-- What a `Lease` gives, who has a lease, and what settles an entry.
use Rattle.std.proofs.Common.{◌≡◌, ◌≢◌, ◌≤◌, ◌<◌, ℕ, Bool, true, false, cond, List, length, get_or, Option, Some, None, Less, Result, Ok, Err, refl, sym, ap, subst, ◌∙◌, eqb-true, arith}
use Rattle.std.specs.Prelude.{IsSome, IfOk, IfErr, MatchResult, is_ok, is_some, nat_le, nat_lt, ◌==◌}
use Rattle.std.specs.List.{All, Contains}
use Rattle.std.specs.Map.{keys_of}
use Rattle.std.specs.Option.{option_map_or}
use Rattle.std.specs.Ordering.{is_eq, nat_cmp}
use Rattle.std.specs.Cmp.{unsigned_Decides, unsigned_tied}
use Rattle.std.proofs.lemmas.Bool.{and_parts, false_from_ne_true, false≢true, leb-true}
use Rattle.std.proofs.lemmas.Cmp.{nat_cmp_total, ranked, tied_itself}
use Rattle.std.proofs.lemmas.List.{get_or-map}
use Rattle.std.proofs.lemmas.List.Elements.{All-contains, All-contains_itself}
use Rattle.std.proofs.lemmas.Map.Entries.{length-keys_of}
use Rattle.std.proofs.lemmas.Map.Keys.{Less-from_sorted}
use Rattle.std.proofs.lemmas.Option.{same_Some}
use Rattle.adr_text.specs.Refusals.{◌>>=◌, or_else}
use Rattle.adr_text.specs.declared.refusal.Refusal.{Refusal}
use Rattle.adr_text.specs.declared.refusal.Refusal.TheVariants.{Exhausted, LeaseLost}
use Rattle.adr_delivery.specs.declared.delivery.Delivery.{Delivery}
use Rattle.adr_delivery.specs.declared.entry.Entry.{Entry}
use Rattle.adr_delivery.specs.declared.outbox.Outbox.{Outbox}
use Rattle.adr_delivery.specs.Deliveries.{has_lease, leased}
use Rattle.adr_delivery.specs.Jobs.{job_of}
use Rattle.adr_delivery.specs.Next.{next_entry}
use Rattle.adr_delivery.specs.Outboxes.{entry_at, entry_leased, failed_at, sent_at, with_delivery, with_entry, without_remote}
use Rattle.adr_state.specs.declared.limits.Settings.{Settings}
use Rattle.adr_state.specs.declared.state.State.{State}
use Rattle.adr_state.proofs.LawLemmas.{at-insert_entry}
use Rattle.adr_view.proofs.OrderLemmas.{InOrder}
use Rattle.adr_queries.specs.declared.answer.Answer.{Answer}
use Rattle.adr_queries.specs.declared.answer.Answer.TheVariants as answer
use Rattle.adr_machine.specs.declared.command.Command.{Command}
use Rattle.adr_machine.specs.declared.command.Command.TheVariants.{Lease, Sent, Failed}
use Rattle.adr_machine.specs.Deliveries.{job_told}
use Rattle.adr_machine.specs.Runs.{state_after, step_at}
use Rattle.adr_laws.specs.Entries.{IsFirst, reached}
use Rattle.adr_laws.proofs.OutboxLemmas.{leased_first, wait_after}
use Rattle.adr_laws.proofs.WaitLemmas.{goes_to}
use Rattle.adr_outbox_laws.specs.Leases.{AreLeasedOneEach, Gives, HasPresentLease, HasTheLease, IsGiven, IsSettledByTheLease, LeasedHadNoLease, LeaseIsRefusedAtTheLimit, NextHadAllLeases, OneLeaseEach, SettledByItsLease, leased_again}
use Rattle.adr_outbox_laws.specs.Next.{IsTheNext}
use Rattle.adr_outbox_laws.proofs.NextLemmas.{IsAsFound, next_as_found}

-- ---- one lease each

present_is_one : (now : ℕ) (lease : Option ℕ) → option_map_or (λ until. nat_lt now until) lease false ≡ true → IsSome lease
present_is_one now None is = is
present_is_one now (Some until) is = refl

module _ (now : ℕ) (entries : List (ℕ × Entry)) (ordered : InOrder nat_cmp entries) (leads : All (λ e. IsSome e.1.delivery.lease → IsFirst entries e) entries) where
  -- an earlier one has a smaller number
  earlier_less : (i j : ℕ) (d : ℕ × Entry) → i < j → j < length entries → (get_or entries i d).0 < (get_or entries j d).0
  earlier_less i j d earlier within =
      let long = length-keys_of entries in
      let one = get_or-map (λ (e : ℕ × Entry). e.0) entries i d d.0 (omega (arith, earlier, within)) in
      let other = get_or-map (λ (e : ℕ × Entry). e.0) entries j d d.0 within in
      let less = Less-from_sorted nat_cmp (keys_of entries) i j d.0 ordered earlier (omega (arith, within, long)) in
      let keys : get_or (keys_of entries) i d.0 < get_or (keys_of entries) j d.0 = ranked _ _ Less (sym less) in
      omega (arith, keys, one, other)

  each_first : All (λ e. HasPresentLease now e → IsFirst entries e) entries
  each_first = λ i d within is. leads i d within (present_is_one now (get_or entries i d).1.delivery.lease is)

  first_of : (e other : ℕ × Entry) → IsFirst entries e → Contains entries other → goes_to other ≡ goes_to e → e.0 ≤ other.0
  first_of e other is there same = All-contains (λ other. goes_to other ≡ goes_to e → e.0 ≤ other.0) entries other is there same

  pub leased_one_each : AreLeasedOneEach now entries
  leased_one_each = record {
    no_two_of_one_destination = λ i j d earlier within one other same.
        let less = earlier_less i j d earlier within in
        let there : Contains entries (get_or entries i d) = All-contains_itself entries i d (omega (arith, earlier, within)) in
        let first : IsFirst entries (get_or entries j d) = each_first j d within other in
        let least = first_of (get_or entries j d) (get_or entries i d) first there same in
        omega (arith, less, least);
    each_is_first = each_first;
  }

pub one_lease_each : OneLeaseEach
one_lease_each settings cs now = leased_one_each now (reached settings cs).outbox.entries (wait_after settings cs).in_order (leased_first settings cs)

-- ---- what a `Lease` gives

-- what holds of either, of what is made and of what refuses
module _ {A E : Type 0} (P : A → Type 0) (Q : E → Type 0) where
  pub of_made : (r : Result A E) → MatchResult r P Q → IfOk r P
  of_made (Ok x) h = h
  of_made (Err e) h = tt

  pub of_refused : (r : Result A E) → MatchResult r P Q → IfErr r Q
  of_refused (Ok x) h = tt
  of_refused (Err e) h = h

-- a delivery that is leased has one lease more, and one that isn't had as many as there may be
pub leased_is : (most now : ℕ) (d : Delivery) → MatchResult (leased most now d) (λ next. next ≡ leased_again now d) (λ refusal. (refusal ≡ Exhausted) × (most ≤ d.leases))
leased_is most now d = by (nat_le most d.leases) refl
  where
    by : (b : Bool) → nat_le most d.leases ≡ b → MatchResult (cond b (Err Exhausted) (Ok (leased_again now d))) (λ next. next ≡ leased_again now d) (λ refusal. (refusal ≡ Exhausted) × (most ≤ d.leases))
    by true is = (refl, leb-true most d.leases is)
    by false is = refl

-- two numbers that differ don't tie
unlike : (m n : ℕ) → m ≢ n → is_eq (nat_cmp m n) ≡ false
unlike m n differ = unsigned_tied m n ∙ false_from_ne_true (m == n) (λ same. differ (eqb-true m n same))

module _ (settings : Settings) (s : State) (now : ℕ) (ordered : InOrder nat_cmp s.outbox.entries) where
  abbrev pub most : ℕ
  most = settings.limits.serial

  -- what is given, and what refuses
  abbrev pub IsGivenSo : Answer × State → Type 0
  IsGivenSo taken = Gives now s taken.0 taken.1

  abbrev pub IsRefusedSo : Refusal → Type 0
  IsRefusedSo refusal = (refusal ≡ Exhausted) × NextHadAllLeases most now s.outbox.entries

  abbrev pub IsLease : Result (Answer × State) Refusal → Type 0
  IsLease taken = MatchResult taken IsGivenSo IsRefusedSo

  -- the outbox with an entry that is put again
  abbrev with_again : ℕ × Entry → Delivery → Outbox
  with_again e d = with_entry e.0 (with_delivery d e.1) s.outbox

  given : (e : ℕ × Entry) → IsTheNext now s.outbox.entries e → (d : Delivery) → d ≡ leased_again now e.1.delivery → IsGiven now s (record s { outbox = with_again e d }) (job_of (with_again e d) (e.0, with_delivery d e.1))
  given e next d is =
      let put : (n : ℕ) → entry_at n (with_again e d).entries ≡ cond (is_eq (nat_cmp n e.0)) (Some (with_delivery d e.1)) (entry_at n s.outbox.entries) = λ n. at-insert_entry nat_cmp_total n e.0 (with_delivery d e.1) s.outbox.entries in
      record {
        entry = e.1;
        was_the_next = next;
        waits_with_it = put e.0 ∙ ap (λ o. cond (is_eq o) (Some (with_delivery d e.1)) (entry_at e.0 s.outbox.entries)) (tied_itself nat_cmp_total e.0) ∙ ap (λ d. Some (with_delivery d e.1)) is;
        names_its_number = ap (λ (d : Delivery). d.leases) is;
        is_its_job = ap (λ x. job_of (with_again e d) (e.0, with_delivery x e.1)) is;
        others_wait_as_before = λ n differ. put n ∙ ap (λ b. cond b (Some (with_delivery d e.1)) (entry_at n s.outbox.entries)) (unlike n e.0 differ);
        all_else_is_as_before = refl;
      }

  -- what is answered where the next entry was leased so
  abbrev leased_so : ℕ × Entry → Delivery → Option (ℕ × Entry) × Outbox
  leased_so e d = (Some (e.0, with_delivery d e.1), with_again e d)

  abbrev told_so : Option (ℕ × Entry) × Outbox → Answer × Outbox
  told_so l = (job_told l.1 l.0, l.1)

  abbrev left_so : Answer × Outbox → Answer × State
  left_so d = (d.0, record s { outbox = d.1 })

  abbrev after_lease : ℕ × Entry → Result Delivery Refusal → Result (Answer × State) Refusal
  after_lease e r = ((r >>= λ d. Ok (leased_so e d)) >>= λ l. Ok (told_so l)) >>= λ d. Ok (left_so d)

  lease_after : (e : ℕ × Entry) → IsTheNext now s.outbox.entries e → (r : Result Delivery Refusal) → MatchResult r (λ next. next ≡ leased_again now e.1.delivery) (λ refusal. (refusal ≡ Exhausted) × (most ≤ e.1.delivery.leases)) → IsLease (after_lease e r)
  lease_after e next (Ok d) is = given e next d is
  lease_after e next (Err refusal) is = (is.0, record { next = e; is_the_next = next; had_all = is.1 })

  pub lease_gives : IsLease (step_at settings s (now, Lease))
  lease_gives = by (next_entry now s.outbox.entries) refl (next_as_found now s.outbox.entries ordered)
    where
      by : (next : Option (ℕ × Entry)) → next_entry now s.outbox.entries ≡ next → IsAsFound now s.outbox.entries next → IsLease (step_at settings s (now, Lease))
      by None is none = rw is (none, refl)
      by (Some e) is next = rw is (lease_after e next (leased most now e.1.delivery) (leased_is most now e.1.delivery))

pub leased_had_no_lease : LeasedHadNoLease
leased_had_no_lease settings cs now =
    let s : State = reached settings cs in
    let ordered = (wait_after settings cs).in_order in
    of_made (IsGivenSo settings s now ordered) (IsRefusedSo settings s now ordered) (step_at settings s (now, Lease)) (lease_gives settings s now ordered)

pub lease_is_refused : LeaseIsRefusedAtTheLimit
lease_is_refused settings cs now =
    let s : State = reached settings cs in
    let ordered = (wait_after settings cs).in_order in
    of_refused (IsGivenSo settings s now ordered) (IsRefusedSo settings s now ordered) (step_at settings s (now, Lease)) (lease_gives settings s now ordered)

-- ---- what settles an entry

-- the entry of a number is found exactly with its lease
abbrev IsFoundBy : ℕ → ℕ → List (ℕ × Entry) → Result Entry Refusal → Type 0
IsFoundBy n lease entries found = MatchResult found (λ e. HasTheLease entries n lease) (λ refusal. (refusal ≡ LeaseLost) × (HasTheLease entries n lease → ⊥))

leased_found : (n lease : ℕ) (entries : List (ℕ × Entry)) → IsFoundBy n lease entries (entry_leased n lease entries)
leased_found n lease entries = by (entry_at n entries) refl
  where
    has : (e : Entry) → IsSome e.delivery.lease → e.delivery.leases ≡ lease → has_lease lease e.delivery ≡ true
    has e some same = rw (some, (unsigned_Decides e.delivery.leases lease).1 same) refl

    by_lease : (e : Entry) → entry_at n entries ≡ Some e → (b : Bool) → has_lease lease e.delivery ≡ b → IsFoundBy n lease entries (cond b (Ok e) (Err LeaseLost))
    by_lease e is true it =
        let parts = and_parts (is_some e.delivery.lease) (e.delivery.leases == lease) it in
        record { entry = e; waits = is; has_a_lease = parts.0; is_of_that_number = eqb-true e.delivery.leases lease parts.1 }
    by_lease e is false it = (
      refl,
      λ h.
          let same : h.entry ≡ e = same_Some h.entry e (sym h.waits ∙ is) in
          false≢true (sym it ∙ subst (λ (e : Entry). has_lease lease e.delivery ≡ true) same (has h.entry h.has_a_lease h.is_of_that_number)),
    )

    by : (o : Option Entry) → entry_at n entries ≡ o → IsFoundBy n lease entries (or_else LeaseLost o >>= λ e. cond (has_lease lease e.delivery) (Ok e) (Err LeaseLost))
    by None is = (refl, λ h. false≢true (ap is_some (sym is) ∙ ap is_some h.waits))
    by (Some e) is = by_lease e is (has_lease lease e.delivery) refl

-- by whatever names they have
named : {settings : Settings} {s : State} {c : ℕ × Command} (entry its n lease : ℕ) → (entry ≡ n) × (its ≡ lease) → IsSettledByTheLease settings s c entry its → IsSettledByTheLease settings s c n lease
named {settings} {s} {c} entry its n lease same is = subst (λ (m : ℕ). IsSettledByTheLease settings s c n m) same.1 (subst (λ (m : ℕ). IsSettledByTheLease settings s c m its) same.0 is)

-- what is done with an entry that is found so
module _ (settings : Settings) (s : State) (c : ℕ × Command) (n lease : ℕ) (leaves : Entry → Outbox) where
  abbrev done_so : Outbox → Answer × Outbox
  done_so o = (answer.Done, o)

  abbrev then_left : Answer × Outbox → Answer × State
  then_left d = (d.0, record s { outbox = d.1 })

  abbrev after_found : Result Entry Refusal → Result (Answer × State) Refusal
  after_found r = ((r >>= λ e. Ok (leaves e)) >>= λ o. Ok (done_so o)) >>= λ d. Ok (then_left d)

  pub settled_so : step_at settings s c ≡ after_found (entry_leased n lease s.outbox.entries) → IsSettledByTheLease settings s c n lease
  settled_so = by (entry_leased n lease s.outbox.entries) (leased_found n lease s.outbox.entries)
    where
      by : (r : Result Entry Refusal) → IsFoundBy n lease s.outbox.entries r → step_at settings s c ≡ after_found r → IsSettledByTheLease settings s c n lease
      by (Ok e) has is = record {
        accepted = (λ ok. has, λ h. ap is_ok is);
        refused = (λ no. absurd (false≢true (ap is_ok (sym no) ∙ ap is_ok is)), λ none. absurd (none has));
        refusal_leaves_all = λ no. ap (state_after s) no;
      }
      by (Err refusal) lost is = record {
        accepted = (λ ok. absurd (false≢true (ap is_ok (sym is) ∙ ok)), λ h. absurd (lost.1 h));
        refused = (λ no. lost.1, λ none. is ∙ ap (λ refusal. Err refusal) lost.0);
        refusal_leaves_all = λ no. ap (state_after s) no;
      }

pub settled_by_its_lease : SettledByItsLease
settled_by_its_lease settings s now n lease (Sent entry its remote) names = named entry its n lease names (settled_so settings s (now, Sent entry its remote) entry its (λ e. sent_at entry e remote s.outbox) refl)
settled_by_its_lease settings s now n lease (Failed entry its forget) names = named entry its n lease names (settled_so settings s (now, Failed entry its forget) entry its (λ e. record (failed_at now entry e s.outbox) { remotes = without_remote e.addressee forget s.outbox.remotes }) refl)
settled_by_its_lease settings s now n lease command names = absurd names
