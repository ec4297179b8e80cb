-- The entries of the outbox over runs: their numbers, and the order in which they leave.
use Rattle.std.proofs.Common.{◌≡◌, ◌≤◌, ◌+◌, ℕ, Bool, true, false, not, List, [], ◌∷◌, filter, Some, None, Result, IfOk, refl, sym, ap, subst, ◌∙◌, arith}
use Rattle.std.specs.Prelude.{IsSome, is_some, ◌==◌}
use Rattle.std.specs.List.{enumerate_from}
use Rattle.std.specs.Map.{remove_entry}
use Rattle.std.proofs.lemmas.List.Elements.{All-weaker}
use Rattle.std.proofs.lemmas.Option.{same_Some}
use Rattle.adr_laws.proofs.Common.{All, Contains, Contains-from_lookup, eq_by_cmp_equiv, exact_unsigned, false≢true, insert_entry, is_at, IsDistinct-from_sorted, keys_of, lookup-from_Contains, nat_cmp, nat_cmp_total, tells_apart, unsigned_Decides, Settings, State, Command, changed, empty, state_after, step_at, Refusal}
use Rattle.adr_delivery.specs.declared.delivery.Delivery.{Delivery}
use Rattle.adr_delivery.specs.declared.entry.Entry.{Entry}
use Rattle.adr_delivery.specs.declared.outbox.Outbox.{Outbox}
use Rattle.adr_delivery.specs.Outboxes.{entry_at, has_addressee, with_delivery, with_entries}
use Rattle.adr_view.proofs.ListLemmas.{in_filter}
use Rattle.adr_view.proofs.OrderLemmas.{InOrder, in_order_filtered, in_order_removed}
use Rattle.adr_view.proofs.RowLemmas.{each_there, from_filter, from_removal, found_after_put, found_after_removal}
use Rattle.adr_queries.specs.declared.answer.Answer.{Answer}
use Rattle.adr_machine.specs.Edits.{Decision, draws_number, is_delivery}
use Rattle.adr_machine.proofs.Made.{IsUntried, made_untried}
use Rattle.adr_laws.specs.Entries.{reached, numbers_waiting, EntriesAreNumberedOnce, IsFirst, LeasedAreFirst, Leaves, EntriesLeaveInOrder, OthersLeaveWithTheirSubscription}
use Rattle.adr_laws.specs.Standing.{state_of}
use Rattle.adr_laws.proofs.Decisions.{base_after, entries_by, state_by, after_step}
use Rattle.adr_laws.proofs.NumberLemmas.{each_number, rises, serial_then}
use Rattle.adr_laws.proofs.RunLemmas.{run_keeps, state_of-append, state_of-push}
use Rattle.adr_laws.proofs.WaitLemmas.{First, goes_to, IsLeased, Wait, none_wait, some_wait, wait_from_here, put_again, more_wait, delivered_holds}

-- ---- what is made has no lease

abbrev pub AreFresh : List Entry → Type 0
AreFresh entries = All (λ e. e.delivery.lease ≡ None) entries

pub made_fresh : (settings : Settings) (s : State) (c : ℕ × Command) (d : Decision) → AreFresh (entries_by settings s c d)
made_fresh settings s c d =
    All-weaker IsUntried (λ e. e.delivery.lease ≡ None) (λ e is. ap (λ (d : Delivery). d.lease) is) (entries_by settings s c d) (made_untried settings s c.0 (base_after s.base c.1 d))

-- ---- a step

-- those that an edit leaves
abbrev pub left_by : State → Decision → List (ℕ × Entry)
left_by s d = filter (has_addressee (changed d.change s.base).portfolio.subs) s.outbox.entries

module _ (first : ℕ) (had : List ℕ) where
  abbrev pub AllWait : State → Type 0
  AllWait s = Wait first had s.base.serial s.outbox.entries

  pub left_wait : (s : State) (c : ℕ × Command) (d : Decision) → AllWait s → Wait first had (serial_then s.base.serial (draws_number c.1)) (left_by s d)
  left_wait s c d h =
      let passes = has_addressee (changed d.change s.base).portfolio.subs in
      some_wait h (left_by s d) (rises s.base.serial (draws_number c.1)) (in_order_filtered nat_cmp passes s.outbox.entries h.in_order) (λ e there. (from_filter passes s.outbox.entries e there).0)

  pub step_waits : (settings : Settings) (s : State) (c : ℕ × Command) → AllWait s → AllWait (state_after s (step_at settings s c))
  step_waits settings s c h =
      after_step settings s c (λ r. AllWait (state_after s r)) (λ refusal. h)
      (λ a o is done. subst (λ (r : Result (Answer × Outbox) Refusal). IfOk r (λ d. Wait first had s.base.serial d.1.entries)) done (delivered_holds s.outbox h.in_order (λ o. Wait first had s.base.serial o.entries) h (λ n e d remotes there leads. put_again h n e d there leads) gone gone settings.limits c.0 c.1 is))
      (λ d a is. more_wait (entries_by settings s c d) (made_fresh settings s c d) (serial_then s.base.serial (draws_number c.1)) (left_by s d) (left_wait s c d h) (omega arith))
    where
      gone : (n : ℕ) (e : Entry) (remotes : List (List ℕ × List ℕ)) → IsLeased n s.outbox.entries e → Wait first had s.base.serial (remove_entry (is_at (nat_cmp n)) s.outbox.entries)
      gone n e remotes is = some_wait h _ (omega arith) (in_order_removed nat_cmp (is_at (nat_cmp n)) s.outbox.entries h.in_order) (from_removal (is_at (nat_cmp n)) s.outbox.entries)

  pub run_waits : (settings : Settings) (s : State) (cs : List (ℕ × Command)) → AllWait s → AllWait (state_of (step_at settings) s cs)
  run_waits settings = run_keeps (step_at settings) AllWait (step_waits settings)

pub wait_after : (settings : Settings) (cs : List (ℕ × Command)) → AllWait 0 [] (reached settings cs)
wait_after settings cs = run_waits 0 [] settings empty cs none_wait

-- ---- numbers

pub entries_numbered_once : EntriesAreNumberedOnce
entries_numbered_once settings cs more =
    let s : State = reached settings cs in
    let t : State = state_of (step_at settings) s more in
    let h : AllWait s.base.serial (numbers_waiting s) t = run_waits s.base.serial (numbers_waiting s) settings s more (wait_from_here (wait_after settings cs)) in
    subst (λ (t : State). All (λ n. n ≤ s.base.serial → Contains (numbers_waiting s) n) (numbers_waiting t)) (sym (state_of-append (step_at settings) empty cs more)) (each_number (λ n. n ≤ s.base.serial → Contains (numbers_waiting s) n) t.outbox.entries (λ e there. (h.drawn e there).was_there))

-- ---- the order in which they leave

pub leased_first : LeasedAreFirst
leased_first settings cs =
    let s : State = reached settings cs in
    each_there (λ e. IsSome e.1.delivery.lease → IsFirst s.outbox.entries e) s.outbox.entries
    (λ e there leased. each_there (λ other. goes_to other ≡ goes_to e → e.0 ≤ other.0) s.outbox.entries (λ other among same. (wait_after settings cs).leased_first e there leased other among same))

-- an entry that is found is no longer there
module _ (e : ℕ × Entry) (entries : List (ℕ × Entry)) (found : entry_at e.0 entries ≡ Some e.1) where
  not_gone : {A : Type 0} → entry_at e.0 entries ≡ None → A
  not_gone gone = absurd (false≢true (ap is_some (sym gone) ∙ ap is_some found))

  -- but for a removal of its own number
  gone_alone : {A : Type 0} → InOrder nat_cmp entries → (n : ℕ) → (e.0 ≡ n → A) → entry_at e.0 (remove_entry (is_at (nat_cmp n)) entries) ≡ None → A
  gone_alone {A} ordered n its gone = by (e.0 == n) refl
    where
      by : (b : Bool) → (e.0 == n) ≡ b → A
      by true same = its ((unsigned_Decides e.0 n).0 same)
      by false other = absurd (false≢true (ap is_some (sym gone) ∙ found_after_removal e.0 entries n ordered (ap not other) (ap is_some found)))

  stays_put : {A : Type 0} (n : ℕ) (v : Entry) → entry_at e.0 (insert_entry nat_cmp entries n v) ≡ None → A
  stays_put n v gone = absurd (false≢true (ap is_some (sym gone) ∙ found_after_put e.0 entries n v (ap is_some found)))

  -- and further ones leave it
  stays_with : (from : ℕ) (further : List Entry) → IsSome (entry_at e.0 (with_entries (enumerate_from from further) entries))
  stays_with from further = more from further entries (ap is_some found)
    where
      more : (from : ℕ) (further : List Entry) (rows : List (ℕ × Entry)) → IsSome (entry_at e.0 rows) → IsSome (entry_at e.0 (with_entries (enumerate_from from further) rows))
      more from [] rows there = there
      more from (x ∷ further) rows there = more (from + 1) further (insert_entry nat_cmp rows from x) (found_after_put e.0 rows from x there)

module _ (settings : Settings) (cs : List (ℕ × Command)) (c : ℕ × Command) (e : ℕ × Entry) (leaves : Leaves settings cs c e) where
  abbrev s : State
  s = reached settings cs

  abbrev GoneIn : State → Type 0
  GoneIn t = entry_at e.0 t.outbox.entries ≡ None

  gone_after : GoneIn (state_after s (step_at settings s c))
  gone_after = subst GoneIn (state_of-push (step_at settings) empty cs c) leaves.is_gone

  first_leaves : is_delivery c.1 ≡ true → First s.outbox.entries e
  first_leaves delivers =
      after_step settings s c (λ r. GoneIn (state_after s r) → First s.outbox.entries e) (λ refusal. not_gone e s.outbox.entries leaves.waited)
      (λ a o is done. subst (λ (r : Result (Answer × Outbox) Refusal). IfOk r (λ d. Holds d.1)) done (delivered_holds s.outbox (wait_after settings cs).in_order Holds (not_gone e s.outbox.entries leaves.waited) (λ n x d remotes there leads. stays_put e s.outbox.entries leaves.waited n (with_delivery d x)) goes goes settings.limits c.0 c.1 is))
      (λ d a is gone. absurd (false≢true (sym is.edits ∙ delivers))) gone_after
    where
      Holds : Outbox → Type 0
      Holds o = entry_at e.0 o.entries ≡ None → First s.outbox.entries e

      goes : (n : ℕ) (x : Entry) (remotes : List (List ℕ × List ℕ)) → IsLeased n s.outbox.entries x → entry_at e.0 (remove_entry (is_at (nat_cmp n)) s.outbox.entries) ≡ None → First s.outbox.entries e
      goes n x remotes leased =
          gone_alone e s.outbox.entries leaves.waited (wait_after settings cs).in_order n (λ number.
          let same : x ≡ e.1 = same_Some x e.1 (sym leased.0 ∙ ap (λ n. entry_at n s.outbox.entries) (sym number) ∙ leaves.waited) in
          (wait_after settings cs).leased_first e (Contains-from_lookup (tells_apart exact_unsigned) e.0 e.1 s.outbox.entries leaves.waited) (subst (λ (x : Entry). IsSome x.delivery.lease) same leased.1))

  others_leave : is_delivery c.1 ≡ false → has_addressee (state_after s (step_at settings s c)).base.portfolio.subs e ≡ false
  others_leave edits =
      after_step settings s c (λ r. GoneIn (state_after s r) → has_addressee (state_after s r).base.portfolio.subs e ≡ false) (λ refusal. not_gone e s.outbox.entries leaves.waited)
      (λ a o is done gone. absurd (false≢true (sym edits ∙ is))) (λ d a is. by_addressee d (has_addressee (changed d.change s.base).portfolio.subs e) refl) gone_after
    where
      by_addressee : (d : Decision) (b : Bool) → has_addressee (changed d.change s.base).portfolio.subs e ≡ b → GoneIn (state_by settings s c d) → b ≡ false
      by_addressee d false other gone = refl
      by_addressee d true has gone =
          let there : Contains s.outbox.entries e = Contains-from_lookup (tells_apart exact_unsigned) e.0 e.1 s.outbox.entries leaves.waited in
          let left : Contains (left_by s d) e = in_filter (has_addressee (changed d.change s.base).portfolio.subs) s.outbox.entries e has there in
          let found : entry_at e.0 (left_by s d) ≡ Some e.1 = lookup-from_Contains (eq_by_cmp_equiv nat_cmp_total) e.0 e.1 (left_by s d) (IsDistinct-from_sorted nat_cmp (keys_of (left_by s d)) (left_wait 0 [] s c d (wait_after settings cs)).in_order) left in
          absurd (false≢true (ap is_some (sym gone) ∙ stays_with e (left_by s d) found (serial_then s.base.serial (draws_number c.1) + 1) (entries_by settings s c d)))

pub leave_in_order : EntriesLeaveInOrder
leave_in_order settings cs c e delivers leaves = each_there (λ other. goes_to other ≡ goes_to e → e.0 ≤ other.0) (reached settings cs).outbox.entries (first_leaves settings cs c e leaves delivers)

pub others_leave_with_theirs : OthersLeaveWithTheirSubscription
others_leave_with_theirs settings cs c e edits leaves = subst (λ (t : State). has_addressee t.base.portfolio.subs e ≡ false) (sym (state_of-push (step_at settings) empty cs c)) (others_leave settings cs c e leaves edits)
