-- The counts of entries: as many were made as were sent, given up and dropped, and wait; and no count has stopped short.
use Rattle.std.proofs.Common.{◌≡◌, ◌≤◌, ◌<◌, ◌+◌, ◌-◌, ℕ, Bool, true, false, cond, List, [], ◌∷◌, length, filter, Option, Some, None, inl, inr, Result, IfOk, refl, sym, ap, subst, arith}
use Rattle.std.specs.Prelude.{nat_lt}
use Rattle.std.specs.List.{enumerate_from}
use Rattle.std.specs.Map.{remove_entry}
use Rattle.std.proofs.lemmas.Bool.{ltb-true}
use Rattle.std.proofs.lemmas.List.FromFn.{length-enumerate_from}
use Rattle.std.proofs.lemmas.List.Sums.{count_by-le-length, length-filter}
use Rattle.adr_machine.proofs.Sizes.{found_size, put_size, removed_size}
use Rattle.adr_laws.proofs.Common.{Contains, Contains-from_lookup, eq_by_cmp_equiv, exact_unsigned, insert_entry, is_at, IsDistinct-from_sorted, keys_of, lookup-from_Contains, nat_cmp, nat_cmp_total, tells_apart, Settings, State, Command, at, changed, empty, state_after, step_at, Refusal}
use Rattle.adr_delivery.specs.declared.delivery.Delivery.{Delivery}
use Rattle.adr_delivery.specs.declared.entry.Entry.{Entry}
use Rattle.adr_delivery.specs.declared.outbox.Outbox.{Outbox}
use Rattle.adr_delivery.specs.Outboxes.{appended, counts_of, has_addressee, kept_for, with_delivery, with_entries}
use Rattle.adr_delivery.specs.Tallies.{most_tally, plus}
use Rattle.adr_state.specs.declared.limits.Limits.{Limits}
use Rattle.adr_view.proofs.OrderLemmas.{InOrder, in_order_put}
use Rattle.adr_view.proofs.RowLemmas.{from_put}
use Rattle.adr_queries.specs.declared.answer.Answer.{Answer}
use Rattle.adr_notices.specs.Committed.{numbered}
use Rattle.adr_machine.specs.Edits.{Decision, draws_number}
use Rattle.adr_laws.specs.Entries.{AddUp, EntriesAreCounted, reached}
use Rattle.adr_laws.proofs.Decisions.{entries_by, next_by, after_step}
use Rattle.adr_laws.proofs.NumberLemmas.{rises, serial_then}
use Rattle.adr_laws.proofs.OutboxLemmas.{AllWait, left_wait, step_waits}
use Rattle.adr_laws.proofs.RunLemmas.{run_keeps}
use Rattle.adr_laws.proofs.WaitLemmas.{IsLeased, Wait, none_wait, delivered_holds}

-- ---- how many rows there are

-- a number behind all that are there is not found
not_yet : {V : Type 0} (n : ℕ) (rows : List (ℕ × V)) → ((x : ℕ × V) → Contains rows x → x.0 < n) → at nat_cmp n rows ≡ None
not_yet {V} n rows low = by (at nat_cmp n rows) refl
  where
    by : (o : Option V) → at nat_cmp n rows ≡ o → o ≡ None
    by None is = refl
    by (Some v) is = absurd (let less = low (n, v) (Contains-from_lookup (tells_apart exact_unsigned) n v rows is) in omega (arith, less))

-- further ones, behind them
more_size : (from : ℕ) (further : List Entry) (rows : List (ℕ × Entry)) → InOrder nat_cmp rows → ((x : ℕ × Entry) → Contains rows x → x.0 < from) → length (with_entries (enumerate_from from further) rows) ≡ length rows + length further
more_size from [] rows ordered low = omega arith
more_size from (e ∷ further) rows ordered low =
    let one = put_size nat_cmp_total from e rows ordered in
    let none = ap found_size (not_yet from rows low) in
    let rest = more_size (from + 1) further (insert_entry nat_cmp rows from e) (in_order_put nat_cmp_total from e rows ordered)
    (λ x there. elim (from_put exact_unsigned from e rows x there) [ inl old ↦ (let less = low x old in omega (arith, less)) | inr new ↦ (let number = ap (λ (x : ℕ × Entry). x.0) new in omega (arith, number)) ]) in
    omega (arith, one, none, rest)

-- ---- counts

-- below what it stops at, a count is as many more
exactly : (n more : ℕ) → n + more ≤ most_tally → plus n more ≡ n + more
exactly n more within = by (nat_lt most_tally (n + more)) refl
  where
    by : (b : Bool) → nat_lt most_tally (n + more) ≡ b → cond b most_tally (n + more) ≡ n + more
    by false is = refl
    by true is = absurd (let over = ltb-true most_tally (n + more) is in omega (arith, within, over))

-- they add up, and no more were made than numbers were drawn
pub record Counted (serial : ℕ) (o : Outbox) : Type 0 where
  pub add_up : AddUp (counts_of o)
  pub made_low : o.counts.made ≤ serial

module _ {serial : ℕ} {o : Outbox} (h : Counted serial o) (ordered : InOrder nat_cmp o.entries) (within : serial ≤ most_tally) where
  -- an entry that has another delivery is counted as before
  again_counted : (n : ℕ) (e : Entry) (d : Delivery) (remotes : List (List ℕ × List ℕ)) → Contains o.entries (n, e) → Counted serial (record o { entries = insert_entry nat_cmp o.entries n (with_delivery d e); remotes = remotes })
  again_counted n e d remotes there =
      let found : at nat_cmp n o.entries ≡ Some e = lookup-from_Contains (eq_by_cmp_equiv nat_cmp_total) n e o.entries (IsDistinct-from_sorted nat_cmp (keys_of o.entries) ordered) there in
      let one = ap found_size found in
      let size = put_size nat_cmp_total n (with_delivery d e) o.entries ordered in
      let all = h.add_up in
      record { add_up = omega (arith, one, size, all); made_low = h.made_low }

  -- one that leaves is counted
  module _ (n : ℕ) (e : Entry) (remotes : List (List ℕ × List ℕ)) (leased : IsLeased n o.entries e) where
    one_less : length (remove_entry (is_at (nat_cmp n)) o.entries) + 1 ≡ length o.entries
    one_less = let one = ap found_size leased.0 in let size = removed_size nat_cmp n o.entries in omega (arith, one, size)

    sent_counted : Counted serial (record { entries = remove_entry (is_at (nat_cmp n)) o.entries; remotes = remotes; counts = record o.counts { sent = plus o.counts.sent 1 } })
    sent_counted =
        let all = h.add_up in
        let low = h.made_low in
        let less = one_less in
        let more = exactly o.counts.sent 1 (omega (arith, all, low, less, within)) in
        record { add_up = omega (arith, all, less, more); made_low = low }

    given_up_counted : Counted serial (record { entries = remove_entry (is_at (nat_cmp n)) o.entries; remotes = remotes; counts = record o.counts { given_up = plus o.counts.given_up 1 } })
    given_up_counted =
        let all = h.add_up in
        let low = h.made_low in
        let less = one_less in
        let more = exactly o.counts.given_up 1 (omega (arith, all, low, less, within)) in
        record { add_up = omega (arith, all, less, more); made_low = low }

  -- those that are dropped are counted
  kept_counted : {S : Type 0} (subs : List (ℕ × S)) → Counted serial (kept_for subs o)
  kept_counted subs =
      let left : ℕ = length (filter (has_addressee subs) o.entries) in
      let fewer : left ≤ length o.entries = subst (λ k. k ≤ length o.entries) (sym (length-filter (has_addressee subs) o.entries)) (count_by-le-length (has_addressee subs) o.entries) in
      let all = h.add_up in
      let low = h.made_low in
      let more = exactly o.counts.dropped (length o.entries - left) (omega (arith, all, low, fewer, within)) in
      record { add_up = omega (arith, all, fewer, more); made_low = low }

  -- and so are further ones, at the numbers that are drawn for them
  more_counted : (next : ℕ) (entries : List Entry) → serial ≤ next → ((x : ℕ × Entry) → Contains o.entries x → x.0 ≤ next) → next + length entries ≤ most_tally → Counted (next + length entries) (appended (numbered next entries) o)
  more_counted next entries passed drawn room =
      let size = more_size (next + 1) entries o.entries ordered (λ x there. let low = drawn x there in omega (arith, low)) in
      let many = length-enumerate_from (next + 1) entries in
      let all = h.add_up in
      let low = h.made_low in
      let more = exactly o.counts.made (length (numbered next entries)) (omega (arith, many, low, passed, room)) in
      record { add_up = omega (arith, size, many, all, more); made_low = omega (arith, many, more, low, passed) }

-- ---- runs

module _ (settings : Settings) (bounded : settings.limits.serial ≤ most_tally) where
  -- the serial is within its limit, and what waits is counted
  abbrev pub AllCounted : State → Type 0
  AllCounted s = (s.base.serial ≤ settings.limits.serial) × Counted s.base.serial s.outbox

  step_counts : (s : State) (c : ℕ × Command) → AllWait 0 [] s → AllCounted s → AllCounted (state_after s (step_at settings s c))
  step_counts s c waits h =
      after_step settings s c (λ r. AllCounted (state_after s r)) (λ refusal. h)
      (λ a o is done. (
        h.0,
        subst (λ (r : Result (Answer × Outbox) Refusal). IfOk r (λ d. Counted s.base.serial d.1)) done
            (delivered_holds s.outbox waits.in_order (Counted s.base.serial) h.1 (λ n e d remotes there leads. again_counted h.1 waits.in_order low n e d remotes there) (λ n e remotes is. sent_counted h.1 waits.in_order low n e remotes is)
            (λ n e remotes is. given_up_counted h.1 waits.in_order low n e remotes is) settings.limits c.0 c.1 is),
      ))
      (λ d a is. (is.within h.0, edited d (is.within h.0)))
    where
      low : s.base.serial ≤ most_tally
      low = let most = h.0 in omega (arith, most, bounded)

      edited : (d : Decision) → (next_by settings s c d).1 ≤ settings.limits.serial → Counted (next_by settings s c d).1 (next_by settings s c d).0
      edited d most =
          let left : Wait 0 [] (serial_then s.base.serial (draws_number c.1)) (filter (has_addressee (changed d.change s.base).portfolio.subs) s.outbox.entries) = left_wait 0 [] s c d waits in
          more_counted (kept_counted h.1 waits.in_order low (changed d.change s.base).portfolio.subs) left.in_order low (serial_then s.base.serial (draws_number c.1)) (entries_by settings s c d) (rises s.base.serial (draws_number c.1)) (λ x there. (left.drawn x there).up_to_the_serial) (omega (arith, most, bounded))

  pub counted_after : (cs : List (ℕ × Command)) → AllCounted (reached settings cs)
  counted_after cs =
      (run_keeps (step_at settings) (λ s. AllWait 0 [] s × AllCounted s) (λ s c h. (step_waits 0 [] settings s c h.0, step_counts s c h.0 h.1)) empty cs (none_wait, (omega arith, record { add_up = refl; made_low = omega arith }))).1

pub entries_counted : (limits : Limits) → limits.serial ≤ most_tally → EntriesAreCounted limits
entries_counted limits bounded client cs = let h = (counted_after (record { client = client; limits = limits }) bounded cs).1 in record { add_up = h.add_up; each_has_a_number = h.made_low }
