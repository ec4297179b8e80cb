-- A step leaves a state that is within limits that no limit of its node is above: so one that a desk may hold.
use Rattle.std.proofs.Common.{◌≡◌, ℕ, ◌+◌, ◌≤◌, Bool, true, false, not, ◌==◌, inl, inr, List, [], ◌∷◌, length, filter, map, Option, Some, None, Result, Ok, Err, IfOk, Ordering, refl, sym, ap, subst, ◌∙◌, arith}
use Rattle.std.specs.Prelude.{nat_le, nat_lt, is_some, option_map, IsSome, IfSome}
use Rattle.std.specs.BTreeMap.{insert_entry, is_at}
use Rattle.std.specs.BTreeSet.{insert_key}
use Rattle.std.specs.Cmp.{IsTotalOrder, unsigned_Decides}
use Rattle.std.specs.List.{All, Contains, enumerate_from}
use Rattle.std.specs.Map.{keys_of, remove_entry, values_of}
use Rattle.std.specs.Option.{option_map_or}
use Rattle.std.specs.Ordering.{nat_cmp}
use Rattle.std.proofs.lemmas.Bool.{and_cases, cond_both, leb-false, ltb-false, true≢false}
use Rattle.std.proofs.lemmas.Cmp.{eq_by_cmp_equiv, nat_cmp_total, nat_list_cmp_total, on_total, then_total}
use Rattle.std.proofs.lemmas.List.{length-map}
use Rattle.std.proofs.lemmas.List.Elements.{All-cons, All-head, All-nil, All-tail, Contains-append_right}
use Rattle.std.proofs.lemmas.List.FromFn.{length-enumerate_from}
use Rattle.std.proofs.lemmas.List.Sums.{count_by-le-length, length-filter}
use Rattle.std.proofs.lemmas.Map.Views.{All-map-remove_entry, All-values-insert_entry, IfSome-lookup_from_All, IsSome-lookup_from_Contains}
use Rattle.adr_text.specs.Refusals.{◌>>=◌}
use Rattle.adr_text.specs.declared.refusal.Refusal.{Refusal}
use Rattle.adr_text.specs.declared.refusal.Refusal.TheVariants as refusal
use Rattle.adr_delivery.specs.declared.delivery.Delivery.{Delivery}
use Rattle.adr_delivery.specs.declared.entry.Entry.{Entry}
use Rattle.adr_delivery.specs.declared.outbox.Outbox.{Outbox}
use Rattle.adr_delivery.specs.Deliveries as delivery
use Rattle.adr_delivery.specs.Entries.{destination}
use Rattle.adr_delivery.specs.Failing.{one_more, wait_after}
use Rattle.adr_delivery.specs.Next.{may_be_next, next_after, next_entry}
use Rattle.adr_delivery.specs.Outboxes.{entry_at, entry_leased, failed, has_addressee, kept_for, lease_next, sent, with_delivery, with_entries, with_entry, without_entry}
use Rattle.adr_delivery.specs.Tallies.{plus}
use Rattle.adr_notices.specs.Committed.{numbered, with_further}
use Rattle.adr_state.specs.declared.base.Base.{Base}
use Rattle.adr_state.specs.declared.base.Mark.{Mark}
use Rattle.adr_state.specs.declared.keys.FrozenKey.{FrozenKey}
use Rattle.adr_state.specs.declared.keys.MirrorKey.{MirrorKey}
use Rattle.adr_state.specs.declared.keys.ShareKey.{ShareKey}
use Rattle.adr_state.specs.declared.limits.Limits.{Limits}
use Rattle.adr_state.specs.declared.limits.Settings.{Settings}
use Rattle.adr_state.specs.declared.portfolio.Portfolio.{Portfolio}
use Rattle.adr_state.specs.declared.state.State.{State}
use Rattle.adr_state.specs.BaseChanges.{BaseChange, ChangePortfolio, JoinMarks, SetScan, changed}
use Rattle.adr_state.specs.Fitting.{Fits, IsMap}
use Rattle.adr_state.specs.Frozen.{is_frozen, is_of_event, frozen_row, with_pairs, with_frozen}
use Rattle.adr_state.specs.Keys.{at, frozen_cmp, id_cmp, mirror_cmp, share_cmp}
use Rattle.adr_state.specs.Limits.{AreSmall, largest}
use Rattle.adr_state.specs.Marks.{is_below}
use Rattle.adr_state.specs.Mirror.{joined, raised}
use Rattle.adr_state.specs.Portfolios.{PortfolioChange, PutVen, DropVen, PutResource, DropResource, PutShare, DropShare, PutReport, DropReport, PutSub, DropSub, Freeze, portfolio_after}
use Rattle.adr_state.specs.Serials.{drawn}
use Rattle.adr_state.specs.States.{empty}
use Rattle.adr_state.proofs.LawLemmas.{key_order}
use Rattle.adr_view.proofs.FrozenLemmas.{frozen_now, frozen_total}
use Rattle.adr_view.proofs.OrderLemmas.{InOrder, in_order_filtered, in_order_put, in_order_removed, in_order_rows, none_sorted}
use Rattle.adr_queries.specs.declared.answer.Answer.{Answer}
use Rattle.adr_machine.specs.declared.command.Command.{Command}
use Rattle.adr_machine.specs.declared.command.Command.TheVariants.{Lease, Sent, Failed}
use Rattle.adr_machine.specs.declared.outcome.Outcome.{Outcome}
use Rattle.adr_machine.specs.Deliveries.{delivered}
use Rattle.adr_machine.specs.Edits.{Decision, decided, draws_number, edit, edit_of, is_allowed, is_delivery}
use Rattle.adr_machine.specs.Edits as edits
use Rattle.adr_machine.specs.Steps.{answered_by, committed, delivery_step, edit_step, entries_then, outbox_then, step}
use Rattle.adr_machine.specs.Steps as steps
use Rattle.adr_machine.specs.Named.{NamesReport}
use Rattle.adr_machine.specs.Within.{AreEntriesWithin, AreSitesWithin, IsWithin}
use Rattle.adr_machine.proofs.EditLemmas.{first_then, found_then, tested, whatever}
use Rattle.adr_machine.proofs.Made.{IsUntried, made_untried}
use Rattle.adr_machine.proofs.Rooms.{BaseHasRoom, HasPairRoom, HasRoom, IsFit, SitesHaveRoom, decided_room}
use Rattle.adr_machine.proofs.Sizes.{found_size, more_rows, put_size, removed_size}

-- ---- limits

-- no limit is above that of others
pub record AreUnder (limits most : Limits) : Type 0 where
  pub keys : limits.keys ≤ most.keys
  pub vens : limits.vens ≤ most.vens
  pub subs : limits.subs ≤ most.subs
  pub resources : limits.resources ≤ most.resources
  pub shares : limits.shares ≤ most.shares
  pub reports : limits.reports ≤ most.reports
  pub frozen : limits.frozen ≤ most.frozen
  pub pending : limits.pending ≤ most.pending
  pub serial : limits.serial ≤ most.serial

pub under_themselves : (limits : Limits) → AreUnder limits limits
under_themselves limits = record { keys = omega arith; vens = omega arith; subs = omega arith; resources = omega arith; shares = omega arith; reports = omega arith; frozen = omega arith; pending = omega arith; serial = omega arith }

pub under_largest : {limits : Limits} → AreSmall limits → AreUnder limits largest
under_largest small = record { keys = small.keys; vens = small.vens; subs = small.subs; resources = small.resources; shares = small.shares; reports = small.reports; frozen = small.frozen; pending = small.pending; serial = small.serial }

-- ---- one map

found_one : {V : Type 0} (o : Option V) → IsSome o → found_size o ≡ 1
found_one None there = absurd (let no : false ≡ true = there in cc)
found_one (Some v) there = refl

module _ {K V : Type 0} {cmp : K → K → Ordering} {most : ℕ} {rows : List (K × V)} where
  put_fits : IsTotalOrder cmp → {limit : ℕ} → limit ≤ most → (k : K) (v : V) → IsMap cmp most rows → HasRoom cmp limit rows k → IsMap cmp most (insert_entry cmp rows k v)
  put_fits order {limit} small k v h room =
      record { rises = in_order_put order k v rows h.rises; few = by room }
    where
      size : length (insert_entry cmp rows k v) + found_size (at cmp k rows) ≡ length rows + 1
      size = put_size order k v rows h.rises

      few : length rows ≤ most
      few = h.few

      by : HasRoom cmp limit rows k → length (insert_entry cmp rows k v) ≤ most
      by (inl there) = let one = found_one (at cmp k rows) there in omega (arith, size, one, few)
      by (inr less) = omega (arith, size, less, small)

  removed_fits : (k : K) → IsMap cmp most rows → IsMap cmp most (remove_entry (is_at (cmp k)) rows)
  removed_fits k h = record {
    rises = in_order_removed cmp (is_at (cmp k)) rows h.rises;
    few = let size = removed_size cmp k rows in let few = h.few in omega (arith, size, few);
  }

  left_fits : (stays : K × V → Bool) → IsMap cmp most rows → IsMap cmp most (filter stays rows)
  left_fits stays h = record {
    rises = in_order_filtered cmp stays rows h.rises;
    few = let size = length-filter stays rows in let less = count_by-le-length stays rows in let few = h.few in omega (arith, size, less, few);
  }

-- ---- the portfolio

share_order : IsTotalOrder share_cmp
share_order = then_total (on_total (λ (k : ShareKey). k.program) nat_list_cmp_total) (on_total (λ (k : ShareKey). k.resource) nat_cmp_total)

-- pairs for which there is room are kept within a limit
pub pairs_fit : {limit most : ℕ} → limit ≤ most → (p : Portfolio) (id : List ℕ) (pairs : List (ℕ × ℕ)) → IsMap frozen_cmp most p.frozen_shares → length p.frozen_shares + length pairs ≤ limit → IsMap frozen_cmp most (with_pairs id pairs p.frozen_shares)
pairs_fit {limit} {most} small p id pairs h room = record {
  rises = in_order_rows frozen_total (filter stays p.frozen_shares) (map (frozen_row id) pairs) others.rises;
  few = let more = more_rows frozen_total (map (frozen_row id) pairs) (filter stays p.frozen_shares) others.rises in let count = length-map pairs (frozen_row id) in omega (arith, more, count, fewer, room, small);
}
  where
    stays : FrozenKey × ℕ → Bool
    stays s = not (is_of_event id s)

    others : IsMap frozen_cmp most (filter stays p.frozen_shares)
    others = left_fits stays h

    fewer : length (filter stays p.frozen_shares) ≤ length p.frozen_shares
    fewer = let size = length-filter stays p.frozen_shares in let less = count_by-le-length stays p.frozen_shares in omega (arith, size, less)

frozen_fits : {limits most : Limits} → AreUnder limits most → (p : Portfolio) (id : List ℕ) (pairs : List (ℕ × ℕ)) → AreSitesWithin most p → HasPairRoom limits p id pairs → AreSitesWithin most (with_frozen id pairs p)
frozen_fits {limits} {most} small p id pairs h room = cond_both (is_frozen p id) p (frozen_now p id pairs) (AreSitesWithin most) (λ frozen. h) (λ fresh. now fresh room)
  where
    now : is_frozen p id ≡ false → HasPairRoom limits p id pairs → AreSitesWithin most (frozen_now p id pairs)
    now fresh (inl frozen) = absurd (true≢false (sym frozen ∙ fresh))
    now fresh (inr room) =
        record { vens = h.vens; resources = h.resources; shares = h.shares; reports = h.reports; subs = h.subs; frozen = in_order_put nat_list_cmp_total id tt p.frozen h.frozen; frozen_shares = pairs_fit small.frozen p id pairs h.frozen_shares room }

module _ {limits most : Limits} (small : AreUnder limits most) where
  sites_after : (p : Portfolio) (change : PortfolioChange) → AreSitesWithin most p → SitesHaveRoom limits p change → AreSitesWithin most (portfolio_after change p)
  sites_after p (PutVen n ven) h room = record { vens = put_fits nat_cmp_total small.vens n ven h.vens room; resources = h.resources; shares = h.shares; reports = h.reports; subs = h.subs; frozen = h.frozen; frozen_shares = h.frozen_shares }
  sites_after p (DropVen n) h room = record { vens = removed_fits n h.vens; resources = left_fits _ h.resources; shares = left_fits _ h.shares; reports = left_fits _ h.reports; subs = left_fits _ h.subs; frozen = h.frozen; frozen_shares = left_fits _ h.frozen_shares }
  sites_after p (PutResource n resource) h room = record { vens = h.vens; resources = put_fits nat_cmp_total small.resources n resource h.resources room; shares = h.shares; reports = h.reports; subs = h.subs; frozen = h.frozen; frozen_shares = h.frozen_shares }
  sites_after p (DropResource n) h room = record { vens = h.vens; resources = removed_fits n h.resources; shares = left_fits _ h.shares; reports = left_fits _ h.reports; subs = h.subs; frozen = h.frozen; frozen_shares = left_fits _ h.frozen_shares }
  sites_after p (PutShare key weight) h room = record { vens = h.vens; resources = h.resources; shares = put_fits share_order small.shares key weight h.shares room; reports = h.reports; subs = h.subs; frozen = h.frozen; frozen_shares = h.frozen_shares }
  sites_after p (DropShare key) h room = record { vens = h.vens; resources = h.resources; shares = removed_fits key h.shares; reports = h.reports; subs = h.subs; frozen = h.frozen; frozen_shares = h.frozen_shares }
  sites_after p (PutReport n report) h room = record { vens = h.vens; resources = h.resources; shares = h.shares; reports = put_fits nat_cmp_total small.reports n report h.reports room; subs = h.subs; frozen = h.frozen; frozen_shares = h.frozen_shares }
  sites_after p (DropReport n) h room = record { vens = h.vens; resources = h.resources; shares = h.shares; reports = removed_fits n h.reports; subs = h.subs; frozen = h.frozen; frozen_shares = h.frozen_shares }
  sites_after p (PutSub n sub) h room = record { vens = h.vens; resources = h.resources; shares = h.shares; reports = h.reports; subs = put_fits nat_cmp_total small.subs n sub h.subs room; frozen = h.frozen; frozen_shares = h.frozen_shares }
  sites_after p (DropSub n) h room = record { vens = h.vens; resources = h.resources; shares = h.shares; reports = h.reports; subs = removed_fits n h.subs; frozen = h.frozen; frozen_shares = h.frozen_shares }
  sites_after p (Freeze id pairs) h room = frozen_fits small p id pairs h room

-- ---- the base

joined_in_order : (marks mirror : List (MirrorKey × Mark)) → InOrder mirror_cmp mirror → InOrder mirror_cmp (joined mirror marks)
joined_in_order [] mirror h = h
joined_in_order (e ∷ marks) mirror h =
    joined_in_order marks (raised mirror e) (cond_both (is_below (at mirror_cmp e.0 mirror) e.1) (insert_entry mirror_cmp mirror e.0 e.1) mirror (InOrder mirror_cmp) (λ above. in_order_put key_order e.0 e.1 mirror h) (λ level. h))

record BaseFits (most : Limits) (base : Base) : Type 0 where
  sites : AreSitesWithin most base.portfolio
  mirror : IsMap mirror_cmp most.keys base.mirror

module _ {limits most : Limits} (small : AreUnder limits most) where
  joined_fits : (base : Base) (marks : List (MirrorKey × Mark)) → IsMap mirror_cmp most.keys base.mirror → BaseHasRoom limits base (JoinMarks marks None) → IsMap mirror_cmp most.keys (joined base.mirror marks)
  joined_fits base marks h within = record {
    rises = joined_in_order marks base.mirror h.rises;
    few = elim (and_cases (nat_lt (length base.mirror) (length (joined base.mirror marks))) (nat_lt limits.keys (length (joined base.mirror marks))) within) [
      | inl no_more ↦ (let less = ltb-false (length base.mirror) (length (joined base.mirror marks)) no_more in let few = h.few in omega (arith, less, few))
      | inr room ↦ (let less = ltb-false limits.keys (length (joined base.mirror marks)) room in let keys = small.keys in omega (arith, less, keys))
    ];
  }

  base_after : (base : Base) (change : BaseChange) → BaseFits most base → BaseHasRoom limits base change → BaseFits most (changed change base)
  base_after base (JoinMarks marks scan) h within = record { sites = h.sites; mirror = joined_fits base marks h.mirror within }
  base_after base (SetScan scan) h room = record { sites = h.sites; mirror = h.mirror }
  base_after base (ChangePortfolio change) h room = record { sites = sites_after small base.portfolio change h.sites room; mirror = h.mirror }

-- ---- the outbox

-- the next entry is there
next_there : (seen : List ℕ) (now : ℕ) (entries : List (ℕ × Entry)) → IfSome (next_after seen now entries) (λ e. Contains (keys_of entries) e.0)
next_there seen now [] = tt
next_there seen now (e ∷ entries) =
    cond_both (may_be_next seen now e.1) (Some e) (next_after (insert_key nat_cmp seen (destination e.1.addressee)) now entries) (λ o. IfSome o (λ x. Contains (keys_of (e ∷ entries)) x.0)) (λ may. (0, omega arith, refl))
    (λ passes. behind (next_after (insert_key nat_cmp seen (destination e.1.addressee)) now entries) (next_there (insert_key nat_cmp seen (destination e.1.addressee)) now entries))
  where
    behind : (o : Option (ℕ × Entry)) → IfSome o (λ x. Contains (keys_of entries) x.0) → IfSome o (λ x. Contains (keys_of (e ∷ entries)) x.0)
    behind None h = tt
    behind (Some x) h = Contains-append_right (e.0 ∷ []) (keys_of entries) x.0 h

module _ (most : Limits) where
  abbrev HasFewLeases : Entry → Type 0
  HasFewLeases e = e.delivery.leases ≤ most.serial

  abbrev EntriesFit : List (ℕ × Entry) → Type 0
  EntriesFit = AreEntriesWithin most

  put_again : (n : ℕ) (e : Entry) (entries : List (ℕ × Entry)) → EntriesFit entries → HasFewLeases e → IsSome (at nat_cmp n entries) → EntriesFit (insert_entry nat_cmp entries n e)
  put_again n e entries h few there = record {
    rows = put_fits nat_cmp_total {limit = most.pending} (omega arith) n e h.rows (inl there);
    leases = All-values-insert_entry nat_cmp n e HasFewLeases entries h.leases few;
  }

  entry_removed : (n : ℕ) (entries : List (ℕ × Entry)) → EntriesFit entries → EntriesFit (remove_entry (is_at (nat_cmp n)) entries)
  entry_removed n entries h = record {
    rows = removed_fits n h.rows;
    leases = All-map-remove_entry (is_at (nat_cmp n)) (λ (e : ℕ × Entry). e.1) HasFewLeases entries h.leases;
  }

  entries_left : (stays : ℕ × Entry → Bool) (entries : List (ℕ × Entry)) → EntriesFit entries → EntriesFit (filter stays entries)
  entries_left stays entries h = record { rows = left_fits stays h.rows; leases = left entries h.leases }
    where
      left : (entries : List (ℕ × Entry)) → All HasFewLeases (values_of entries) → All HasFewLeases (values_of (filter stays entries))
      left [] few = All-nil HasFewLeases
      left (e ∷ entries) few =
          let rest = left entries (All-tail HasFewLeases e.1 (values_of entries) few) in
          cond_both (stays e) (e ∷ filter stays entries) (filter stays entries) (λ kept. All HasFewLeases (values_of kept)) (λ does. All-cons HasFewLeases e.1 (values_of (filter stays entries)) (All-head HasFewLeases e.1 (values_of entries) few) rest) (λ goes. rest)

  abbrev Leased : Option (ℕ × Entry) × Outbox → Type 0
  Leased l = EntriesFit l.1.entries

  -- no lease passes the limit
  leased_few : {limit : ℕ} → limit ≤ most.serial → (now : ℕ) (d : Delivery) → IfOk (delivery.leased limit now d) (λ d. d.leases ≤ most.serial)
  leased_few {limit = limit} small now d =
      tested (λ d. d.leases ≤ most.serial) (nat_le limit d.leases) refusal.Exhausted (Ok (record d { leases = d.leases + 1; lease = Some (delivery.later now 30) })) (λ left. let less = leb-false limit d.leases left in omega (arith, less, small))

  lease_fits : {limit : ℕ} → limit ≤ most.serial → (now : ℕ) (o : Outbox) → EntriesFit o.entries → IfOk (lease_next limit now o) Leased
  lease_fits {limit = limit} small now o h = by (next_entry now o.entries) refl (next_there [] now o.entries)
    where
      by : (next : Option (ℕ × Entry)) → next_entry now o.entries ≡ next → IfSome next (λ e. Contains (keys_of o.entries) e.0) → IfOk (lease_next limit now o) Leased
      by None is there = rw is h
      by (Some e) is there = rw is (first_then Leased (λ d. d.leases ≤ most.serial) (delivery.leased limit now e.1.delivery) _ (leased_few small now e.1.delivery) (λ d few.
          put_again e.0 (with_delivery d e.1) o.entries h few (IsSome-lookup_from_Contains (eq_by_cmp_equiv nat_cmp_total) e.0 o.entries there)))

  -- an entry that has a lease is there
  record IsHere (n : ℕ) (entries : List (ℕ × Entry)) (e : Entry) : Type 0 where
    there : IsSome (at nat_cmp n entries)
    few : HasFewLeases e

  held_here : (n lease : ℕ) (entries : List (ℕ × Entry)) → EntriesFit entries → IfOk (entry_leased n lease entries) (IsHere n entries)
  held_here n lease entries h =
      found_then (IsHere n entries) (IsHere n entries) refusal.LeaseLost (entry_at n entries) _ (itself (entry_at n entries) refl (IfSome-lookup_from_All HasFewLeases (is_at (nat_cmp n)) entries h.leases)) (λ e here. cond_both (delivery.has_lease lease e.delivery) (Ok e) (Err refusal.LeaseLost) (λ r. IfOk r (IsHere n entries)) (λ has. here) (λ lost. tt))
    where
      itself : (o : Option Entry) → entry_at n entries ≡ o → IfSome o HasFewLeases → IfSome o (IsHere n entries)
      itself None is few = tt
      itself (Some e) is few = record { there = ap is_some is; few = few }

  sent_fits : (n lease : ℕ) (remote : Option (List ℕ)) (o : Outbox) → EntriesFit o.entries → IfOk (sent n lease remote o) (λ next. EntriesFit next.entries)
  sent_fits n lease remote o h = first_then (λ next. EntriesFit next.entries) (IsHere n o.entries) (entry_leased n lease o.entries) _ (held_here n lease o.entries h) (λ e here. entry_removed n o.entries h)

  failed_fits : (now n lease : ℕ) (forget : Bool) (o : Outbox) → EntriesFit o.entries → IfOk (failed now n lease forget o) (λ next. EntriesFit next.entries)
  failed_fits now n lease forget o h =
      first_then (λ next. EntriesFit next.entries) (IsHere n o.entries) (entry_leased n lease o.entries) _ (held_here n lease o.entries h) (λ e here. by e here (delivery.after_failure now e.delivery) (as_many e.delivery here.few (one_more e.delivery.failures)))
    where
      as_many : (d : Delivery) → d.leases ≤ most.serial → (failures : Option ℕ) → IfSome (option_map (λ failures. record { failures = failures; leases = d.leases; lease = None; due = delivery.later now (wait_after d.failures) }) failures) (λ (d : Delivery). d.leases ≤ most.serial)
      as_many d few None = tt
      as_many d few (Some failures) = few

      by : (e : Entry) → IsHere n o.entries e → (d : Option Delivery) → IfSome d (λ d. d.leases ≤ most.serial) → EntriesFit (option_map_or (λ d. with_entry n (with_delivery d e) o) d (record o { entries = without_entry n o; counts = record o.counts { given_up = plus o.counts.given_up 1 } })).entries
      by e here None few = entry_removed n o.entries h
      by e here (Some d) few = put_again n (with_delivery d e) o.entries h few here.there

  delivered_fits : (limits : Limits) → limits.serial ≤ most.serial → (now : ℕ) (o : Outbox) (c : Command) → is_delivery c ≡ true → EntriesFit o.entries → IfOk (delivered limits now o c) (λ d. EntriesFit d.1.entries)
  delivered_fits limits small now o Lease is h = first_then (λ d. EntriesFit d.1.entries) (λ l. EntriesFit l.1.entries) (lease_next limits.serial now o) _ (lease_fits small now o h) (λ l next. next)
  delivered_fits limits small now o (Sent entry lease remote) is h = first_then (λ d. EntriesFit d.1.entries) (λ next. EntriesFit next.entries) (sent entry lease remote o) _ (sent_fits entry lease remote o h) (λ next fits. fits)
  delivered_fits limits small now o (Failed entry lease forget) is h = first_then (λ d. EntriesFit d.1.entries) (λ next. EntriesFit next.entries) (failed now entry lease forget o) _ (failed_fits now entry lease forget o h) (λ next fits. fits)
  delivered_fits limits small now o c is h = absurd (let no : false ≡ true = is in cc)

  -- none of further entries was leased more often than what was there
  more_leases : (further entries : List (ℕ × Entry)) → All HasFewLeases (values_of further) → All HasFewLeases (values_of entries) → All HasFewLeases (values_of (with_entries further entries))
  more_leases [] entries new h = h
  more_leases (e ∷ further) entries new h =
      more_leases further (insert_entry nat_cmp entries e.0 e.1) (All-tail HasFewLeases e.1 (values_of further) new) (All-values-insert_entry nat_cmp e.0 e.1 HasFewLeases entries h (All-head HasFewLeases e.1 (values_of further) new))

  numbered_leases : (from : ℕ) (entries : List Entry) → All IsUntried entries → All HasFewLeases (values_of (enumerate_from from entries))
  numbered_leases from [] new = All-nil HasFewLeases
  numbered_leases from (e ∷ entries) new =
      All-cons HasFewLeases e (values_of (enumerate_from (from + 1) entries)) (never e (All-head IsUntried e entries new)) (numbered_leases (from + 1) entries (All-tail IsUntried e entries new))
    where
      never : (e : Entry) → IsUntried e → HasFewLeases e
      never e is = let none : e.delivery.leases ≡ 0 = ap (λ (d : Delivery). d.leases) is in omega (arith, none)

-- ---- an edit

module _ (settings : Settings) (most : Limits) (small : AreUnder settings.limits most) (s : State) (h : IsWithin most s) where
  abbrev EditFits : Outcome × Base → Type 0
  EditFits e = BaseFits most e.1 × (e.1.serial ≤ most.serial)

  abbrev NextFits : Outbox × ℕ → Type 0
  NextFits next = AreEntriesWithin most next.0.entries × (next.1 ≤ most.serial)

  numbered_fits : (draws : Bool) (d : Decision) → BaseHasRoom settings.limits s.base d.change → IfOk (edits.numbered settings.limits draws s.base d) EditFits
  numbered_fits false d room = let after = base_after small s.base d.change (record { sites = h.sites; mirror = h.keys }) room in (record { sites = after.sites; mirror = after.mirror }, h.serial)
  numbered_fits true d room =
      let after = base_after small s.base d.change (record { sites = h.sites; mirror = h.keys }) room in
      first_then EditFits (λ serial. serial ≤ most.serial) (drawn settings.limits s.base.serial true) _
      (tested (λ serial. serial ≤ most.serial) (nat_le settings.limits.serial s.base.serial) refusal.Exhausted (Ok (s.base.serial + 1)) (λ left. let less = leb-false settings.limits.serial s.base.serial left in let serial = small.serial in omega (arith, less, serial)))
      (λ serial within. (record { sites = after.sites; mirror = after.mirror }, within))

  edit_fits : (now : ℕ) (c : Command) → IfOk (edit settings.limits now s.base c) EditFits
  unfolding edit
  edit_fits now c =
      cond_both (is_allowed c) (edit_of settings.limits now s.base c) (Err refusal.Forbidden) (λ r. IfOk r EditFits)
      (λ allowed. first_then EditFits (λ d. IsFit settings.limits now (s.base.serial + 1) s.base (NamesReport c) d.change) (decided settings.limits now (s.base.serial + 1) s.base c) _ (decided_room settings.limits now (s.base.serial + 1) s.base (NamesReport c) c (λ n named. named)) (λ d fit. numbered_fits (draws_number c) d fit.0))
      (λ forbidden. tt)

  -- ---- its commit

  module _ (now : ℕ) (base : Base) where
    abbrev entries : List Entry
    entries = entries_then settings s now base

    abbrev kept : Outbox
    kept = kept_for base.portfolio.subs s.outbox

    kept_fits : AreEntriesWithin most kept.entries
    kept_fits = entries_left most (has_addressee base.portfolio.subs) s.outbox.entries h.entries

    further_fits : base.serial + length entries ≤ most.serial → length kept.entries + length entries ≤ most.pending → NextFits (with_further base.serial entries kept)
    further_fits numbers room = (
      record {
        rows = record {
          rises = in_order_rows nat_cmp_total kept.entries (numbered base.serial entries) kept_fits.rows.rises;
          few = let size = more_rows nat_cmp_total (numbered base.serial entries) kept.entries kept_fits.rows.rises in let count = length-enumerate_from (base.serial + 1) entries in omega (arith, size, count, room);
        };
        leases = more_leases most (numbered base.serial entries) kept.entries (numbered_leases most (base.serial + 1) entries (made_untried settings s now base)) kept_fits.leases;
      },
      numbers,
    )

    next_fits : base.serial ≤ most.serial → IfOk (outbox_then settings s now base) NextFits
    next_fits within =
        cond_both (length entries == 0) (Ok tt) _ (λ r. IfOk (ending r) NextFits)
        (λ none. let is = (unsigned_Decides (length entries) 0).0 none in let few = kept_fits.rows.few in further_fits (omega (arith, within, is)) (omega (arith, few, is)))
        (λ some. cond_both (nat_lt settings.limits.serial (base.serial + length entries)) (Err refusal.Exhausted) _ (λ r. IfOk (ending r) NextFits) (λ more. tt)
        (λ left. cond_both (nat_lt settings.limits.pending (length kept.entries + length entries)) (Err refusal.OutboxFull) (Ok tt) (λ r. IfOk (ending r) NextFits) (λ full. tt)
        (λ room.
        let numbers = ltb-false settings.limits.serial (base.serial + length entries) left in
        let places = ltb-false settings.limits.pending (length kept.entries + length entries) room in
        let serial = small.serial in
        let pending = small.pending in
        further_fits (omega (arith, numbers, serial)) (omega (arith, places, pending)))))
      where
        ending : Result Unit Refusal → Result (Outbox × ℕ) Refusal
        ending r = r >>= λ _. Ok (with_further base.serial entries kept)

    committed_fits : (comes : Outcome) → BaseFits most base → base.serial ≤ most.serial → IfOk (committed settings s now comes base) (λ r. IsWithin most r.1)
    committed_fits comes fits within =
        first_then (λ r. IsWithin most r.1) NextFits (outbox_then settings s now base) _ (next_fits within) (λ next after.
        first_then (λ r. IsWithin most r.1) (λ a. Unit {0}) (answered_by comes s.stamps (steps.changed s now base)) _ (whatever (answered_by comes s.stamps (steps.changed s now base))) (λ a told.
        record { sites = fits.sites; keys = fits.mirror; entries = after.0; serial = after.1 }))

-- ---- a step

pub step_within : (settings : Settings) (most : Limits) → AreUnder settings.limits most → (s : State) (now : ℕ) (c : Command) → IsWithin most s → IfOk (step settings s now c) (λ r. IsWithin most r.1)
step_within settings most small s now c h =
    let within : Answer × State → Type 0 = λ r. IsWithin most r.1 in
    cond_both (is_delivery c) (delivery_step settings s now c) (edit_step settings s now c) (λ r. IfOk r within)
    (λ is. first_then within (λ d. AreEntriesWithin most d.1.entries) (delivered settings.limits now s.outbox c) _ (delivered_fits most settings.limits small.serial now s.outbox c is h.entries) (λ d fits.
    record { sites = h.sites; keys = h.keys; entries = fits; serial = h.serial }))
    (λ edits. first_then within (EditFits settings most small s h) (edit settings.limits now s.base c) _ (edit_fits settings most small s h now c) (λ e fits. committed_fits settings most small s h now e.1 e.0 fits.0 fits.1))

-- the state at first is within any limits
pub empty_within : (limits : Limits) → IsWithin limits empty
empty_within limits = record { sites = record { vens = none; resources = none; shares = none; reports = none; subs = none; frozen = none_sorted id_cmp; frozen_shares = none }; keys = none; entries = record { rows = none; leases = All-nil (HasFewLeases limits) }; serial = omega arith }
  where
    none : {K V : Type 0} {cmp : K → K → Ordering} {most : ℕ} → IsMap {K = K} {V = V} cmp most []
    none {cmp = cmp} = record { rises = none_sorted cmp; few = omega arith }

-- ---- and what a desk may hold

pub fits_within : (s : State) → IsWithin largest s → Fits s
fits_within s h =
    let sites = h.sites in
    record {
      sites = record { vens = sites.vens; resources = sites.resources; shares = sites.shares; reports = sites.reports; subs = sites.subs; frozen = sites.frozen; frozen_shares = sites.frozen_shares };
      mirror = h.keys;
      entries = record { rows = h.entries.rows; leases = h.entries.leases };
      serial = h.serial;
    }

within_fits : (s : State) → Fits s → IsWithin largest s
within_fits s h =
    let sites = h.sites in
    record {
      sites = record { vens = sites.vens; resources = sites.resources; shares = sites.shares; reports = sites.reports; subs = sites.subs; frozen = sites.frozen; frozen_shares = sites.frozen_shares };
      keys = h.mirror;
      entries = record { rows = h.entries.rows; leases = h.entries.leases };
      serial = h.serial;
    }

pub step_fits : (settings : Settings) → AreSmall settings.limits → (s : State) (now : ℕ) (c : Command) → Fits s → IfOk (step settings s now c) (λ r. Fits r.1)
step_fits settings small s now c h = still (step settings s now c) (step_within settings largest (under_largest small) s now c (within_fits s h))
  where
    still : (r : Result (Answer × State) Refusal) → IfOk r (λ r. IsWithin largest r.1) → IfOk r (λ r. Fits r.1)
    still (Ok next) within = fits_within next.1 within
    still (Err e) within = tt

-- so does what is made of it, where a step is answered
pub left_fitting : (r answer : Result (Answer × State) Refusal) → IfOk r (λ next. answer ≡ Ok next) → IfOk answer (λ next. Fits next.1) → IfOk r (λ next. Fits next.1)
left_fitting (Ok next) answer is fits = subst (λ (x : Result (Answer × State) Refusal). IfOk x (λ next. Fits next.1)) is fits
left_fitting (Err e) answer is fits = tt

-- and the state at first fits
pub empty_fits : Fits empty
empty_fits = fits_within empty (empty_within largest)
