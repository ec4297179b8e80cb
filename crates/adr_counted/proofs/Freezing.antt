-- How many frozen shares there are once an event is frozen.
use Rattle.std.proofs.Common.{◌≡◌, ◌+◌, ℕ, suc, Bool, true, false, cond, not, List, [], ◌∷◌, length, map, filter, Some, None, refl, sym, ap, ◌∙◌, arith, Ordering, Less, Equal, Greater}
use Rattle.std.specs.Prelude.{bytes_eq}
use Rattle.std.specs.Cmp.{IsTotalOrder}
use Rattle.std.specs.List.Sorted.{IsStrictlySortedBy}
use Rattle.std.specs.Map.{keys_of}
use Rattle.std.proofs.lemmas.Cmp.{nat_list_cmp_total, on_total, then_total}
use Rattle.std.proofs.lemmas.Map.Entries.{lookup-filter-keys}
use Rattle.std.proofs.lemmas.Map.Lookups.{exact_bytes}
use Rattle.std.proofs.lemmas.Slice.Eq.{bytes_eq-Decides}
use Rattle.adr_db.proofs.Common.{AllByRecursion, Base, ChangePortfolio, at, changed, id_cmp, insert_entry, is_at, is_eq, match_ordering, nat_cmp, nat_cmp_total, ordering_reverse, ordering_then, tied_itself}
use Rattle.adr_state.specs.declared.portfolio.Portfolio.{Portfolio}
use Rattle.adr_state.specs.declared.keys.FrozenKey.{FrozenKey}
use Rattle.adr_state.specs.Frozen.{is_frozen, frozen_key, frozen_row, is_of_event, with_pairs, with_frozen}
use Rattle.adr_state.specs.Keys.{frozen_cmp, with_rows}
use Rattle.adr_state.specs.Portfolios.{Freeze}
use Rattle.adr_state.proofs.LawLemmas.{at-insert_entry}
use Rattle.adr_db.specs.declared.meta.Meta.{Meta}
use Rattle.adr_db.specs.Bases.{with_base}
use Rattle.adr_counted.specs.Frozen.{CanBeFrozen, IsRecounted, frozen_now}
use Rattle.adr_counted.proofs.Going.{others_left}

frozen_total : IsTotalOrder frozen_cmp
frozen_total = then_total (on_total (λ (k : FrozenKey). k.event) nat_list_cmp_total) (on_total (λ (k : FrozenKey). k.resource) nat_cmp_total)

-- one that is put where none stands is one more
length_new : {K V : Type 0} (R : K → K → Ordering) (k : K) (v : V) (es : List (K × V)) → at R k es ≡ None → length (insert_entry R es k v) ≡ suc (length es)
length_new R k v [] none = refl
length_new R k v (e ∷ es) none = by (R k e.0) none (length_new R k v es)
  where
    by : (o : Ordering) → cond (is_eq o) (Some e.1) (at R k es) ≡ None → (at R k es ≡ None → length (insert_entry R es k v) ≡ suc (length es))
        → length (match_ordering o ((k, v) ∷ e ∷ es) ((e.0, v) ∷ es) (e ∷ insert_entry R es k v)) ≡ suc (suc (length es))
    by Less none more = refl
    by Equal none more = absurd cc
    by Greater none more = ap suc (more none)

-- ---- the pairs of one event

module _ (id : List ℕ) where
  -- frozen shares of one event stand as their resources do
  same_event : (m n : ℕ) → frozen_cmp (frozen_key id m) (frozen_key id n) ≡ nat_cmp m n
  same_event m n = ap (λ (o : Ordering). ordering_then o (nat_cmp m n)) (tied_itself nat_list_cmp_total id)

  -- none is kept for the event at the number of a resource
  abbrev NoneAt : List (FrozenKey × ℕ) → ℕ → Type 0
  NoneAt es n = at frozen_cmp (frozen_key id n) es ≡ None

  -- where one is put for a resource, none is for those behind it
  none_behind : (m w : ℕ) (es : List (FrozenKey × ℕ)) (ns : List ℕ) → AllByRecursion (λ n. nat_cmp m n ≡ Less) ns → AllByRecursion (NoneAt es) ns → AllByRecursion (NoneAt (insert_entry frozen_cmp es (frozen_key id m) w)) ns
  none_behind m w es [] behind none = tt
  none_behind m w es (n ∷ ns) behind none =
      let greater : nat_cmp n m ≡ Greater = nat_cmp_total.antisymm n m ∙ ap ordering_reverse behind.0 in (
        at-insert_entry frozen_total (frozen_key id n) (frozen_key id m) w es ∙ ap (λ (o : Ordering). cond (is_eq o) (Some w) (at frozen_cmp (frozen_key id n) es)) (same_event n m ∙ greater) ∙ none.0,
        none_behind m w es ns behind.1 none.1,
      )

  one_before : (a b n : ℕ) → a ≡ suc n → a + b ≡ n + suc b
  one_before a b n is = omega (arith, is)

  nothing_more : (n : ℕ) → n ≡ n + 0
  nothing_more n = omega arith

  -- pairs in their order, at whose numbers none is kept, are so many more
  pairs_more : (pairs : List (ℕ × ℕ)) (es : List (FrozenKey × ℕ)) → IsStrictlySortedBy nat_cmp (keys_of pairs) → AllByRecursion (NoneAt es) (keys_of pairs) → length (with_rows frozen_cmp es (map (frozen_row id) pairs)) ≡ length es + length pairs
  unfolding IsStrictlySortedBy
  pairs_more [] es rise none = nothing_more (length es)
  pairs_more (pair ∷ pairs) es rise none =
      pairs_more pairs (insert_entry frozen_cmp es (frozen_key id pair.0) pair.1) rise.1 (none_behind pair.0 pair.1 es (keys_of pairs) rise.0 none.1)
      ∙ one_before _ (length pairs) (length es) (length_new frozen_cmp (frozen_key id pair.0) pair.1 es none.0)

  -- ---- what is kept for the others

  its_event : (n : ℕ) (k : FrozenKey) → is_at (frozen_cmp (frozen_key id n)) k ≡ true → not (bytes_eq k.event id) ≡ false
  its_event n k is = by (id_cmp id k.event) refl is
    where
      by : (o : Ordering) → id_cmp id k.event ≡ o → is_eq (ordering_then o (nat_cmp n k.resource)) ≡ true → not (bytes_eq k.event id) ≡ false
      by Less same is = absurd cc
      by Equal same is = ap not ((bytes_eq-Decides k.event id).1 (sym (exact_bytes id k.event same)))
      by Greater same is = absurd cc

  abbrev of_others : List (FrozenKey × ℕ) → List (FrozenKey × ℕ)
  of_others es = filter (λ s. not (is_of_event id s)) es

  none_left : (es : List (FrozenKey × ℕ)) (n : ℕ) → NoneAt (of_others es) n
  none_left es n = lookup-filter-keys (is_at (frozen_cmp (frozen_key id n))) (λ k. not (bytes_eq k.event id)) false (its_event n) es

  none_of_these : (es : List (FrozenKey × ℕ)) (ns : List ℕ) → AllByRecursion (NoneAt (of_others es)) ns
  none_of_these es [] = tt
  none_of_these es (n ∷ ns) = (none_left es n, none_of_these es ns)

  -- where so many are kept for the event, they go, and its pairs come
  pub pairs_counted : (pairs : List (ℕ × ℕ)) (es : List (FrozenKey × ℕ)) (gone : ℕ) → IsStrictlySortedBy nat_cmp (keys_of pairs) → gone ≡ length (filter (is_of_event id) es) → length (with_pairs id pairs es) + gone ≡ length es + length pairs
  pairs_counted pairs es gone rise many =
      let more = pairs_more pairs (of_others es) rise (none_of_these es (keys_of pairs)) in
      let both = others_left (is_of_event id) es gone many in
      omega (arith, more, both)

-- ---- an event that is frozen now

pub fresh_is : (id : List ℕ) (pairs : List (ℕ × ℕ)) (p : Portfolio) → is_frozen p id ≡ false → frozen_now id pairs p ≡ with_frozen id pairs p
fresh_is id pairs p fresh = ap (λ (b : Bool). cond b p (frozen_now id pairs p)) (sym fresh)

counted_is : (new gone old come many is : ℕ) → new + gone ≡ old + come → old ≡ many → is + gone ≡ many + come → new ≡ is
counted_is new gone old come many is says same counts = omega (arith, says, same, counts)

-- the numbers are then those of the base after it
pub frozen_counted : (id : List ℕ) (pairs : List (ℕ × ℕ)) (base : Base) (gone : ℕ) (before after : Meta) → before ≡ with_base before base → CanBeFrozen id pairs base.portfolio → gone ≡ length (filter (is_of_event id) base.portfolio.frozen_shares) → IsRecounted gone (length pairs) before after
    → after ≡ with_base before (changed (ChangePortfolio (Freeze id pairs)) base)
frozen_counted id pairs base gone before after same can many says =
    let frozen = counted_is after.frozen gone before.frozen (length pairs) (length base.portfolio.frozen_shares) (length (with_pairs id pairs base.portfolio.frozen_shares)) says.frozen (ap (λ (m : Meta). m.frozen) same) (pairs_counted id pairs base.portfolio.frozen_shares gone can.1 many) in
    says.others
    ∙ (λ i. let now : Meta = record (same i) { frozen = frozen i } in now)
    ∙ ap (λ (p : Portfolio). with_base before (record base { portfolio = p })) (fresh_is id pairs base.portfolio can.0)
