-- The roll-up counts each by its latest value, or names it.
use Rattle.std.proofs.Common.{◌≡◌, ℕ, ◌==◌, ℤ, ◌+ℤ◌, Bool, true, false, cond, List, [], ◌∷◌, map, fold, Option, None, Some, Ordering, Less, Equal, Greater, refl, sym, ap, ◌∙◌, arith, pos}
use Rattle.std.specs.Prelude.{is_none, IfSome}
use Rattle.std.specs.BTreeSet.{insert_key}
use Rattle.std.specs.List.{filter_map, cons_option, list_any, AllPairs}
use Rattle.std.specs.Cmp.{unsigned_Decides}
use Rattle.std.proofs.lemmas.Cmp.{nat_list_cmp_total, tied_itself}
use Rattle.std.proofs.lemmas.List.Elements.{Contains-append_right}
use Rattle.std.proofs.lemmas.List.Kept.{AllPairs-cons}
use Rattle.std.proofs.lemmas.Map.Views.{All-insert_key}
use Rattle.adr_view.proofs.Common.{All, Contains, nat_cmp, nat_cmp_total, IsStrictlySortedBy, IsTotalOrder, CmpEqualImpliesEq, exact_bytes, match_ordering, ordering_reverse, All-cons, All-contains, All-contains_itself, All-filter, All-from_recursion, All-head, All-map, All-nil, All-tail, All-weaker, filter_passes, id_cmp}
use Rattle.adr_objects.specs.declared.body.EventBody.{EventBody}
use Rattle.adr_objects.specs.declared.interval.Interval.{Interval}
use Rattle.adr_objects.specs.declared.report.Rollup.{Rollup}
use Rattle.adr_state.specs.declared.participants.Participant.{Participant}
use Rattle.adr_state.specs.declared.portfolio.Report.{Report}
use Rattle.adr_state.specs.Participants.{participants}
use Rattle.adr_view.specs.declared.rollup.Reporter.{Reporter}
use Rattle.adr_view.specs.Laws.{AreThoseThatLack, CountsEachOnce, HaveNoneInCommon, RollupsCountEachOnce}
use Rattle.adr_view.specs.Rollups.{plus, latest, reports_of, reports_on, reporter_of, reporters, lacking, missing_at, rollup_interval, carried, is_reported, rollup_for}
use Rattle.adr_view.proofs.ListLemmas.{in_map, in_filter}
use Rattle.adr_view.proofs.OrderLemmas.{Behind, none_sorted, through}
use Rattle.adr_view.proofs.RowLemmas.{each_there}
use Rattle.adr_view.proofs.ShownLemmas.{participants_rise}

-- ---- a set with one more key

module _ {K : Type 0} {cmp : K → K → Ordering} (order : IsTotalOrder cmp) where
  in_order_key : (k : K) (ks : List K) → IsStrictlySortedBy cmp ks → IsStrictlySortedBy cmp (insert_key cmp ks k)
  unfolding IsStrictlySortedBy
  in_order_key k [] h = (tt, tt)
  in_order_key k (x ∷ xs) h = elim (cmp k x) as (λ o. cmp k x ≡ o → IsStrictlySortedBy cmp (match_ordering o (k ∷ x ∷ xs) (x ∷ xs) (x ∷ insert_key cmp xs k))) [
    | Less ↦ λ is. ((is, through (Behind cmp x) (Behind cmp k) xs xs (All-weaker (Behind cmp x) (Behind cmp k) (λ y less. order.trans k x y is less) xs) h.0), h)
    | Equal ↦ λ is. h
    | Greater ↦ λ is.
        let behind : cmp x k ≡ Less = order.antisymm x k ∙ ap ordering_reverse is in
        (through (Behind cmp x) (Behind cmp x) xs (insert_key cmp xs k) (λ all. All-insert_key cmp k (Behind cmp x) xs all behind) h.0, in_order_key k xs h.1)
  ] refl

-- that key is there
module _ {K : Type 0} {cmp : K → K → Ordering} (exact : CmpEqualImpliesEq cmp) where
  key_there : (k : K) (ks : List K) → Contains (insert_key cmp ks k) k
  key_there k [] = (0, omega arith, refl)
  key_there k (x ∷ xs) = by (cmp k x) refl (key_there k xs)
    where
      by : (o : Ordering) → cmp k x ≡ o → Contains (insert_key cmp xs k) k → Contains (match_ordering o (k ∷ x ∷ xs) (x ∷ xs) (x ∷ insert_key cmp xs k)) k
      by Less is there = (0, omega arith, refl)
      by Equal is there = (0, omega arith, sym (exact k x is))
      by Greater is there = Contains-append_right (x ∷ []) (insert_key cmp xs k) k there

-- and each that was there is there still
keys_stay : {K : Type 0} (cmp : K → K → Ordering) (k : K) (ks : List K) → All (Contains (insert_key cmp ks k)) ks
keys_stay {K} cmp k [] = All-nil (Contains (k ∷ []))
keys_stay {K} cmp k (x ∷ xs) = by (cmp k x) (keys_stay cmp k xs)
  where
    behind : (y : K) (ys zs : List K) → All (Contains ys) zs → All (Contains (y ∷ ys)) zs
    behind y ys zs = All-weaker (Contains ys) (Contains (y ∷ ys)) (Contains-append_right (y ∷ []) ys) zs

    by : (o : Ordering) → All (Contains (insert_key cmp xs k)) xs → All (Contains (match_ordering o (k ∷ x ∷ xs) (x ∷ xs) (x ∷ insert_key cmp xs k))) (x ∷ xs)
    by Less stay = behind k (x ∷ xs) (x ∷ xs) (All-contains_itself (x ∷ xs))
    by Equal stay = All-contains_itself (x ∷ xs)
    by Greater stay = All-cons (Contains (x ∷ insert_key cmp xs k)) x xs (0, omega arith, refl) (behind x (insert_key cmp xs k) xs stay)

-- ---- the names of many

abbrev with_names : List (List ℕ) → List Reporter → List (List ℕ)
with_names names rs = fold (λ names r. insert_key id_cmp names r.name) names rs

names_in_order : (names : List (List ℕ)) (rs : List Reporter) → IsStrictlySortedBy id_cmp names → IsStrictlySortedBy id_cmp (with_names names rs)
names_in_order names [] h = h
names_in_order names (r ∷ rs) h = names_in_order (insert_key id_cmp names r.name) rs (in_order_key nat_list_cmp_total r.name names h)

names_stay : (names : List (List ℕ)) (rs : List Reporter) (name : List ℕ) → Contains names name → Contains (with_names names rs) name
names_stay names [] name there = there
names_stay names (r ∷ rs) name there =
    names_stay (insert_key id_cmp names r.name) rs name (All-contains (Contains (insert_key id_cmp names r.name)) names name (keys_stay id_cmp r.name names) there)

each_is_named : (names : List (List ℕ)) (rs : List Reporter) → All (λ r. Contains (with_names names rs) r.name) rs
each_is_named names [] = All-nil (λ r. Contains names r.name)
each_is_named names (r ∷ rs) =
    let more : List (List ℕ) = insert_key id_cmp names r.name in
    All-cons (λ r. Contains (with_names more rs) r.name) r rs (names_stay more rs r.name (key_there exact_bytes r.name names)) (each_is_named more rs)

names_are : (P : List ℕ → Type 0) (names : List (List ℕ)) (rs : List Reporter) → All P names → All (λ r. P r.name) rs → All P (with_names names rs)
names_are P names [] old new = old
names_are P names (r ∷ rs) old new = names_are P (insert_key id_cmp names r.name) rs (All-insert_key id_cmp r.name P names old (All-head (λ r. P r.name) r rs new)) (All-tail (λ r. P r.name) r rs new)

-- ---- an interval

module _ (rs : List Reporter) (id : ℤ) where
  lacks_from : (o : Option ℤ) → is_none o ≡ true → o ≡ None
  lacks_from None h = refl
  lacks_from (Some v) h = absurd (cc)

  abbrev lacks : Reporter → Bool
  lacks r = is_none (latest id r.reports)

  abbrev IsNamed : List ℕ → Type 0
  IsNamed name = (r : Reporter) × Contains rs r × (latest id r.reports ≡ None) × (r.name ≡ name)

  each_lacks : All (λ r. IsNamed r.name) (lacking id rs)
  each_lacks = each_there (λ r. IsNamed r.name) (lacking id rs) (λ r there. (
    r,
    All-contains (Contains rs) (lacking id rs) r (All-filter lacks (Contains rs) rs (All-contains_itself rs)) there,
    lacks_from (latest id r.reports) (All-contains (λ r. lacks r ≡ true) (lacking id rs) r (filter_passes lacks rs) there),
    refl,
  ))

  named : AreThoseThatLack id rs (missing_at id rs)
  named = record {
    in_order = names_in_order [] (lacking id rs) (none_sorted id_cmp);
    who_lacks_is_named = λ r there none. All-contains (λ r. Contains (missing_at id rs) r.name) (lacking id rs) r (each_is_named [] (lacking id rs)) (in_filter lacks rs r (ap (λ o. is_none o) none) there);
    who_is_named_lacks = λ name there. All-contains IsNamed (missing_at id rs) name (names_are IsNamed [] (lacking id rs) (All-nil IsNamed) each_lacks) there;
  }

sums_up : (id : ℤ) (sum : ℤ) (rs : List Reporter) → fold (λ sum r. plus sum (latest id r.reports)) sum rs ≡ fold ◌+ℤ◌ sum (filter_map (λ r. latest id r.reports) rs)
sums_up id sum [] = refl
sums_up id sum (r ∷ rs) = by (latest id r.reports) (λ sum. sums_up id sum rs)
  where
    by : (o : Option ℤ) → ((sum : ℤ) → fold (λ sum r. plus sum (latest id r.reports)) sum rs ≡ fold ◌+ℤ◌ sum (filter_map (λ r. latest id r.reports) rs))
        → fold (λ sum r. plus sum (latest id r.reports)) (plus sum o) rs ≡ fold ◌+ℤ◌ sum (cons_option o (filter_map (λ r. latest id r.reports) rs))
    by None more = more sum
    by (Some v) more = more (sum +ℤ v)

counts : (rs : List Reporter) (i : Interval) → CountsEachOnce rs (rollup_interval rs i)
counts rs i = record { sum_of_the_latest = sums_up i.id (pos 0) rs; named_where_it_lacks = named rs i.id }

-- ---- a roll-up

abbrev rolled_up : EventBody → List Reporter → Rollup
rolled_up event rs = record { program = event.program; intervals = map (rollup_interval rs) (carried event.intervals) }

each_counts : (event : EventBody) (rs : List Reporter) → IfSome (rollup_for event rs) (λ rollup. All (CountsEachOnce rs) rollup.intervals)
each_counts event rs = by (list_any (is_reported rs) event.intervals)
  where
    by : (b : Bool) → IfSome (cond b (Some (rolled_up event rs)) None) (λ rollup. All (CountsEachOnce rs) rollup.intervals)
    by true = All-map (CountsEachOnce rs) (rollup_interval rs) (carried event.intervals) (each_there (λ i. CountsEachOnce rs (rollup_interval rs i)) (carried event.intervals) (λ i there. counts rs i))
    by false = tt

-- ---- whose reports they are

-- each is on its resource
on_it : (reports : List Report) (n : ℕ) (report : Report) → Contains (reports_on n reports) report → report.body.head.resource ≡ n
on_it reports n report there =
    (unsigned_Decides report.body.head.resource n).0 (All-contains (λ r. (r.body.head.resource == n) ≡ true) (reports_on n reports) report (filter_passes (λ r. r.body.head.resource == n) reports) there)

-- so those of two resources have none in common
apart : (reports : List Report) (p q : Participant) → Behind nat_cmp p.resource q.resource → HaveNoneInCommon (reporter_of reports p) (reporter_of reports q)
apart reports p q less report one other =
    let same : p.resource ≡ q.resource = sym (on_it reports p.resource report one) ∙ on_it reports q.resource report other in
    let tied : nat_cmp p.resource q.resource ≡ Equal = ap (nat_cmp p.resource) (sym same) ∙ tied_itself nat_cmp_total p.resource in
    let never : Less ≡ Equal = sym less ∙ tied in
    absurd (cc)

all_apart : (reports : List Report) (ps : List Participant) → IsStrictlySortedBy nat_cmp (map (λ p. p.resource) ps) → AllPairs HaveNoneInCommon (reporters reports ps)
unfolding IsStrictlySortedBy
all_apart reports [] rise = λ i j d less within. absurd (omega (arith, within))
all_apart reports (p ∷ ps) rise =
    let behind : All (Behind nat_cmp p.resource) (map (λ p. p.resource) ps) = All-from_recursion (Behind nat_cmp p.resource) (map (λ p. p.resource) ps) rise.0 in
    let one : Reporter = reporter_of reports p in
    AllPairs-cons HaveNoneInCommon one (reporters reports ps)
    (All-map (HaveNoneInCommon one) (reporter_of reports) ps (each_there (λ q. HaveNoneInCommon one (reporter_of reports q)) ps (λ q there. apart reports p q (All-contains (Behind nat_cmp p.resource) (map (λ p. p.resource) ps) q.resource behind (in_map (λ (p : Participant). p.resource) ps q there)))))
    (all_apart reports ps rise.1)

pub counts_each_once : RollupsCountEachOnce
counts_each_once = record {
  each_by_its_latest = each_counts;
  each_report_of_one = λ base id event stands. all_apart (reports_of id base.portfolio.reports) (participants base.portfolio id event) (participants_rise base stands id event);
}
