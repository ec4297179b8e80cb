-- What is written as an event is refreshed is what the refresh of that source leaves.
use Rattle.std.proofs.Common.{◌≡◌, ℕ, Bool, true, false, cond, ◌||◌, ⊎_elim, List, [], ◌∷◌, map, Option, Some, None, Ok, refl, sym, ap, ap₂, subst, ◌∙◌}
use Rattle.std.specs.Prelude.{IfSome, is_some, option_map, option_and_then}
use Rattle.std.specs.Option.{option_map_or}
use Rattle.std.specs.Ordering.{nat_cmp}
use Rattle.std.proofs.lemmas.Option.{IfSome_then}
use Rattle.adr_objects.specs.declared.shown.ShownEvent.{ShownEvent}
use Rattle.adr_objects.specs.declared.shown.Stamps.{Stamps}
use Rattle.adr_state.specs.declared.base.Base.{Base}
use Rattle.adr_state.specs.declared.keys.ViewKey.{ViewKey}
use Rattle.adr_state.specs.declared.keys.ViewKey.TheVariants as key
use Rattle.adr_view.specs.declared.changes.Operation.{Operation}
use Rattle.adr_view.specs.declared.view.Content.{Content}
use Rattle.adr_view.specs.declared.view.Content.TheVariants as content
use Rattle.adr_view.specs.Changes.{restamped}
use Rattle.adr_view.specs.Laws.{StandsInOrder}
use Rattle.adr_view.specs.Views.{view, shown_of}
use Rattle.adr_view.proofs.ListLemmas.{all_filter_map, map_filter_map, sorted_map}
use Rattle.adr_view.proofs.ShownLemmas.{shown_is_of_view}
use Rattle.adr_refresh.specs.Maps.{rows_at}
use Rattle.adr_refresh.specs.Sources.{Source, source_of, is_of, rows_of}
use Rattle.adr_refresh.specs.Refresh.{Books, is_kept, changes_told, rows_before}
use Rattle.adr_refresh.specs.Touched.{upstream_event}
use Rattle.adr_refresh.proofs.Common.{All, All-contains, All-head, All-tail, InOrder, IsStrictlySortedBy, at, cases_Bool, each_there, equal_from_is, exact_bytes, exact_unsigned, filter_map, id_cmp, in_order_rows, is_at, is_eq, keys_of, list_any, map_of, nat_cmp_total, nat_list_cmp_total, none_sorted, option_or, shown_in_order, view_cmp, view_exact, view_total}
use Rattle.adr_refresh.proofs.ChangeLemmas.{at-under, any-with_keys, change_at as operation_at, has_stamps, in_order_under, stamp_at, under, with_keys_in_order}
use Rattle.adr_refresh.proofs.MapLemmas.{found as found_at, or_none, same_maps, tied}
use Rattle.adr_refresh.proofs.RefreshLemmas.{at-kept, at-told, at-stamps, kept_in_order, of_in_order}
use Rattle.adr_refresh.proofs.SourceLemmas.{source_itself}
use Rattle.adr_refresh.proofs.ViewLemmas.{view_of_sources}
use Rattle.adr_shown.specs.ShownTexts.{shown_text}
use Rattle.adr_shown.specs.ReadShown.{shown_of as shown_said}
use Rattle.adr_db.specs.declared.shown.ShownColumns.{ShownColumns}
use Rattle.adr_db.specs.declared.shown.ShownKey.{ShownKey}
use Rattle.adr_db.specs.Bases.{Beside}
use Rattle.adr_db.specs.ShownKeys.{shown_cmp}
use Rattle.adr_kept_view.specs.declared.change.ShownChange.{ShownChange}
use Rattle.adr_kept_view.specs.declared.found.Found.{Found}
use Rattle.adr_kept_view.specs.Columns.{columns_of, shown_rows, rollup_rows}
use Rattle.adr_kept_view.specs.KeptViews.{ReadsBack, KeepsView, Owns}
use Rattle.adr_kept_view.specs.Changes.{found_of, kept_row, rows_kept, event_row, stamps_row, event_in, owner_in, change_at, numbers_of, with_numbers, change_found, changes_found, shown_with_each, stamps_with_each}
use Rattle.adr_kept_view.specs.Refreshed.{books_behind, judged_in, IsTold, told_row, IsRefreshed, as_shown}
use Rattle.adr_kept_view.specs.Laws.{ReadsFound, with_found}
use Rattle.adr_kept_view.proofs.FoundLemmas.{kept_part, kept_made, kept_is, at-of_event, of_one_event}
use Rattle.adr_kept_view.proofs.OwnerLemmas.{at_there, event_there, resource_there}
use Rattle.adr_kept_view.proofs.RowLemmas.{shown_total, shown_exact, then_apart, event_of, at-shown_rows, shown_rows_in_order, rollup_part, at-rollup_rows, rollup_rows_in_order}
use Rattle.adr_kept_view.proofs.TurnLemmas.{at_judged, WasKept, IsNow, turn, Says, Turns, turned}
use Rattle.adr_kept_view.proofs.WriteLemmas.{left_behind, each_in_order, at-each, at-others}

-- one of the numbers has what all have
has_it : (P : ℕ → Type 0) (n : ℕ) (ns : List ℕ) → list_any (is_at (nat_cmp n)) ns ≡ true → All P ns → P n
has_it P n [] there all = absurd cc
has_it P n (m ∷ ns) there all = by (is_eq (nat_cmp n m)) refl (λ rest. has_it P n ns rest (All-tail P m ns all))
  where
    by : (b : Bool) → is_eq (nat_cmp n m) ≡ b → (list_any (is_at (nat_cmp n)) ns ≡ true → P n) → P n
    by true is rest = subst P (sym (exact_unsigned n m (equal_from_is _ is))) (All-head P m ns all)
    by false is rest = rest (let among : (is_eq (nat_cmp n m) || list_any (is_at (nat_cmp n)) ns) ≡ true = there in subst (λ b. (b || list_any (is_at (nat_cmp n)) ns) ≡ true) is among)

module _ (owner : ℕ → ℕ) (rows : List (ViewKey × Content)) (beside : Beside) (base : Base) (now : ℕ) (id : List ℕ) (keeps : KeepsView owner rows beside) (owns : Owns owner base) (stands : StandsInOrder base) (reads : All (ReadsFound (found_of beside base id)) (numbers_of (found_of beside base id))) where
  abbrev s : Source
  s = upstream_event id

  abbrev books : Books
  books = books_behind rows beside base base now s

  abbrev first : Books
  first = record { kept = rows; told = []; stamps = beside.stamps }

  abbrev found : Found
  found = found_of beside base id

  abbrev ns : List ℕ
  ns = numbers_of found

  abbrev change : ℕ → Option ShownChange
  change n = change_found base.portfolio now found n

  abbrev q : ℕ → ViewKey
  q n = key.Event id n

  abbrev old : ℕ → Option Content
  old n = at view_cmp (q n) rows

  abbrev new : ℕ → Option Content
  new n = at view_cmp (q n) (shown_of base id)

  abbrev stamped : ℕ → Option Stamps
  stamped n = at view_cmp (q n) beside.stamps

  -- ---- what is found of a resource

  kept_found : (n : ℕ) → at nat_cmp n found.kept ≡ option_and_then (kept_part owner n) (old n)
  kept_found n =
      ap (λ shown. at nat_cmp n (map_of nat_cmp (map kept_row (rows_kept id shown)))) keeps.shown
      ∙ ap (λ made. at nat_cmp n (map_of nat_cmp made)) (kept_is owner id rows)
      ∙ at-of_event (kept_made owner) (kept_part owner) id (λ i n c. refl) n rows keeps.in_order

  stamps_found : (n : ℕ) → at nat_cmp n found.stamps ≡ stamped n
  stamps_found n = at-of_event stamps_row (λ n stamps. Some stamps) id (λ i n stamps. refl) n beside.stamps keeps.stamps_in_order ∙ itself (stamped n)
    where
      itself : (o : Option Stamps) → option_and_then (λ stamps. Some stamps) o ≡ o
      itself None = refl
      itself (Some stamps) = refl

  shown_found : (n : ℕ) → at nat_cmp n found.shown ≡ option_and_then event_in (new n)
  shown_found n =
      ap (λ rows. at nat_cmp n (map_of nat_cmp (filter_map event_row rows))) (sym (shown_is_of_view base id stands))
      ∙ at-of_event event_row (λ n c. event_in c) id (λ i n c. refl) n (view base) (shown_in_order base)
      ∙ ap (option_and_then event_in) (view_of_sources base stands (q n))

  change_is : (n : ℕ) → change n ≡ turn owner base.portfolio now id n (old n) (stamped n) (new n)
  change_is n = λ i. change_at base.portfolio now n (kept_found n i) (stamps_found n i) (shown_found n i)

  among : (n : ℕ) → list_any (is_at (nat_cmp n)) ns ≡ (is_some (at nat_cmp n found.shown) || (is_some (at nat_cmp n found.kept) || false))
  among n = any-with_keys nat_cmp_total n (with_numbers [] found.kept) found.shown ∙ ap (λ b. is_some (at nat_cmp n found.shown) || b) (any-with_keys nat_cmp_total n [] found.kept)

  nothing : (n : ℕ) (o : Option ShownColumns) (st : Option Stamps) (w : Option ShownEvent) → (is_some w || (is_some o || false)) ≡ false → change_at base.portfolio now n o st w ≡ None
  nothing n None st None is = refl
  nothing n (Some c) st None is = absurd cc
  nothing n o st (Some e) is = absurd cc

  not_among : (n : ℕ) → list_any (is_at (nat_cmp n)) ns ≡ false → change n ≡ None
  not_among n is = nothing n (at nat_cmp n found.kept) (at nat_cmp n found.stamps) (at nat_cmp n found.shown) (sym (among n) ∙ is)

  was : (n : ℕ) → WasKept owner base.portfolio now id n (old n)
  was n = by (old n) refl
    where
      well : (c : Content) → ReadsBack (q n, c) → WasKept owner base.portfolio now id n (Some c)
      well (content.Event e) h = h
      well (content.Program name) h = absurd h
      well (content.Report body) h = absurd h
      well (content.Rollup r) h = absurd h

      by : (o : Option Content) → old n ≡ o → WasKept owner base.portfolio now id n o
      by None is = tt
      by (Some c) is = well c (All-contains ReadsBack rows (q n, c) keeps.reads (at_there (q n) rows c is))

  its_owner : (n : ℕ) (c : Content) → new n ≡ Some c → owner_in base.portfolio n ≡ owner n
  its_owner n c is =
      let there = resource_there base stands id n c is in
      ap (λ o. option_map_or (λ r. r.ven) o 0) there.1 ∙ sym (owns n there.0 there.1)

  its_text : (n : ℕ) (e : ShownEvent) → new n ≡ Some (content.Event e) → shown_said (shown_text e) ≡ Ok e
  its_text n e is =
      let there : at nat_cmp n found.shown ≡ Some e = shown_found n ∙ ap (option_and_then event_in) is in
      let member : list_any (is_at (nat_cmp n)) ns ≡ true = among n ∙ ap (λ o. is_some o || (is_some (at nat_cmp n found.kept) || false)) there in
      subst (λ o. IfSome o (λ e. shown_said (shown_text e) ≡ Ok e)) there (has_it (ReadsFound found) n ns member reads)

  is_now : (n : ℕ) → IsNow owner base.portfolio now id n (new n)
  is_now n = by (new n) refl
    where
      by : (o : Option Content) → new n ≡ o → IsNow owner base.portfolio now id n o
      by None is = tt
      by (Some (content.Event e)) is = (its_owner n (content.Event e) is, its_text n e is)
      by (Some (content.Program name)) is = absurd (event_there base stands id n (content.Program name) is)
      by (Some (content.Report body)) is = absurd (event_there base stands id n (content.Report body) is)
      by (Some (content.Rollup r)) is = absurd (event_there base stands id n (content.Rollup r) is)

  turns : (n : ℕ) → Turns owner base.portfolio now id n (old n) (stamped n) (new n)
  turns n = turned owner base.portfolio now id n (old n) (stamped n) (new n) (was n) (is_now n) (keeps.stamped (q n) refl)

  own : (n : ℕ) → IfSome (change n) (λ c. c.resource ≡ n)
  own n = subst (λ o. IfSome o (λ c. c.resource ≡ n)) (sym (change_is n)) (IfSome_then (turn owner base.portfolio now id n (old n) (stamped n) (new n)) (turns n).says (λ c says. says.resource))

  -- ---- where the keys stand

  alike_views : (n m : ℕ) → is_eq (view_cmp (q n) (q m)) ≡ is_eq (nat_cmp n m)
  alike_views n m = ap is_eq (of_one_event id id id n m (tied nat_list_cmp_total id) (tied nat_list_cmp_total id))

  abbrev place : ℕ → ShownKey
  place n = record { event = id; resource = n }

  alike_rows : (n m : ℕ) → is_eq (shown_cmp (place n) (place m)) ≡ is_eq (nat_cmp n m)
  alike_rows n m = alike_views n m

  -- a key that is not of the event is of no resource's
  apart_views : (k : ViewKey) → is_of s k ≡ false → (n : ℕ) → is_eq (view_cmp k (q n)) ≡ false
  apart_views (key.Event i m) other n = then_apart (id_cmp i id) (nat_cmp m n) other
  apart_views (key.Program i) other n = refl
  apart_views (key.Report m) other n = refl
  apart_views (key.Rollup i) other n = refl

  -- what holds at each resource's key holds at each key of the event
  at_each_key : (P : ViewKey → Type 0) → ((n : ℕ) → P (q n)) → (k : ViewKey) → is_of s k ≡ true → P k
  at_each_key P each (key.Event i m) is = subst (λ j. P (key.Event j m)) (sym (exact_bytes i id (equal_from_is _ is))) (each m)
  at_each_key P each (key.Program i) is = absurd cc
  at_each_key P each (key.Report m) is = absurd cc
  at_each_key P each (key.Rollup i) is = absurd cc

  its_own : (n : ℕ) → is_of s (q n) ≡ true
  its_own n = source_itself s

  -- where nothing changes nothing is written
  anyway : {V : Type 0} (value_of : ShownChange → V) (n : ℕ) (o : Option V) → cond (list_any (is_at (nat_cmp n)) ns) (left_behind value_of (change n) o) o ≡ left_behind value_of (change n) o
  anyway value_of n o =
      ⊎_elim
      (λ is. rw is refl)
      (λ apart. let none : change n ≡ None = not_among n apart in rw apart (ap (λ c. left_behind value_of c o) (sym none)))
      (cases_Bool (list_any (is_at (nat_cmp n)) ns))

  -- ---- what is kept

  abbrev columns : ShownChange → ShownColumns
  columns c = columns_of c.ven c.shown

  kept_at : (n : ℕ) → at view_cmp (q n) books.kept ≡ new n
  kept_at n = at-kept base base stands now (q n) rows s ∙ (let mine = its_own n in rw mine refl)

  others_kept : (k : ViewKey) → is_of s k ≡ false → at view_cmp k books.kept ≡ at view_cmp k rows
  others_kept k other = at-kept base base stands now k rows s ∙ rw other refl

  kept_up : InOrder view_cmp books.kept
  kept_up = kept_in_order base base stands now rows s keeps.in_order

  shown_up : InOrder shown_cmp beside.shown
  shown_up = subst (InOrder shown_cmp) (sym keeps.shown) (shown_rows_in_order owner rows keeps.in_order)

  was_at : (k : ShownKey) → at shown_cmp k beside.shown ≡ option_and_then (kept_part owner k.resource) (at view_cmp (event_of k) rows)
  was_at k = ap (at shown_cmp k) keeps.shown ∙ at-shown_rows owner k rows keeps.in_order

  abbrev shown_then : List (ShownKey × ShownColumns)
  shown_then = shown_with_each id change beside.shown ns

  shown_at : (n : ℕ) → at shown_cmp (place n) shown_then ≡ option_and_then (kept_part owner n) (new n)
  shown_at n =
      at-each shown_total place columns change own alike_rows n ns beside.shown shown_up
      ∙ anyway columns n (at shown_cmp (place n) beside.shown)
      ∙ ap₂ (left_behind columns) (change_is n) (was_at (place n))
      ∙ (turns n).kept

  same_shown : shown_then ≡ shown_rows owner books.kept
  same_shown = same_maps shown_total shown_exact shown_then (shown_rows owner books.kept) (each_in_order shown_total place columns change own ns beside.shown shown_up) (shown_rows_in_order owner books.kept kept_up) by
    where
      by : (k : ShownKey) → at shown_cmp k shown_then ≡ at shown_cmp k (shown_rows owner books.kept)
      by k =
          ⊎_elim
          (λ is.
          let same : k.event ≡ id = exact_bytes k.event id (equal_from_is _ is) in
          subst (λ (e : List ℕ). at shown_cmp (record { event = e; resource = k.resource }) shown_then ≡ at shown_cmp (record { event = e; resource = k.resource }) (shown_rows owner books.kept)) (sym same)
          (shown_at k.resource ∙ ap (option_and_then (kept_part owner k.resource)) (sym (kept_at k.resource)) ∙ sym (at-shown_rows owner (place k.resource) books.kept kept_up)))
          (λ other.
          at-others shown_total place columns change own k (λ n. then_apart (id_cmp k.event id) (nat_cmp k.resource n) other) ns beside.shown shown_up
          ∙ was_at k ∙ ap (option_and_then (kept_part owner k.resource)) (sym (others_kept (event_of k) other)) ∙ sym (at-shown_rows owner k books.kept kept_up))
          (cases_Bool (is_eq (id_cmp k.event id)))

  same_rollups : rollup_rows rows ≡ rollup_rows books.kept
  same_rollups = same_maps nat_list_cmp_total exact_bytes (rollup_rows rows) (rollup_rows books.kept) (rollup_rows_in_order rows keeps.in_order) (rollup_rows_in_order books.kept kept_up) (λ i.
      at-rollup_rows i rows keeps.in_order ∙ ap (option_and_then (rollup_part i)) (sym (others_kept (key.Rollup i) refl)) ∙ sym (at-rollup_rows i books.kept kept_up))

  -- ---- the stamps

  abbrev stamps_of : ShownChange → Stamps
  stamps_of c = c.stamps

  abbrev stamps_then : List (ViewKey × Stamps)
  stamps_then = stamps_with_each id change beside.stamps ns

  stamps_up : InOrder view_cmp stamps_then
  stamps_up = each_in_order view_total q stamps_of change own ns beside.stamps keeps.stamps_in_order

  stamps_at : (n : ℕ) → at view_cmp (q n) stamps_then ≡ stamp_at (old n) (new n) now (stamped n)
  stamps_at n =
      at-each view_total q stamps_of change own alike_views n ns beside.stamps keeps.stamps_in_order
      ∙ anyway stamps_of n (stamped n)
      ∙ ap (λ c. left_behind stamps_of c (stamped n)) (change_is n)
      ∙ (turns n).stamped

  others_stamped : (k : ViewKey) → is_of s k ≡ false → at view_cmp k stamps_then ≡ at view_cmp k beside.stamps
  others_stamped k other = at-others view_total q stamps_of change own k (apart_views k other) ns beside.stamps keeps.stamps_in_order

  books_stamped : (n : ℕ) → at view_cmp (q n) books.stamps ≡ stamp_at (old n) (new n) now (stamped n)
  books_stamped n = at-stamps base base stands now (q n) first s ∙ (let mine = its_own n in rw mine refl)

  same_stamps : stamps_then ≡ books.stamps
  same_stamps = same_maps view_total view_exact stamps_then books.stamps stamps_up
      (of_in_order s beside.stamps (restamped (rows_at (is_of s) beside.stamps) (rows_before base rows s) (rows_of base s) now) keeps.stamps_in_order) by
    where
      by : (k : ViewKey) → at view_cmp k stamps_then ≡ at view_cmp k books.stamps
      by k =
          ⊎_elim
          (λ is. at_each_key (λ k. at view_cmp k stamps_then ≡ at view_cmp k books.stamps) (λ n. stamps_at n ∙ sym (books_stamped n)) k is)
          (λ other. others_stamped k other ∙ sym (at-stamps base base stands now k first s ∙ rw other refl))
          (cases_Bool (is_of s k))

  -- ---- what is told

  abbrev operation : ℕ → Option Operation
  operation n = option_map (λ (c : ShownChange). c.operation) (change n)

  abbrev by_number : List (ℕ × Operation)
  by_number = filter_map (under nat_cmp_total exact_unsigned operation) ns

  abbrev renamed : ℕ × Operation → ViewKey × Operation
  renamed r = (q r.0, r.1)

  ns_up : IsStrictlySortedBy nat_cmp ns
  unfolding IsStrictlySortedBy
  ns_up = with_keys_in_order nat_cmp_total (with_numbers [] found.kept) found.shown (with_keys_in_order nat_cmp_total [] found.kept tt)

  told_is : map (told_row id) (filter_map change ns) ≡ map renamed by_number
  told_is =
      map_filter_map change (told_row id) (λ n. option_map (told_row id) (change n)) ns (each_there (λ n. option_map (told_row id) (change n) ≡ option_map (told_row id) (change n)) ns (λ n there. refl))
      ∙ sym (map_filter_map (under nat_cmp_total exact_unsigned operation) renamed (λ n. option_map (told_row id) (change n)) ns (each_there Same ns (λ n there. same n (change n) (own n))))
    where
      Same : ℕ → Type 0
      Same n = option_map renamed (under nat_cmp_total exact_unsigned operation n) ≡ option_map (told_row id) (change n)

      same : (n : ℕ) (o : Option ShownChange) → IfSome o (λ c. c.resource ≡ n) → option_map renamed (option_map (λ x. (n, x)) (option_map (λ (c : ShownChange). c.operation) o)) ≡ option_map (told_row id) o
      same n None is = refl
      same n (Some c) is = ap (λ m. Some (q m, c.operation)) (sym is)

  renamed_at : (n : ℕ) (m : List (ℕ × Operation)) → at view_cmp (q n) (map renamed m) ≡ at nat_cmp n m
  renamed_at n [] = refl
  renamed_at n (r ∷ m) = ap₂ (λ b o. cond b (Some r.1) o) (alike_views n r.0) (renamed_at n m)

  renamed_apart : (k : ViewKey) → is_of s k ≡ false → (m : List (ℕ × Operation)) → at view_cmp k (map renamed m) ≡ None
  renamed_apart k other [] = refl
  renamed_apart k other (r ∷ m) = let apart = apart_views k other r.0 in rw apart (renamed_apart k other m)

  renamed_up : InOrder view_cmp (map renamed by_number)
  renamed_up = subst (IsStrictlySortedBy view_cmp) (sym (keys by_number))
      (sorted_map nat_cmp view_cmp q (λ m n less. of_one_event id id id m n (tied nat_list_cmp_total id) (tied nat_list_cmp_total id) ∙ less) (keys_of by_number) (in_order_under nat_cmp_total exact_unsigned operation ns ns_up))
    where
      keys : (m : List (ℕ × Operation)) → keys_of (map renamed m) ≡ map q (keys_of m)
      keys [] = refl
      keys (r ∷ m) = ap (λ ks. q r.0 ∷ ks) (keys m)

  told_at : (n : ℕ) → at nat_cmp n by_number ≡ operation_at (q n) (old n) (new n)
  told_at n =
      at-under nat_cmp_total exact_unsigned operation n ns
      ∙ ⊎_elim
      (λ is. rw is refl)
      (λ apart. let none : change n ≡ None = not_among n apart in rw apart (ap (option_map (λ (c : ShownChange). c.operation)) (sym none)))
      (cases_Bool (list_any (is_at (nat_cmp n)) ns))
      ∙ ap (option_map (λ (c : ShownChange). c.operation)) (change_is n)
      ∙ (turns n).told

  books_told : (n : ℕ) → at view_cmp (q n) books.told ≡ operation_at (q n) (old n) (new n)
  books_told n = at-told base base stands now (q n) first s ∙ ap (λ b. option_or (cond b (operation_at (q n) (old n) (new n)) None) None) (its_own n) ∙ or_none (operation_at (q n) (old n) (new n))

  others_untold : (k : ViewKey) → is_of s k ≡ false → at view_cmp k books.told ≡ None
  others_untold k other = at-told base base stands now k first s ∙ rw other refl

  told_books : (k : ViewKey) → at view_cmp k (map renamed by_number) ≡ at view_cmp k books.told
  told_books k =
      ⊎_elim
      (λ is. at_each_key (λ k. at view_cmp k (map renamed by_number) ≡ at view_cmp k books.told) (λ n. renamed_at n by_number ∙ told_at n ∙ sym (books_told n)) k is)
      (λ other. renamed_apart k other by_number ∙ sym (others_untold k other))
      (cases_Bool (is_of s k))

  same_told : map (told_row id) (filter_map change ns) ≡ books.told
  same_told = told_is ∙ same_maps view_total view_exact (map renamed by_number) books.told renamed_up (in_order_rows view_total [] (changes_told (rows_before base rows s) (rows_of base s)) (none_sorted view_cmp)) told_books

  -- ---- each change

  each_told : All (IsTold owner rows beside.stamps books id) (filter_map change ns)
  each_told = all_filter_map change (λ n. Unit {0}) (IsTold owner rows beside.stamps books id) (λ n h. made n) ns (each_there (λ n. Unit {0}) ns (λ n there. tt))
    where
      says : (n : ℕ) (c : ShownChange) → Says owner base.portfolio now id n (old n) (new n) (stamped n) c → IsTold owner rows beside.stamps books id c
      says n c h = subst (λ m. IsTold owner rows beside.stamps books id (record c { resource = m })) (sym h.resource) (record {
        shown = at_judged (q n) c.operation rows books.kept ∙ ap (judged_in c.operation (old n)) (kept_at n) ∙ h.shown;
        stamps = at_judged (q n) c.operation beside.stamps books.stamps ∙ ap (judged_in c.operation (stamped n)) (books_stamped n) ∙ h.stamped;
        ven = h.ven;
      })

      made : (n : ℕ) → IfSome (change n) (IsTold owner rows beside.stamps books id)
      made n = subst (λ o. IfSome o (IsTold owner rows beside.stamps books id)) (sym (change_is n)) (IfSome_then (turn owner base.portfolio now id n (old n) (stamped n) (new n)) (turns n).says (says n))

  -- ---- in all

  reads_then : (k : ViewKey) (c : Content) → at view_cmp k books.kept ≡ Some c → ReadsBack (k, c)
  reads_then k c is =
      ⊎_elim
      (λ own. at_each_key (λ k. at view_cmp k books.kept ≡ Some c → ReadsBack (k, c)) (λ n is. text n c (subst (IsNow owner base.portfolio now id n) (sym (kept_at n) ∙ is) (is_now n))) k own is)
      (λ other. All-contains ReadsBack rows (k, c) keeps.reads (at_there k rows c (sym (others_kept k other) ∙ is)))
      (cases_Bool (is_of s k))
    where
      text : (n : ℕ) (c : Content) → IsNow owner base.portfolio now id n (Some c) → ReadsBack (q n, c)
      text n (content.Event e) h = h.1
      text n (content.Program name) h = absurd h
      text n (content.Report body) h = absurd h
      text n (content.Rollup r) h = absurd h

  stamped_then : (k : ViewKey) → is_kept (source_of k) ≡ true → is_some (at view_cmp k stamps_then) ≡ is_some (at view_cmp k books.kept)
  stamped_then k kept =
      ⊎_elim
      (λ is. at_each_key (λ k. is_some (at view_cmp k stamps_then) ≡ is_some (at view_cmp k books.kept)) (λ n. ap is_some (stamps_at n) ∙ has_stamps (old n) (new n) now (stamped n) ∙ ap is_some (sym (kept_at n))) k is)
      (λ other. ap is_some (others_stamped k other) ∙ keeps.stamped k kept ∙ ap is_some (sym (others_kept k other)))
      (cases_Bool (is_of s k))

  pub event_refreshed : (before : Base) → IsRefreshed as_shown owner rows beside before base now id (changes_found base.portfolio now found) (with_found beside base now id found)
  event_refreshed before = record {
    tables = λ i. record beside { shown = same_shown i; rollups = (keeps.rollups ∙ same_rollups) i; stamps = same_stamps i };
    keeps = record {
      in_order = kept_up;
      reads = each_there ReadsBack books.kept (λ r there. reads_then r.0 r.1 (found_at view_total books.kept r kept_up there));
      shown = same_shown;
      rollups = keeps.rollups ∙ same_rollups;
      stamps_in_order = stamps_up;
      stamped = stamped_then;
    };
    told = same_told;
    each = each_told;
  }
