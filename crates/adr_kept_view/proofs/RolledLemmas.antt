-- What is written as the roll-up of an event is refreshed is what the refresh of that source leaves.
use Rattle.std.proofs.Common.{◌≡◌, ℕ, Bool, true, false, cond, ⊎_elim, List, [], map, Option, Some, None, Ok, Ordering, refl, sym, ap, subst, ◌∙◌}
use Rattle.std.specs.Prelude.{IfSome, is_some, option_map, option_and_then, bytes_eq}
use Rattle.std.specs.Option.{option_to_list}
use Rattle.std.specs.Result.{result_ok}
use Rattle.std.proofs.lemmas.List.Elements.{All-cons, All-nil}
use Rattle.std.proofs.lemmas.Option.{same_Some}
use Rattle.std.proofs.lemmas.Slice.Eq.{bytes_eq-Decides}
use Rattle.adr_objects.specs.declared.report.Rollup.{Rollup}
use Rattle.adr_objects.specs.declared.shown.Stamps.{Stamps}
use Rattle.adr_state.specs.declared.base.Base.{Base}
use Rattle.adr_state.specs.declared.keys.ViewKey.{ViewKey}
use Rattle.adr_state.specs.declared.keys.ViewKey.TheVariants as key
use Rattle.adr_view.specs.declared.changes.Operation.{Operation}
use Rattle.adr_view.specs.declared.changes.Operation.TheVariants as operation
use Rattle.adr_view.specs.declared.view.Content.{Content}
use Rattle.adr_view.specs.declared.view.Content.TheVariants as content
use Rattle.adr_view.specs.Changes.{restamped}
use Rattle.adr_view.specs.Laws.{StandsInOrder}
use Rattle.adr_view.specs.Rollups.{rollup_at}
use Rattle.adr_view.specs.Same.{is_same_content}
use Rattle.adr_view.specs.Views.{rolled_up}
use Rattle.adr_view.proofs.LawLemmas.{contents_equal}
use Rattle.adr_view.proofs.OrderLemmas.{in_order_put, in_order_removed}
use Rattle.adr_refresh.specs.Maps.{rows_at}
use Rattle.adr_refresh.specs.Sources.{Source, RolledUp, source_of, is_of, rows_of}
use Rattle.adr_refresh.specs.Refresh.{Books, is_kept, changes_told, rows_before}
use Rattle.adr_refresh.proofs.Common.{All, All-contains, InOrder, IsStrictlySortedBy, IsTotalOrder, at, at-insert_entry, cases_Bool, each_there, equal_from_is, exact_bytes, id_cmp, in_order_rows, is_at, is_eq, nat_list_cmp_total, none_sorted, option_or, view_cmp, view_exact, view_total}
use Rattle.adr_refresh.proofs.ChangeLemmas.{change_at as operation_at, has_stamps, stamp_at}
use Rattle.adr_refresh.proofs.MapLemmas.{found as found_at, or_none, same_maps, tied}
use Rattle.adr_refresh.proofs.RefreshLemmas.{at-kept, at-told, at-stamps, kept_in_order, of_in_order}
use Rattle.adr_refresh.proofs.SourceLemmas.{source_itself}
use Rattle.adr_shown.specs.RollupTexts.{kept_rollup_text}
use Rattle.adr_shown.specs.ReadRollups.{kept_rollup_of}
use Rattle.adr_db.specs.declared.shown.RollupColumns.{RollupColumns}
use Rattle.adr_db.specs.Bases.{Beside}
use Rattle.adr_kept_view.specs.declared.change.RollupChange.{RollupChange}
use Rattle.adr_kept_view.specs.Columns.{rollup_columns, shown_rows, rollup_rows}
use Rattle.adr_kept_view.specs.KeptViews.{ReadsBack, KeepsView}
use Rattle.adr_kept_view.specs.Rollups.{stays, change_of, set_at, rollups_with, stamps_now, stamps_with}
use Rattle.adr_kept_view.specs.Refreshed.{books_behind, judged_in, IsRollupTold, rollup_told, IsRefreshed, as_rolled_up}
use Rattle.adr_kept_view.specs.Laws.{with_rollup}
use Rattle.adr_kept_view.proofs.FoundLemmas.{kept_part}
use Rattle.adr_kept_view.proofs.OwnerLemmas.{at_there}
use Rattle.adr_kept_view.proofs.RowLemmas.{shown_total, shown_exact, event_of, at-shown_rows, shown_rows_in_order, rollup_part, at-rollup_rows, rollup_rows_in_order}
use Rattle.adr_kept_view.proofs.TurnLemmas.{at_judged, both_ways}
use Rattle.adr_kept_view.proofs.WriteLemmas.{at-removed}

module _ {K V : Type 0} {cmp : K → K → Ordering} (order : IsTotalOrder cmp) where
  pub at-set : (q k : K) (o : Option V) (es : List (K × V)) → InOrder cmp es → at cmp q (set_at cmp k o es) ≡ cond (is_eq (cmp q k)) o (at cmp q es)
  at-set q k None es up = at-removed order q k es up
  at-set q k (Some v) es up = at-insert_entry order q k v es

  pub set_in_order : (k : K) (o : Option V) (es : List (K × V)) → InOrder cmp es → InOrder cmp (set_at cmp k o es)
  set_in_order k None es up = in_order_removed cmp (is_at (cmp k)) es up
  set_in_order k (Some v) es up = in_order_put order k v es up

  -- where it stays, as it was
  at-unless : (b : Bool) (q k : K) (o : Option V) (es : List (K × V)) → InOrder cmp es → at cmp q (cond b es (set_at cmp k o es)) ≡ cond b (at cmp q es) (cond (is_eq (cmp q k)) o (at cmp q es))
  at-unless true q k o es up = refl
  at-unless false q k o es up = at-set q k o es up

  unless_in_order : (b : Bool) (k : K) (o : Option V) (es : List (K × V)) → InOrder cmp es → InOrder cmp (cond b es (set_at cmp k o es))
  unless_in_order true k o es up = up
  unless_in_order false k o es up = set_in_order k o es up

  -- at its own key, and at another
  own_unless : (b : Bool) (k : K) (o : Option V) (es : List (K × V)) → InOrder cmp es → at cmp k (cond b es (set_at cmp k o es)) ≡ cond b (at cmp k es) o
  own_unless b k o es up = at-unless b k k o es up ∙ ap (λ c. cond b (at cmp k es) (cond c o (at cmp k es))) (tied order k)

  other_unless : (b : Bool) (q k : K) (o : Option V) (es : List (K × V)) → InOrder cmp es → is_eq (cmp q k) ≡ false → at cmp q (cond b es (set_at cmp k o es)) ≡ at cmp q es
  other_unless b q k o es up apart = at-unless b q k o es up ∙ ap (λ c. cond b (at cmp q es) (cond c o (at cmp q es))) apart ∙ both b
    where
      both : (b : Bool) → cond b (at cmp q es) (at cmp q es) ≡ at cmp q es
      both true = refl
      both false = refl

-- two roll-ups of one event whose texts read back have one text exactly where they are the same
same_rolled : (id : List ℕ) (a b : Rollup) → kept_rollup_of (kept_rollup_text id a) ≡ Ok (id, a) → kept_rollup_of (kept_rollup_text id b) ≡ Ok (id, b) → bytes_eq (kept_rollup_text id a) (kept_rollup_text id b) ≡ is_same_content (content.Rollup a) (content.Rollup b)
same_rolled id a b one other =
    both_ways (bytes_eq (kept_rollup_text id a) (kept_rollup_text id b)) (is_same_content (content.Rollup a) (content.Rollup b))
    (λ is.
    let text : kept_rollup_text id a ≡ kept_rollup_text id b = (bytes_eq-Decides (kept_rollup_text id a) (kept_rollup_text id b)).0 is in
    let same : (id, a) ≡ (id, b) = same_Some (id, a) (id, b) (ap result_ok (sym one ∙ ap kept_rollup_of text ∙ other)) in
    (contents_equal (content.Rollup a) (content.Rollup b)).1 (ap (λ (r : List ℕ × Rollup). content.Rollup r.1) same))
    (λ is.
    let same : content.Rollup a ≡ content.Rollup b = (contents_equal (content.Rollup a) (content.Rollup b)).0 is in
    (bytes_eq-Decides (kept_rollup_text id a) (kept_rollup_text id b)).1 (ap (kept_rollup_text id) (same_Some a b (ap rollup_in same))))
  where
    rollup_in : Content → Option Rollup
    rollup_in (content.Rollup r) = Some r
    rollup_in _ = None

module _ (id : List ℕ) (now : ℕ) where
  abbrev WasRolled : Option Content → Type 0
  WasRolled None = Unit {0}
  WasRolled (Some (content.Rollup r)) = kept_rollup_of (kept_rollup_text id r) ≡ Ok (id, r)
  WasRolled _ = ⊥

  abbrev columns_at : Option Content → Option RollupColumns
  columns_at o = option_and_then (rollup_part id) o

  abbrev as_content : Option Rollup → Option Content
  as_content w = option_map content.Rollup w

  record Rolls (stay : Bool) (change : Option RollupChange) (old : Option Content) (stamps : Option Stamps) (new : Option Rollup) : Type 0 where
    kept : cond stay (columns_at old) (option_map (rollup_columns id) new) ≡ columns_at (as_content new)
    stamped : cond stay stamps (option_map (λ r. stamps_now now (columns_at old) stamps) new) ≡ stamp_at old (as_content new) now stamps
    told : option_map (λ (c : RollupChange). c.operation) change ≡ operation_at (key.Rollup id) old (as_content new)
    says : IfSome change (λ c. judged_in c.operation old (as_content new) ≡ Some (content.Rollup c.rollup))

  abbrev RollsAs : Option Content → Option Stamps → Option Rollup → Type 0
  RollsAs old stamps new = Rolls (stays id (columns_at old) new) (change_of id (columns_at old) new) old stamps new

  differs : (a b : Rollup) (s : Stamps) → kept_rollup_of (kept_rollup_text id a) ≡ Ok (id, a) → kept_rollup_of (kept_rollup_text id b) ≡ Ok (id, b) → RollsAs (Some (content.Rollup a)) (Some s) (Some b)
  differs a b s was is = subst (λ x. Rolls x (cond x None (Some put)) (Some (content.Rollup a)) (Some s) (Some b)) (sym (same_rolled id a b was is)) (by (is_same_content (content.Rollup a) (content.Rollup b)) refl)
    where
      put : RollupChange
      put = record { operation = operation.Put; rollup = b }

      by : (x : Bool) → is_same_content (content.Rollup a) (content.Rollup b) ≡ x → Rolls x (cond x None (Some put)) (Some (content.Rollup a)) (Some s) (Some b)
      by true same =
          let equal : content.Rollup a ≡ content.Rollup b = (contents_equal (content.Rollup a) (content.Rollup b)).0 same in
          record { kept = ap (rollup_part id) equal; stamped = rw same refl; told = rw same refl; says = tt }
      by false apart = record { kept = refl; stamped = rw apart refl; told = rw apart refl; says = refl }

  rolled : (old : Option Content) (stamps : Option Stamps) (new : Option Rollup) → WasRolled old → IfSome new (λ r. kept_rollup_of (kept_rollup_text id r) ≡ Ok (id, r)) → is_some stamps ≡ is_some old → RollsAs old stamps new
  rolled None None None was is same = record { kept = refl; stamped = refl; told = refl; says = tt }
  rolled None None (Some b) was is same = record { kept = refl; stamped = refl; told = refl; says = refl }
  rolled (Some (content.Rollup a)) (Some s) None was is same = record { kept = refl; stamped = refl; told = refl; says = tt }
  rolled (Some (content.Rollup a)) (Some s) (Some b) was is same = differs a b s was is
  rolled None (Some s) new was is same = absurd cc
  rolled (Some (content.Rollup a)) None new was is same = absurd cc
  rolled (Some (content.Program name)) stamps new was is same = absurd was
  rolled (Some (content.Report body)) stamps new was is same = absurd was
  rolled (Some (content.Event e)) stamps new was is same = absurd was

module _ (owner : ℕ → ℕ) (rows : List (ViewKey × Content)) (beside : Beside) (base : Base) (now : ℕ) (id : List ℕ) (keeps : KeepsView owner rows beside) (stands : StandsInOrder base) (reads : IfSome (rollup_at base.mirror base.portfolio id) (λ r. kept_rollup_of (kept_rollup_text id r) ≡ Ok (id, r))) where
  abbrev s : Source
  s = RolledUp id

  abbrev books : Books
  books = books_behind rows beside base base now s

  abbrev first : Books
  first = record { kept = rows; told = []; stamps = beside.stamps }

  abbrev q : ViewKey
  q = key.Rollup id

  abbrev old : Option Content
  old = at view_cmp q rows

  abbrev new : Option Rollup
  new = rollup_at base.mirror base.portfolio id

  abbrev stamps_were : Option Stamps
  stamps_were = at view_cmp q beside.stamps

  abbrev columns_were : Option RollupColumns
  columns_were = at id_cmp id beside.rollups

  was_kept : columns_were ≡ columns_at id now old
  was_kept = ap (at id_cmp id) keeps.rollups ∙ at-rollup_rows id rows keeps.in_order

  was : WasRolled id now old
  was = by old refl
    where
      well : (c : Content) → ReadsBack (q, c) → WasRolled id now (Some c)
      well (content.Rollup r) h = h
      well (content.Program name) h = absurd h
      well (content.Report body) h = absurd h
      well (content.Event e) h = absurd h

      by : (o : Option Content) → old ≡ o → WasRolled id now o
      by None is = tt
      by (Some c) is = well c (All-contains ReadsBack rows (q, c) keeps.reads (at_there q rows c is))

  rolls : Rolls id now (stays id columns_were new) (change_of id columns_were new) old stamps_were new
  rolls = subst (λ o. Rolls id now (stays id o new) (change_of id o new) old stamps_were new) (sym was_kept) (rolled id now old stamps_were new was reads (keeps.stamped q refl))

  -- ---- where the keys stand

  its_own : is_of s q ≡ true
  its_own = source_itself s

  now_at : at view_cmp q (rows_of base s) ≡ as_content id now new
  now_at = by new
    where
      by : (o : Option Rollup) → at view_cmp q (rolled_up id o) ≡ as_content id now o
      by None = refl
      by (Some r) = let itself : is_eq (id_cmp id id) ≡ true = tied nat_list_cmp_total id in rw itself refl

  at_its_key : (P : ViewKey → Type 0) → P q → (k : ViewKey) → is_of s k ≡ true → P k
  at_its_key P it (key.Rollup i) is = subst (λ j. P (key.Rollup j)) (sym (exact_bytes i id (equal_from_is _ is))) it
  at_its_key P it (key.Event i m) is = absurd cc
  at_its_key P it (key.Program i) is = absurd cc
  at_its_key P it (key.Report m) is = absurd cc

  apart : (k : ViewKey) → is_of s k ≡ false → is_eq (view_cmp k q) ≡ false
  apart (key.Rollup i) other = other
  apart (key.Event i m) other = refl
  apart (key.Program i) other = refl
  apart (key.Report m) other = refl

  -- ---- what is kept

  kept_at : at view_cmp q books.kept ≡ as_content id now new
  kept_at = at-kept base base stands now q rows s ∙ ap (λ b. cond b (at view_cmp q (rows_of base s)) old) its_own ∙ now_at

  others_kept : (k : ViewKey) → is_of s k ≡ false → at view_cmp k books.kept ≡ at view_cmp k rows
  others_kept k other = at-kept base base stands now k rows s ∙ rw other refl

  kept_up : InOrder view_cmp books.kept
  kept_up = kept_in_order base base stands now rows s keeps.in_order

  rollups_up : InOrder id_cmp beside.rollups
  rollups_up = subst (InOrder id_cmp) (sym keeps.rollups) (rollup_rows_in_order rows keeps.in_order)

  abbrev rollups_then : List (List ℕ × RollupColumns)
  rollups_then = rollups_with id columns_were new beside.rollups

  rollup_then : at id_cmp id rollups_then ≡ columns_at id now (as_content id now new)
  rollup_then = own_unless nat_list_cmp_total (stays id columns_were new) id (option_map (rollup_columns id) new) beside.rollups rollups_up ∙ ap (λ o. cond (stays id columns_were new) o (option_map (rollup_columns id) new)) was_kept ∙ rolls.kept

  same_rollups : rollups_then ≡ rollup_rows books.kept
  same_rollups = same_maps nat_list_cmp_total exact_bytes rollups_then (rollup_rows books.kept) (unless_in_order nat_list_cmp_total (stays id columns_were new) id (option_map (rollup_columns id) new) beside.rollups rollups_up) (rollup_rows_in_order books.kept kept_up) by
    where
      by : (i : List ℕ) → at id_cmp i rollups_then ≡ at id_cmp i (rollup_rows books.kept)
      by i =
          ⊎_elim
          (λ is.
          let same : i ≡ id = exact_bytes i id (equal_from_is _ is) in
          subst (λ (j : List ℕ). at id_cmp j rollups_then ≡ at id_cmp j (rollup_rows books.kept)) (sym same) (rollup_then ∙ ap (columns_at id now) (sym kept_at) ∙ sym (at-rollup_rows id books.kept kept_up)))
          (λ other.
          other_unless nat_list_cmp_total (stays id columns_were new) i id (option_map (rollup_columns id) new) beside.rollups rollups_up other
          ∙ ap (at id_cmp i) keeps.rollups ∙ at-rollup_rows i rows keeps.in_order ∙ ap (option_and_then (rollup_part i)) (sym (others_kept (key.Rollup i) other)) ∙ sym (at-rollup_rows i books.kept kept_up))
          (cases_Bool (is_eq (id_cmp i id)))

  same_shown : shown_rows owner rows ≡ shown_rows owner books.kept
  same_shown = same_maps shown_total shown_exact (shown_rows owner rows) (shown_rows owner books.kept) (shown_rows_in_order owner rows keeps.in_order) (shown_rows_in_order owner books.kept kept_up) (λ k.
      at-shown_rows owner k rows keeps.in_order ∙ ap (option_and_then (kept_part owner k.resource)) (sym (others_kept (event_of k) refl)) ∙ sym (at-shown_rows owner k books.kept kept_up))

  -- ---- the stamps

  abbrev stamps_then : List (ViewKey × Stamps)
  stamps_then = stamps_with id now columns_were stamps_were new beside.stamps

  abbrev given : Option Stamps
  given = option_map (λ r. stamps_now now columns_were stamps_were) new

  stamps_up : InOrder view_cmp stamps_then
  stamps_up = unless_in_order view_total (stays id columns_were new) q given beside.stamps keeps.stamps_in_order

  stamps_at : at view_cmp q stamps_then ≡ stamp_at old (as_content id now new) now stamps_were
  stamps_at =
      own_unless view_total (stays id columns_were new) q given beside.stamps keeps.stamps_in_order
      ∙ ap (λ o. cond (stays id columns_were new) stamps_were (option_map (λ r. stamps_now now o stamps_were) new)) was_kept
      ∙ rolls.stamped

  others_stamped : (k : ViewKey) → is_of s k ≡ false → at view_cmp k stamps_then ≡ at view_cmp k beside.stamps
  others_stamped k other = other_unless view_total (stays id columns_were new) k q given beside.stamps keeps.stamps_in_order (apart k other)

  books_stamped : at view_cmp q books.stamps ≡ stamp_at old (as_content id now new) now stamps_were
  books_stamped = at-stamps base base stands now q first s ∙ ap (λ b. cond b (stamp_at old (at view_cmp q (rows_of base s)) now stamps_were) stamps_were) its_own ∙ ap (λ o. stamp_at old o now stamps_were) now_at

  same_stamps : stamps_then ≡ books.stamps
  same_stamps = same_maps view_total view_exact stamps_then books.stamps stamps_up (of_in_order s beside.stamps (restamped (rows_at (is_of s) beside.stamps) (rows_before base rows s) (rows_of base s) now) keeps.stamps_in_order) by
    where
      by : (k : ViewKey) → at view_cmp k stamps_then ≡ at view_cmp k books.stamps
      by k =
          ⊎_elim
          (λ is. at_its_key (λ k. at view_cmp k stamps_then ≡ at view_cmp k books.stamps) (stamps_at ∙ sym books_stamped) k is)
          (λ other. others_stamped k other ∙ sym (at-stamps base base stands now k first s ∙ rw other refl))
          (cases_Bool (is_of s k))

  -- ---- what is told

  abbrev told_then : List (ViewKey × Operation)
  told_then = map (rollup_told id) (option_to_list (change_of id columns_were new))

  told_at : (o : Option RollupChange) → at view_cmp q (map (rollup_told id) (option_to_list o)) ≡ option_map (λ (c : RollupChange). c.operation) o
  told_at None = refl
  told_at (Some c) = let itself : is_eq (id_cmp id id) ≡ true = tied nat_list_cmp_total id in rw itself refl

  told_apart : (k : ViewKey) → is_of s k ≡ false → (o : Option RollupChange) → at view_cmp k (map (rollup_told id) (option_to_list o)) ≡ None
  told_apart k other None = refl
  told_apart k other (Some c) = let differ = apart k other in rw differ refl

  told_up : (o : Option RollupChange) → InOrder view_cmp (map (rollup_told id) (option_to_list o))
  unfolding IsStrictlySortedBy
  told_up None = tt
  told_up (Some c) = (tt, tt)

  books_told : at view_cmp q books.told ≡ operation_at q old (as_content id now new)
  books_told =
      at-told base base stands now q first s ∙ ap (λ b. option_or (cond b (operation_at q old (at view_cmp q (rows_of base s))) None) None) its_own ∙ or_none (operation_at q old (at view_cmp q (rows_of base s)))
      ∙ ap (operation_at q old) now_at

  same_told : told_then ≡ books.told
  same_told = same_maps view_total view_exact told_then books.told (told_up (change_of id columns_were new)) (in_order_rows view_total [] (changes_told (rows_before base rows s) (rows_of base s)) (none_sorted view_cmp)) by
    where
      by : (k : ViewKey) → at view_cmp k told_then ≡ at view_cmp k books.told
      by k =
          ⊎_elim
          (λ is. at_its_key (λ k. at view_cmp k told_then ≡ at view_cmp k books.told) (told_at (change_of id columns_were new) ∙ rolls.told ∙ sym books_told) k is)
          (λ other. told_apart k other (change_of id columns_were new) ∙ sym (at-told base base stands now k first s ∙ rw other refl))
          (cases_Bool (is_of s k))

  -- ---- in all

  text : (o : Option Rollup) (c : Content) → IfSome o (λ r. kept_rollup_of (kept_rollup_text id r) ≡ Ok (id, r)) → as_content id now o ≡ Some c → ReadsBack (q, c)
  text None c h is = absurd cc
  text (Some r) c h is = subst (λ c. ReadsBack (q, c)) (same_Some (content.Rollup r) c is) h

  reads_then : (k : ViewKey) (c : Content) → at view_cmp k books.kept ≡ Some c → ReadsBack (k, c)
  reads_then k c is =
      ⊎_elim
      (λ own. at_its_key (λ k. at view_cmp k books.kept ≡ Some c → ReadsBack (k, c)) (λ is. text new c reads (sym kept_at ∙ is)) k own is)
      (λ other. All-contains ReadsBack rows (k, c) keeps.reads (at_there k rows c (sym (others_kept k other) ∙ is)))
      (cases_Bool (is_of s k))

  stamped_then : (k : ViewKey) → is_kept (source_of k) ≡ true → is_some (at view_cmp k stamps_then) ≡ is_some (at view_cmp k books.kept)
  stamped_then k kept =
      ⊎_elim
      (λ is. at_its_key (λ k. is_some (at view_cmp k stamps_then) ≡ is_some (at view_cmp k books.kept)) (ap is_some stamps_at ∙ has_stamps old (as_content id now new) now stamps_were ∙ ap is_some (sym kept_at)) k is)
      (λ other. ap is_some (others_stamped k other) ∙ keeps.stamped k kept ∙ ap is_some (sym (others_kept k other)))
      (cases_Bool (is_of s k))

  each_told : (o : Option RollupChange) → IfSome o (λ c. judged_in c.operation old (as_content id now new) ≡ Some (content.Rollup c.rollup)) → All (IsRollupTold rows books id) (option_to_list o)
  each_told None says = All-nil (IsRollupTold rows books id)
  each_told (Some c) says = All-cons (IsRollupTold rows books id) c [] (at_judged q c.operation rows books.kept ∙ ap (judged_in c.operation old) kept_at ∙ says) (All-nil (IsRollupTold rows books id))

  pub rollup_refreshed : (before : Base) → IsRefreshed as_rolled_up owner rows beside before base now id (option_to_list (change_of id columns_were new)) (with_rollup beside base now id)
  rollup_refreshed before = record {
    tables = λ i. record beside { shown = (keeps.shown ∙ same_shown) i; rollups = same_rollups i; stamps = same_stamps i };
    keeps = record {
      in_order = kept_up;
      reads = each_there ReadsBack books.kept (λ r there. reads_then r.0 r.1 (found_at view_total books.kept r kept_up there));
      shown = keeps.shown ∙ same_shown;
      rollups = same_rollups;
      stamps_in_order = stamps_up;
      stamped = stamped_then;
    };
    told = same_told;
    each = each_told (change_of id columns_were new) rolls.says;
  }
