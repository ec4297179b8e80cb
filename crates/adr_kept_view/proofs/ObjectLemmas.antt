-- What is written at the key of a program or of a report is what the refresh of that source leaves.
use Rattle.std.proofs.Common.{◌≡◌, ℕ, Bool, true, false, cond, ⊎_elim, List, [], ◌∷◌, map, Option, Some, None, refl, sym, ap, ap₂, subst, ◌∙◌}
use Rattle.std.specs.Prelude.{IfSome, is_some, option_map, option_and_then, slice_get}
use Rattle.std.specs.Option.{option_to_list}
use Rattle.std.specs.Ordering.{nat_cmp}
use Rattle.std.proofs.lemmas.List.Elements.{All-cons, All-nil}
use Rattle.adr_objects.specs.declared.body.Body.TheVariants as body
use Rattle.adr_objects.specs.declared.kind.Kind.TheVariants as kind
use Rattle.adr_objects.specs.declared.shown.Stamps.{Stamps}
use Rattle.adr_state.specs.declared.base.Base.{Base}
use Rattle.adr_state.specs.declared.base.Mark.{Mark}
use Rattle.adr_state.specs.declared.base.Mark.TheVariants.{Live, Dead}
use Rattle.adr_state.specs.declared.keys.ViewKey.{ViewKey}
use Rattle.adr_state.specs.declared.keys.ViewKey.TheVariants as key
use Rattle.adr_state.specs.declared.portfolio.Report.{Report}
use Rattle.adr_view.specs.declared.changes.Change.{Change}
use Rattle.adr_view.specs.declared.changes.Operation.{Operation}
use Rattle.adr_view.specs.declared.changes.Operation.TheVariants.{Post, Put, Delete}
use Rattle.adr_view.specs.declared.view.Content.{Content}
use Rattle.adr_view.specs.declared.view.Content.TheVariants as content
use Rattle.adr_view.specs.Changes.{changes, restamped}
use Rattle.adr_view.specs.Laws.{StandsInOrder}
use Rattle.adr_view.specs.Views.{rows_known}
use Rattle.adr_refresh.specs.Maps.{rows_at}
use Rattle.adr_refresh.specs.Refresh.{Books, as_row, is_kept, with_rows_of, changes_told, rows_before}
use Rattle.adr_refresh.specs.Sources.{Source, source_of, is_of, rows_of, reported_rows}
use Rattle.adr_refresh.proofs.ChangeLemmas.{at-changes, at-restamped, change_at as operation_at, changes_in_order, stamp_at}
use Rattle.adr_refresh.proofs.Common.{All, InOrder, IsStrictlySortedBy, at, cases_Bool, equal_from_is, exact_bytes, exact_unsigned, id_cmp, is_eq, made_in_order, mirror_cmp, nat_list_cmp_total, nat_cmp_total, true≢false, view_cmp, view_exact, view_total, with_rows}
use Rattle.adr_refresh.proofs.MapLemmas.{same_maps, tied}
use Rattle.adr_refresh.proofs.RefreshLemmas.{at-stamps, of_in_order}
use Rattle.adr_refresh.proofs.SourceLemmas.{its_source, source_itself}
use Rattle.adr_db.specs.Bases.{Beside, kept_beside}
use Rattle.adr_kept_view.specs.declared.object.ObjectChange.{ObjectChange}
use Rattle.adr_kept_view.specs.declared.object.ObjectKey.{ObjectKey}
use Rattle.adr_kept_view.specs.declared.object.ObjectKey.TheVariants as object
use Rattle.adr_kept_view.specs.declared.object.OldObject.{OldObject}
use Rattle.adr_kept_view.specs.Columns.{shown_rows, rollup_rows}
use Rattle.adr_kept_view.specs.KeptViews.{KeepsView}
use Rattle.adr_kept_view.specs.Objects.{view_key, shown_at, ven_of, StoodIn, IsObjectTold, object_told, as_object, row_at, restamped_at, with_object, TellsAt, IsChangeOf, content_kept, program_content}
use Rattle.adr_kept_view.specs.Refreshed.{books_behind, judged_in, Sides, IsRefreshed}
use Rattle.adr_kept_view.proofs.RolledLemmas.{at-set, set_in_order}
use Rattle.adr_kept_view.proofs.TurnLemmas.{at_judged}

-- ---- at one key

pub at-row_at : {V : Type 0} (k : ViewKey) (o : Option V) → at view_cmp k (row_at k o) ≡ o
at-row_at k None = refl
at-row_at k (Some v) = let itself : is_eq (view_cmp k k) ≡ true = tied view_total k in rw itself refl

at-apart : {V : Type 0} (q k : ViewKey) → is_eq (view_cmp q k) ≡ false → (o : Option V) → at view_cmp q (row_at k o) ≡ None
at-apart q k other None = refl
at-apart q k other (Some v) = rw other refl

one_in_order : {V : Type 0} (k : ViewKey) (o : Option V) → InOrder view_cmp (row_at k o)
unfolding IsStrictlySortedBy
one_in_order k None = tt
one_in_order k (Some v) = (tt, tt)

-- ---- the change there

-- what differs there is one change at most
module _ (k : ViewKey) (old new : Option Content) where
  changed_there : changes_told (row_at k old) (row_at k new) ≡ row_at k (operation_at k old new)
  changed_there = same_maps view_total view_exact (changes_told (row_at k old) (row_at k new)) (row_at k (operation_at k old new)) (changes_in_order (row_at k old) (row_at k new)) (one_in_order k (operation_at k old new)) (λ q.
      at-changes q (row_at k old) (row_at k new)
      ∙ ⊎_elim
      (λ is. subst (λ (j : ViewKey). operation_at j (at view_cmp j (row_at k old)) (at view_cmp j (row_at k new)) ≡ at view_cmp j (row_at k (operation_at k old new))) (sym (view_exact q k (equal_from_is _ is))) (ap₂ (operation_at k) (at-row_at k old) (at-row_at k new) ∙ sym (at-row_at k (operation_at k old new))))
      (λ other. ap₂ (operation_at q) (at-apart q k other old) (at-apart q k other new) ∙ sym (at-apart q k other (operation_at k old new)))
      (cases_Bool (is_eq (view_cmp q k))))

  first_of : List (ViewKey × Operation) → Operation → Operation
  first_of [] o = o
  first_of (r ∷ rows) o = r.1

  by_first : (cs : List Change) (o : Option Operation) → map as_row cs ≡ row_at k o → map as_row cs ≡ row_at k (option_map (λ (c : Change). c.operation) (slice_get cs 0))
  unfolding first_of
  by_first [] o same = refl
  by_first (c ∷ cs) None same = absurd cc
  by_first (c ∷ cs) (Some o) same = same ∙ ap (λ x. (k, x) ∷ []) (sym (ap (λ rows. first_of rows o) same))

  pub told_by_first : map as_row (changes (row_at k old) (row_at k new)) ≡ row_at k (option_map (λ (c : Change). c.operation) (slice_get (changes (row_at k old) (row_at k new)) 0))
  told_by_first = by_first (changes (row_at k old) (row_at k new)) (operation_at k old new) changed_there

-- so what happened is told by a change of that
pub tells_first : (old : OldObject) (new : Option Content) (change : Option ObjectChange)
    → option_map (λ (c : Change). c.operation) (slice_get (changes (row_at (view_key old.key) old.content) (row_at (view_key old.key) new)) 0) ≡ option_map (λ (c : ObjectChange). c.operation) change → TellsAt old new change
tells_first old new change same = by change ∙ ap (row_at (view_key old.key)) (sym same) ∙ sym (told_by_first (view_key old.key) old.content new)
  where
    by : (o : Option ObjectChange) → option_to_list (option_map (object_told old) o) ≡ row_at (view_key old.key) (option_map (λ (c : ObjectChange). c.operation) o)
    by None = refl
    by (Some c) = refl

-- ---- such keys, and their sources

unkept : (ok : ObjectKey) → is_kept (source_of (view_key ok)) ≡ false
unkept (object.Program id) = refl
unkept (object.Report n) = refl

only : (ok : ObjectKey) (q : ViewKey) → is_of (source_of (view_key ok)) q ≡ true → view_key ok ≡ q
only (object.Program id) (key.Program i) is = ap key.Program (sym (exact_bytes i id (equal_from_is _ is)))
only (object.Program id) (key.Event i n) is = absurd cc
only (object.Program id) (key.Report n) is = absurd cc
only (object.Program id) (key.Rollup i) is = absurd cc
only (object.Report n) (key.Report m) is = ap key.Report (sym (exact_unsigned m n (equal_from_is _ is)))
only (object.Report n) (key.Program i) is = absurd cc
only (object.Report n) (key.Event i m) is = absurd cc
only (object.Report n) (key.Rollup i) is = absurd cc

-- what is shown of such a source is what is shown at its key
one_row : (base : Base) (ok : ObjectKey) → rows_of base (source_of (view_key ok)) ≡ row_at (view_key ok) (shown_at base (view_key ok))
one_row base (object.Program id) = by (at mirror_cmp (record { kind = kind.Program; id = id }) base.mirror)
  where
    by : (o : Option Mark) → rows_known base (record { kind = kind.Program; id = id }) o ≡ row_at (key.Program id) (at view_cmp (key.Program id) (rows_known base (record { kind = kind.Program; id = id }) o))
    by None = refl
    by (Some Dead) = refl
    by (Some (Live moment (body.Program name))) = let itself : is_eq (id_cmp id id) ≡ true = tied nat_list_cmp_total id in rw itself refl
    by (Some (Live moment (body.Event event))) = refl
    by (Some (Live moment (body.Opaque reason))) = refl
one_row base (object.Report n) = by (at nat_cmp n base.portfolio.reports)
  where
    by : (o : Option Report) → reported_rows n o ≡ row_at (key.Report n) (at view_cmp (key.Report n) (reported_rows n o))
    by None = refl
    by (Some r) = let itself : is_eq (nat_cmp n n) ≡ true = tied nat_cmp_total n in rw itself refl

-- so what tables keep of it is what is shown
pub kept_is_shown : (beside : Beside) (base : Base) (ok : ObjectKey) → content_kept ok (kept_beside beside base) ≡ shown_at base (view_key ok)
kept_is_shown beside base (object.Program id) = by (at mirror_cmp (record { kind = kind.Program; id = id }) base.mirror)
  where
    by : (o : Option Mark) → program_content o ≡ at view_cmp (key.Program id) (rows_known base (record { kind = kind.Program; id = id }) o)
    by None = refl
    by (Some Dead) = refl
    by (Some (Live moment (body.Program name))) = let itself : is_eq (id_cmp id id) ≡ true = tied nat_list_cmp_total id in rw itself refl
    by (Some (Live moment (body.Event event))) = refl
    by (Some (Live moment (body.Opaque reason))) = refl
kept_is_shown beside base (object.Report n) = by (at nat_cmp n base.portfolio.reports)
  where
    by : (o : Option Report) → option_map (λ (r : Report). content.Report r.body) o ≡ at view_cmp (key.Report n) (reported_rows n o)
    by None = refl
    by (Some r) = let itself : is_eq (nat_cmp n n) ≡ true = tied nat_cmp_total n in rw itself refl

module _ (owner : ℕ → ℕ) (rows : List (ViewKey × Content)) (beside : Beside) (before base : Base) (now : ℕ) (old : OldObject) (keeps : KeepsView owner rows beside) (stands : StandsInOrder base) (was : StoodIn before old) where
  abbrev k : ViewKey
  k = view_key old.key

  abbrev s : Source
  s = source_of k

  abbrev first : Books
  first = record { kept = rows; told = []; stamps = beside.stamps }

  abbrev books : Books
  books = books_behind rows beside before base now s

  abbrev new : Option Content
  new = shown_at base k

  abbrev stamps_were : Option Stamps
  stamps_were = at view_cmp k beside.stamps

  abbrev stamps_now : Option Stamps
  stamps_now = restamped_at k stamps_were old.content new now

  abbrev later : Beside
  later = with_object beside base now old

  -- ---- what is kept

  kept_is : books.kept ≡ rows
  kept_is = ap (λ b. cond b (with_rows_of s rows (rows_of base s)) rows) (unkept old.key)

  not_kept : (q : ViewKey) → is_of s q ≡ true → is_kept (source_of q) ≡ false
  not_kept q is = ap is_kept (its_source s q is) ∙ unkept old.key

  -- ---- the stamps

  apart : (q : ViewKey) → is_of s q ≡ false → is_eq (view_cmp q k) ≡ false
  apart q other = by (is_eq (view_cmp q k)) refl
    where
      by : (b : Bool) → is_eq (view_cmp q k) ≡ b → b ≡ false
      by false is = refl
      by true is = absurd (true≢false (sym (subst (λ (j : ViewKey). is_of s j ≡ true) (sym (view_exact q k (equal_from_is _ is))) (source_itself s)) ∙ other))

  at_its_key : (P : ViewKey → Type 0) → P k → (q : ViewKey) → is_of s q ≡ true → P q
  at_its_key P it q is = subst P (only old.key q is) it

  restamped_is : stamps_now ≡ stamp_at old.content new now stamps_were
  restamped_is =
      at-restamped k (row_at k stamps_were) (row_at k old.content) (row_at k new) now (one_in_order k new)
      ∙ λ i. stamp_at (at-row_at k old.content i) (at-row_at k new i) now (at-row_at k stamps_were i)

  later_own : at view_cmp k later.stamps ≡ stamps_now
  later_own = at-set view_total k k stamps_now beside.stamps keeps.stamps_in_order ∙ ap (λ b. cond b stamps_now stamps_were) (tied view_total k)

  later_other : (q : ViewKey) → is_of s q ≡ false → at view_cmp q later.stamps ≡ at view_cmp q beside.stamps
  later_other q other = at-set view_total q k stamps_now beside.stamps keeps.stamps_in_order ∙ ap (λ b. cond b stamps_now (at view_cmp q beside.stamps)) (apart q other)

  books_own : at view_cmp k books.stamps ≡ stamps_now
  books_own =
      at-stamps before base stands now k first s
      ∙ ap (λ b. cond b (stamp_at (cond (is_kept s) (at view_cmp k rows) (shown_at before k)) new now stamps_were) stamps_were) (source_itself s)
      ∙ ap (λ b. stamp_at (cond b (at view_cmp k rows) (shown_at before k)) new now stamps_were) (unkept old.key)
      ∙ ap (λ (o : Option Content). stamp_at o new now stamps_were) was.shown
      ∙ sym restamped_is

  books_other : (q : ViewKey) → is_of s q ≡ false → at view_cmp q books.stamps ≡ at view_cmp q beside.stamps
  books_other q other = at-stamps before base stands now q first s ∙ rw other refl

  later_up : InOrder view_cmp later.stamps
  later_up = set_in_order view_total k stamps_now beside.stamps keeps.stamps_in_order

  same_stamps : later.stamps ≡ books.stamps
  same_stamps = same_maps view_total view_exact later.stamps books.stamps later_up (of_in_order s beside.stamps (restamped (rows_at (is_of s) beside.stamps) (rows_before before rows s) (rows_of base s) now) keeps.stamps_in_order) (λ q.
      ⊎_elim
      (λ is. at_its_key (λ q. at view_cmp q later.stamps ≡ at view_cmp q books.stamps) (later_own ∙ sym books_own) q is)
      (λ other. later_other q other ∙ sym (books_other q other))
      (cases_Bool (is_of s q)))

  -- ---- what is told

  told_is : books.told ≡ map as_row (changes (row_at k old.content) (row_at k new))
  told_is =
      ap (λ b. with_rows view_cmp [] (changes_told (cond b (rows_at (is_of s) rows) (rows_of before s)) (rows_of base s))) (unkept old.key)
      ∙ made_in_order view_total (changes_told (rows_of before s) (rows_of base s)) (changes_in_order (rows_of before s) (rows_of base s))
      ∙ λ i. changes_told ((one_row before old.key ∙ ap (row_at k) was.shown) i) (one_row base old.key i)

  abbrev sides : Sides
  sides = record { before = before; after = base; owner = owner; rows = rows; stamps = beside.stamps }

  is_told : (c : ObjectChange) → IsChangeOf base.portfolio now stamps_were old new c → IsObjectTold sides books old c
  is_told c is = record {
    shown = is.shown;
    stamped = at_judged k c.operation beside.stamps books.stamps ∙ ap (judged_in c.operation stamps_were) books_own ∙ is.stamped;
    owned = by c.operation is.shown is.owned;
  }
    where
      by : (o : Operation) → judged_in o old.content new ≡ Some c.content → judged_in o old.ven (ven_of base.portfolio c.content) ≡ c.ven → judged_in o (ven_of before.portfolio c.content) (ven_of base.portfolio c.content) ≡ c.ven
      by Post shown owned = owned
      by Put shown owned = owned
      by Delete shown owned = sym (ap (option_and_then (ven_of before.portfolio)) shown) ∙ was.owned ∙ owned

  each_told : (o : Option ObjectChange) → IfSome o (IsChangeOf base.portfolio now stamps_were old new) → All (IsObjectTold sides books old) (option_to_list o)
  each_told None is = All-nil (IsObjectTold sides books old)
  each_told (Some c) is = All-cons (IsObjectTold sides books old) c [] (is_told c is) (All-nil (IsObjectTold sides books old))

  as_rows : (o : Option ObjectChange) → map (object_told old) (option_to_list o) ≡ option_to_list (option_map (object_told old) o)
  as_rows None = refl
  as_rows (Some c) = refl

  -- ---- in all

  stamped_then : (q : ViewKey) → is_kept (source_of q) ≡ true → is_some (at view_cmp q later.stamps) ≡ is_some (at view_cmp q rows)
  stamped_then q kept =
      ⊎_elim
      (λ is. absurd (true≢false (sym kept ∙ not_kept q is)))
      (λ other. ap is_some (later_other q other) ∙ keeps.stamped q kept)
      (cases_Bool (is_of s q))

  keeps_then : KeepsView owner rows later
  keeps_then = record { in_order = keeps.in_order; reads = keeps.reads; shown = keeps.shown; rollups = keeps.rollups; stamps_in_order = later_up; stamped = stamped_then }

  pub object_refreshed : (change : Option ObjectChange) → TellsAt old new change → IfSome change (IsChangeOf base.portfolio now stamps_were old new) → IsRefreshed as_object owner rows beside before base now old (option_to_list change) later
  object_refreshed change tells told = record {
    tables = λ i. record beside { shown = (keeps.shown ∙ ap (shown_rows owner) (sym kept_is)) i; rollups = (keeps.rollups ∙ ap rollup_rows (sym kept_is)) i; stamps = same_stamps i };
    keeps = subst (λ (r : List (ViewKey × Content)). KeepsView owner r later) (sym kept_is) keeps_then;
    told = as_rows change ∙ tells ∙ sym told_is;
    each = each_told change told;
  }
