-- The rows of vens, resources, shares, reports and subscriptions, and what goes with a ven, a resource or a report.
use Rattle.std.proofs.Common.{◌≡◌, inl, ℕ, suc, pos, Bool, true, false, not, ◌==◌, List, [], ◌∷◌, map, filter, flat_map, Option, None, Some, Ok, refl, sym, ap, subst, ◌∙◌, arith, codes, Less, Equal, Greater, is_eq, eqb-true}
use Rattle.adr_db.proofs.Common.{nat_cmp, option_map_or, tied_itself, nat_cmp_total, Null, Int, Row, column, value_cmp, cascades_to, value_cmp-Int, IsAscending, filter-map, Has, State, Executes, at, key_order, has_key, Contents, with_table, Holds, same_bool, ties, stores_at, entry_found, is_of_ven, is_sub_of, without_ven, without_resource, AllByRecursion, all_of, Report, Sub}
use Rattle.sqlite.specs.Values.{or_null}
use Rattle.sqlite_trees.proofs.ListLemmas.{all-flat_map, all-filter, filter_same}
use Rattle.sqlite_value.proofs.OrderLemmas.{value_cmp-apart}
use Rattle.adr_subscription.specs.Types.{IsSub}
use Rattle.sqlite_rules.proofs.ListLemmas.{all_has}
use Rattle.adr_objects.specs.declared.report.UsageInterval.{UsageInterval}
use Rattle.adr_state.specs.Portfolios.{without_report}
use Rattle.std.proofs.lemmas.Bool.{eq-eqb}
use Rattle.sqlite_value.specs.declared.value.Value.{Value}
use Rattle.sqlite_value.specs.Keys.{joined, plain}
use Rattle.sqlite_sql.specs.Ops.{is_null}
use Rattle.sqlite_schema.specs.Names.{same_name}
use Rattle.adr_sql.proofs.KeyedMaps.{rows_left}
use Rattle.adr_sql.proofs.Cascades.{Losses, IsChain, linked, cascade_runs}
use Rattle.sqlite_rules.proofs.ProbeLemmas.{has_mapped}
use Rattle.adr_db.specs.Tables.{schema}
use Rattle.adr_db.specs.Rows.{number, number_row, ven_columns, resource_columns, resource_row, share_row, frozen_share_row, report_columns, report_row, value_rows_from, value_rows, owner_cell, sub_row}
use Rattle.adr_db.specs.Kept.{Kept, Keeps, contents_of, with_portfolio}
use Rattle.adr_db.proofs.Tables.{ven, ven_keyed, resource, resource_keyed, share, report, report_keyed, report_value, sub, frozen_share}
use Rattle.adr_db.proofs.Rows.{number_codec, number_same_is, numbers_as_values, numbers_as_rows}
use Rattle.adr_db_portfolio.specs.declared.ven.TheConstants.{REMOVE as VEN_REMOVE}
use Rattle.adr_db_portfolio.specs.declared.resource.TheConstants.{REMOVE as RESOURCE_REMOVE}
use Rattle.adr_db_portfolio.specs.declared.report.TheConstants.{REMOVE as REPORT_REMOVE}
use Rattle.adr_db.proofs.KeptMaps.{KeptMap}
use Rattle.adr_db.proofs.Maps.{ven_map, resource_map, share_map, frozen_share_map, report_rows, sub_map}
use Rattle.adr_db.proofs.Rises.{reports_rise}
use Rattle.adr_db.proofs.Reports.{NumbersRise, found_of, values_left}
use Rattle.adr_db_portfolio.proofs.ReportPuts.{is_other, others_left}
use Rattle.adr_db_portfolio.proofs.VenStatements as vens
use Rattle.adr_db_portfolio.proofs.ResourceStatements as resources
use Rattle.adr_db_portfolio.proofs.ReportStatements as reports

-- ---- numbers as values

-- whether a value is a number that passes
abbrev pub is_number : (ℕ → Bool) → Value → Bool
is_number p (Int (pos n)) = p n
is_number p _ = false

-- one that passes is not NULL
number_full : (p : ℕ → Bool) (v : Value) → is_number p v ≡ true → is_null v ≡ false
number_full p Null h = absurd cc
number_full p _ h = refl

-- what ties with a number is none
tied_number : (n : ℕ) (k : Option ℕ) (v : Value) → v ≡ or_null number k → value_cmp (number n) v ≡ Equal → (m : ℕ) × (v ≡ number m)
tied_number n None v is tie =
    let apart : value_cmp (number n) Null ≡ Greater = value_cmp-apart (number n) Null (λ same. cc) in
    let both : Greater ≡ Equal = sym apart ∙ ap (value_cmp (number n)) (sym is) ∙ tie in absurd cc
tied_number n (Some m) v is tie = (m, is)

same_number : (m n : ℕ) → value_cmp (number m) (number n) ≡ Equal → m ≡ n
same_number m n h = number_same_is m n (sym (numbers_as_values m n) ∙ sym (value_cmp-Int (pos m) (pos n)) ∙ h)

-- a row has the key that it begins with
key_itself : (n : ℕ) (a : Row) → has_key 1 (number_row n) (number n ∷ a) ≡ true
key_itself n a = ap is_eq (numbers_as_rows n n [] a ∙ tied_itself nat_cmp_total n)

same_is : (n m : ℕ) → is_eq (nat_cmp n m) ≡ (m == n)
same_is n m = same_bool _ _ (λ tie. eq-eqb m n (sym (number_same_is n m (ties _ tie)))) (λ same. ap is_eq (ap (λ k. nat_cmp k m) (sym (eqb-true m n same)) ∙ tied_itself nat_cmp_total m))

-- ---- the rows that a number names, in a table whose key is a number

-- in each of these rows a column is a number, or NULL
abbrev Names : ℕ → List Row → Type 0
Names at rows = (r : Row) → Has rows r → (k : Option ℕ) × (column r at ≡ or_null number k)

abbrev at_number : {V : Type 0} → ℕ → List (ℕ × V) → Option V
at_number = at nat_cmp

module _ {V : Type 0} (columns : V → Row) (es : List (ℕ × V)) where
  abbrev row_of : ℕ × V → Row
  row_of e = number e.0 ∷ columns e.1

  row_named : IsAscending (λ a b. key_order 1 a b ≡ Less) (map row_of es) → (n : ℕ) (row : Row) → Has (map row_of es) row → value_cmp (column row 0) (number n) ≡ Equal → (v : V) × (at nat_cmp n es ≡ Some v) × (row ≡ row_of (n, v))
  row_named up n row has tie =
      let e = has_mapped row_of es row has in
      let same : e.0.0 ≡ n = same_number e.0.0 n (ap (λ r. value_cmp (column r 0) (number n)) (sym e.2) ∙ tie) in
      entry_found 1 nat_cmp row_of number_row (number_codec columns) n es up row has (ap (has_key 1 (number_row n)) e.2 ∙ ap (λ m. has_key 1 (number_row n) (number m ∷ columns e.0.1)) same ∙ key_itself n (columns e.0.1))

  -- rows of a child, in which a column is the number of a parent, or NULL
  module _ (at : ℕ) (rows : List Row) (names : Names at rows) where
    -- one that ties with the number of a parent is a number
    named_by : (r m : Row) → Has rows r → Has (map row_of es) m → value_cmp (column m 0) (column r at) ≡ Equal → (k : ℕ) × (column r at ≡ number k) × (value_cmp (column m 0) (number k) ≡ Equal)
    named_by r m child parent tie =
        let e = has_mapped row_of es m parent in
        let name = names r child in
        let k = tied_number e.0.0 name.0 (column r at) name.1 (ap (λ row. value_cmp (column row 0) (column r at)) (sym e.2) ∙ tie) in
        (k.0, k.1, ap (value_cmp (column m 0)) (sym k.1) ∙ tie)

    -- those that a number names are those of the parent with that number
    child_same : (n : ℕ) (r m : Row) → Has rows r → Has (map row_of es) m → value_cmp (column m 0) (column r at) ≡ Equal → has_key 1 (number_row n) m ≡ is_number (λ p. p == n) (column r at)
    child_same n r m child parent tie =
        let k = named_by r m child parent tie in
        let e = has_mapped row_of es m parent in
        let same : e.0.0 ≡ k.0 = same_number e.0.0 k.0 (ap (λ row. value_cmp (column row 0) (number k.0)) (sym e.2) ∙ k.2) in
        ap (has_key 1 (number_row n)) e.2 ∙ ap is_eq (numbers_as_rows n e.0.0 [] (columns e.0.1)) ∙ same_is n e.0.0 ∙ ap (λ k. k == n) same ∙ sym (ap (is_number (λ p. p == n)) k.1)

    -- those whose parent passes are those that name such a parent
    parent_says : IsAscending (λ a b. key_order 1 a b ≡ Less) (map row_of es) → (q : Row → Bool) (passes : V → Bool) → ((k : ℕ) (v : V) → q (row_of (k, v)) ≡ passes v)
        → (r m : Row) → Has rows r → Has (map row_of es) m → value_cmp (column m 0) (column r at) ≡ Equal → q m ≡ is_number (λ k. option_map_or passes (at_number k es) false) (column r at)
    parent_says up q passes same r m child parent tie =
        let k = named_by r m child parent tie in
        let named = row_named up k.0 m parent k.2 in
        ap q named.2 ∙ same k.0 named.0 ∙ ap (λ found. option_map_or passes found false) (sym named.1) ∙ sym (ap (is_number (λ k. option_map_or passes (at_number k es) false)) k.1)

-- ---- what rows name

named_in : {C : Type 0} (at : ℕ) (child_of : C → Row) (parent_of : C → Option ℕ) → ((c : C) → column (child_of c) at ≡ or_null number (parent_of c)) → (cs : List C) → Names at (map child_of cs)
named_in at child_of parent_of names cs r has = let c = has_mapped child_of cs r has in (parent_of c.0, ap (λ row. column row at) c.2 ∙ names c.0)

-- the intervals of a report name it
named_from : (n place : ℕ) (intervals : List UsageInterval) → AllByRecursion (λ r. (k : Option ℕ) × (column r 0 ≡ or_null number k)) (value_rows_from n place intervals)
named_from n place [] = tt
named_from n place (interval ∷ intervals) = ((Some n, refl), named_from n (suc place) intervals)

named_values : (es : List (ℕ × Report)) → Names 0 (flat_map value_rows es)
named_values es r has =
    all_has (λ r. (k : Option ℕ) × (column r 0 ≡ or_null number k)) (flat_map value_rows es) r (all-flat_map (λ r. (k : Option ℕ) × (column r 0 ≡ or_null number k)) value_rows es (all_of (λ e. AllByRecursion (λ r. (k : Option ℕ) × (column r 0 ≡ or_null number k)) (value_rows e)) (λ e. named_from e.0 0 e.1.body.intervals) es)) has

-- whether the report of a number is on a resource that passes
abbrev is_on : (ℕ → Bool) → List (ℕ × Report) → ℕ → Bool
is_on p reports n = option_map_or (λ report. p report.body.head.resource) (at nat_cmp n reports) false

-- the intervals of the reports that are on no resource that passes
values_off : (p : ℕ → Bool) (es : List (ℕ × Report)) → NumbersRise es
    → filter (λ row. not (is_number (is_on p es) (column row 0))) (flat_map value_rows es) ≡ flat_map value_rows (filter (λ e. not (p e.1.body.head.resource)) es)
values_off p es up =
    values_left (λ row. not (is_number (is_on p es) (column row 0))) (λ e. not (p e.1.body.head.resource)) es (λ e has place interval.
    ap (λ found. not (option_map_or (λ (report : Report). p report.body.head.resource) found false)) (found_of es up e has))

-- the subscriptions that are of no ven, or of another
subs_left : (n : ℕ) (es : List (ℕ × Sub)) → filter (λ row. not (is_number (λ v. v == n) (column row 1))) (map sub_row es) ≡ map sub_row (filter (λ e. not (is_sub_of n e.1)) es)
subs_left n es =
    filter-map (λ row. not (is_number (λ v. v == n) (column row 1))) sub_row es
    ∙ ap (map sub_row) (filter_same (λ e. not (is_number (λ v. v == n) (owner_cell e.1.owner))) (λ e. not (is_sub_of n e.1)) es (all_of _ (λ e. same e.1.owner) es))
  where
    same : (owner : Option ℕ) → not (is_number (λ v. v == n) (owner_cell owner)) ≡ not (option_map_or (λ owner. owner == n) owner false)
    same None = refl
    same (Some ven) = refl

-- ---- a ven goes, with its resources, their shares and the reports on them, and its subscriptions

module _ (kept : Kept) (s : State) (was : Keeps kept s) where
  rows_of_resources_rise : IsAscending (λ a b. key_order 1 a b ≡ Less) (map resource_row kept.portfolio.resources)
  rows_of_resources_rise = (stores_at schema.tables resource_map.rows.at resource s.now.trees (contents_of kept) resource_keyed.place.found was.rows.each).rising

  rows_of_reports_rise : IsAscending (λ a b. key_order 1 a b ≡ Less) (map report_row kept.portfolio.reports)
  rows_of_reports_rise = (stores_at schema.tables report_rows.at report s.now.trees (contents_of kept) report_keyed.place.found was.rows.each).rising

  resources_named : Names 1 (map resource_row kept.portfolio.resources)
  resources_named = named_in 1 resource_row (λ e. Some e.1.ven) (λ e. refl) kept.portfolio.resources

  shares_named : Names 1 (map share_row kept.portfolio.shares)
  shares_named = named_in 1 share_row (λ e. Some e.0.resource) (λ e. refl) kept.portfolio.shares

  frozen_named : Names 1 (map frozen_share_row kept.portfolio.frozen_shares)
  frozen_named = named_in 1 frozen_share_row (λ e. Some e.0.resource) (λ e. refl) kept.portfolio.frozen_shares

  reports_named : Names 2 (map report_row kept.portfolio.reports)
  reports_named = named_in 2 report_row (λ e. Some e.1.body.head.resource) (λ e. refl) kept.portfolio.reports

  subs_named : Names 1 (map sub_row kept.portfolio.subs)
  subs_named = named_in 1 sub_row (λ e. e.1.owner) (λ e. refl) kept.portfolio.subs

  -- the resources of the ven, the shares of those, frozen ones too, and the reports on them, and the intervals of these; and the subscriptions of the ven
  abbrev with_ven_gone : ℕ → Losses
  with_ven_gone n =
      (ven.tree, has_key 1 (number_row n))
      ∷ (resource.tree, λ row. is_number (λ v. v == n) (column row 1))
      ∷ (share.tree, λ row. is_number (is_of_ven n kept.portfolio.resources) (column row 1))
      ∷ (report.tree, λ row. is_number (is_of_ven n kept.portfolio.resources) (column row 2))
      ∷ (report_value.tree, λ row. is_number (is_on (is_of_ven n kept.portfolio.resources) kept.portfolio.reports) (column row 0))
      ∷ (sub.tree, λ row. is_number (λ v. v == n) (column row 1))
      ∷ (frozen_share.tree, λ row. is_number (is_of_ven n kept.portfolio.resources) (column row 1))
      ∷ []

  ven_chain : (n : ℕ) → IsChain schema ven (with_ven_gone n) (contents_of kept)
  unfolding same_name joined
  ven_chain n =
      let resources = linked schema ven (with_ven_gone n) (contents_of kept) resource (cascades_to 2 (codes "ven") (codes "id")) (ven.tree, 1 ∷ [], plain) 1 (record { columns = refl; places = refl; order = refl }) (inl refl) refl (omega arith)
      (λ r has go. number_full (λ v. v == n) (column r 1) go) (child_same ven_columns kept.portfolio.vens 1 (map resource_row kept.portfolio.resources) resources_named n) in
      let shares = linked schema ven (with_ven_gone n) (contents_of kept) share (cascades_to 2 (codes "resource") (codes "id")) (resource.tree, 1 ∷ [], plain) 1 (record { columns = refl; places = refl; order = refl }) (inl refl) refl (omega arith)
      (λ r has go. number_full (is_of_ven n kept.portfolio.resources) (column r 1) go)
      (parent_says resource_columns kept.portfolio.resources 1 (map share_row kept.portfolio.shares) shares_named rows_of_resources_rise (λ row. is_number (λ v. v == n) (column row 1)) (λ r. r.ven == n) (λ k v. refl)) in
      let reports = linked schema ven (with_ven_gone n) (contents_of kept) report (cascades_to 3 (codes "resource") (codes "id")) (resource.tree, 1 ∷ [], plain) 2 (record { columns = refl; places = refl; order = refl }) (inl refl) refl (omega arith)
      (λ r has go. number_full (is_of_ven n kept.portfolio.resources) (column r 2) go)
      (parent_says resource_columns kept.portfolio.resources 2 (map report_row kept.portfolio.reports) reports_named rows_of_resources_rise (λ row. is_number (λ v. v == n) (column row 1)) (λ r. r.ven == n) (λ k v. refl)) in
      let values = linked schema ven (with_ven_gone n) (contents_of kept) report_value (cascades_to 1 (codes "report") (codes "id")) (report.tree, 1 ∷ [], plain) 0 (record { columns = refl; places = refl; order = refl }) (inl refl) refl (omega arith)
      (λ r has go. number_full (is_on (is_of_ven n kept.portfolio.resources) kept.portfolio.reports) (column r 0) go)
      (parent_says report_columns kept.portfolio.reports 0 (flat_map value_rows kept.portfolio.reports) (named_values kept.portfolio.reports) rows_of_reports_rise (λ row. is_number (is_of_ven n kept.portfolio.resources) (column row 2))
      (λ report. is_of_ven n kept.portfolio.resources report.body.head.resource) (λ k v. refl)) in
      let subs = linked schema ven (with_ven_gone n) (contents_of kept) sub (cascades_to 2 (codes "ven") (codes "id")) (ven.tree, 1 ∷ [], plain) 1 (record { columns = refl; places = refl; order = refl }) (inl refl) refl (omega arith)
      (λ r has go. number_full (λ v. v == n) (column r 1) go) (child_same ven_columns kept.portfolio.vens 1 (map sub_row kept.portfolio.subs) subs_named n) in
      let frozen = linked schema ven (with_ven_gone n) (contents_of kept) frozen_share (cascades_to 2 (codes "resource") (codes "id")) (resource.tree, 1 ∷ [], plain) 1 (record { columns = refl; places = refl; order = refl }) (inl refl) refl (omega arith)
      (λ r has go. number_full (is_of_ven n kept.portfolio.resources) (column r 1) go)
      (parent_says resource_columns kept.portfolio.resources 1 (map frozen_share_row kept.portfolio.frozen_shares) frozen_named rows_of_resources_rise (λ row. is_number (λ v. v == n) (column row 1)) (λ r. r.ven == n) (λ k v. refl)) in
      record {
        cascading = refl;
        along = ((resources.0, tt), ((shares.0, tt), ((reports.0, tt), ((values.0, tt), ((subs.0, tt), ((frozen.0, tt), tt))))));
        because = ((λ r has go. inl refl), (resources.1, (shares.1, (reports.1, (values.1, (subs.1, (frozen.1, tt)))))));
      }

  -- the shares of the resource, frozen ones too, and the reports on it, and the intervals of these
  abbrev with_resource_gone : ℕ → Losses
  with_resource_gone n =
      (resource.tree, has_key 1 (number_row n))
      ∷ (share.tree, λ row. is_number (λ r. r == n) (column row 1))
      ∷ (report.tree, λ row. is_number (λ r. r == n) (column row 2))
      ∷ (report_value.tree, λ row. is_number (is_on (λ r. r == n) kept.portfolio.reports) (column row 0))
      ∷ (frozen_share.tree, λ row. is_number (λ r. r == n) (column row 1))
      ∷ []

  resource_chain : (n : ℕ) → IsChain schema resource (with_resource_gone n) (contents_of kept)
  unfolding same_name joined
  resource_chain n =
      let shares = linked schema resource (with_resource_gone n) (contents_of kept) share (cascades_to 2 (codes "resource") (codes "id")) (resource.tree, 1 ∷ [], plain) 1 (record { columns = refl; places = refl; order = refl }) (inl refl) refl (omega arith)
      (λ r has go. number_full (λ r. r == n) (column r 1) go) (child_same resource_columns kept.portfolio.resources 1 (map share_row kept.portfolio.shares) shares_named n) in
      let reports = linked schema resource (with_resource_gone n) (contents_of kept) report (cascades_to 3 (codes "resource") (codes "id")) (resource.tree, 1 ∷ [], plain) 2 (record { columns = refl; places = refl; order = refl }) (inl refl) refl (omega arith)
      (λ r has go. number_full (λ r. r == n) (column r 2) go) (child_same resource_columns kept.portfolio.resources 2 (map report_row kept.portfolio.reports) reports_named n) in
      let values = linked schema resource (with_resource_gone n) (contents_of kept) report_value (cascades_to 1 (codes "report") (codes "id")) (report.tree, 1 ∷ [], plain) 0 (record { columns = refl; places = refl; order = refl }) (inl refl) refl (omega arith)
      (λ r has go. number_full (is_on (λ r. r == n) kept.portfolio.reports) (column r 0) go)
      (parent_says report_columns kept.portfolio.reports 0 (flat_map value_rows kept.portfolio.reports) (named_values kept.portfolio.reports) rows_of_reports_rise (λ row. is_number (λ r. r == n) (column row 2)) (λ report. report.body.head.resource == n) (λ k v. refl)) in
      let frozen = linked schema resource (with_resource_gone n) (contents_of kept) frozen_share (cascades_to 2 (codes "resource") (codes "id")) (resource.tree, 1 ∷ [], plain) 1 (record { columns = refl; places = refl; order = refl }) (inl refl) refl (omega arith)
      (λ r has go. number_full (λ r. r == n) (column r 1) go) (child_same resource_columns kept.portfolio.resources 1 (map frozen_share_row kept.portfolio.frozen_shares) frozen_named n) in
      record {
        cascading = refl;
        along = ((shares.0, tt), ((reports.0, tt), ((values.0, tt), ((frozen.0, tt), tt))));
        because = ((λ r has go. inl refl), (shares.1, (reports.1, (values.1, (frozen.1, tt)))));
      }

  -- the intervals of the report
  abbrev with_report_gone : ℕ → Losses
  with_report_gone n = (report.tree, has_key 1 (number_row n)) ∷ (report_value.tree, λ row. is_number (λ r. r == n) (column row 0)) ∷ []

  report_chain : (n : ℕ) → IsChain schema report (with_report_gone n) (contents_of kept)
  unfolding same_name joined
  report_chain n =
      let values = linked schema report (with_report_gone n) (contents_of kept) report_value (cascades_to 1 (codes "report") (codes "id")) (report.tree, 1 ∷ [], plain) 0 (record { columns = refl; places = refl; order = refl }) (inl refl) refl (omega arith)
      (λ r has go. number_full (λ r. r == n) (column r 0) go)
      (child_same report_columns kept.portfolio.reports 0 (flat_map value_rows kept.portfolio.reports) (named_values kept.portfolio.reports) n) in
      record {
        cascading = refl;
        along = ((values.0, tt), tt);
        because = ((λ r has go. inl refl), (values.1, tt));
      }

-- a table with other rows, by its name
abbrev with_rows : {K V : Type 0} → KeptMap K V → List Row → Contents → Contents
with_rows m rows all = with_table all m.rows.at rows

abbrev with_report_rows : List Row → List Row → Contents → Contents
with_report_rows reports values all = with_table (with_table all 7 reports) 8 values

pub ven_removed : (n : ℕ) (old new : State) (count : ℕ) → Executes VEN_REMOVE.now (number_row n) old new (Ok count) → (kept : Kept) → Keeps kept old → Keeps (with_portfolio (without_ven n) kept) new
ven_removed n old new count h kept was =
    let left = rows_left ven_map.rows (contents_of kept) kept.portfolio.vens refl n old was.rows in
    let resources_left = filter-map (λ row. not (is_number (λ v. v == n) (column row 1))) resource_row kept.portfolio.resources in
    let shares_left = filter-map (λ row. not (is_number (is_of_ven n kept.portfolio.resources) (column row 1))) share_row kept.portfolio.shares in
    let reports_left = filter-map (λ row. not (is_number (is_of_ven n kept.portfolio.resources) (column row 2))) report_row kept.portfolio.reports in
    let frozen_left = filter-map (λ row. not (is_number (is_of_ven n kept.portfolio.resources) (column row 1))) frozen_share_row kept.portfolio.frozen_shares in
    let values_gone = values_off (is_of_ven n kept.portfolio.resources) kept.portfolio.reports (reports_rise kept old was) in
    record {
      rows = subst (λ all. Holds schema all new) (λ i. with_rows ven_map (left i) (with_rows resource_map (resources_left i) (with_rows share_map (shares_left i) (with_report_rows (reports_left i) (values_gone i) (with_rows sub_map (subs_left n kept.portfolio.subs i) (with_rows frozen_share_map (frozen_left i) (contents_of kept)))))))
          (cascade_runs schema ven_map.rows.at 1 ven ven_keyed.place VEN_REMOVE.now (number_row n) vens.texts.removes refl (with_ven_gone kept old was n) old new count (contents_of kept) (ven_chain kept old was n) (λ row. refl) h was.rows);
      marks = was.marks;
      subs = all-filter (λ e. IsSub e.1.body) (λ e. not (is_sub_of n e.1)) kept.portfolio.subs was.subs;
    }

pub resource_removed : (n : ℕ) (old new : State) (count : ℕ) → Executes RESOURCE_REMOVE.now (number_row n) old new (Ok count) → (kept : Kept) → Keeps kept old → Keeps (with_portfolio (without_resource n) kept) new
resource_removed n old new count h kept was =
    let left = rows_left resource_map.rows (contents_of kept) kept.portfolio.resources refl n old was.rows in
    let shares_left = filter-map (λ row. not (is_number (λ r. r == n) (column row 1))) share_row kept.portfolio.shares in
    let reports_left = filter-map (λ row. not (is_number (λ r. r == n) (column row 2))) report_row kept.portfolio.reports in
    let frozen_left = filter-map (λ row. not (is_number (λ r. r == n) (column row 1))) frozen_share_row kept.portfolio.frozen_shares in
    let values_gone = values_off (λ r. r == n) kept.portfolio.reports (reports_rise kept old was) in
    record {
      rows = subst (λ all. Holds schema all new) (λ i. with_rows resource_map (left i) (with_rows share_map (shares_left i) (with_report_rows (reports_left i) (values_gone i) (with_rows frozen_share_map (frozen_left i) (contents_of kept)))))
          (cascade_runs schema resource_map.rows.at 1 resource resource_keyed.place RESOURCE_REMOVE.now (number_row n) resources.texts.removes refl (with_resource_gone kept old was n) old new count (contents_of kept) (resource_chain kept old was n) (λ row. refl) h was.rows);
      marks = was.marks;
      subs = was.subs;
    }

pub report_removed : (n : ℕ) (old new : State) (count : ℕ) → Executes REPORT_REMOVE.now (number_row n) old new (Ok count) → (kept : Kept) → Keeps kept old → Keeps (with_portfolio (without_report n) kept) new
report_removed n old new count h kept was =
    let reports_left = rows_left report_rows (contents_of kept) kept.portfolio.reports refl n old was.rows in
    let values_gone = values_left (λ row. not (is_number (λ r. r == n) (column row 0))) (is_other n) kept.portfolio.reports (λ e has place interval. ap not (sym (same_is n e.0)))
    ∙ ap (flat_map value_rows) (others_left n kept.portfolio.reports (reports_rise kept old was)) in
    record {
      rows = subst (λ all. Holds schema all new) (λ i. with_report_rows (reports_left i) (values_gone i) (contents_of kept))
          (cascade_runs schema report_rows.at 1 report report_keyed.place REPORT_REMOVE.now (number_row n) reports.removes refl (with_report_gone kept old was n) old new count (contents_of kept) (report_chain kept old was n) (λ row. refl) h was.rows);
      marks = was.marks;
      subs = was.subs;
    }
