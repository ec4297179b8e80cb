-- The reports on the resources of a ven, by the numbers of these and of those.
use Rattle.std.proofs.Common.{◌≡◌, ℕ, ◌+◌, Bool, true, false, ◌&&◌, ◌||◌, cond, List, [], ◌∷◌, ◌++◌, map, filter, take, drop, Option, Some, None, Less, refl, sym, ap, ap₂, ◌∙◌}
use Rattle.std.specs.Prelude.{◌==◌, option_to_list, IfSome}
use Rattle.std.specs.List.{cons_option, filter_map, list_any}
use Rattle.std.proofs.lemmas.Bool.{eqb-true}
use Rattle.std.proofs.lemmas.List.{drop-take, take-map}
use Rattle.adr_db.proofs.Common.{IsAscending, Report, Resource, at, filter-map, nat_cmp, option_map, option_map_or}
use Rattle.adr_sql.proofs.Common.{ascending-map}
use Rattle.adr_state.specs.declared.base.Base.{Base}
use Rattle.adr_state.specs.Keys.{with_rows}
use Rattle.adr_state.specs.Portfolios.{reported_on}
use Rattle.adr_view.specs.declared.sight.Sight.TheVariants.{Of}
use Rattle.adr_queries.specs.declared.filter.ReportFilter.{ReportFilter}
use Rattle.adr_queries.specs.declared.query.Page.{Page}
use Rattle.adr_queries.specs.Filters.{is_among_all}
use Rattle.adr_queries.specs.Reported.{sees_report}
use Rattle.adr_queries.specs.Shown.{sees_owned}
use Rattle.adr_db.specs.Kept.{Kept, at_most}
use Rattle.adr_lent.proofs.Picks.{each_of}
use Rattle.adr_answers.proofs.KeyLemmas.{rows_of_numbers}
use Rattle.adr_db.proofs.Unions.{any_more, both_put, is_one_of, made_of_made, none_pass}
use Rattle.adr_report_pages.specs.Columns.{Entry, columns_of, entry_at, on_any, wanted_among, with_resource}
use Rattle.adr_report_pages.specs.Firsts.{HaveFirst}
use Rattle.adr_report_pages.proofs.FirstLemmas.{Rises, both_first, first_again, some_first}

-- ---- numbers with the resources

pub numbers_rise : (rs : List (ℕ × Report)) → IsAscending (λ a b. nat_cmp a.0 b.0 ≡ Less) rs → IsAscending (λ a b. nat_cmp a.0 b.0 ≡ Less) (map with_resource rs)
numbers_rise rs up = ascending-map (λ (a b : ℕ × ℕ). nat_cmp a.0 b.0 ≡ Less) with_resource rs up

-- the numbers of the reports on a resource that are among some, each with that of the resource
pub with_their_resource : (resource : ℕ) (some : ℕ → Bool) (rs : List (ℕ × Report))
    → map (λ n. (n, resource)) (map (λ r. r.0) (filter (λ r. reported_on r == resource && some r.0) rs)) ≡ filter (λ e. e.1 == resource && some e.0) (map with_resource rs)
with_their_resource resource some [] = refl
with_their_resource resource some (r ∷ rs) = by (reported_on r == resource) (some r.0) refl (with_their_resource resource some rs)
  where
    by : (b c : Bool) → (reported_on r == resource) ≡ b → map (λ n. (n, resource)) (map (λ r. r.0) (filter (λ r. reported_on r == resource && some r.0) rs)) ≡ filter (λ e. e.1 == resource && some e.0) (map with_resource rs)
        → map (λ n. (n, resource)) (map (λ r. r.0) (cond (b && c) (r ∷ filter (λ r. reported_on r == resource && some r.0) rs) (filter (λ r. reported_on r == resource && some r.0) rs))) ≡ cond (b && c) (with_resource r ∷ filter (λ e. e.1 == resource && some e.0) (map with_resource rs)) (filter (λ e. e.1 == resource && some e.0) (map with_resource rs))
    by true true is rest = ap₂ ◌∷◌ (λ i. (r.0, sym (eqb-true (reported_on r) resource is) i)) rest
    by true false is rest = rest
    by false c is rest = rest

-- ---- the first on each resource

-- on no resource there is none
pub none_first : (most : Option ℕ) (rs : List (ℕ × Report)) → HaveFirst most (λ r. on_any [] (with_resource r)) rs []
none_first most rs = record { among = λ e. false; are = sym (none_pass (map with_resource rs)); first = refl }

-- those on one resource more are put among them
pub more_first : (most : Option ℕ) (resources : List ℕ) (resource : ℕ) (rs : List (ℕ × Report)) (numbers : List (ℕ × ℕ)) → Rises rs → HaveFirst most (λ r. on_any resources (with_resource r)) rs numbers
    → HaveFirst most (λ r. on_any (resources ++ resource ∷ []) (with_resource r)) rs (with_rows nat_cmp numbers (map (λ n. (n, resource)) (map (λ r. r.0) (at_most most (filter (λ r. reported_on r == resource) rs)))))
more_first most resources resource rs numbers up have =
    let on : ℕ × Report → Bool = λ r. reported_on r == resource in
    let first = some_first on most rs up in
    let these : ℕ × ℕ → Bool = λ e. e.1 == resource && first.0 e.0 in
    let put : map (λ n. (n, resource)) (map (λ r. r.0) (at_most most (filter on rs))) ≡ filter these (map with_resource rs) =
    ap (λ l. map (λ n. (n, resource)) (map (λ (r : ℕ × Report). r.0) l)) first.1 ∙ with_their_resource resource first.0 rs in
    record {
      among = λ e. have.among e || these e;
      are = ap₂ (with_rows nat_cmp) have.are put ∙ both_put have.among these (map with_resource rs) (numbers_rise rs up);
      first =
          both_first most (λ r. have.among (with_resource r)) (λ r. these (with_resource r)) (λ r. on_any resources (with_resource r)) on rs up have.first (ap (at_most most) (sym first.1) ∙ first_again most (filter on rs))
          ∙ λ i. at_most most (filter (λ r. any_more (λ n. reported_on r == n) resources resource i) rs);
    }

-- ---- those of a ven

own_resource : (base : Base) (ven n : ℕ) → IsAscending (λ a b. nat_cmp a.0 b.0 ≡ Less) base.portfolio.resources → list_any (λ m. n == m) (map (λ r. r.0) (filter (λ r. r.1.ven == ven) base.portfolio.resources)) ≡ sees_owned base (Of ven) n
own_resource base ven n up = is_one_of (λ (r : Resource). r.ven == ven) n base.portfolio.resources up ∙ by (at nat_cmp n base.portfolio.resources)
  where
    by : (o : Option Resource) → option_map_or (λ r. r.ven == ven) o false ≡ option_map_or (λ owner. owner == ven) (option_map (λ r. r.ven) o) false
    by None = refl
    by (Some r) = refl

-- a ven sees those on its own resources
pub own_seen : (most : Option ℕ) (base : Base) (ven : ℕ) (numbers : List (ℕ × ℕ)) → IsAscending (λ a b. nat_cmp a.0 b.0 ≡ Less) base.portfolio.resources
    → HaveFirst most (λ r. on_any (map (λ r. r.0) (filter (λ r. r.1.ven == ven) base.portfolio.resources)) (with_resource r)) base.portfolio.reports numbers → HaveFirst most (sees_report base (Of ven)) base.portfolio.reports numbers
own_seen most base ven numbers up have = record { among = have.among; are = have.are; first = have.first ∙ λ i. at_most most (filter (λ r. own_resource base ven (reported_on r) up i) base.portfolio.reports) }

-- ---- their columns

-- one more, where there is one, before others
pub one_before : {X : Type 0} (xs : List X) (o : Option X) (rest : List X) → (xs ++ option_to_list o) ++ rest ≡ xs ++ cons_option o rest
one_before [] None rest = refl
one_before [] (Some y) rest = refl
one_before (x ∷ xs) o rest = ap (λ l. x ∷ l) (one_before xs o rest)

entry_is : (n : ℕ) (kept : Kept) → entry_at n kept ≡ option_map (λ r. columns_of (n, r)) (at nat_cmp n kept.portfolio.reports)
entry_is n kept = by (at nat_cmp n kept.portfolio.reports)
  where
    by : (o : Option Report) → ◌≡◌ {A = Option Entry} (option_map (λ columns. (n, columns)) (option_map (λ r. (columns_of (n, r)).1) o)) (option_map (λ r. columns_of (n, r)) o)
    by None = refl
    by (Some r) = refl

-- the columns of the reports of the numbers of some are those of these
pub columns_of_numbers : (kept : Kept) (passes : ℕ × Report → Bool) → IsAscending (λ a b. nat_cmp a.0 b.0 ≡ Less) kept.portfolio.reports
    → filter_map (λ e. entry_at e.0 kept) (map with_resource (filter passes kept.portfolio.reports)) ≡ map columns_of (filter passes kept.portfolio.reports)
columns_of_numbers kept passes up =
    let rs = kept.portfolio.reports in
    made_of_made (λ (e : ℕ × ℕ). entry_at e.0 kept) with_resource (filter passes rs)
    ∙ (λ i. filter_map (λ (r : ℕ × Report). entry_is r.0 kept i) (filter passes rs))
    ∙ sym (made_of_made (λ (n : ℕ). option_map (λ r. columns_of (n, r)) (at nat_cmp n rs)) (λ (r : ℕ × Report). r.0) (filter passes rs))
    ∙ rows_of_numbers columns_of passes rs up

-- ---- their page

each_wanted : (f : ReportFilter) (es : List Entry) → f.programs ≡ None → f.clients ≡ None → wanted_among f es ≡ es
each_wanted f es programs clients =
    (λ i. filter (λ (e : Entry). is_among_all (programs i) e.1.head.program && is_among_all (clients i) e.1.head.client) es) ∙ each_of es

-- a page needs no more than itself and what is before it
page_of_first : {X : Type 0} (skip limit : ℕ) (xs ys : List X) → take (skip + limit) xs ≡ take (skip + limit) ys → take limit (drop skip xs) ≡ take limit (drop skip ys)
page_of_first skip limit xs ys same = sym (drop-take skip limit xs) ∙ ap (drop skip) same ∙ drop-take skip limit ys

-- how many of those on a resource are enough for a page
abbrev pub AreEnough : ReportFilter → Page → Option ℕ → Type 0
AreEnough f page most = IfSome most (λ most. (f.programs ≡ None) × (f.clients ≡ None) × (most ≡ page.skip + page.limit))

cut : (f : ReportFilter) (page : Page) (among passes : ℕ × Report → Bool) (rs : List (ℕ × Report)) (most : Option ℕ) → AreEnough f page most → at_most most (filter among rs) ≡ at_most most (filter passes rs)
    → take page.limit (drop page.skip (wanted_among f (map columns_of (filter among rs)))) ≡ take page.limit (drop page.skip (wanted_among f (map columns_of (filter passes rs))))
cut f page among passes rs None enough same = ap (λ l. take page.limit (drop page.skip (wanted_among f (map columns_of l)))) same
cut f page among passes rs (Some m) enough same =
    let n = page.skip + page.limit in
    let all : (l : List (ℕ × Report)) → wanted_among f (map columns_of l) ≡ map columns_of l = λ l. each_wanted f (map columns_of l) enough.0 enough.1 in
    let paged : List Entry → List Entry = λ es. take page.limit (drop page.skip es) in
    let so_many : take n (filter among rs) ≡ take n (filter passes rs) = ap (λ k. take k (filter among rs)) (sym enough.2) ∙ same ∙ ap (λ k. take k (filter passes rs)) enough.2 in
    ap paged (all (filter among rs))
    ∙ page_of_first page.skip page.limit (map columns_of (filter among rs)) (map columns_of (filter passes rs)) (take-map columns_of n (filter among rs) ∙ ap (map columns_of) so_many ∙ sym (take-map columns_of n (filter passes rs)))
    ∙ sym (ap paged (all (filter passes rs)))

-- the page of those that pass is that of the numbers among which the first of them are
pub page_first : (kept : Kept) (passes : ℕ × Report → Bool) (f : ReportFilter) (page : Page) (most : Option ℕ) (numbers : List (ℕ × ℕ)) → Rises kept.portfolio.reports
    → AreEnough f page most → HaveFirst most passes kept.portfolio.reports numbers
    → take page.limit (drop page.skip (wanted_among f (filter_map (λ e. entry_at e.0 kept) numbers))) ≡ take page.limit (drop page.skip (wanted_among f (map columns_of (filter passes kept.portfolio.reports))))
page_first kept passes f page most numbers up enough have =
    let rs = kept.portfolio.reports in
    let among : ℕ × Report → Bool = λ r. have.among (with_resource r) in
    let their : filter_map (λ e. entry_at e.0 kept) numbers ≡ map columns_of (filter among rs) = ap (filter_map (λ (e : ℕ × ℕ). entry_at e.0 kept)) (have.are ∙ filter-map have.among with_resource rs) ∙ columns_of_numbers kept among up in
    ap (λ es. take page.limit (drop page.skip (wanted_among f es))) their ∙ cut f page among passes rs most enough have.first
