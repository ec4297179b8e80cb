-- The reports: each has a number and a revision of its own, that were drawn, and is on a resource that is there.
use Rattle.std.proofs.Common.{◌≡◌, ℕ, ◌+◌, ◌≤◌, Bool, true, false, List, [], ◌++◌, ◌⊎◌, inl, inr, refl, sym, ap, subst, ◌∙◌, arith}
use Rattle.std.specs.Prelude.{◌≢◌, IsSome}
use Rattle.adr_laws.proofs.Common.{All, AllPairs, All-append, Contains, nat_cmp, keys_of, insert_entry, exact_unsigned, at}
use Rattle.adr_state.specs.declared.portfolio.Report.{Report}
use Rattle.adr_state.specs.Portfolios.{reported_on}
use Rattle.adr_view.proofs.OrderLemmas.{InOrder, none_sorted}
use Rattle.adr_view.proofs.RowLemmas.{from_put, row_found}
use Rattle.adr_laws.proofs.NumberLemmas.{IsNumber, IsDrawn, HaveOwn, still_drawn, some_own, own_from_here, put_drawn, number_drawn, BothOwn, each_number, rows_differ, pairs_apart, numbers_differ}

abbrev pub revision_of : Report → ℕ
revision_of report = report.revision

-- ---- a number of another kind

-- a row has the number, or it is the next one that is drawn
abbrev pub IsOneOrNext : {V : Type 0} → ℕ → List (ℕ × V) → ℕ → Type 0
IsOneOrNext {V} serial rows n = ((v : ℕ × V) × Contains rows v × (v.0 ≡ n)) ⊎ (n ≡ serial + 1)

-- it is so of rows that are there, and of those after a put
pub is_one : {V : Type 0} (serial : ℕ) (rows : List (ℕ × V)) (v : ℕ × V) → Contains rows v → IsOneOrNext serial rows v.0
is_one serial rows v there = inl (v, there, refl)

pub one_put : {V : Type 0} (serial : ℕ) (draws : Bool) (n : ℕ) (v : V) (rows : List (ℕ × V)) → IsNumber (serial + 1) draws rows n → (x : ℕ × V) → Contains (insert_entry nat_cmp rows n v) x → IsOneOrNext serial rows x.0
one_put {V} serial draws n v rows number x there = elim (from_put exact_unsigned n v rows x there) [ inl old ↦ inl (x, old, refl) | inr new ↦ by draws number (ap (λ (r : ℕ × V). r.0) new) ]
  where
    by : (draws : Bool) → IsNumber (serial + 1) draws rows n → x.0 ≡ n → IsOneOrNext serial rows x.0
    by true next is = inr (is ∙ next)
    by false found is = let row = row_found n rows found in inl ((n, row.0), row.1, sym is)

-- ---- reports

module _ {V W : Type 0} where
  -- beside the vens and the resources
  pub record HaveReports (first : ℕ) (had : List ℕ) (serial : ℕ) (vs : List (ℕ × V)) (ws : List (ℕ × W)) (reports : List (ℕ × Report)) : Type 0 where
    pub own : HaveOwn revision_of first had serial reports
    pub revised : (r : ℕ × Report) → Contains reports r → (r.0 ≤ r.1.revision) × (r.1.revision ≤ serial)
    pub apart_from_ones : (r : ℕ × Report) (v : ℕ × V) → Contains reports r → Contains vs v → r.0 ≢ v.0
    pub apart_from_others : (r : ℕ × Report) (w : ℕ × W) → Contains reports r → Contains ws w → r.0 ≢ w.0
    pub on_others : (r : ℕ × Report) → Contains reports r → IsSome (at nat_cmp (reported_on r) ws)

  -- none are there
  pub no_reports : HaveReports 0 [] 0 [] [] []
  no_reports = record {
    own = record { in_order = none_sorted nat_cmp; drawn = λ r there. absurd (omega (arith, there.1)); differ = λ a b one other same. absurd (omega (arith, one.1)) };
    revised = λ r there. absurd (omega (arith, there.1));
    apart_from_ones = λ r v there one. absurd (omega (arith, there.1));
    apart_from_others = λ r w there other. absurd (omega (arith, there.1));
    on_others = λ r there. absurd (omega (arith, there.1));
  }

  module _ {first : ℕ} {had : List ℕ} {serial : ℕ} {vs : List (ℕ × V)} {ws : List (ℕ × W)} {reports : List (ℕ × Report)} (h : HaveReports first had serial vs ws reports) where
    -- no row of another kind comes to have the number of a report
    still_apart : {X : Type 0} (rows : List (ℕ × X)) → ((r : ℕ × Report) (x : ℕ × X) → Contains reports r → Contains rows x → r.0 ≢ x.0) → (r : ℕ × Report) (n : ℕ) → Contains reports r → IsOneOrNext serial rows n → r.0 ≢ n
    still_apart rows apart r n there (inl one) same = apart r one.0 there one.1 (same ∙ sym one.2)
    still_apart rows apart r n there (inr next) same = let low : r.0 ≤ serial = (h.own.drawn r there).up_to_the_serial in omega arith

    -- some of them, when more numbers were drawn
    pub some_reports : {next : ℕ} (vs_after : List (ℕ × V)) (ws_after : List (ℕ × W)) (left : List (ℕ × Report)) → serial ≤ next → InOrder nat_cmp left → ((r : ℕ × Report) → Contains left r → Contains reports r)
        → ((v : ℕ × V) → Contains vs_after v → IsOneOrNext serial vs v.0) → ((w : ℕ × W) → Contains ws_after w → IsOneOrNext serial ws w.0) → ((r : ℕ × Report) → Contains left r → IsSome (at nat_cmp (reported_on r) ws_after))
        → HaveReports first had next vs_after ws_after left
    some_reports vs_after ws_after left passed ordered from ones others on = record {
      own = some_own h.own left passed ordered from;
      revised = λ r there. let was = h.revised r (from r there) in (was.0, omega (arith, was.1));
      apart_from_ones = λ r v there one. still_apart vs h.apart_from_ones r v.0 (from r there) (ones v one);
      apart_from_others = λ r w there other. still_apart ws h.apart_from_others r w.0 (from r there) (others w other);
      on_others = on;
    }

    -- all of them, where the other kinds stay
    pub later_reports : {next : ℕ} → serial ≤ next → HaveReports first had next vs ws reports
    later_reports passed = some_reports vs ws reports passed h.own.in_order (λ r there. there) (is_one serial vs) (is_one serial ws) h.on_others

    -- since the rows themselves
    pub reports_from_here : HaveReports serial (keys_of reports) serial vs ws reports
    reports_from_here = record { own = own_from_here h.own; revised = h.revised; apart_from_ones = h.apart_from_ones; apart_from_others = h.apart_from_others; on_others = h.on_others }

    -- one is put, new or again, with a revision that is drawn
    module _ (rose : first ≤ serial) (n : ℕ) (report : Report) (revision : report.revision ≡ serial + 1) (number : (n ≡ serial + 1) ⊎ IsSome (at nat_cmp n reports)) where
      drawn_by : (n ≡ serial + 1) ⊎ IsSome (at nat_cmp n reports) → IsDrawn first had (serial + 1) n
      drawn_by (inl next) = number_drawn h.own rose n report true next
      drawn_by (inr found) = still_drawn (omega arith) (number_drawn h.own rose n report false found)

      differs_by : {X : Type 0} (rows : List (ℕ × X)) → ((r : ℕ × Report) (x : ℕ × X) → Contains reports r → Contains rows x → r.0 ≢ x.0) → ((x : ℕ × X) → Contains rows x → x.0 ≤ serial) → (n ≡ serial + 1) ⊎ IsSome (at nat_cmp n reports)
          → (x : ℕ × X) → Contains rows x → n ≢ x.0
      differs_by rows apart low (inl next) x there same = let is_low = low x there in omega (arith, is_low)
      differs_by rows apart low (inr found) x there same = let row = row_found n reports found in apart (n, row.0) x row.1 there same

      pub put_reports : ((v : ℕ × V) → Contains vs v → v.0 ≤ serial) → ((w : ℕ × W) → Contains ws w → w.0 ≤ serial) → IsSome (at nat_cmp report.body.head.resource ws) → HaveReports first had (serial + 1) vs ws (insert_entry nat_cmp reports n report)
      put_reports low_ones low_others on =
          let from = from_put exact_unsigned n report reports in
          let is_drawn = drawn_by number in
          record {
            own = put_drawn h.own n report (omega arith) is_drawn (λ b there same. absurd (let was = h.revised b there in omega (arith, was.1)));
            revised = λ r there. elim (from r there) [
              | inl old ↦ let was = h.revised r old in (was.0, omega (arith, was.1))
              | inr new ↦ subst (λ (r : ℕ × Report). (r.0 ≤ r.1.revision) × (r.1.revision ≤ serial + 1)) (sym new) (let most = is_drawn.up_to_the_serial in (omega (arith, most), omega arith))
            ];
            apart_from_ones = λ r v there one. elim (from r there) [
              | inl old ↦ h.apart_from_ones r v old one
              | inr new ↦ subst (λ (r : ℕ × Report). r.0 ≢ v.0) (sym new) (differs_by vs h.apart_from_ones low_ones number v one)
            ];
            apart_from_others = λ r w there other. elim (from r there) [
              | inl old ↦ h.apart_from_others r w old other
              | inr new ↦ subst (λ (r : ℕ × Report). r.0 ≢ w.0) (sym new) (differs_by ws h.apart_from_others low_others number w other)
            ];
            on_others = λ r there. elim (from r there) [
              | inl old ↦ h.on_others r old
              | inr new ↦ subst (λ (r : ℕ × Report). IsSome (at nat_cmp (reported_on r) ws)) (sym new) on
            ];
          }

-- ---- as the law says it

module _ {V W : Type 0} {name_v : V → List ℕ} {name_w : W → List ℕ} {first : ℕ} {had_v had_w had : List ℕ} {serial : ℕ} {vs : List (ℕ × V)} {ws : List (ℕ × W)} {reports : List (ℕ × Report)} (h : BothOwn name_v name_w first had_v had_w serial vs ws) (k : HaveReports first had serial vs ws reports) where
  -- no two rows of the three kinds have one number
  pub reports_differ : AllPairs (λ m n. m ≢ n) ((keys_of vs ++ keys_of ws) ++ keys_of reports)
  reports_differ =
      pairs_apart (keys_of vs ++ keys_of ws) (keys_of reports) (numbers_differ h) (rows_differ reports k.own.in_order)
      (All-append (λ m. All (λ n. m ≢ n) (keys_of reports)) (keys_of vs) (keys_of ws)
      (each_number (λ m. All (λ n. m ≢ n) (keys_of reports)) vs (λ v one. each_number (λ n. v.0 ≢ n) reports (λ r there same. k.apart_from_ones r v there one (sym same))))
      (each_number (λ m. All (λ n. m ≢ n) (keys_of reports)) ws (λ w other. each_number (λ n. w.0 ≢ n) reports (λ r there same. k.apart_from_others r w there other (sym same)))))
