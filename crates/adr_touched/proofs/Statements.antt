-- The reports on resources, as calls on the tables answer them.
use Rattle.std.proofs.Common.{◌≡◌, ℕ, Bool, true, false, cond, None, Some, List, [], ◌∷◌, map, filter, refl, ap}
use Rattle.adr_db.proofs.Common.{Report, cons_option, filter_map}
use Rattle.adr_state.specs.Portfolios.{reported_on}
use Rattle.adr_refresh.specs.Touched.{report_by}

-- the numbers of the reports on resources that go
pub reported_are : (goes : ℕ → Bool) (es : List (ℕ × Report)) → map (λ r. r.0) (filter (λ r. goes (reported_on r)) es) ≡ filter_map (report_by goes) es
reported_are goes [] = refl
reported_are goes (r ∷ es) = by (goes (reported_on r)) (reported_are goes es)
  where
    by : (b : Bool) → map (λ r. r.0) (filter (λ r. goes (reported_on r)) es) ≡ filter_map (report_by goes) es
        → map (λ (r : ℕ × Report). r.0) (cond b (r ∷ filter (λ r. goes (reported_on r)) es) (filter (λ r. goes (reported_on r)) es)) ≡ cons_option (cond b (Some r.0) None) (filter_map (report_by goes) es)
    by true same = ap (λ ns. r.0 ∷ ns) same
    by false same = same
