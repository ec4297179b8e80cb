-- The numbers of resources were drawn, after each change too.
use Rattle.std.proofs.Common.{ℕ, ◌+◌, ◌≤◌, ◌==◌, Bool, true, false, not, List, inl, inr, sym, subst, arith}
use Rattle.adr_laws.proofs.Common.{All, All-contains, All-weaker, Base, BaseChange, ChangePortfolio, Contains, JoinMarks, SetScan, changed, exact_unsigned, is_at, keys_of, nat_cmp}
use Rattle.adr_state.specs.declared.portfolio.Portfolio.{Portfolio}
use Rattle.adr_state.specs.declared.portfolio.Resource.{Resource}
use Rattle.adr_state.specs.Frozen.{is_frozen}
use Rattle.adr_state.specs.Portfolios.{DropResource, DropVen, Freeze, PortfolioChange, PutResource, portfolio_after}
use Rattle.std.proofs.lemmas.Bool.{cond_both}
use Rattle.adr_view.proofs.FrozenLemmas.{frozen_now}
use Rattle.adr_view.proofs.OrderLemmas.{each_row}
use Rattle.adr_view.proofs.RowLemmas.{from_filter, from_put, from_removal, row_found}
use Rattle.adr_laws.proofs.Decisions.{FitsBase, FitsPortfolio}
use Rattle.adr_laws.proofs.NumberLemmas.{IsNumber, each_number, rises, serial_then}

abbrev pub AreDrawn : {V : Type 0} → ℕ → List (ℕ × V) → Type 0
AreDrawn serial rows = All (λ n. n ≤ serial) (keys_of rows)

-- more numbers were drawn
pub drawn_later : {V : Type 0} (serial next : ℕ) (rows : List (ℕ × V)) → serial ≤ next → AreDrawn serial rows → AreDrawn next rows
drawn_later serial next rows passed h = All-weaker (λ n. n ≤ serial) (λ n. n ≤ next) (λ n low. omega (arith, low, passed)) (keys_of rows) h

module _ (serial : ℕ) (p : Portfolio) (h : AreDrawn serial p.resources) where
  low : (r : ℕ × Resource) → Contains p.resources r → r.0 ≤ serial
  low r there = All-contains (λ r. r.0 ≤ serial) p.resources r (each_row (λ n. n ≤ serial) p.resources h) there

  low_then : (draws : Bool) (r : ℕ × Resource) → Contains p.resources r → r.0 ≤ serial_then serial draws
  low_then draws r there = let one = low r there in let up = rises serial draws in omega (arith, one, up)

  put_low : (draws : Bool) (n : ℕ) → IsNumber (serial + 1) draws p.resources n → n ≤ serial_then serial draws
  put_low true n is = omega (arith, is)
  put_low false n found = let row = row_found n p.resources found in low (n, row.0) row.1

  each_low : (draws : Bool) (change : PortfolioChange) → FitsPortfolio (serial + 1) draws p change → (r : ℕ × Resource) → Contains (portfolio_after change p).resources r → r.0 ≤ serial_then serial draws
  each_low draws (DropVen n) fits r there = low_then draws r (from_filter (λ (r : ℕ × Resource). not (r.1.ven == n)) p.resources r there).0
  each_low draws (PutResource n resource) fits r there =
      elim (from_put exact_unsigned n resource p.resources r there) [
        | inl old ↦ low_then draws r old
        | inr new ↦ subst (λ (x : ℕ × Resource). x.0 ≤ serial_then serial draws) (sym new) (put_low draws n fits.0)
      ]
  each_low draws (DropResource n) fits r there = low_then draws r (from_removal (is_at (nat_cmp n)) p.resources r there)
  each_low draws (Freeze id pairs) fits r there =
      cond_both (is_frozen p id) p (frozen_now p id pairs) (λ (q : Portfolio). Contains q.resources r → r.0 ≤ serial_then serial draws) (λ frozen. low_then draws r) (λ fresh. low_then draws r) there
  each_low draws change fits r there = low_then draws r there

pub drawn_then : (draws : Bool) (base : Base) (change : BaseChange) → FitsBase (base.serial + 1) draws base change → AreDrawn base.serial base.portfolio.resources → AreDrawn (serial_then base.serial draws) (changed change base).portfolio.resources
drawn_then draws base (JoinMarks marks scan) fits h = drawn_later base.serial (serial_then base.serial draws) base.portfolio.resources (rises base.serial draws) h
drawn_then draws base (SetScan scan) fits h = drawn_later base.serial (serial_then base.serial draws) base.portfolio.resources (rises base.serial draws) h
drawn_then draws base (ChangePortfolio change) fits h = each_number (λ n. n ≤ serial_then base.serial draws) (portfolio_after change base.portfolio).resources (each_low base.serial base.portfolio h draws change fits)
