-- Each row that a run leaves is found by the id that is written of its number.
use Rattle.std.proofs.Common.{◌≡◌, ◌≤◌, ℕ, List, Option, Some, ap, ◌∙◌, arith}
use Rattle.std.specs.Prelude.{option_map}
use Rattle.adr_written.specs.Ids.{ven_id, resource_id, report_id, sub_id}
use Rattle.adr_state.specs.declared.portfolio.Portfolio.{Portfolio}
use Rattle.adr_state.specs.Digits.{most_number}
use Rattle.adr_state.specs.Resources.{resource_with_id}
use Rattle.adr_state.specs.Subs.{sub_with_id}
use Rattle.adr_state.specs.Vens.{ven_with_id}
use Rattle.adr_view.specs.Reports.{report_with_id}
use Rattle.adr_view.proofs.OrderLemmas.{InOrder}
use Rattle.adr_view.proofs.RowLemmas.{each_there}
use Rattle.adr_laws.specs.Entries.{reached}
use Rattle.adr_laws.proofs.Common.{All, Base, Contains, IsDistinct-from_sorted, at, eq_by_cmp_equiv, keys_of, lookup-from_Contains, nat_cmp, nat_cmp_total}
use Rattle.adr_laws.proofs.NumberLemmas.{IsDrawn}
use Rattle.adr_laws.proofs.PortfolioLemmas.{whole_after}
use Rattle.adr_view_laws.specs.ReadIds.{EachIsFoundByItsId}
use Rattle.adr_view_laws.proofs.IdLemmas.{rows_found}
use Rattle.adr_view_laws.proofs.LimitLemmas.{limits_kept}

-- rows in order whose numbers may be drawn, by what finds such numbers
each_found : {V : Type 0} {first serial : ℕ} {had : List ℕ} (rows : List (ℕ × V)) (find : ℕ → Option (ℕ × V)) → serial ≤ most_number → InOrder nat_cmp rows → ((r : ℕ × V) → Contains rows r → IsDrawn first had serial r.0)
    → ((n : ℕ) → 1 ≤ n → n ≤ most_number → find n ≡ option_map (λ v. (n, v)) (at nat_cmp n rows)) → All (λ r. find r.0 ≡ Some r) rows
each_found {V} rows find few ordered drawn finds = each_there (λ r. find r.0 ≡ Some r) rows (λ r there.
    let number = drawn r there in
    let last = number.up_to_the_serial in
    finds r.0 number.at_least_one (omega (arith, last, few)) ∙ ap (option_map (λ (v : V). (r.0, v))) (lookup-from_Contains (eq_by_cmp_equiv nat_cmp_total) r.0 r.1 rows (IsDistinct-from_sorted nat_cmp (keys_of rows) ordered) there))

pub each_found_by_its_id : EachIsFoundByItsId
each_found_by_its_id settings cs small =
    let base : Base = (reached settings cs).base in
    let p : Portfolio = base.portfolio in
    let whole = whole_after settings cs in
    let few : base.serial ≤ most_number = let within = (limits_kept settings cs).serial in omega (arith, within, small) in
    record {
      vens = each_found p.vens (λ n. ven_with_id (ven_id n) p) few whole.0.0.ones.in_order whole.0.0.ones.drawn (λ n one most. (rows_found p n one most).ven);
      resources = each_found p.resources (λ n. resource_with_id (resource_id n) p) few whole.0.0.others.in_order whole.0.0.others.drawn (λ n one most. (rows_found p n one most).resource);
      reports = each_found p.reports (λ n. report_with_id (report_id n) p) few whole.0.2.own.in_order whole.0.2.own.drawn (λ n one most. (rows_found p n one most).report);
      subs = each_found p.subs (λ n. sub_with_id (sub_id n) p) few whole.1.in_order whole.1.drawn (λ n one most. (rows_found p n one most).sub);
    }
