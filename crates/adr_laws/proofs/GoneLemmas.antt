-- Reports that are gone: a removal takes the report of its id, and no number comes back.
use Rattle.std.proofs.Common.{◌≡◌, ◌≤◌, ℕ, List, ◌++◌, Option, Some, None, refl, sym, ap, subst, ◌∙◌, arith}
use Rattle.std.specs.Prelude.{IsSome, is_some, IsOk}
use Rattle.std.proofs.lemmas.Cmp.{tied_itself}
use Rattle.std.proofs.lemmas.List.Elements.{Contains-append_left, Contains-append_right}
use Rattle.std.proofs.lemmas.Map.{lookup-remove_entry}
use Rattle.std.proofs.lemmas.Map.Views.{IsSome-lookup_from_Contains}
use Rattle.std.proofs.lemmas.Option.{same_Some}
use Rattle.std.specs.Map.{remove_entry}
use Rattle.adr_laws.proofs.Common.{All-contains, Contains, eq_by_cmp_equiv, false≢true, is_at, IsDistinct-from_sorted, keys_of, nat_cmp, nat_cmp_total, Base, ChangePortfolio, changed, State, Command, at, empty, state_after, step_at}
use Rattle.adr_state.specs.declared.portfolio.Report.{Report}
use Rattle.adr_state.specs.Portfolios.{DropReport}
use Rattle.adr_view.proofs.ListLemmas.{in_map}
use Rattle.adr_view.proofs.OrderLemmas.{InOrder}
use Rattle.adr_view.proofs.RowLemmas.{row_found}
use Rattle.adr_machine.specs.declared.command.Command.TheVariants.{ReportDelete}
use Rattle.adr_machine.specs.Edits.{Decision}
use Rattle.adr_laws.specs.Laws.{AreDrawnOnce, HaveOwnNumbers, numbers_of}
use Rattle.adr_laws.specs.Reported.{RemovedReportsAreGone, ReportsNeverReturn}
use Rattle.adr_laws.specs.Standing.{state_of}
use Rattle.adr_laws.proofs.Decisions.{IsGone, after_step}
use Rattle.adr_laws.proofs.PortfolioLemmas.{rows_in_order, numbers_own, numbers_drawn_once}
use Rattle.adr_laws.proofs.RunLemmas.{state_of-push}

-- ---- a removal

-- a row that was removed is not found
removed_not_found : {V : Type 0} (n : ℕ) (rows : List (ℕ × V)) → InOrder nat_cmp rows → at nat_cmp n (remove_entry (is_at (nat_cmp n)) rows) ≡ None
removed_not_found n rows ordered =
    let laws = eq_by_cmp_equiv nat_cmp_total in
    lookup-remove_entry laws (is_at (nat_cmp n)) (λ x y. laws.congr n x y) n rows (IsDistinct-from_sorted nat_cmp (keys_of rows) ordered) ∙ rw (tied_itself nat_cmp_total n) refl

pub removed_gone : RemovedReportsAreGone
removed_gone settings cs now role id n number accepted =
    let command : ℕ × Command = (now, ReportDelete role id) in
    ap (λ (t : State). at nat_cmp n t.base.portfolio.reports) (state_of-push (step_at settings) empty cs command)
    ∙ after_step settings s command (λ r. IsOk r → at nat_cmp n (state_after s r).base.portfolio.reports ≡ None) (λ refusal is. absurd (false≢true is)) (λ a o delivers done is. absurd (false≢true delivers)) (λ d a done is. gone d done.fits.is) accepted
  where
    s : State
    s = state_of (step_at settings) empty cs

    gone : (d : Decision) → IsGone s.base id d → at nat_cmp n (changed d.change s.base).portfolio.reports ≡ None
    gone d g =
        let same : g.number ≡ n = same_Some g.number n (sym g.is_its_number ∙ number) in
        ap (λ change. at nat_cmp n (changed change s.base).portfolio.reports) (g.goes ∙ ap (λ m. ChangePortfolio (DropReport m)) same) ∙ removed_not_found n s.base.portfolio.reports (rows_in_order settings cs).reports

-- ---- what is gone

number_there : {V : Type 0} (n : ℕ) (rows : List (ℕ × V)) → IsSome (at nat_cmp n rows) → Contains (keys_of rows) n
number_there n rows found = let row = row_found n rows found in in_map (λ r. r.0) rows (n, row.0) row.1

pub never_return : ReportsNeverReturn
never_return settings cs others more n was_there gone = by (at nat_cmp n later.portfolio.reports) refl
  where
    first : Base
    first = (state_of (step_at settings) empty cs).base

    between : Base
    between = (state_of (step_at settings) empty (cs ++ others)).base

    later : Base
    later = (state_of (step_at settings) empty ((cs ++ others) ++ more)).base

    -- its number was drawn by then
    was_drawn : n ≤ between.serial
    was_drawn =
        let own : HaveOwnNumbers first = numbers_own settings cs in
        let both : List ℕ = keys_of first.portfolio.vens ++ keys_of first.portfolio.resources in
        let of_reports : Contains (both ++ keys_of first.portfolio.reports) n = Contains-append_right both (keys_of first.portfolio.reports) n (number_there n first.portfolio.reports was_there) in
        let low : n ≤ first.serial = All-contains (λ n. n ≤ first.serial) (numbers_of first) n own.up_to_the_serial (Contains-append_left (both ++ keys_of first.portfolio.reports) (keys_of first.portfolio.subs) n of_reports) in
        let rose : AreDrawnOnce first between = numbers_drawn_once settings cs others in
        let passed = rose.serial_never_falls in
        omega (arith, low, passed)

    by : (o : Option Report) → at nat_cmp n later.portfolio.reports ≡ o → o ≡ None
    by None is = refl
    by (Some r) is =
        let once : AreDrawnOnce between later = numbers_drawn_once settings (cs ++ others) more in
        let there : Contains (keys_of between.portfolio.reports) n =
        All-contains (λ n. n ≤ between.serial → Contains (keys_of between.portfolio.reports) n) (keys_of later.portfolio.reports) n once.reports_were_there (number_there n later.portfolio.reports (ap is_some is)) was_drawn in
        let found : IsSome (at nat_cmp n between.portfolio.reports) = IsSome-lookup_from_Contains (eq_by_cmp_equiv nat_cmp_total) n between.portfolio.reports there in
        absurd (false≢true (subst IsSome gone found))
