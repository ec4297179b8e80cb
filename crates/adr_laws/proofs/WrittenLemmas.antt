-- What is written in a run: the revisions of all that is written rise, and each report that is there is what was written last under its number.
use Rattle.std.proofs.Common.{◌≡◌, ℕ, ◌+◌, ◌==◌, ◌≤◌, ◌<◌, Less, Bool, true, false, not, List, [], ◌∷◌, ◌++◌, Some, None, Ok, Err, IfOk, inl, inr, refl, sym, ap, subst, ◌∙◌, arith}
use Rattle.std.proofs.lemmas.Bool.{cond_both, eqb-false, lt-ltb}
use Rattle.std.proofs.lemmas.Cmp.{tied_itself}
use Rattle.std.proofs.lemmas.Option.{same_Some}
use Rattle.std.proofs.lemmas.List.{append-nil, append_assoc}
use Rattle.std.proofs.lemmas.List.Elements.{All-cons, Contains-append_left, Contains-append_right}
use Rattle.adr_laws.proofs.Common.{All, All-append, All-contains, All-nil, All-weaker, Contains, insert_entry, is_at, nat_cmp, nat_cmp_total, exact_unsigned, map-append, keys_of, values_of, eq_by_cmp_equiv, lookup-from_Contains, IsDistinct-from_sorted, unsigned_Decides, IsStrictlySortedBy, Base, Settings, State, BaseChange, JoinMarks, SetScan, ChangePortfolio, changed, at, empty, view_cmp, Command, state_after, step_at}
use Rattle.adr_objects.specs.declared.report.ReportBody.{ReportBody}
use Rattle.adr_objects.specs.declared.site.ReportIn.{ReportIn}
use Rattle.adr_objects.specs.declared.shown.Stamps.{Stamps}
use Rattle.adr_state.specs.declared.keys.ViewKey.{ViewKey}
use Rattle.adr_state.specs.declared.keys.ViewKey.TheVariants as key
use Rattle.adr_state.specs.declared.portfolio.Portfolio.{Portfolio}
use Rattle.adr_state.specs.declared.portfolio.Report.{Report}
use Rattle.adr_state.specs.Frozen.{is_frozen}
use Rattle.adr_view.proofs.FrozenLemmas.{frozen_now}
use Rattle.adr_state.specs.Portfolios.{is_of_ven, reported_on, PortfolioChange, PutVen, DropVen, PutResource, DropResource, PutShare, DropShare, PutReport, DropReport, PutSub, DropSub, Freeze as FreezeEvent, portfolio_after}
use Rattle.adr_state.proofs.LawLemmas.{at-insert_entry}
use Rattle.adr_text.specs.declared.refusal.Refusal.TheVariants as refusal
use Rattle.adr_view.specs.declared.view.Content.TheVariants as content
use Rattle.adr_view.proofs.ListLemmas.{in_order_append}
use Rattle.adr_view.proofs.OrderLemmas.{InOrder, none_sorted, in_order_put, in_order_removed, in_order_filtered}
use Rattle.adr_view.proofs.RowLemmas.{from_put, from_removal, from_filter}
use Rattle.adr_queries.specs.declared.answer.Answer.{Answer}
use Rattle.adr_queries.specs.declared.answer.Answer.TheVariants as answer
use Rattle.adr_queries.specs.declared.answer.Object.TheVariants as object
use Rattle.adr_machine.specs.declared.command.Command.TheVariants.{Evidence, Gone, ScanBegin, ScanEnd, VenAdd, VenPut, VenRemove, ResourceAdd, ResourcePut, ResourceRemove, ShareSet, Freeze, ReportPost, ReportPut, ReportDelete, SubPost, SubPut, SubDelete, Lease, Sent, Failed}
use Rattle.adr_machine.specs.Edits.{Decision, draws_number}
use Rattle.adr_queries.specs.Shown.{object_at, told}
use Rattle.adr_machine.specs.Steps.{answered_by}
use Rattle.adr_machine.specs.Steps.{changed as restamped_by}
use Rattle.adr_laws.specs.Reported.{report_in, written_by, written_in, written, WritesOne, Writes, ReportsAreWrittenAsSent}
use Rattle.adr_laws.specs.Standing.{state_of}
use Rattle.adr_laws.proofs.Decisions.{FitsBase, puts_of, puts_in, IsKept, Comes, base_after, next_by, rises_on, after_step, of_delivery}
use Rattle.adr_laws.proofs.NumberLemmas.{serial_then, rises}

-- after a put, the row of its number is the one that was put
the_one : {V : Type 0} (n : ℕ) (v : V) (rows : List (ℕ × V)) → InOrder nat_cmp rows → (r : ℕ × V) → Contains (insert_entry nat_cmp rows n v) r → r.0 ≡ n → r ≡ (n, v)
the_one n v rows ordered r among number =
    let found : at nat_cmp r.0 (insert_entry nat_cmp rows n v) ≡ Some r.1 =
    lookup-from_Contains (eq_by_cmp_equiv nat_cmp_total) r.0 r.1 (insert_entry nat_cmp rows n v) (IsDistinct-from_sorted nat_cmp (keys_of (insert_entry nat_cmp rows n v)) (in_order_put nat_cmp_total n v rows ordered)) among in
    let put : at nat_cmp n (insert_entry nat_cmp rows n v) ≡ Some v = at-insert_entry nat_cmp_total n n v rows ∙ rw (tied_itself nat_cmp_total n) refl in
    let same : r.1 ≡ v = same_Some r.1 v (sym found ∙ ap (λ m. at nat_cmp m (insert_entry nat_cmp rows n v)) number ∙ put) in
    λ i. (number i, same i)

-- ---- reports that are there, and all that was written, each by its revision

pub record AreWritten (serial : ℕ) (reports : List (ℕ × Report)) (revised : List (ℕ × (ℕ × ReportBody))) : Type 0 where
  pub in_order : InOrder nat_cmp reports
  pub rise : InOrder nat_cmp revised
  pub up_to_the_serial : All (λ w. w.0 ≤ serial) revised
  pub there : (r : ℕ × Report) → Contains reports r → Contains revised (r.1.revision, (r.0, r.1.body))
  pub last : (r : ℕ × Report) → Contains reports r → All (λ w. w.1.0 ≡ r.0 → w.0 ≤ r.1.revision) revised

none_written : AreWritten 0 [] []
none_written = record {
  in_order = none_sorted nat_cmp;
  rise = none_sorted nat_cmp;
  up_to_the_serial = All-nil (λ w. w.0 ≤ 0);
  there = λ r none. absurd (omega (arith, none.1));
  last = λ r none. absurd (omega (arith, none.1));
}

module _ {serial : ℕ} {reports : List (ℕ × Report)} {revised : List (ℕ × (ℕ × ReportBody))} (h : AreWritten serial reports revised) where
  -- some of them, when more numbers were drawn
  some_written : {next : ℕ} (left : List (ℕ × Report)) → serial ≤ next → InOrder nat_cmp left → ((r : ℕ × Report) → Contains left r → Contains reports r) → AreWritten next left revised
  some_written {next} left passed ordered from = record {
    in_order = ordered;
    rise = h.rise;
    up_to_the_serial = All-weaker (λ w. w.0 ≤ serial) (λ w. w.0 ≤ next) (λ w most. omega (arith, most, passed)) revised h.up_to_the_serial;
    there = λ r there. h.there r (from r there);
    last = λ r there. h.last r (from r there);
  }

  -- and one more is written
  module _ (n : ℕ) (report : Report) (revision : report.revision ≡ serial + 1) where
    abbrev one : ℕ × (ℕ × ReportBody)
    one = (serial + 1, (n, report.body))

    -- it is behind all others
    behind : (a b : ℕ × (ℕ × ReportBody)) → Contains revised a → Contains (one ∷ []) b → nat_cmp a.0 b.0 ≡ Less
    behind a b there new =
        let low : a.0 ≤ serial = All-contains (λ w. w.0 ≤ serial) revised a h.up_to_the_serial there in
        let is : b.0 ≡ serial + 1 = All-contains (λ (w : ℕ × (ℕ × ReportBody)). w.0 ≡ serial + 1) (one ∷ []) b (All-cons (λ w. w.0 ≡ serial + 1) one [] refl (All-nil (λ w. w.0 ≡ serial + 1))) new in
        let less : a.0 < b.0 = omega (arith, low, is) in
        rw (lt-ltb a.0 b.0 less) refl

    put_written : AreWritten (serial + 1) (insert_entry nat_cmp reports n report) (revised ++ one ∷ [])
    unfolding IsStrictlySortedBy
    put_written =
        let rows : List (ℕ × Report) = insert_entry nat_cmp reports n report in
        let ordered : InOrder nat_cmp rows = in_order_put nat_cmp_total n report reports h.in_order in
        let itself : Contains (revised ++ one ∷ []) one = Contains-append_right revised (one ∷ []) one (0, omega arith, refl) in
        record {
          in_order = ordered;
          rise = in_order_append nat_cmp revised (one ∷ []) h.rise (tt, tt) behind;
          up_to_the_serial = All-append (λ w. w.0 ≤ serial + 1) revised (one ∷ []) (All-weaker (λ w. w.0 ≤ serial) (λ w. w.0 ≤ serial + 1) (λ w most. omega (arith, most)) revised h.up_to_the_serial) (All-cons (λ w. w.0 ≤ serial + 1) one [] (omega arith) (All-nil (λ w. w.0 ≤ serial + 1)));
          there = λ r among. elim (from_put exact_unsigned n report reports r among) [
            | inl old ↦ Contains-append_left revised (one ∷ []) (r.1.revision, (r.0, r.1.body)) (h.there r old)
            | inr new ↦ subst (λ (r : ℕ × Report). Contains (revised ++ one ∷ []) (r.1.revision, (r.0, r.1.body))) (sym new) (subst (λ k. Contains (revised ++ one ∷ []) (k, (n, report.body))) (sym revision) itself)
          ];
          last = λ r among. by_number r among (r.0 == n) refl;
        }
      where
        of_new : All (λ w. w.1.0 ≡ n → w.0 ≤ report.revision) (revised ++ one ∷ [])
        of_new =
            All-append (λ w. w.1.0 ≡ n → w.0 ≤ report.revision) revised (one ∷ []) (All-weaker (λ w. w.0 ≤ serial) (λ w. w.1.0 ≡ n → w.0 ≤ report.revision) (λ w most its. omega (arith, most, revision)) revised h.up_to_the_serial)
            (All-cons (λ w. w.1.0 ≡ n → w.0 ≤ report.revision) one [] (λ its. omega (arith, revision)) (All-nil (λ w. w.1.0 ≡ n → w.0 ≤ report.revision)))

        of_old : (r : ℕ × Report) → Contains reports r → (r.0 == n) ≡ false → All (λ w. w.1.0 ≡ r.0 → w.0 ≤ r.1.revision) (revised ++ one ∷ [])
        of_old r old other =
            All-append (λ w. w.1.0 ≡ r.0 → w.0 ≤ r.1.revision) revised (one ∷ []) (h.last r old)
            (All-cons (λ w. w.1.0 ≡ r.0 → w.0 ≤ r.1.revision) one [] (λ its. absurd (eqb-false r.0 n other (sym its))) (All-nil (λ w. w.1.0 ≡ r.0 → w.0 ≤ r.1.revision)))

        by_number : (r : ℕ × Report) → Contains (insert_entry nat_cmp reports n report) r → (b : Bool) → (r.0 == n) ≡ b → All (λ w. w.1.0 ≡ r.0 → w.0 ≤ r.1.revision) (revised ++ one ∷ [])
        by_number r among true same =
            subst (λ (r : ℕ × Report). All (λ w. w.1.0 ≡ r.0 → w.0 ≤ r.1.revision) (revised ++ one ∷ [])) (sym (the_one n report reports h.in_order r among ((unsigned_Decides r.0 n).0 same))) of_new
        by_number r among false other = elim (from_put exact_unsigned n report reports r among) [
          | inl old ↦ of_old r old other
          | inr new ↦ absurd (eqb-false r.0 n other (ap (λ (r : ℕ × Report). r.0) new))
        ]

-- ---- what is written in a run

-- what is told of a report that is kept is that report
kept_told : (stamps : List (ViewKey × Stamps)) (n : ℕ) (body : ReportBody) (a : Answer) → told (object_at stamps (key.Report n, content.Report body)) ≡ Ok a → report_in a ≡ (n, body) ∷ []
kept_told stamps n body a = elim (at view_cmp (key.Report n) stamps) as (λ o. at view_cmp (key.Report n) stamps ≡ o → told (object_at stamps (key.Report n, content.Report body)) ≡ Ok a → report_in a ≡ (n, body) ∷ []) [
  | None ↦ λ is told_it. absurd (let no : told (object_at stamps (key.Report n, content.Report body)) ≡ Err refusal.NotFound = rw is refl in cc)
  | Some s ↦ λ is told_it.
      let its : told (object_at stamps (key.Report n, content.Report body)) ≡ Ok (answer.Object (object.Report (record { number = n; body = body; stamps = s }))) = rw is refl in
      let both : Ok (answer.Object (object.Report (record { number = n; body = body; stamps = s }))) ≡ Ok a = sym its ∙ told_it in
      let same : answer.Object (object.Report (record { number = n; body = body; stamps = s })) ≡ a = cc in
      ap report_in (sym same)
] refl

-- so what is kept is what is answered
kept_answer : {IsItsNumber : ℕ → Type 0} {sent : ReportIn} (s : State) (now : ℕ) (d : Decision) (after : Base) (a : Answer) (k : IsKept s.base IsItsNumber sent d) → answered_by d.outcome s.stamps (restamped_by s now after) ≡ Ok a → report_in a ≡ (k.number, k.report.body) ∷ []
kept_answer s now d after a k is = kept_told (restamped_by s now after).1 k.number k.report.body a (ap (λ comes. answered_by comes s.stamps (restamped_by s now after)) (sym k.comes) ∙ is)

-- as it was sent
kept_writes : {IsItsNumber : ℕ → Type 0} {sent : ReportIn} (s : State) (now : ℕ) (d : Decision) (after : Base) (a : Answer) → IsKept s.base IsItsNumber sent d → answered_by d.outcome s.stamps (restamped_by s now after) ≡ Ok a → WritesOne s.base IsItsNumber sent (report_in a)
kept_writes s now d after a k is = record { number = k.number; says = k.report.body; is_that = kept_answer s now d after a k is; is_its_number = k.is_its_number; as_sent = k.as_sent }

pub written_as_sent : ReportsAreWrittenAsSent
written_as_sent settings s c = after_step settings s c (λ r. IfOk r (λ taken. Writes s.base c.1 (written_by c.1 taken.0))) (λ refusal. tt)
    (λ a o is done. of_delivery (λ command. Writes s.base command (written_by command a)) refl (λ entry lease remote. refl) (λ entry lease forget. refl) c.1 is) (λ d a is. by_command d a c.1 is.fits.is is.answers)
  where
    by_command : (d : Decision) (a : Answer) (command : Command) → Comes (s.base.serial + 1) s.base command d → answered_by d.outcome s.stamps (restamped_by s c.0 (base_after s.base command d)) ≡ Ok a → Writes s.base command (written_by command a)
    by_command d a (Evidence founds polled) comes is = refl
    by_command d a (Gone kind id) comes is = refl
    by_command d a ScanBegin comes is = refl
    by_command d a ScanEnd comes is = refl
    by_command d a (VenAdd role ven) comes is = refl
    by_command d a (VenPut role id ven) comes is = refl
    by_command d a (VenRemove role id) comes is = refl
    by_command d a (ResourceAdd role ven resource) comes is = refl
    by_command d a (ResourcePut role ven id resource) comes is = refl
    by_command d a (ResourceRemove role ven id) comes is = refl
    by_command d a (ShareSet role program resource share) comes is = refl
    by_command d a (Freeze role event) comes is = refl
    by_command d a (ReportPost role sent) comes is = kept_writes s c.0 d (base_after s.base (ReportPost role sent) d) a comes is
    by_command d a (ReportPut role id sent) comes is = kept_writes s c.0 d (base_after s.base (ReportPut role id sent) d) a comes is
    by_command d a (ReportDelete role id) comes is = refl
    by_command d a (SubPost role sub) comes is = refl
    by_command d a (SubPut role id sub) comes is = refl
    by_command d a (SubDelete role id) comes is = refl
    by_command d a Lease comes is = refl
    by_command d a (Sent entry lease remote) comes is = refl
    by_command d a (Failed entry lease forget) comes is = refl

-- all that was written stands, each with its revision
abbrev pub IsWritten : List (ℕ × ReportBody) → Base → Type 0
IsWritten writes base = (revised : List (ℕ × (ℕ × ReportBody))) × AreWritten base.serial base.portfolio.reports revised × (values_of revised ≡ writes)

-- still, when more numbers were drawn
later_written : (writes : List (ℕ × ReportBody)) (base : Base) (next : ℕ) → base.serial ≤ next → IsWritten writes base → IsWritten writes (record base { serial = next })
later_written writes base next passed h = (h.0, some_written h.1 base.portfolio.reports passed h.1.in_order (λ r there. there), h.2)

-- reports that are left
abbrev AreLeft : List (ℕ × Report) → List (ℕ × Report) → Type 0
AreLeft left reports = InOrder nat_cmp left × ((r : ℕ × Report) → Contains left r → Contains reports r)

portfolio_leaves : (p : Portfolio) (change : PortfolioChange) → puts_of change ≡ [] → InOrder nat_cmp p.reports → AreLeft (portfolio_after change p).reports p.reports
portfolio_leaves p (PutVen n ven) none h = (h, λ r there. there)
portfolio_leaves p (DropVen n) none h = let goes : ℕ × Report → Bool = λ r. not (is_of_ven n p.resources (reported_on r)) in (in_order_filtered nat_cmp goes p.reports h, λ r there. (from_filter goes p.reports r there).0)
portfolio_leaves p (PutResource n resource) none h = (h, λ r there. there)
portfolio_leaves p (DropResource n) none h = let goes : ℕ × Report → Bool = λ r. not (reported_on r == n) in (in_order_filtered nat_cmp goes p.reports h, λ r there. (from_filter goes p.reports r there).0)
portfolio_leaves p (PutShare key weight) none h = (h, λ r there. there)
portfolio_leaves p (DropShare key) none h = (h, λ r there. there)
portfolio_leaves p (PutReport n report) none h = absurd (cc)
portfolio_leaves p (PutSub n sub) none h = (h, λ r there. there)
portfolio_leaves p (DropSub n) none h = (h, λ r there. there)
portfolio_leaves p (FreezeEvent id pairs) none h = cond_both (is_frozen p id) p (frozen_now p id pairs) (λ (q : Portfolio). AreLeft q.reports p.reports) (λ frozen. (h, λ r there. there)) (λ fresh. (h, λ r there. there))
portfolio_leaves p (DropReport n) none h = (in_order_removed nat_cmp (is_at (nat_cmp n)) p.reports h, from_removal (is_at (nat_cmp n)) p.reports)

base_leaves : (base : Base) (change : BaseChange) → puts_in change ≡ [] → InOrder nat_cmp base.portfolio.reports → AreLeft (changed change base).portfolio.reports base.portfolio.reports
base_leaves base (JoinMarks marks scan) none h = (h, λ r there. there)
base_leaves base (SetScan scan) none h = (h, λ r there. there)
base_leaves base (ChangePortfolio change) none h = portfolio_leaves base.portfolio change none h

module _ (writes : List (ℕ × ReportBody)) (s : State) (h : IsWritten writes s.base) (now : ℕ) (d : Decision) where
  abbrev After : List (ℕ × ReportBody) → Bool → Type 0
  After more draws = IsWritten (writes ++ more) (record (changed d.change s.base) { serial = serial_then s.base.serial draws })

  nothing_written : (draws : Bool) → puts_in d.change ≡ [] → After [] draws
  nothing_written draws none =
      let left = base_leaves s.base d.change none h.1.in_order in
      (h.0, some_written h.1 (changed d.change s.base).portfolio.reports (rises s.base.serial draws) left.0 left.1, h.2 ∙ sym (append-nil writes))

  one_written : {IsItsNumber : ℕ → Type 0} {sent : ReportIn} (k : IsKept s.base IsItsNumber sent d) → FitsBase (s.base.serial + 1) true s.base d.change → After ((k.number, k.report.body) ∷ []) true
  one_written k fits =
      let revision = (subst (FitsBase (s.base.serial + 1) true s.base) k.puts fits).0 in
      let w : ℕ × (ℕ × ReportBody) = (s.base.serial + 1, (k.number, k.report.body)) in (
        h.0 ++ w ∷ [],
        subst (λ (change : BaseChange). AreWritten (s.base.serial + 1) (changed change s.base).portfolio.reports (h.0 ++ w ∷ [])) (sym k.puts) (put_written h.1 k.number k.report revision),
        map-append (λ (w : ℕ × (ℕ × ReportBody)). w.1) h.0 (w ∷ []) ∙ ap (λ ws. ws ++ (k.number, k.report.body) ∷ []) h.2,
      )

  -- what is kept is what is answered
  kept_written : {IsItsNumber : ℕ → Type 0} {sent : ReportIn} (then_base : Base) (a : Answer) → IsKept s.base IsItsNumber sent d → FitsBase (s.base.serial + 1) true s.base d.change → answered_by d.outcome s.stamps (restamped_by s now then_base) ≡ Ok a → After (report_in a) true
  kept_written then_base a k fits is = subst (λ more. After more true) (sym (kept_answer s now d then_base a k is)) (one_written k fits)

  by_command : (command : Command) (a : Answer) → Comes (s.base.serial + 1) s.base command d → FitsBase (s.base.serial + 1) (draws_number command) s.base d.change → answered_by d.outcome s.stamps (restamped_by s now (base_after s.base command d)) ≡ Ok a
      → IsWritten (writes ++ written_by command a) (base_after s.base command d)
  by_command (Evidence founds polled) a comes fits is = nothing_written false comes.puts_none
  by_command (Gone kind id) a comes fits is = nothing_written false comes.puts_none
  by_command ScanBegin a comes fits is = nothing_written false comes.puts_none
  by_command ScanEnd a comes fits is = nothing_written false comes.puts_none
  by_command (VenAdd role ven) a comes fits is = nothing_written true comes.puts_none
  by_command (VenPut role id ven) a comes fits is = nothing_written false comes.puts_none
  by_command (VenRemove role id) a comes fits is = nothing_written false comes.puts_none
  by_command (ResourceAdd role ven resource) a comes fits is = nothing_written true comes.puts_none
  by_command (ResourcePut role ven id resource) a comes fits is = nothing_written false comes.puts_none
  by_command (ResourceRemove role ven id) a comes fits is = nothing_written false comes.puts_none
  by_command (ShareSet role program resource share) a comes fits is = nothing_written false comes.puts_none
  by_command (Freeze role event) a comes fits is = nothing_written false comes.puts_none
  by_command (ReportPost role report) a comes fits is = kept_written (base_after s.base (ReportPost role report) d) a comes fits is
  by_command (ReportPut role id report) a comes fits is = kept_written (base_after s.base (ReportPut role id report) d) a comes fits is
  by_command (ReportDelete role id) a comes fits is = nothing_written false (ap puts_in comes.goes)
  by_command (SubPost role sub) a comes fits is = nothing_written true comes.puts_none
  by_command (SubPut role id sub) a comes fits is = nothing_written false comes.puts_none
  by_command (SubDelete role id) a comes fits is = nothing_written false comes.puts_none
  by_command Lease a comes fits is = nothing_written false comes.puts_none
  by_command (Sent entry lease remote) a comes fits is = nothing_written false comes.puts_none
  by_command (Failed entry lease forget) a comes fits is = nothing_written false comes.puts_none

step_written : (settings : Settings) (writes : List (ℕ × ReportBody)) (s : State) (c : ℕ × Command) → IsWritten writes s.base → IsWritten (writes ++ written_in (step_at settings s c) c.1) (state_after s (step_at settings s c)).base
step_written settings writes s c h =
    let same : IsWritten (writes ++ []) s.base = subst (λ ws. IsWritten ws s.base) (sym (append-nil writes)) h in
    after_step settings s c (λ r. IsWritten (writes ++ written_in r c.1) (state_after s r).base) (λ refusal. same)
    (λ a o is done. of_delivery (λ command. IsWritten (writes ++ written_by command a) s.base) same (λ entry lease remote. same) (λ entry lease forget. same) c.1 is)
    (λ d a is. later_written (writes ++ written_by c.1 a) (base_after s.base c.1 d) (next_by settings s c d).1 (rises_on settings s c d) (by_command writes s h c.0 d c.1 a is.fits.is is.fits.fits is.answers))

run_written : (settings : Settings) (writes : List (ℕ × ReportBody)) (s : State) (cs : List (ℕ × Command)) → IsWritten writes s.base → IsWritten (writes ++ written settings s cs) (state_of (step_at settings) s cs).base
run_written settings writes s [] h = subst (λ ws. IsWritten ws s.base) (sym (append-nil writes)) h
run_written settings writes s (c ∷ cs) h =
    let next : State = state_after s (step_at settings s c) in
    let one : List (ℕ × ReportBody) = written_in (step_at settings s c) c.1 in
    subst (λ ws. IsWritten ws (state_of (step_at settings) next cs).base) (append_assoc writes one (written settings next cs)) (run_written settings (writes ++ one) next cs (step_written settings writes s c h))

pub written_after : (settings : Settings) (cs : List (ℕ × Command)) → IsWritten (written settings empty cs) (state_of (step_at settings) empty cs).base
written_after settings cs = run_written settings [] empty cs ([], none_written, refl)
