-- A resource that is there before and after an edit has its ven: what is put is new, or has the ven of the one in whose place it comes.
use Rattle.std.proofs.Common.{◌≡◌, ◌≤◌, ◌+◌, ◌==◌, ℕ, Bool, true, not, List, [], ◌∷◌, ◌⊎◌, inl, inr, Option, Some, None, Result, Ok, Err, IfOk, refl, sym, ap, subst, ◌∙◌, arith}
use Rattle.std.specs.Prelude.{IfSome, nat_lt}
use Rattle.std.proofs.lemmas.Bool.{cond_both}
use Rattle.std.proofs.lemmas.Map.Views.{Contains-from_lookup, tells_apart}
use Rattle.std.proofs.lemmas.Option.{same_Some}
use Rattle.adr_text.specs.Refusals.{◌>>=◌}
use Rattle.adr_text.specs.declared.refusal.Refusal.{Refusal}
use Rattle.adr_text.specs.declared.refusal.Refusal.TheVariants as refusal
use Rattle.adr_subscription.specs.Callbacks.{settled}
use Rattle.adr_state.specs.declared.base.Base.{Base}
use Rattle.adr_state.specs.declared.base.Mark.{Mark}
use Rattle.adr_state.specs.declared.base.Mark.TheVariants.{Dead}
use Rattle.adr_state.specs.declared.keys.MirrorKey.{MirrorKey}
use Rattle.adr_state.specs.declared.keys.ShareKey.{ShareKey}
use Rattle.adr_state.specs.declared.limits.Limits.{Limits}
use Rattle.adr_state.specs.declared.portfolio.Resource.{Resource}
use Rattle.adr_state.specs.BaseChanges.{BaseChange, ChangePortfolio, JoinMarks, SetScan, changed}
use Rattle.adr_state.specs.Digits.{number_in}
use Rattle.adr_state.specs.Evidence.{adds_beyond, joining, open_scan, scan_end, scan_with}
use Rattle.adr_state.specs.Mirror.{evidence_of, joined}
use Rattle.adr_state.specs.Names.{is_taken_by_another, resource_name, ven_name}
use Rattle.adr_state.specs.declared.portfolio.Portfolio.{Portfolio}
use Rattle.adr_state.specs.Frozen.{is_frozen}
use Rattle.adr_state.specs.Portfolios.{DropResource, DropShare, DropVen, Freeze as FreezeEvent, PortfolioChange, PutResource, PutShare, portfolio_after}
use Rattle.adr_state.specs.Resources.{is_under, putting_resource, resource_at, resource_under}
use Rattle.adr_state.specs.Serials.{drawn}
use Rattle.adr_state.specs.Shares.{is_beyond, share_of, weight_set}
use Rattle.adr_state.specs.Stamping.{modified_at}
use Rattle.adr_state.specs.Vens.{putting_ven, ven_with_id}
use Rattle.adr_state.specs.Weights.{most_weight}
use Rattle.adr_view.specs.Laws.{StandsInOrder}
use Rattle.adr_view.specs.Reports.{may_change, report_removed, report_with_id}
use Rattle.adr_view.specs.Subs.{sub_delete, sub_in_sight, sub_put}
use Rattle.adr_view.proofs.FrozenLemmas.{frozen_now, frozen_so}
use Rattle.adr_view.proofs.OrderLemmas.{each_row}
use Rattle.adr_view.proofs.RowLemmas.{from_filter, from_put, from_removal}
use Rattle.adr_refresh.proofs.Common.{All-contains, Contains, at, exact_unsigned, is_at, nat_cmp, nat_cmp_total}
use Rattle.adr_refresh.proofs.MapLemmas.{found}
use Rattle.adr_queries.specs.Roles.{sight_of}
use Rattle.adr_machine.specs.declared.command.Command.{Command}
use Rattle.adr_machine.specs.declared.command.Command.TheVariants.{Evidence, Gone, ScanBegin, ScanEnd, VenAdd, VenPut, VenRemove, ResourceAdd, ResourcePut, ResourceRemove, ShareSet, Freeze, ReportPost, ReportPut, ReportDelete, SubPost, SubPut, SubDelete, Lease, Sent, Failed}
use Rattle.adr_machine.specs.declared.outcome.Outcome.{Outcome}
use Rattle.adr_machine.specs.Edits.{Decision, counted, decided, draws_number, edit, edit_of, is_allowed, numbered, of_portfolio}
use Rattle.adr_machine.proofs.EditLemmas.{allowed_then, first_then, found_then, free_then, tested, whatever}
use Rattle.adr_machine.proofs.Found.{passing, row_is}
use Rattle.adr_laws.proofs.Decisions.{FitsBase, decided_fits}
use Rattle.adr_kept_base.specs.Bases.{VensStay}
use Rattle.adr_held.specs.Laws.{EditsKeepVens}
use Rattle.adr_held.specs.Right.{IsRight}
use Rattle.adr_state.specs.declared.state.State.{State}

-- what is there may be anything
anyone : {A : Type 0} (o : Option A) → IfSome o (λ x. Unit {0})
anyone None = tt
anyone (Some x) = tt

ok_then : {A : Type 0} {P Q : A → Type 0} (r : Result A Refusal) → IfOk r P → ((x : A) → P x → Q x) → IfOk r Q
ok_then (Ok x) h then_so = then_so x h
ok_then (Err e) h then_so = tt

-- ---- what a command decides

module _ (next : ℕ) (base : Base) where
  -- a resource is put at the next number, or in the place of one of the same ven
  abbrev Stays : PortfolioChange → Type 0
  Stays (PutResource n r) = (n ≡ next) ⊎ ((old : Resource) × (at nat_cmp n base.portfolio.resources ≡ Some old) × (old.ven ≡ r.ven))
  Stays _ = Unit {0}

  abbrev ChangeStays : BaseChange → Type 0
  ChangeStays (ChangePortfolio change) = Stays change
  ChangeStays _ = Unit {0}

  abbrev Decides : Decision → Type 0
  Decides d = ChangeStays d.change

  abbrev Puts : {A : Type 0} → A × PortfolioChange → Type 0
  Puts d = Stays d.1

  of_change : {A : Type 0} (comes : A → Outcome) (r : Result (A × PortfolioChange) Refusal) → IfOk r Puts → IfOk (of_portfolio comes r) Decides
  of_change comes (Ok d) h = h
  of_change comes (Err e) h = tt

  -- a command that draws a number puts what it makes there
  by_number : (change : BaseChange) → FitsBase next true base change → ChangeStays change
  by_number (ChangePortfolio (PutResource n r)) fits = inl fits.0
  by_number (ChangePortfolio change) fits = tt
  by_number change fits = tt

  module _ (limits : Limits) (now : ℕ) where
    draws_stay : (c : Command) → draws_number c ≡ true → IfOk (decided limits now next base c) Decides
    draws_stay c draws = ok_then (decided limits now next base c) (decided_fits limits now next base c) (λ d fits. by_number d.change (subst (λ b. FitsBase next b base d.change) draws fits.fits))

    joined_stays : (marks : List (MirrorKey × Mark)) (scan : Option (List MirrorKey)) → IfOk (joining limits base marks scan >>= λ change. Ok (counted change)) Decides
    joined_stays marks scan =
        first_then Decides ChangeStays (joining limits base marks scan) _ (tested ChangeStays (adds_beyond limits.keys base.mirror (joined base.mirror marks)) refusal.LimitReached (Ok (JoinMarks marks scan)) (λ within. tt)) (λ change h. h)

    share_stays : (key : ShareKey) (weight : ℕ) → IfOk (share_of limits key weight base.portfolio) Puts
    share_stays key weight =
        tested Puts (nat_lt most_weight weight) refusal.BadShare _ (λ small.
        first_then Puts Stays (weight_set limits key weight base.portfolio) _
        (cond_both (weight == 0) (Ok (DropShare key)) _ (λ r. IfOk r Stays) (λ none. tt) (λ some. tested Stays (is_beyond limits key base.portfolio.shares) refusal.LimitReached (Ok (PutShare key weight)) (λ room. tt))) (λ change h. h))

    -- the resource of an id that belongs to a ven
    resource_held : (ven id : List ℕ) → IfSome (resource_under ven id base.portfolio) (λ r. at nat_cmp r.0 base.portfolio.resources ≡ Some r.1)
    resource_held ven id = passing _ (λ r. at nat_cmp r.0 base.portfolio.resources ≡ Some r.1) (λ r. is_under ven base.portfolio r.1) _ (row_is base.portfolio.resources (number_in 114 id)) (λ r row under. row.1)

    decided_stays : (c : Command) → IfOk (decided limits now next base c) Decides
    decided_stays (Evidence founds polled) = joined_stays (evidence_of founds) (scan_with base.scan founds polled)
    decided_stays (Gone kind id) = joined_stays ((record { kind = kind; id = id }, Dead) ∷ []) base.scan
    decided_stays ScanBegin = tt
    decided_stays ScanEnd =
        first_then Decides (λ d. ChangeStays d.1) (scan_end base) _ (first_then (λ d. ChangeStays d.1) (λ polled. Unit {0}) (open_scan base.scan) _ (whatever (open_scan base.scan)) (λ polled h. tt)) (λ d h. h)
    decided_stays (VenAdd role ven) = draws_stay (VenAdd role ven) refl
    decided_stays (VenPut role id ven) =
        of_change _ _ (found_then Puts (λ v. Unit {0}) refusal.NotFound (ven_with_id id base.portfolio) _ (anyone _) (λ v any.
        free_then Puts (is_taken_by_another ven_name v.0 ven.name base.portfolio.vens) (putting_ven v.0 (record { name = ven.name; stamps = modified_at now v.1.stamps })) (λ free. tt)))
    decided_stays (VenRemove role id) = of_change _ _ (found_then Puts (λ v. Unit {0}) refusal.NotFound (ven_with_id id base.portfolio) _ (anyone _) (λ v any. tt))
    decided_stays (ResourceAdd role ven resource) = draws_stay (ResourceAdd role ven resource) refl
    decided_stays (ResourcePut role ven id resource) =
        of_change _ _ (found_then Puts (λ r. at nat_cmp r.0 base.portfolio.resources ≡ Some r.1) refusal.NotFound (resource_under ven id base.portfolio) _ (resource_held ven id) (λ r is.
        free_then Puts (is_taken_by_another resource_name r.0 resource.name base.portfolio.resources) (putting_resource r.0 (record { ven = r.1.ven; name = resource.name; stamps = modified_at now r.1.stamps })) (λ free. inr (r.1, is, refl))))
    decided_stays (ResourceRemove role ven id) = of_change _ _ (found_then Puts (λ r. Unit {0}) refusal.NotFound (resource_under ven id base.portfolio) _ (anyone _) (λ r any. tt))
    decided_stays (ShareSet role program resource share) =
        of_change _ _ (found_then Puts (λ n. Unit {0}) refusal.NotFound (resource_at resource base.portfolio) _ (anyone _) (λ n any. share_stays (record { program = program; resource = n }) share.share))
    decided_stays (Freeze role event) = of_change _ _ (frozen_so Puts limits event base.mirror base.portfolio (λ body live told pairs keeps. tt))
    decided_stays (ReportPost role report) = draws_stay (ReportPost role report) refl
    decided_stays (ReportPut role id report) = draws_stay (ReportPut role id report) refl
    decided_stays (ReportDelete role id) =
        first_then Decides (λ sight. Unit {0}) (sight_of base role) _ (whatever _) (λ sight any.
        of_change _ _ (allowed_then Puts (may_change sight id base.portfolio) refusal.Forbidden (report_removed id base.portfolio) (found_then Puts (λ r. Unit {0}) refusal.NotFound (report_with_id id base.portfolio) _ (anyone _) (λ r any. tt))))
    decided_stays (SubPost role sub) = draws_stay (SubPost role sub) refl
    decided_stays (SubPut role id sub) =
        first_then Decides (λ body. Unit {0}) (settled sub) _ (whatever _) (λ body any. first_then Decides (λ sight. Unit {0}) (sight_of base role) _ (whatever _) (λ sight any.
        of_change _ (sub_put sight now id body base.portfolio) (first_then Puts (λ s. Unit {0}) (sub_in_sight sight id base.portfolio) _ (whatever _) (λ s any. tt))))
    decided_stays (SubDelete role id) =
        first_then Decides (λ sight. Unit {0}) (sight_of base role) _ (whatever _) (λ sight any.
        of_change _ (sub_delete sight id base.portfolio) (first_then Puts (λ s. Unit {0}) (sub_in_sight sight id base.portfolio) _ (whatever _) (λ s any. tt)))
    decided_stays Lease = tt
    decided_stays (Sent entry lease remote) = tt
    decided_stays (Failed entry lease forget) = tt

-- ---- what its edit makes

module _ (base : Base) (stands : StandsInOrder base) (low : (r : ℕ × Resource) → Contains base.portfolio.resources r → r.0 ≤ base.serial) where
  abbrev KeepsVens : Base → Type 0
  KeepsVens after = VensStay base.portfolio after.portfolio

  row : (n : ℕ) (rows : List (ℕ × Resource)) (r : Resource) → at nat_cmp n rows ≡ Some r → Contains rows (n, r)
  row n rows r is = Contains-from_lookup (tells_apart exact_unsigned) n r rows is

  same : (n : ℕ) (r s : Resource) → at nat_cmp n base.portfolio.resources ≡ Some r → at nat_cmp n base.portfolio.resources ≡ Some s → r.ven ≡ s.ven
  same n r s is other = ap (λ (r : Resource). r.ven) (same_Some r s (sym is ∙ other))

  same_row : (n : ℕ) (r s : Resource) → at nat_cmp n base.portfolio.resources ≡ Some r → Contains base.portfolio.resources (n, s) → r.ven ≡ s.ven
  same_row n r s is there = same n r s is (found nat_cmp_total base.portfolio.resources (n, s) stands.resources there)

  -- what is put has the ven of the one that was there
  put_there : (n m : ℕ) (r x : Resource) → at nat_cmp n base.portfolio.resources ≡ Some r → n ≡ m → Stays (base.serial + 1) base (PutResource m x) → r.ven ≡ x.ven
  put_there n m r x is one (inl next) = absurd (let most = low (n, r) (row n base.portfolio.resources r is) in omega (arith, most, one, next))
  put_there n m r x is one (inr stays) = same n r stays.0 is (ap (λ k. at nat_cmp k base.portfolio.resources) one ∙ stays.1) ∙ stays.2

  vens_stay : (change : PortfolioChange) → Stays (base.serial + 1) base change → VensStay base.portfolio (portfolio_after change base.portfolio)
  vens_stay (DropVen m) stays n r s is after = same_row n r s is (from_filter (λ (r : ℕ × Resource). not (r.1.ven == m)) base.portfolio.resources (n, s) (row n _ s after)).0
  vens_stay (PutResource m x) stays n r s is after =
      elim (from_put exact_unsigned m x base.portfolio.resources (n, s) (row n _ s after)) [
        | inl old ↦ same_row n r s is old
        | inr new ↦ put_there n m r x is (ap (λ (e : ℕ × Resource). e.0) new) stays ∙ sym (ap (λ (e : ℕ × Resource). e.1.ven) new)
      ]
  vens_stay (DropResource m) stays n r s is after = same_row n r s is (from_removal (is_at (nat_cmp m)) base.portfolio.resources (n, s) (row n _ s after))
  vens_stay (FreezeEvent id pairs) stays n r s is after =
      cond_both (is_frozen base.portfolio id) base.portfolio (frozen_now base.portfolio id pairs) (λ (q : Portfolio). at nat_cmp n q.resources ≡ Some s → r.ven ≡ s.ven) (λ frozen. same n r s is) (λ fresh. same n r s is) after
  vens_stay change stays n r s is after = same n r s is after

  change_keeps : (change : BaseChange) → ChangeStays (base.serial + 1) base change → KeepsVens (changed change base)
  change_keeps (ChangePortfolio change) stays n r s is after = vens_stay change stays n r s is after
  change_keeps (JoinMarks marks scan) stays n r s is after = same n r s is after
  change_keeps (SetScan scan) stays n r s is after = same n r s is after

  numbered_keeps : (limits : Limits) (draws : Bool) (d : Decision) → ChangeStays (base.serial + 1) base d.change → IfOk (numbered limits draws base d) (λ e. KeepsVens e.1)
  numbered_keeps limits draws d stays = first_then (λ e. KeepsVens e.1) (λ serial. Unit {0}) (drawn limits base.serial draws) _ (whatever _) (λ serial any. change_keeps d.change stays)

  edit_of_keeps : (limits : Limits) (now : ℕ) (c : Command) → IfOk (edit_of limits now base c) (λ e. KeepsVens e.1)
  edit_of_keeps limits now c =
      first_then (λ e. KeepsVens e.1) (λ d. ChangeStays (base.serial + 1) base d.change) (decided limits now (base.serial + 1) base c) _ (decided_stays (base.serial + 1) base limits now c) (λ d stays. numbered_keeps limits (draws_number c) d stays)

  edit_keeps : (limits : Limits) (now : ℕ) (c : Command) → IfOk (edit limits now base c) (λ e. KeepsVens e.1)
  unfolding edit
  edit_keeps limits now c = cond_both (is_allowed c) (edit_of limits now base c) (Err refusal.Forbidden) (λ r. IfOk r (λ e. KeepsVens e.1)) (λ allowed. edit_of_keeps limits now c) (λ forbidden. tt)

-- each resource has a number that was drawn
each_low : (held : State) → IsRight held → (r : ℕ × Resource) → Contains held.base.portfolio.resources r → r.0 ≤ held.base.serial
each_low held right r there = All-contains (λ r. r.0 ≤ held.base.serial) held.base.portfolio.resources r (each_row (λ n. n ≤ held.base.serial) held.base.portfolio.resources right.resources_drawn) there

pub edits_keep : EditsKeepVens
edits_keep limits now command held said next is stands right =
    subst (λ (r : Result (Outcome × Base) Refusal). IfOk r (λ e. VensStay held.base.portfolio e.1.portfolio)) is (edit_keeps held.base stands (each_low held right) limits now command)

-- so it is whoever gives the command
pub anyones_keep : (limits : Limits) (now : ℕ) (command : Command) (held : State) (said : Outcome) (next : Base) → edit_of limits now held.base command ≡ Ok (said, next) → StandsInOrder held.base → IsRight held → VensStay held.base.portfolio next.portfolio
anyones_keep limits now command held said next is stands right =
    subst (λ (r : Result (Outcome × Base) Refusal). IfOk r (λ e. VensStay held.base.portfolio e.1.portfolio)) is (edit_of_keeps held.base stands (each_low held right) limits now command)
