-- By a command by which no subscription may go each one stays, so that no entry comes to lack its own.
use Rattle.std.proofs.Common.{◌≡◌, ◌+◌, ◌==◌, ◌||◌, ◌&&◌, ℕ, Bool, true, false, cond, List, [], ◌∷◌, Option, Some, Result, Ok, Err, IfOk, refl, sym, subst}
use Rattle.std.specs.Prelude.{is_some, nat_lt}
use Rattle.std.specs.List.{All}
use Rattle.std.proofs.lemmas.Bool.{cond_both}
use Rattle.std.proofs.lemmas.List.Elements.{All-weaker}
use Rattle.adr_text.specs.Refusals.{◌>>=◌, or_else}
use Rattle.adr_text.specs.declared.refusal.Refusal.{Refusal}
use Rattle.adr_text.specs.declared.refusal.Refusal.TheVariants as refusal
use Rattle.adr_delivery.specs.declared.entry.Entry.{Entry}
use Rattle.adr_delivery.specs.Entries.{destination}
use Rattle.adr_delivery.specs.Outboxes.{has_addressee}
use Rattle.adr_subscription.specs.Callbacks.{settled}
use Rattle.adr_subscription.specs.declared.kept_sub.Sub.{Sub}
use Rattle.adr_state.specs.declared.base.Base.{Base}
use Rattle.adr_state.specs.declared.base.Mark.{Mark}
use Rattle.adr_state.specs.declared.base.Mark.TheVariants.{Dead}
use Rattle.adr_state.specs.declared.keys.MirrorKey.{MirrorKey}
use Rattle.adr_state.specs.declared.keys.ShareKey.{ShareKey}
use Rattle.adr_state.specs.declared.limits.Limits.{Limits}
use Rattle.adr_state.specs.declared.portfolio.Portfolio.{Portfolio}
use Rattle.adr_state.specs.declared.state.State.{State}
use Rattle.adr_state.specs.BaseChanges.{BaseChange, ChangePortfolio, JoinMarks, SetScan, changed}
use Rattle.adr_state.specs.Evidence.{adds_beyond, joining, open_scan, scan_end, scan_with}
use Rattle.adr_state.specs.Mirror.{evidence_of, joined}
use Rattle.adr_state.specs.Names.{is_full, is_taken, is_taken_by_another, resource_name, ven_name}
use Rattle.adr_state.specs.Frozen.{is_frozen, pairs_kept}
use Rattle.adr_state.specs.Participants.{participants}
use Rattle.adr_state.specs.Portfolios.{DropShare, DropSub, DropVen, PortfolioChange, PutShare, PutSub, portfolio_after}
use Rattle.adr_state.specs.Portfolios.{Freeze as FreezeEvent}
use Rattle.adr_state.specs.Resources.{putting_resource, resource_at, resource_under}
use Rattle.adr_state.specs.Shares.{is_beyond, share_of, weight_set}
use Rattle.adr_state.specs.Stamping.{fresh, modified_at}
use Rattle.adr_state.specs.Subs.{sub_post}
use Rattle.adr_state.specs.Vens.{putting_ven, ven_at, ven_with_id}
use Rattle.adr_state.specs.Weights.{most_weight}
use Rattle.adr_view.specs.Frozen.{pairs_of, can_not_keep, freeze}
use Rattle.adr_view.specs.Rollups.{event_at}
use Rattle.adr_view.proofs.FrozenLemmas.{frozen_now}
use Rattle.adr_view.specs.Reports.{kept_report, may_change, may_report, putting_report, report_made, report_on, report_removed, report_replaced, report_with_id}
use Rattle.adr_view.specs.Sights.{owner_in}
use Rattle.adr_view.specs.Subs.{sub_in_sight, sub_put}
use Rattle.adr_refresh.proofs.Common.{at, at-insert_entry, is_eq, nat_cmp, nat_cmp_total}
use Rattle.adr_queries.specs.Roles.{sight_of}
use Rattle.adr_machine.specs.declared.command.Command.{Command}
use Rattle.adr_machine.specs.declared.command.Command.TheVariants.{Evidence, Gone, ScanBegin, ScanEnd, VenAdd, VenPut, VenRemove, ResourceAdd, ResourcePut, ResourceRemove, ShareSet, Freeze, ReportPost, ReportPut, ReportDelete, SubPost, SubPut, SubDelete, Lease, Sent, Failed}
use Rattle.adr_machine.specs.declared.outcome.Outcome.{Outcome}
use Rattle.adr_machine.specs.Edits.{Decision, counted, decided, edit_of, of_portfolio, unsubscribes}
use Rattle.adr_machine.proofs.EditLemmas.{allowed_then, first_then, free_then, new_then, tested, whatever}
use Rattle.adr_held.specs.Right.{IsRight}
use Rattle.adr_desk.proofs.StepLemmas.{WasDecided, was_decided}

-- ---- what is decided

-- no subscription goes by the change
abbrev Stays : PortfolioChange → Type 0
Stays (DropVen n) = ⊥
Stays (DropSub n) = ⊥
Stays _ = Unit {0}

abbrev ChangeStays : BaseChange → Type 0
ChangeStays (ChangePortfolio change) = Stays change
ChangeStays _ = Unit {0}

abbrev Decides : Decision → Type 0
Decides d = ChangeStays d.change

abbrev Puts : {A : Type 0} → A × PortfolioChange → Type 0
Puts d = Stays d.1

of_change : {A : Type 0} (comes : A → Outcome) (r : Result (A × PortfolioChange) Refusal) → IfOk r Puts → IfOk (of_portfolio comes r) Decides
of_change comes (Ok d) h = h
of_change comes (Err e) h = tt

-- whatever came first
whichever : {A B : Type 0} (P : A → Type 0) (r : Result B Refusal) (f : B → Result A Refusal) → ((x : B) → IfOk (f x) P) → IfOk (r >>= f) P
whichever P r f then_so = first_then P (λ x. Unit {0}) r f (whatever r) (λ x any. then_so x)

module _ (limits : Limits) (now next : ℕ) (base : Base) where
  abbrev p : Portfolio
  p = base.portfolio

  joined_stays : (marks : List (MirrorKey × Mark)) (scan : Option (List MirrorKey)) → IfOk (joining limits base marks scan >>= λ change. Ok (counted change)) Decides
  joined_stays marks scan =
      first_then Decides ChangeStays (joining limits base marks scan) _ (tested ChangeStays (adds_beyond limits.keys base.mirror (joined base.mirror marks)) refusal.LimitReached (Ok (JoinMarks marks scan)) (λ within. tt)) (λ change h. h)

  share_stays : (key : ShareKey) (weight : ℕ) → IfOk (share_of limits key weight p) Puts
  share_stays key weight =
      tested Puts (nat_lt most_weight weight) refusal.BadShare _ (λ small.
      first_then Puts Stays (weight_set limits key weight p) _
      (cond_both (weight == 0) (Ok (DropShare key)) _ (λ r. IfOk r Stays) (λ none. tt) (λ some. tested Stays (is_beyond limits key p.shares) refusal.LimitReached (Ok (PutShare key weight)) (λ room. tt))) (λ change h. h))

  decided_stays : (c : Command) → unsubscribes c ≡ false → IfOk (decided limits now next base c) Decides
  decided_stays (Evidence founds polled) keeps = joined_stays (evidence_of founds) (scan_with base.scan founds polled)
  decided_stays (Gone kind id) keeps = joined_stays ((record { kind = kind; id = id }, Dead) ∷ []) base.scan
  decided_stays ScanBegin keeps = tt
  decided_stays ScanEnd keeps = first_then Decides (λ d. ChangeStays d.1) (scan_end base) _ (whichever (λ d. ChangeStays d.1) (open_scan base.scan) _ (λ polled. tt)) (λ d h. h)
  decided_stays (VenAdd role ven) keeps = of_change _ _ (new_then Puts (is_taken ven_name ven.name p.vens) (is_full limits.vens p.vens) (putting_ven next (record { name = ven.name; stamps = fresh now })) (λ free room. tt))
  decided_stays (VenPut role id ven) keeps = of_change _ _ (whichever Puts (or_else refusal.NotFound (ven_with_id id p)) _ (λ v. free_then Puts (is_taken_by_another ven_name v.0 ven.name p.vens) (putting_ven v.0 (record { name = ven.name; stamps = modified_at now v.1.stamps })) (λ free. tt)))
  decided_stays (VenRemove role id) keeps = absurd (let other : true ≡ false = keeps in cc)
  decided_stays (ResourceAdd role ven resource) keeps =
      of_change _ _ (whichever Puts (or_else refusal.NotFound (ven_at ven p)) _ (λ v. new_then Puts (is_taken resource_name resource.name p.resources) (is_full limits.resources p.resources) (putting_resource next (record { ven = v; name = resource.name; stamps = fresh now })) (λ free room. tt)))
  decided_stays (ResourcePut role ven id resource) keeps =
      of_change _ _ (whichever Puts (or_else refusal.NotFound (resource_under ven id p)) _ (λ r. free_then Puts (is_taken_by_another resource_name r.0 resource.name p.resources) (putting_resource r.0 (record { ven = r.1.ven; name = resource.name; stamps = modified_at now r.1.stamps })) (λ free. tt)))
  decided_stays (ResourceRemove role ven id) keeps = of_change _ _ (whichever Puts (or_else refusal.NotFound (resource_under ven id p)) _ (λ r. tt))
  decided_stays (ShareSet role program resource share) keeps = of_change _ _ (whichever Puts (or_else refusal.NotFound (resource_at resource p)) _ (λ n. share_stays (record { program = program; resource = n }) share.share))
  decided_stays (Freeze role event) keeps =
      of_change _ (freeze limits event base.mirror p) (whichever Puts (or_else refusal.NotFound (event_at base.mirror event)) _ (λ body. cond_both (is_frozen p event) (Ok (pairs_kept p event, FreezeEvent event [])) _ (λ r. IfOk r Puts) (λ frozen. tt)
      (λ fresh. tested Puts (can_not_keep limits event (pairs_of (participants p event body)) base.mirror p) refusal.LimitReached _ (λ room. tt))))
  decided_stays (ReportPost role report) keeps =
      whichever Decides (sight_of base role) _ (λ sight. of_change _ _ (allowed_then Puts (may_report sight report p) refusal.Forbidden (report_made limits next report base.mirror p)
      (whichever Puts (report_on report base.mirror p) _ (λ on. tested Puts (is_full limits.reports p.reports) refusal.LimitReached (Ok (putting_report next (kept_report next on report))) (λ room. tt)))))
  decided_stays (ReportPut role id report) keeps =
      whichever Decides (sight_of base role) _ (λ sight. of_change _ _ (allowed_then Puts (may_change sight id p && may_report sight report p) refusal.Forbidden (report_replaced next id report base.mirror p)
      (whichever Puts (or_else refusal.NotFound (report_with_id id p)) _ (λ old. whichever Puts (report_on report base.mirror p) _ (λ on. tt)))))
  decided_stays (ReportDelete role id) keeps =
      whichever Decides (sight_of base role) _ (λ sight. of_change _ _ (allowed_then Puts (may_change sight id p) refusal.Forbidden (report_removed id p) (whichever Puts (or_else refusal.NotFound (report_with_id id p)) _ (λ old. tt))))
  decided_stays (SubPost role sub) keeps =
      whichever Decides (settled sub) _ (λ body. whichever Decides (sight_of base role) _ (λ sight. of_change _ (sub_post limits now next (owner_in sight) body p) (tested Puts (is_full limits.subs p.subs) refusal.LimitReached _ (λ room. tt))))
  decided_stays (SubPut role id sub) keeps = whichever Decides (settled sub) _ (λ body. whichever Decides (sight_of base role) _ (λ sight. of_change _ (sub_put sight now id body p) (whichever Puts (sub_in_sight sight id p) _ (λ s. tt))))
  decided_stays (SubDelete role id) keeps = absurd (let other : true ≡ false = keeps in cc)
  decided_stays Lease keeps = tt
  decided_stays (Sent entry lease remote) keeps = tt
  decided_stays (Failed entry lease forget) keeps = tt

-- ---- what its edit makes

-- each subscription that was there is there
abbrev StayThere : List (ℕ × Sub) → List (ℕ × Sub) → Type 0
StayThere before after = (n : ℕ) → is_some (at nat_cmp n before) ≡ true → is_some (at nat_cmp n after) ≡ true

there_put : {V : Type 0} (same : Bool) (v : V) (o : Option V) → is_some o ≡ true → is_some (cond same (Some v) o) ≡ true
there_put true v o is = refl
there_put false v o is = is

subs_stay : (change : PortfolioChange) (p : Portfolio) → Stays change → StayThere p.subs (portfolio_after change p).subs
subs_stay (PutSub n sub) p stays m is = rw (at-insert_entry nat_cmp_total m n sub p.subs) (there_put (is_eq (nat_cmp m n)) sub (at nat_cmp m p.subs) is)
subs_stay (FreezeEvent id pairs) p stays m is = cond_both (is_frozen p id) p (frozen_now p id pairs) (λ (q : Portfolio). is_some (at nat_cmp m q.subs) ≡ true) (λ frozen. is) (λ fresh. is)
subs_stay (DropVen n) p stays m is = absurd stays
subs_stay (DropSub n) p stays m is = absurd stays
subs_stay change p stays m is = is

change_stays : (change : BaseChange) (base : Base) → ChangeStays change → StayThere base.portfolio.subs (changed change base).portfolio.subs
change_stays (ChangePortfolio change) base stays m is = subs_stay change base.portfolio stays m is
change_stays (JoinMarks marks scan) base stays m is = is
change_stays (SetScan scan) base stays m is = is

either_still : (own before after : Bool) → (before ≡ true → after ≡ true) → own || before ≡ true → own || after ≡ true
either_still true before after then_so is = refl
either_still false before after then_so is = then_so is

each_still : (before after : List (ℕ × Sub)) → StayThere before after → (es : List (ℕ × Entry)) → All (λ e. has_addressee before e ≡ true) es → All (λ e. has_addressee after e ≡ true) es
each_still before after stay es all =
    All-weaker (λ e. has_addressee before e ≡ true) (λ e. has_addressee after e ≡ true)
    (λ e is. either_still (destination e.1.addressee == 0) (is_some (at nat_cmp (destination e.1.addressee) before)) (is_some (at nat_cmp (destination e.1.addressee) after)) (stay (destination e.1.addressee)) is) es all

-- in a state that is right each entry has its subscription still
pub still_addressed : (limits : Limits) (now : ℕ) (command : Command) (held : State) (said : Outcome) (next : Base) → edit_of limits now held.base command ≡ Ok (said, next) → unsubscribes command ≡ false → IsRight held → All (λ e. has_addressee next.portfolio.subs e ≡ true) held.outbox.entries
still_addressed limits now command held said next is keeps right =
    let was : WasDecided limits now command held.base said next = was_decided limits now command held.base said next is in
    let stays : ChangeStays was.decision.change = subst (λ r. IfOk r Decides) was.decides (decided_stays limits now (held.base.serial + 1) held.base command keeps) in
    subst (λ (b : Base). All (λ e. has_addressee b.portfolio.subs e ≡ true) held.outbox.entries) (sym was.makes)
    (each_still held.base.portfolio.subs (changed was.decision.change held.base).portfolio.subs (change_stays was.decision.change held.base stays) held.outbox.entries right.addressed)
