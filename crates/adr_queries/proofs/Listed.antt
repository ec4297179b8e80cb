-- That a query is refused only as is listed.
use Rattle.std.proofs.Common.{◌≡◌, ◌≢◌, ℕ, not, Bool, true, cond, List, [], ◌∷◌, Contains, Option, Some, None, Result, Ok, Err, IfErr, refl, arith}
use Rattle.std.specs.List.{list_all}
use Rattle.std.proofs.lemmas.Result.{IfErr-at_err}
use Rattle.adr_subscription.specs.declared.kept_sub.Sub.{Sub}
use Rattle.adr_text.specs.Refusals.{IsRefusalOf, or_else}
use Rattle.adr_text.specs.declared.refusal.Refusal.{Refusal}
use Rattle.adr_text.specs.declared.refusal.Refusal.TheVariants.{OutOfMemory, Store, NotFound, Forbidden, NoScan}
use Rattle.adr_state.specs.declared.base.Base.{Base}
use Rattle.adr_state.specs.declared.state.State.{State}
use Rattle.adr_state.specs.declared.keys.MirrorKey.{MirrorKey}
use Rattle.adr_objects.specs.declared.report.Rollup.{Rollup}
use Rattle.adr_state.specs.declared.portfolio.Report.{Report}
use Rattle.adr_state.specs.declared.portfolio.Resource.{Resource}
use Rattle.adr_state.specs.declared.portfolio.Ven.{Ven}
use Rattle.adr_state.specs.Frozen.{is_frozen, pairs_kept}
use Rattle.adr_state.specs.Resources.{is_under}
use Rattle.adr_queries.specs.declared.answer.Object.{Object}
use Rattle.adr_queries.specs.declared.query.Query.{Query}
use Rattle.adr_queries.specs.declared.query.Query.TheVariants as query
use Rattle.adr_queries.specs.declared.query.Page.{Page}
use Rattle.adr_view.specs.declared.sight.Sight.{Sight}
use Rattle.adr_queries.specs.Roles.{is_operator}
use Rattle.adr_queries.specs.Listed.{listed_for, is_of_machine, IsListed}
use Rattle.adr_state.specs.ShownIds.{resource_part, event_part, resource_named}
use Rattle.adr_queries.specs.Shown.{told, event_shown, event_told, event_named}
use Rattle.adr_view.specs.Reports.{report_with_id}
use Rattle.adr_view.specs.Rollups.{rollup_at}
use Rattle.adr_state.specs.Subs.{sub_with_id}
use Rattle.adr_view.specs.Sights.{sees_ven, sees_owner}
use Rattle.adr_view.specs.Subs.{sub_in_sight}
use Rattle.adr_queries.specs.Listings.{ven_told, resources_told, resource_told}
use Rattle.adr_queries.specs.Reported.{sees_report, report_told, rollup_told}
use Rattle.adr_queries.specs.Replies.{reply, probes_reply}
use Rattle.adr_queries.proofs.Refuses.{Refuses, never, either, tested, first_then, sight_so}

module _ (P : Refusal → Type 0) (base : Base) (forbidden : P Forbidden) where
  shown : {A : Type 0} (sees : Bool) (x : A) → Refuses P (cond sees (Ok x) (Err Forbidden))
  shown sees x = either P sees (Ok x) (Err Forbidden) (never P x) (record { so = forbidden })

  module _ (missing : P NotFound) (sight : Sight) where
    told_so : (o : Option Object) → Refuses P (told o)
    told_so None = record { so = missing }
    told_so (Some o) = never P _

    event_so : (s : State) (resource : List ℕ) (event : Option (List ℕ)) → Refuses P (event_named s sight resource event)
    event_so s resource None = record { so = missing }
    event_so s resource (Some event) = by (resource_named s.base.portfolio resource)
      where
        by : (o : Option (ℕ × Resource)) → Refuses P (event_told s sight event o)
        by None = record { so = missing }
        by (Some (n, r)) = either P (sees_ven sight r.ven) _ _ (told_so (event_shown s n event)) (record { so = forbidden })

    report_so : (s : State) (o : Option (ℕ × Report)) → Refuses P (report_told s sight o)
    report_so s None = record { so = missing }
    report_so s (Some r) = either P (sees_report s.base sight r) _ _ (told_so _) (record { so = forbidden })

    ven_so : (o : Option (ℕ × Ven)) → Refuses P (ven_told sight o)
    ven_so None = record { so = missing }
    ven_so (Some (n, ven)) = shown _ _

    resources_so : (page : Page) (o : Option ℕ) → Refuses P (resources_told base page sight o)
    resources_so page None = record { so = missing }
    resources_so page (Some ven) = shown _ _

    resource_so : (ven : List ℕ) (o : Option (ℕ × Resource)) → Refuses P (resource_told base ven sight o)
    resource_so ven None = record { so = missing }
    resource_so ven (Some (n, resource)) = tested P (not (sees_ven sight resource.ven)) Forbidden _ forbidden (either P (is_under ven base.portfolio resource) _ _ (never P _) (record { so = missing }))

    sub_found_so : (o : Option (ℕ × Sub)) → Refuses P (or_else NotFound o)
    sub_found_so None = record { so = missing }
    sub_found_so (Some s) = never P _

    sub_so : (id : List ℕ) → Refuses P (sub_in_sight sight id base.portfolio)
    sub_so id = first_then P _ _ (sub_found_so (sub_with_id id base.portfolio)) (λ s. shown (sees_owner sight s.1.owner) s)

rollup_so : {P : Refusal → Type 0} → P NotFound → (event : List ℕ) (o : Option Rollup) → Refuses P (rollup_told event o)
rollup_so missing event None = record { so = missing }
rollup_so missing event (Some rollup) = never _ _

frozen_so : {P : Refusal → Type 0} → P NotFound → (frozen : Bool) (pairs : List (ℕ × ℕ)) → Refuses P (cond frozen (Ok pairs) (Err NotFound))
frozen_so missing frozen pairs = either _ frozen _ _ (never _ pairs) (record { so = missing })

scan_told : (limit : ℕ) (base : Base) (scan : Option (List MirrorKey)) → Refuses (Contains (NoScan ∷ [])) (probes_reply limit base scan)
scan_told limit base None = record { so = (0, omega arith, refl) }
scan_told limit base (Some polled) = never _ _

reply_so : (s : State) (q : Query) → Refuses (Contains (listed_for q)) (reply s q)
unfolding reply
reply_so s (query.Programs role page) = first_then _ _ _ (sight_so _ s.base (0, omega arith, refl) role) (λ sight. never _ _)
reply_so s (query.Program role id) = first_then _ _ _ (sight_so _ s.base (0, omega arith, refl) role) (λ sight. told_so _ s.base (0, omega arith, refl) (1, omega arith, refl) sight _)
reply_so s (query.Events role filter page) = first_then _ _ _ (sight_so _ s.base (0, omega arith, refl) role) (λ sight. never _ _)
reply_so s (query.Event role id) = first_then _ _ _ (sight_so _ s.base (0, omega arith, refl) role) (λ sight. event_so _ s.base (0, omega arith, refl) (1, omega arith, refl) sight s (resource_part id) (event_part id))
reply_so s (query.Vens role page) = first_then _ _ _ (sight_so _ s.base (0, omega arith, refl) role) (λ sight. never _ _)
reply_so s (query.Ven role id) = first_then _ _ _ (sight_so _ s.base (0, omega arith, refl) role) (λ sight. ven_so _ s.base (0, omega arith, refl) (1, omega arith, refl) sight _)
reply_so s (query.Resources role ven page) = first_then _ _ _ (sight_so _ s.base (0, omega arith, refl) role) (λ sight. resources_so _ s.base (0, omega arith, refl) (1, omega arith, refl) sight page _)
reply_so s (query.Resource role ven id) = first_then _ _ _ (sight_so _ s.base (0, omega arith, refl) role) (λ sight. resource_so _ s.base (0, omega arith, refl) (1, omega arith, refl) sight ven _)
reply_so s (query.Shares role program) = shown _ s.base (0, omega arith, refl) _ _
reply_so s (query.Frozen role event) = either _ (is_operator role) _ _ (first_then _ _ _ (frozen_so (1, omega arith, refl) (is_frozen s.base.portfolio event) (pairs_kept s.base.portfolio event)) (λ pairs. never _ _)) (record { so = (0, omega arith, refl) })
reply_so s (query.Reports role filter page) = first_then _ _ _ (sight_so _ s.base (0, omega arith, refl) role) (λ sight. never _ _)
reply_so s (query.Report role id) = first_then _ _ _ (sight_so _ s.base (0, omega arith, refl) role) (λ sight. report_so _ s.base (0, omega arith, refl) (1, omega arith, refl) sight s (report_with_id id s.base.portfolio))
reply_so s (query.Rollup role event) = either _ (is_operator role) _ _ (rollup_so (1, omega arith, refl) event (rollup_at s.base.mirror s.base.portfolio event)) (record { so = (0, omega arith, refl) })
reply_so s (query.Subs role filter page) = first_then _ _ _ (sight_so _ s.base (0, omega arith, refl) role) (λ sight. never _ _)
reply_so s (query.Sub role id) = first_then _ _ _ (sight_so _ s.base (0, omega arith, refl) role) (λ sight. first_then _ _ _ (sub_so _ s.base (0, omega arith, refl) (1, omega arith, refl) sight id) (λ sub. never _ _))
reply_so s (query.Outbox role) = shown _ s.base (0, omega arith, refl) _ _
reply_so s (query.Probes limit) = scan_told limit s.base s.base.scan

pub reply_listed : (s : State) (q : Query) → IfErr (reply s q) (Contains (listed_for q))
reply_listed s q = (reply_so s q).so

-- ---- what is listed

pub listed_for_of_machine : (q : Query) → list_all is_of_machine (listed_for q) ≡ true
listed_for_of_machine (query.Programs role page) = refl
listed_for_of_machine (query.Program role id) = refl
listed_for_of_machine (query.Events role filter page) = refl
listed_for_of_machine (query.Event role id) = refl
listed_for_of_machine (query.Vens role page) = refl
listed_for_of_machine (query.Ven role id) = refl
listed_for_of_machine (query.Resources role ven page) = refl
listed_for_of_machine (query.Resource role ven id) = refl
listed_for_of_machine (query.Shares role program) = refl
listed_for_of_machine (query.Frozen role event) = refl
listed_for_of_machine (query.Reports role filter page) = refl
listed_for_of_machine (query.Report role id) = refl
listed_for_of_machine (query.Rollup role event) = refl
listed_for_of_machine (query.Subs role filter page) = refl
listed_for_of_machine (query.Sub role id) = refl
listed_for_of_machine (query.Outbox role) = refl
listed_for_of_machine (query.Probes limit) = refl

-- ---- desks

-- a desk that refuses as the machine does, or for want of memory, refuses as is listed
pub as_listed : {A B : Type 0} (these : List Refusal) (r : Result A Refusal) (taken : Result B Refusal) → IfErr taken (Contains these) → IfErr r (λ e. IsRefusalOf e taken) → r ≢ Err Store → IfErr r (IsListed ⊥ these)
as_listed these (Ok a) taken so refused no_store = tt
as_listed these (Err OutOfMemory) taken so refused no_store = tt
as_listed these (Err Store) taken so refused no_store = no_store refl
as_listed these (Err e) taken so refused no_store = IfErr-at_err (Contains these) refused so
