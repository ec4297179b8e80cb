-- What a decision puts has a row of its key, or there is room for one more; and a report that it puts or drops is the next one or named.
use Rattle.std.proofs.Common.{◌≡◌, ℕ, ◌+◌, ◌<◌, ◌≤◌, Bool, true, false, cond, ◌||◌, ◌==◌, ◌&&◌, ◌⊎◌, inl, inr, List, [], ◌∷◌, length, Option, Some, None, Result, Ok, Err, IfOk, Ordering, refl, ap}
use Rattle.std.specs.Prelude.{nat_lt, is_none, is_some, IsSome, IfSome}
use Rattle.std.specs.Ordering.{nat_cmp}
use Rattle.std.proofs.lemmas.Bool.{and_cases, cond_both, leb-false, ltb-false}
use Rattle.std.specs.List.{list_any}
use Rattle.adr_text.specs.Refusals.{◌>>=◌, or_else}
use Rattle.adr_text.specs.declared.refusal.Refusal.{Refusal}
use Rattle.adr_text.specs.declared.refusal.Refusal.TheVariants as refusal
use Rattle.adr_objects.specs.declared.body.EventBody.{EventBody}
use Rattle.adr_objects.specs.declared.site.ReportIn.{ReportIn}
use Rattle.adr_state.specs.declared.base.Base.{Base}
use Rattle.adr_state.specs.declared.base.Mark.{Mark}
use Rattle.adr_state.specs.declared.base.Mark.TheVariants.{Dead}
use Rattle.adr_state.specs.declared.keys.MirrorKey.{MirrorKey}
use Rattle.adr_state.specs.declared.keys.ShareKey.{ShareKey}
use Rattle.adr_state.specs.declared.limits.Limits.{Limits}
use Rattle.adr_state.specs.declared.portfolio.Portfolio.{Portfolio}
use Rattle.adr_state.specs.BaseChanges.{BaseChange, ChangePortfolio, JoinMarks, SetScan}
use Rattle.adr_state.specs.Digits.{number_in}
use Rattle.adr_state.specs.Evidence.{adds_beyond, joining, open_scan, scan_end, scan_with}
use Rattle.adr_state.specs.Frozen.{is_frozen, pairs_kept}
use Rattle.adr_state.specs.Keys.{at, share_cmp}
use Rattle.adr_state.specs.Mirror.{evidence_of, joined}
use Rattle.adr_state.specs.Names.{is_full, is_taken, is_taken_by_another, resource_name, ven_name}
use Rattle.adr_state.specs.Participants.{participants}
use Rattle.adr_state.specs.Portfolios.{PortfolioChange, PutVen, PutResource, PutShare, DropShare, PutReport, DropReport, PutSub, Freeze as FreezeEvent}
use Rattle.adr_state.specs.Resources.{is_under, putting_resource, resource_at, resource_under, resource_with_id}
use Rattle.adr_state.specs.Shares.{is_beyond, share_of, weight_set}
use Rattle.adr_state.specs.Stamping.{fresh, modified_at}
use Rattle.adr_state.specs.Subs.{sub_post}
use Rattle.adr_state.specs.Vens.{putting_ven, ven_at, ven_with_id}
use Rattle.adr_state.specs.Weights.{most_weight}
use Rattle.adr_subscription.specs.Callbacks.{settled}
use Rattle.adr_view.specs.Frozen.{are_beyond, can_not_keep, freeze, frozen_as, frozen_with, mark_differs, pairs_of}
use Rattle.adr_view.specs.Rollups.{event_at}
use Rattle.adr_view.specs.Reports.{kept_report, may_change, may_report, putting_report, report_made, report_on, report_removed, report_replaced, report_with_id}
use Rattle.adr_view.specs.Sights.{owner_in}
use Rattle.adr_view.specs.Subs.{sub_delete, sub_in_sight, sub_put}
use Rattle.adr_queries.specs.Roles.{sight_of}
use Rattle.adr_machine.specs.declared.command.Command.{Command}
use Rattle.adr_machine.specs.declared.command.Command.TheVariants.{Evidence, Gone, ScanBegin, ScanEnd, VenAdd, VenPut, VenRemove, ResourceAdd, ResourcePut, ResourceRemove, ShareSet, Freeze, ReportPost, ReportPut, ReportDelete, SubPost, SubPut, SubDelete, Lease, Sent, Failed}
use Rattle.adr_machine.specs.declared.outcome.Outcome.{Outcome}
use Rattle.adr_machine.specs.Edits.{Decision, counted, decided, of_portfolio, sub_outcome}
use Rattle.adr_machine.specs.Named.{NamesReport}
use Rattle.adr_machine.proofs.EditLemmas.{allowed_then, first_then, found_then, free_then, new_then, tested, whatever}
use Rattle.adr_machine.proofs.Found.{IsFound, IsReportOf, IsSubOf, in_sight_there, number_there, passing, report_there, resource_there, ven_there}

-- a row of the key is there, or there is room for one more
abbrev pub HasRoom : {K V : Type 0} → (K → K → Ordering) → ℕ → List (K × V) → K → Type 0
HasRoom cmp limit rows k = IsSome (at cmp k rows) ⊎ (length rows < limit)

-- an event is frozen already, or there is room for so many pairs more
abbrev pub HasPairRoom : Limits → Portfolio → List ℕ → List (ℕ × ℕ) → Type 0
HasPairRoom limits p id pairs = (is_frozen p id ≡ true) ⊎ (length p.frozen_shares + length pairs ≤ limits.frozen)

-- for what a change of the portfolio puts
abbrev pub SitesHaveRoom : Limits → Portfolio → PortfolioChange → Type 0
SitesHaveRoom limits p (PutVen n ven) = HasRoom nat_cmp limits.vens p.vens n
SitesHaveRoom limits p (PutResource n resource) = HasRoom nat_cmp limits.resources p.resources n
SitesHaveRoom limits p (PutShare key weight) = HasRoom share_cmp limits.shares p.shares key
SitesHaveRoom limits p (PutReport n report) = HasRoom nat_cmp limits.reports p.reports n
SitesHaveRoom limits p (PutSub n sub) = HasRoom nat_cmp limits.subs p.subs n
SitesHaveRoom limits p (FreezeEvent id pairs) = HasPairRoom limits p id pairs
SitesHaveRoom limits p _ = Unit {0}

-- and for what any change does
abbrev pub BaseHasRoom : Limits → Base → BaseChange → Type 0
BaseHasRoom limits base (JoinMarks marks scan) = adds_beyond limits.keys base.mirror (joined base.mirror marks) ≡ false
BaseHasRoom limits base (SetScan scan) = Unit {0}
BaseHasRoom limits base (ChangePortfolio change) = SitesHaveRoom limits base.portfolio change

-- a report is put under the next number or that of one that is named, and one that is dropped is named
abbrev pub PutsAsNamed : ℕ → (ℕ → Type 0) → PortfolioChange → Type 0
PutsAsNamed next IsNamed (PutReport n report) = (n ≡ next) ⊎ IsNamed n
PutsAsNamed next IsNamed (DropReport n) = IsNamed n
PutsAsNamed next IsNamed _ = Unit {0}

abbrev pub ChangesAsNamed : ℕ → (ℕ → Type 0) → BaseChange → Type 0
ChangesAsNamed next IsNamed (ChangePortfolio change) = PutsAsNamed next IsNamed change
ChangesAsNamed next IsNamed _ = Unit {0}

some_there : {A : Type 0} (o : Option A) → is_none o ≡ false → IsSome o
some_there None h = absurd (let no : true ≡ false = h in cc)
some_there (Some x) h = refl

-- whatever is decided of an event that is frozen, it is frozen already, or there is room for its pairs
pub frozen_with_room : (limits : Limits) (id : List ℕ) (mirror : List (MirrorKey × Mark)) (p : Portfolio) (P : List (ℕ × ℕ) × PortfolioChange → Type 0) → ((told pairs : List (ℕ × ℕ)) → HasPairRoom limits p id pairs → P (told, FreezeEvent id pairs)) → IfOk (freeze limits id mirror p) P
frozen_with_room limits id mirror p P each = by (event_at mirror id)
  where
    room : (a b : Bool) → (a || b) ≡ false → a ≡ false
    room true b h = h
    room false b h = refl

    by_frozen : (event : EventBody) (b : Bool) → is_frozen p id ≡ b → IfOk (cond b (Ok (pairs_kept p id, FreezeEvent id [])) (frozen_with limits id (pairs_of (participants p id event)) mirror p)) P
    by_frozen event true frozen = each (pairs_kept p id) [] (inl frozen)
    by_frozen event false fresh =
        let own : List (ℕ × ℕ) = pairs_of (participants p id event) in
        tested P (can_not_keep limits id own mirror p) refusal.LimitReached (Ok (own, FreezeEvent id own)) (λ can. each own own (inr (ltb-false limits.frozen (length p.frozen_shares + length own) (room (are_beyond limits p own) (list_any (mark_differs id own p) mirror) can))))

    by : (o : Option EventBody) → IfOk (or_else refusal.NotFound o >>= λ event. frozen_as limits id event mirror p) P
    by None = tt
    by (Some event) = by_frozen event (is_frozen p id) refl

module _ (limits : Limits) (now next : ℕ) (base : Base) (IsNamed : ℕ → Type 0) where
  abbrev p : Portfolio
  p = base.portfolio

  -- so is a change
  abbrev pub IsFit : BaseChange → Type 0
  IsFit change = BaseHasRoom limits base change × ChangesAsNamed next IsNamed change

  abbrev Room : Decision → Type 0
  Room d = IsFit d.change

  abbrev Puts : {A : Type 0} → A × PortfolioChange → Type 0
  Puts d = SitesHaveRoom limits p d.1 × PutsAsNamed next IsNamed d.1

  new_room : {V : Type 0} (limit n : ℕ) (rows : List (ℕ × V)) → is_full limit rows ≡ false → HasRoom nat_cmp limit rows n
  new_room limit n rows room = inr (leb-false limit (length rows) room)

  joining_room : (marks : List (MirrorKey × Mark)) (scan : Option (List MirrorKey)) → IfOk (joining limits base marks scan) IsFit
  joining_room marks scan = tested IsFit (adds_beyond limits.keys base.mirror (joined base.mirror marks)) refusal.LimitReached (Ok (JoinMarks marks scan)) (λ within. (within, tt))

  counted_room : (r : Result BaseChange Refusal) → IfOk r IsFit → IfOk (r >>= λ change. Ok (counted change)) Room
  counted_room r h = first_then Room IsFit r (λ change. Ok (counted change)) h (λ change room. room)

  sites_room : {A : Type 0} (comes : A → Outcome) (r : Result (A × PortfolioChange) Refusal) → IfOk r Puts → IfOk (of_portfolio comes r) Room
  sites_room comes (Ok d) h = h
  sites_room comes (Err e) h = tt

  under_there : (ven id : List ℕ) → IfSome (resource_under ven id p) (λ r. IsFound p.resources r.0)
  under_there ven id = passing (λ r. IsFound p.resources r.0) (λ r. IsFound p.resources r.0) (λ r. is_under ven p r.1) (resource_with_id id p) (resource_there id p) (λ r there under. there)

  share_room : (key : ShareKey) (weight : ℕ) → IfOk (share_of limits key weight p) Puts
  share_room key weight =
      let fits : PortfolioChange → Type 0 = λ change. SitesHaveRoom limits p change × PutsAsNamed next IsNamed change in
      tested Puts (nat_lt most_weight weight) refusal.BadShare _ (λ small.
      first_then Puts fits (weight_set limits key weight p) _
      (cond_both (weight == 0) (Ok (DropShare key)) _ (λ r. IfOk r fits) (λ none. (tt, tt)) (λ some. tested fits (is_beyond limits key p.shares) refusal.LimitReached (Ok (PutShare key weight)) (λ within.
      elim (and_cases (is_none (at share_cmp key p.shares)) (is_full limits.shares p.shares) within) [
        | inl there ↦ (inl (some_there (at share_cmp key p.shares) there), tt)
        | inr room ↦ (inr (leb-false limits.shares (length p.shares) room), tt)
      ]))) (λ change h. h))

  made_room : (sent : ReportIn) → IfOk (report_made limits next sent base.mirror p) Puts
  made_room sent =
      first_then Puts (λ on. Unit {0}) (report_on sent base.mirror p) _ (whatever (report_on sent base.mirror p))
      (λ on h. tested Puts (is_full limits.reports p.reports) refusal.LimitReached (Ok (putting_report next (kept_report next on sent))) (λ room. (new_room limits.reports next p.reports room, inl refl)))

  replaced_room : (id : List ℕ) (sent : ReportIn) → ((n : ℕ) → number_in 112 id ≡ Some n → IsNamed n) → IfOk (report_replaced next id sent base.mirror p) Puts
  replaced_room id sent named =
      found_then Puts (IsReportOf id p) refusal.NotFound (report_with_id id p) _ (report_there id p) (λ old is.
      first_then Puts (λ on. Unit {0}) (report_on sent base.mirror p) _ (whatever (report_on sent base.mirror p)) (λ on h. (inl (ap is_some is.1), inr (named old.0 is.0))))

  removed_room : (id : List ℕ) → ((n : ℕ) → number_in 112 id ≡ Some n → IsNamed n) → IfOk (report_removed id p) Puts
  removed_room id named = found_then Puts (IsReportOf id p) refusal.NotFound (report_with_id id p) _ (report_there id p) (λ old is. (tt, named old.0 is.0))

  pub decided_room : (c : Command) → ((n : ℕ) → NamesReport c n → IsNamed n) → IfOk (decided limits now next base c) Room
  decided_room (Evidence founds polled) named = counted_room _ (joining_room (evidence_of founds) (scan_with base.scan founds polled))
  decided_room (Gone kind id) named = counted_room _ (joining_room ((record { kind = kind; id = id }, Dead) ∷ []) base.scan)
  decided_room ScanBegin named = (tt, tt)
  decided_room ScanEnd named =
      first_then Room (λ d. IsFit d.1) (scan_end base) _
      (first_then (λ d. IsFit d.1) (λ polled. Unit {0}) (open_scan base.scan) _ (whatever (open_scan base.scan)) (λ polled h. (tt, tt)))
      (λ d h. h)
  decided_room (VenAdd role ven) named =
      sites_room _ _ (new_then Puts (is_taken ven_name ven.name p.vens) (is_full limits.vens p.vens) (putting_ven next (record { name = ven.name; stamps = fresh now })) (λ free room. (new_room limits.vens next p.vens room, tt)))
  decided_room (VenPut role id ven) named =
      sites_room _ _ (found_then Puts (λ v. IsFound p.vens v.0) refusal.NotFound (ven_with_id id p) _ (ven_there id p) (λ v there.
      free_then Puts (is_taken_by_another ven_name v.0 ven.name p.vens) (putting_ven v.0 (record { name = ven.name; stamps = modified_at now v.1.stamps })) (λ free. (inl there, tt))))
  decided_room (VenRemove role id) named = sites_room _ _ (found_then Puts (λ v. IsFound p.vens v.0) refusal.NotFound (ven_with_id id p) _ (ven_there id p) (λ v there. (tt, tt)))
  decided_room (ResourceAdd role ven resource) named =
      sites_room _ _ (found_then Puts (IsFound p.vens) refusal.NotFound (ven_at ven p) _ (number_there p.vens (ven_with_id ven p) (ven_there ven p)) (λ v there.
      new_then Puts (is_taken resource_name resource.name p.resources) (is_full limits.resources p.resources) (putting_resource next (record { ven = v; name = resource.name; stamps = fresh now })) (λ free room. (new_room limits.resources next p.resources room, tt))))
  decided_room (ResourcePut role ven id resource) named =
      sites_room _ _ (found_then Puts (λ r. IsFound p.resources r.0) refusal.NotFound (resource_under ven id p) _ (under_there ven id) (λ r there.
      free_then Puts (is_taken_by_another resource_name r.0 resource.name p.resources) (putting_resource r.0 (record { ven = r.1.ven; name = resource.name; stamps = modified_at now r.1.stamps })) (λ free. (inl there, tt))))
  decided_room (ResourceRemove role ven id) named = sites_room _ _ (found_then Puts (λ r. IsFound p.resources r.0) refusal.NotFound (resource_under ven id p) _ (under_there ven id) (λ r there. (tt, tt)))
  decided_room (ShareSet role program resource share) named =
      sites_room _ _ (found_then Puts (IsFound p.resources) refusal.NotFound (resource_at resource p) _ (number_there p.resources (resource_with_id resource p) (resource_there resource p)) (λ n there.
      share_room (record { program = program; resource = n }) share.share))
  decided_room (Freeze role event) named = sites_room _ _ (frozen_with_room limits event base.mirror p Puts (λ told pairs room. (room, tt)))
  decided_room (ReportPost role sent) named =
      first_then Room (λ sight. Unit {0}) (sight_of base role) _ (whatever (sight_of base role)) (λ sight h.
      sites_room _ _ (allowed_then Puts (may_report sight sent p) refusal.Forbidden (report_made limits next sent base.mirror p) (made_room sent)))
  decided_room (ReportPut role id sent) named =
      first_then Room (λ sight. Unit {0}) (sight_of base role) _ (whatever (sight_of base role)) (λ sight h.
      sites_room _ _ (allowed_then Puts (may_change sight id p && may_report sight sent p) refusal.Forbidden (report_replaced next id sent base.mirror p) (replaced_room id sent named)))
  decided_room (ReportDelete role id) named =
      first_then Room (λ sight. Unit {0}) (sight_of base role) _ (whatever (sight_of base role)) (λ sight h.
      sites_room _ _ (allowed_then Puts (may_change sight id p) refusal.Forbidden (report_removed id p) (removed_room id named)))
  decided_room (SubPost role sub) named =
      first_then Room (λ body. Unit {0}) (settled sub) _ (whatever (settled sub)) (λ body h. first_then Room (λ sight. Unit {0}) (sight_of base role) _ (whatever (sight_of base role)) (λ sight h.
      sites_room sub_outcome (sub_post limits now next (owner_in sight) body p) (tested Puts (is_full limits.subs p.subs) refusal.LimitReached _ (λ room. (new_room limits.subs next p.subs room, tt)))))
  decided_room (SubPut role id sub) named =
      first_then Room (λ body. Unit {0}) (settled sub) _ (whatever (settled sub)) (λ body h. first_then Room (λ sight. Unit {0}) (sight_of base role) _ (whatever (sight_of base role)) (λ sight h.
      sites_room sub_outcome (sub_put sight now id body p) (first_then Puts (IsSubOf id p) (sub_in_sight sight id p) _ (in_sight_there sight id p) (λ s there. (inl (ap is_some there.1), tt)))))
  decided_room (SubDelete role id) named =
      first_then Room (λ sight. Unit {0}) (sight_of base role) _ (whatever (sight_of base role)) (λ sight h.
      sites_room sub_outcome (sub_delete sight id p) (first_then Puts (λ s. Unit {0}) (sub_in_sight sight id p) _ (whatever (sub_in_sight sight id p)) (λ s there. (tt, tt))))
  -- what is about an entry leaves the base
  decided_room Lease named = (tt, tt)
  decided_room (Sent entry lease remote) named = (tt, tt)
  decided_room (Failed entry lease forget) named = (tt, tt)
