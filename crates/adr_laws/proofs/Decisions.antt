-- What a command decides fits the base, and what a step makes of it: the one walk over the commands. The laws walk over the kinds of change.
use Rattle.std.proofs.Common.{◌≡◌, ℕ, ◌≤◌, ◌+◌, Bool, true, false, cond, ◌==◌, ◌⊎◌, inl, inr, ◌&&◌, List, [], ◌∷◌, length, Option, Some, None, Result, Ok, Err, IfOk, refl, sym, ap, subst, ◌∙◌, arith}
use Rattle.std.specs.Prelude.{nat_lt, nat_le, is_some, IsSome, IfSome, option_and_then}
use Rattle.std.specs.Option.{option_map_or}
use Rattle.adr_laws.proofs.Common.{Contains, Contains-from_lookup, eq_by_cmp_equiv, keys_of, nat_cmp, nat_cmp_total, share_cmp, tells_apart, unsigned_Decides, cond_both, Refusal, Base, at, ven_name, resource_name, is_taken, is_taken_by_another, is_full, BaseChange, JoinMarks, SetScan, ChangePortfolio, changed, Command, Settings, State, step_at}
use Rattle.std.proofs.lemmas.Bool.{eqb-false, leb-false, ltb-false}
use Rattle.std.proofs.lemmas.Map.Views.{IsSome-lookup_from_Contains}
use Rattle.std.proofs.lemmas.Option.{same_Some}
use Rattle.adr_text.specs.Refusals.{◌>>=◌, or_else}
use Rattle.adr_text.specs.declared.refusal.Refusal.TheVariants as refusal
use Rattle.adr_state.specs.declared.base.Mark.{Mark}
use Rattle.adr_state.specs.declared.base.Mark.TheVariants.{Dead}
use Rattle.adr_subscription.specs.declared.kept_sub.Sub.{Sub}
use Rattle.adr_subscription.specs.Callbacks.{settled}
use Rattle.adr_state.specs.declared.participants.Participant.{Participant}
use Rattle.adr_state.specs.declared.portfolio.Portfolio.{Portfolio}
use Rattle.adr_state.specs.declared.portfolio.Resource.{Resource}
use Rattle.adr_state.specs.declared.portfolio.Ven.{Ven}
use Rattle.adr_state.specs.declared.keys.MirrorKey.{MirrorKey}
use Rattle.adr_state.specs.declared.keys.ShareKey.{ShareKey}
use Rattle.adr_state.specs.declared.limits.Limits.{Limits}
use Rattle.adr_state.specs.Digits.{number_in}
use Rattle.adr_state.specs.Frozen.{is_frozen, frozen_weight, pairs_kept}
use Rattle.adr_state.specs.Mirror.{evidence_of, joined}
use Rattle.adr_state.specs.Participants.{is_for, weight_by_share, participant_of, participants}
use Rattle.adr_state.specs.Weights.{most_weight}
use Rattle.adr_state.specs.Stamping.{fresh, modified_at}
use Rattle.adr_state.specs.Portfolios.{PortfolioChange, PutVen, PutResource, PutShare, DropShare, PutReport, DropReport, PutSub, Freeze as FreezeEvent}
use Rattle.adr_state.specs.Evidence.{adds_beyond, joining, scan_with, open_scan, scan_end}
use Rattle.adr_state.specs.Vens.{ven_with_id, ven_at, putting_ven}
use Rattle.adr_state.specs.Resources.{resource_with_id, resource_at, is_under, resource_under, putting_resource}
use Rattle.adr_state.specs.Shares.{is_beyond, weight_set, share_of}
use Rattle.adr_state.specs.Subs.{sub_post}
use Rattle.adr_view.specs.declared.sight.Sight.{Sight}
use Rattle.adr_view.specs.Sights.{owner_in}
use Rattle.adr_view.specs.Subs.{sub_in_sight, sub_put, sub_delete}
use Rattle.adr_objects.specs.declared.site.ReportIn.{ReportIn}
use Rattle.adr_objects.specs.declared.body.EventBody.{EventBody}
use Rattle.adr_state.specs.declared.portfolio.Report.{Report}
use Rattle.adr_state.specs.ShownIds.{resource_part, event_part, id_in, resource_named}
use Rattle.adr_view.specs.declared.report.Reported.{Reported}
use Rattle.adr_view.specs.Reports.{is_shown_to, reported_of, reported_by, reported_in, reported, fits, kept_report, report_on, report_with_id, putting_report, report_made, report_replaced, report_removed, may_report, may_change}
use Rattle.adr_view.specs.Frozen.{pairs_of, can_not_keep, frozen_with, frozen_as, freeze}
use Rattle.adr_view.specs.Rollups.{event_at}
use Rattle.adr_view.proofs.FrozenLemmas.{participant_by}
use Rattle.adr_view.proofs.KeyLemmas.{share_exact}
use Rattle.adr_view.proofs.ListLemmas.{from_filter_map, from_map, in_map}
use Rattle.adr_queries.specs.declared.answer.Answer.{Answer}
use Rattle.adr_queries.specs.declared.answer.Answer.TheVariants as answer
use Rattle.adr_machine.specs.declared.command.Command.TheVariants.{Evidence, Gone, ScanBegin, ScanEnd, VenAdd, VenPut, VenRemove, ResourceAdd, ResourcePut, ResourceRemove, ShareSet, Freeze, ReportPost, ReportPut, ReportDelete, SubPost, SubPut, SubDelete, Lease, Sent, Failed}
use Rattle.adr_machine.specs.declared.outcome.Outcome.{Outcome}
use Rattle.adr_machine.specs.declared.outcome.Outcome.TheVariants as outcome
use Rattle.adr_queries.specs.declared.role.Role.{Role}
use Rattle.adr_queries.specs.declared.role.Role.TheVariants as role
use Rattle.adr_queries.specs.Roles.{sight_by, sight_of}
use Rattle.adr_state.specs.Serials.{drawn}
use Rattle.adr_machine.specs.Edits.{Decision, is_allowed, counted, answered, of_portfolio, report_kept, report_gone, sub_outcome, draws_number, is_delivery, decided, numbered, edit_of, edit}
use Rattle.adr_machine.specs.Steps.{answered_by}
use Rattle.adr_machine.specs.Steps.{changed as restamped_by, entries_then, outbox_then, committed, delivery_step, edit_step}
use Rattle.adr_machine.specs.Deliveries.{delivered}
use Rattle.adr_notices.specs.Committed.{with_further}
use Rattle.adr_delivery.specs.declared.entry.Entry.{Entry}
use Rattle.adr_delivery.specs.declared.outbox.Outbox.{Outbox}
use Rattle.adr_delivery.specs.Outboxes.{kept_for}
use Rattle.adr_laws.specs.Reported.{SaysAsSent}
use Rattle.adr_laws.specs.Laws.{HasVen, HasResource, evidence_in, HasWeight, HasReported, HasOwner}
use Rattle.adr_machine.proofs.EditLemmas.{tested, allowed_then, first_then, found_then, new_then, free_then, whatever}
use Rattle.adr_machine.proofs.Found.{IsFound, IsReportOf, IsSubOf, number_there, passing, ven_there, resource_there, report_there, in_sight_there}
use Rattle.adr_laws.proofs.NameLemmas.{Free, free_new, free_again}
use Rattle.adr_laws.proofs.NumberLemmas.{IsNumber, serial_then}

-- ---- what the laws need of a change

-- a pair is of a resource that is there, with the weight of a share that is there
pub record IsOfShare (p : Portfolio) (pair : ℕ × ℕ) : Type 0 where
  pub resource : IsSome (at nat_cmp pair.0 p.resources)
  pub share : ShareKey × ℕ
  pub is_there : Contains p.shares share
  pub same_weight : share.1 ≡ pair.1

abbrev pub FitsPortfolio : ℕ → Bool → Portfolio → PortfolioChange → Type 0
FitsPortfolio next draws p (PutVen n ven) = IsNumber next draws p.vens n × Free ven_name n ven.name p.vens
FitsPortfolio next draws p (PutResource n resource) = IsNumber next draws p.resources n × Free resource_name n resource.name p.resources × HasVen p.vens (n, resource)
FitsPortfolio next draws p (PutShare key weight) = HasResource p.resources (key, weight) × HasWeight (key, weight)
FitsPortfolio next true p (PutReport n report) = (report.revision ≡ next) × ((n ≡ next) ⊎ IsSome (at nat_cmp n p.reports)) × HasReported p.resources (n, report)
FitsPortfolio next false p (PutReport n report) = ⊥
FitsPortfolio next true p (PutSub n sub) = (n ≡ next) × HasOwner p.vens (n, sub)
FitsPortfolio next false p (PutSub n sub) = (old : Sub) × (at nat_cmp n p.subs ≡ Some old) × (sub.owner ≡ old.owner)
FitsPortfolio next draws p (FreezeEvent id pairs) = (pair : ℕ × ℕ) → Contains pairs pair → IsOfShare p pair
FitsPortfolio next draws p _ = Unit {0}

abbrev pub FitsBase : ℕ → Bool → Base → BaseChange → Type 0
FitsBase next draws base (ChangePortfolio change) = FitsPortfolio next draws base.portfolio change
FitsBase next draws base _ = Unit {0}

-- what a change tells of upstream keys
abbrev pub marks_in : BaseChange → List (MirrorKey × Mark)
marks_in (JoinMarks marks scan) = marks
marks_in _ = []

-- the reports that it puts
abbrev pub puts_of : PortfolioChange → List (ℕ × Report)
puts_of (PutReport n report) = (n, report) ∷ []
puts_of _ = []

abbrev pub puts_in : BaseChange → List (ℕ × Report)
puts_in (ChangePortfolio change) = puts_of change
puts_in _ = []

-- a report is put, and is what comes of it; one that is there goes, and is that; or nothing comes of reports
pub record IsKept (base : Base) (IsItsNumber : ℕ → Type 0) (sent : ReportIn) (d : Decision) : Type 0 where
  pub number : ℕ
  pub report : Report
  pub comes : d.outcome ≡ outcome.ReportKept number report.body
  pub puts : d.change ≡ ChangePortfolio (PutReport number report)
  pub is_its_number : IsItsNumber number
  pub as_sent : SaysAsSent base sent report.body

pub record IsGone (base : Base) (id : List ℕ) (d : Decision) : Type 0 where
  pub number : ℕ
  pub report : Report
  pub comes : d.outcome ≡ outcome.ReportGone number report.body
  pub goes : d.change ≡ ChangePortfolio (DropReport number)
  pub is_its_number : number_in 112 id ≡ Some number
  pub was_there : at nat_cmp number base.portfolio.reports ≡ Some report

abbrev pub IsOther : Outcome → Type 0
IsOther (outcome.ReportKept n body) = ⊥
IsOther (outcome.ReportGone n body) = ⊥
IsOther _ = Unit {0}

pub record IsPlain (d : Decision) : Type 0 where
  pub comes : IsOther d.outcome
  pub puts_none : puts_in d.change ≡ []

-- what comes of a command, by whether it is one of reports
abbrev pub Comes : ℕ → Base → Command → Decision → Type 0
Comes next base (ReportPost role sent) d = IsKept base (λ n. n ≡ next) sent d
Comes next base (ReportPut role id sent) d = IsKept base (λ n. number_in 112 id ≡ Some n) sent d
Comes next base (ReportDelete role id) d = IsGone base id d
Comes next base _ d = IsPlain d

pub record Fits (next : ℕ) (draws : Bool) (base : Base) (marks : List (MirrorKey × Mark)) (Is : Decision → Type 0) (d : Decision) : Type 0 where
  pub fits : FitsBase next draws base d.change
  pub tells : marks_in d.change ≡ marks
  pub is : Is d

-- of a command
abbrev pub FitsCommand : Base → Command → Decision → Type 0
FitsCommand base c = Fits (base.serial + 1) (draws_number c) base (evidence_in c) (Comes (base.serial + 1) base c)

-- ---- what an id names is there

-- the ven of an id that a resource belongs to
owner_there : {V : Type 0} (rows : List (ℕ × V)) (m : ℕ) (o : Option ℕ) → IfSome o (IsFound rows) → option_map_or (λ n. n == m) o false ≡ true → IsFound rows m
owner_there rows m None there is = absurd (let no : false ≡ true = is in cc)
owner_there rows m (Some n) there is = subst (IsFound rows) ((unsigned_Decides n m).0 is) there

-- a resource that is there, and its ven
abbrev IsHeld : Portfolio → ℕ × Resource → Type 0
IsHeld p r = IsFound p.resources r.0 × HasVen p.vens r

under_there : (ven id : List ℕ) (p : Portfolio) → IfSome (resource_under ven id p) (IsHeld p)
under_there ven id p =
    passing (λ r. IsFound p.resources r.0) (IsHeld p) (λ r. is_under ven p r.1) (resource_with_id id p) (resource_there id p)
    (λ r there under. (there, owner_there p.vens r.1.ven (ven_at ven p) (number_there p.vens (ven_with_id ven p) (ven_there ven p)) under))

-- what belongs to who sees this much is of a ven that is there
abbrev OwnerIsThere : Base → Sight → Type 0
OwnerIsThere base sight = IfSome (owner_in sight) (IsFound base.portfolio.vens)

owner_seen : (base : Base) (role : Role) → IfOk (sight_of base role) (OwnerIsThere base)
owner_seen base role.Operator = tt
owner_seen base (role.Ven id) = by (ven_at id base.portfolio) (number_there base.portfolio.vens (ven_with_id id base.portfolio) (ven_there id base.portfolio))
  where
    by : (o : Option ℕ) → IfSome o (IsFound base.portfolio.vens) → IfOk (sight_by o) (OwnerIsThere base)
    by None there = tt
    by (Some n) there = there
owner_seen base role.Utility = tt

-- what is there is that
itself : {A : Type 0} (P : A → Type 0) (o : Option A) → IfSome o P → IfSome o (λ x. (o ≡ Some x) × P x)
itself P None h = tt
itself P (Some x) h = (refl, h)

-- the resource of what a report is on
reported_there : (mirror : List (MirrorKey × Mark)) (p : Portfolio) (id : List ℕ) → IfSome (reported mirror p id) (λ on. IsFound p.resources on.resource)
reported_there mirror p id = in_event (event_part id)
  where
    by_event : (r : ℕ × Resource) (id : List ℕ) → IsFound p.resources r.0 → (o : Option EventBody) → IfSome (option_and_then (reported_of p r id) o) (λ on. IsFound p.resources on.resource)
    by_event r id found None = tt
    by_event r id found (Some event) = cond_both (is_shown_to p id event r) (Some (record { event = id; program = event.program; resource = r.0; resource_name = r.1.name })) None (λ o. IfSome o (λ on. IsFound p.resources on.resource)) (λ shown. found) (λ fails. tt)

    by_id : (r : ℕ × Resource) → IsFound p.resources r.0 → (o : Option (List ℕ)) → IfSome (option_and_then (λ id. reported_by mirror p id r) o) (λ on. IsFound p.resources on.resource)
    by_id r found None = tt
    by_id r found (Some id) = by_event r id found (event_at mirror id)

    named : (o : Option (List ℕ)) → IfSome (option_and_then (λ id. resource_with_id id p) o) (λ r. IsFound p.resources r.0)
    named None = tt
    named (Some id) = resource_there id p

    by_resource : (event : List ℕ) (o : Option (ℕ × Resource)) → IfSome o (λ r. IsFound p.resources r.0) → IfSome (option_and_then (λ r. option_and_then (λ id. reported_by mirror p id r) (id_in event)) o) (λ on. IsFound p.resources on.resource)
    by_resource event None found = tt
    by_resource event (Some r) found = by_id r found (id_in event)

    in_event : (o : Option (List ℕ)) → IfSome (option_and_then (reported_in mirror p (resource_part id)) o) (λ on. IsFound p.resources on.resource)
    in_event None = tt
    in_event (Some event) = by_resource event (resource_named p (resource_part id)) (named (id_in (resource_part id)))

-- a weight that is neither 0 nor above the largest
has_weight : (weight : ℕ) → (weight == 0) ≡ false → nat_lt most_weight weight ≡ false → (1 ≤ weight) × (weight ≤ most_weight)
has_weight weight some small = (omega (arith, eqb-false weight 0 some), ltb-false most_weight weight small)

-- ---- each command

module _ (limits : Limits) (now next : ℕ) (base : Base) where
  joining_fits : (marks : List (MirrorKey × Mark)) (scan : Option (List MirrorKey)) → IfOk (joining limits base marks scan) (λ change. Fits next false base marks IsPlain (counted change))
  joining_fits marks scan =
      tested (λ change. Fits next false base marks IsPlain (counted change)) (adds_beyond limits.keys base.mirror (joined base.mirror marks)) refusal.LimitReached (Ok (JoinMarks marks scan)) (λ within. record { fits = tt; tells = refl; is = record { comes = tt; puts_none = refl } })

  counted_fits : (marks : List (MirrorKey × Mark)) (r : Result BaseChange Refusal) → IfOk r (λ change. Fits next false base marks IsPlain (counted change)) → IfOk (r >>= λ change. Ok (counted change)) (Fits next false base marks IsPlain)
  counted_fits marks r h = first_then (Fits next false base marks IsPlain) (λ change. Fits next false base marks IsPlain (counted change)) r (λ change. Ok (counted change)) h (λ change fits. fits)

  -- of the portfolio
  portfolio_fits : {A : Type 0} (draws : Bool) (comes : A → Outcome) → ((x : A) → IsOther (comes x)) → (r : Result (A × PortfolioChange) Refusal) → IfOk r (λ d. FitsPortfolio next draws base.portfolio d.1 × (puts_of d.1 ≡ [])) → IfOk (of_portfolio comes r) (Fits next draws base [] IsPlain)
  portfolio_fits draws comes other (Ok d) h = record { fits = h.0; tells = refl; is = record { comes = other d.0; puts_none = h.1 } }
  portfolio_fits draws comes other (Err e) h = tt

  abbrev Draws : {A : Type 0} → Bool → A × PortfolioChange → Type 0
  Draws draws d = FitsPortfolio next draws base.portfolio d.1 × (puts_of d.1 ≡ [])

  -- a report is kept as it was sent, and one goes
  abbrev Keeps : (ℕ → Type 0) → ReportIn → (ℕ × Report) × PortfolioChange → Type 0
  Keeps IsItsNumber sent d = FitsPortfolio next true base.portfolio d.1 × (d.1 ≡ PutReport d.0.0 d.0.1) × IsItsNumber d.0.0 × SaysAsSent base sent d.0.1.body

  kept_fits : (IsItsNumber : ℕ → Type 0) (sent : ReportIn) (r : Result ((ℕ × Report) × PortfolioChange) Refusal) → IfOk r (Keeps IsItsNumber sent) → IfOk (of_portfolio report_kept r) (Fits next true base [] (IsKept base IsItsNumber sent))
  kept_fits IsItsNumber sent (Ok d) h = record {
    fits = h.0;
    tells = ap (λ change. marks_in (ChangePortfolio change)) h.1;
    is = record { number = d.0.0; report = d.0.1; comes = refl; puts = ap (λ change. ChangePortfolio change) h.1; is_its_number = h.2; as_sent = h.3 };
  }
  kept_fits IsItsNumber sent (Err e) h = tt

  abbrev Goes : List ℕ → (ℕ × Report) × PortfolioChange → Type 0
  Goes id d = IsReportOf id base.portfolio d.0 × FitsPortfolio next false base.portfolio d.1 × (d.1 ≡ DropReport d.0.0)

  gone_fits : (id : List ℕ) (r : Result ((ℕ × Report) × PortfolioChange) Refusal) → IfOk r (Goes id) → IfOk (of_portfolio report_gone r) (Fits next false base [] (IsGone base id))
  gone_fits id (Ok d) h = record {
    fits = h.1;
    tells = refl;
    is = record { number = d.0.0; report = d.0.1; comes = refl; goes = ap (λ change. ChangePortfolio change) h.2; is_its_number = h.0.0; was_there = h.0.1 };
  }
  gone_fits id (Err e) h = tt

  -- what a report is on that was sent
  abbrev IsOn : ReportIn → Reported → Type 0
  IsOn sent on = (reported base.mirror base.portfolio sent.event ≡ Some on) × IsFound base.portfolio.resources on.resource

  -- one is put where its number is the next or that of one that is there
  put_fits : (IsItsNumber : ℕ → Type 0) (n : ℕ) (on : Reported) (sent : ReportIn) → (n ≡ next) ⊎ IsSome (at nat_cmp n base.portfolio.reports) → IsItsNumber n → IsOn sent on → Keeps IsItsNumber sent (putting_report n (kept_report next on sent))
  put_fits IsItsNumber n on sent number its there = (
    (refl, number, there.1),
    refl,
    its,
    record { on = on; is_shown = there.0; same_event = refl; same_resource = refl; same_program = refl; same_resource_name = refl; same_client = refl; same_name = refl; same_intervals = refl },
  )

  on_fits : (sent : ReportIn) → IfOk (report_on sent base.mirror base.portfolio) (IsOn sent)
  on_fits sent =
      let shown : Option Reported = reported base.mirror base.portfolio sent.event in
      found_then (IsOn sent) (IsOn sent) refusal.NotFound shown (λ on. cond (fits on sent) (Ok on) (Err refusal.ResourceNotOfEvent)) (itself (λ on. IsFound base.portfolio.resources on.resource) shown (reported_there base.mirror base.portfolio sent.event))
      (λ on there. cond_both (fits on sent) (Ok on) (Err refusal.ResourceNotOfEvent) (λ r. IfOk r (IsOn sent)) (λ named. there) (λ other. tt))

  made_fits : (sent : ReportIn) → IfOk (report_made limits next sent base.mirror base.portfolio) (Keeps (λ n. n ≡ next) sent)
  made_fits sent =
      let keeps = Keeps (λ n. n ≡ next) sent in
      first_then keeps (IsOn sent) (report_on sent base.mirror base.portfolio) _ (on_fits sent)
      (λ on there. tested keeps (is_full limits.reports base.portfolio.reports) refusal.LimitReached (Ok (putting_report next (kept_report next on sent))) (λ room. put_fits (λ n. n ≡ next) next on sent (inl refl) refl there))

  replaced_fits : (id : List ℕ) (sent : ReportIn) → IfOk (report_replaced next id sent base.mirror base.portfolio) (Keeps (λ n. number_in 112 id ≡ Some n) sent)
  replaced_fits id sent =
      let keeps = Keeps (λ n. number_in 112 id ≡ Some n) sent in
      found_then keeps (IsReportOf id base.portfolio) refusal.NotFound (report_with_id id base.portfolio) _ (report_there id base.portfolio) (λ old is.
      first_then keeps (IsOn sent) (report_on sent base.mirror base.portfolio) _ (on_fits sent) (λ on there. put_fits (λ n. number_in 112 id ≡ Some n) old.0 on sent (inr (ap is_some is.1)) is.0 there))

  removed_fits : (id : List ℕ) → IfOk (report_removed id base.portfolio) (Goes id)
  removed_fits id = found_then (Goes id) (IsReportOf id base.portfolio) refusal.NotFound (report_with_id id base.portfolio) _ (report_there id base.portfolio) (λ old is. (is, tt, refl))

  share_fits : (key : ShareKey) (weight : ℕ) → IsFound base.portfolio.resources key.resource → IfOk (share_of limits key weight base.portfolio) (Draws false)
  share_fits key weight there =
      let fits : PortfolioChange → Type 0 = λ change. FitsPortfolio next false base.portfolio change × (puts_of change ≡ []) in
      tested (Draws false) (nat_lt most_weight weight) refusal.BadShare _ (λ small.
      first_then (Draws false) fits (weight_set limits key weight base.portfolio) _
      (cond_both (weight == 0) (Ok (DropShare key)) _ (λ r. IfOk r fits) (λ none. (tt, refl)) (λ some. tested fits (is_beyond limits key base.portfolio.shares) refusal.LimitReached (Ok (PutShare key weight)) (λ room. ((there, has_weight weight some small), refl)))) (λ change h. h))

  -- whoever takes part in an event that is not frozen has a share
  pair_of_share : (id : List ℕ) (event : EventBody) → is_frozen base.portfolio id ≡ false → (pair : ℕ × ℕ) → Contains (pairs_of (participants base.portfolio id event)) pair → IsOfShare base.portfolio pair
  pair_of_share id event fresh pair there =
      let p = base.portfolio in
      let x = from_map (λ (x : Participant). (x.resource, x.weight)) (participants p id event) pair there in
      let r = from_filter_map (participant_of p id event) p.resources x.0 x.1 in
      let its = of_weight r.0 (weight_by_share p event r.0) (at nat_cmp r.0.1.ven p.vens) x.0 (sym (ap (λ (b : Bool). participant_by r.0 (cond b (frozen_weight p id r.0.0) (weight_by_share p event r.0)) (at nat_cmp r.0.1.ven p.vens)) fresh) ∙ r.2) in
      let share = share_found p event r.0 x.0.weight (its.1) in
      record {
        resource = subst (λ (n : ℕ). IsSome (at nat_cmp n p.resources)) (sym its.0 ∙ ap (λ (q : ℕ × ℕ). q.0) (sym x.2)) (IsSome-lookup_from_Contains (eq_by_cmp_equiv nat_cmp_total) r.0.0 p.resources (number_in_keys r.0 r.1));
        share = share.0;
        is_there = share.1;
        same_weight = share.2 ∙ ap (λ (q : ℕ × ℕ). q.1) (sym x.2);
      }
    where
      made : ℕ × Resource → ℕ → Ven → Participant
      made r w v = record { resource = r.0; weight = w; name = r.1.name; ven_name = v.name }

      of_weight : (r : ℕ × Resource) (weight : Option ℕ) (ven : Option Ven) (x : Participant) → participant_by r weight ven ≡ Some x → (x.resource ≡ r.0) × (weight ≡ Some x.weight)
      of_weight r None ven x is = absurd cc
      of_weight r (Some w) None x is = absurd cc
      of_weight r (Some w) (Some v) x is = let whole : made r w v ≡ x = same_Some (made r w v) x is in (sym (ap (λ (x : Participant). x.resource) whole), ap (λ (x : Participant). Some x.weight) whole)

      share_found : (p : Portfolio) (event : EventBody) (r : ℕ × Resource) (w : ℕ) → weight_by_share p event r ≡ Some w → (s : ShareKey × ℕ) × Contains p.shares s × (s.1 ≡ w)
      share_found p event r w = by (is_for event.resource_names r.1.name)
        where
          by : (b : Bool) → cond b (at share_cmp (record { program = event.program; resource = r.0 }) p.shares) None ≡ Some w → (s : ShareKey × ℕ) × Contains p.shares s × (s.1 ≡ w)
          by true found = ((record { program = event.program; resource = r.0 }, w), Contains-from_lookup (tells_apart share_exact) (record { program = event.program; resource = r.0 }) w p.shares found, refl)
          by false found = absurd cc

      number_in_keys : (r : ℕ × Resource) → Contains base.portfolio.resources r → Contains (keys_of base.portfolio.resources) r.0
      number_in_keys r there = in_map (λ (r : ℕ × Resource). r.0) base.portfolio.resources r there

  freeze_fits : (id : List ℕ) → IfOk (freeze limits id base.mirror base.portfolio) (Draws false)
  freeze_fits id = by (event_at base.mirror id)
    where
      by_frozen : (event : EventBody) (b : Bool) → is_frozen base.portfolio id ≡ b → IfOk (cond b (Ok (pairs_kept base.portfolio id, FreezeEvent id [])) (frozen_with limits id (pairs_of (participants base.portfolio id event)) base.mirror base.portfolio)) (Draws false)
      by_frozen event true frozen = (λ pair there. absurd (omega (arith, there.1)), refl)
      by_frozen event false fresh =
          let own : List (ℕ × ℕ) = pairs_of (participants base.portfolio id event) in
          tested (Draws false) (can_not_keep limits id own base.mirror base.portfolio) refusal.LimitReached (Ok (own, FreezeEvent id own)) (λ can. (pair_of_share id event fresh, refl))

      by : (o : Option EventBody) → IfOk (or_else refusal.NotFound o >>= λ event. frozen_as limits id event base.mirror base.portfolio) (Draws false)
      by None = tt
      by (Some event) = by_frozen event (is_frozen base.portfolio id) refl

  leaves_fits : Fits next false base [] IsPlain (answered answer.Done (SetScan base.scan))
  leaves_fits = record { fits = tt; tells = refl; is = record { comes = tt; puts_none = refl } }

  pub decided_fits : (c : Command) → IfOk (decided limits now next base c) (Fits next (draws_number c) base (evidence_in c) (Comes next base c))
  decided_fits (Evidence founds polled) = counted_fits (evidence_of founds) _ (joining_fits (evidence_of founds) (scan_with base.scan founds polled))
  decided_fits (Gone kind id) = let marks : List (MirrorKey × Mark) = (record { kind = kind; id = id }, Dead) ∷ [] in counted_fits marks _ (joining_fits marks base.scan)
  decided_fits ScanBegin = record { fits = tt; tells = refl; is = record { comes = tt; puts_none = refl } }
  decided_fits ScanEnd =
      first_then (Fits next false base [] IsPlain) (λ d. FitsBase next false base d.1 × (marks_in d.1 ≡ []) × (puts_in d.1 ≡ [])) (scan_end base) _
      (first_then (λ d. FitsBase next false base d.1 × (marks_in d.1 ≡ []) × (puts_in d.1 ≡ [])) (λ polled. Unit {0}) (open_scan base.scan) _ (whatever (open_scan base.scan)) (λ polled h. (tt, refl, refl)))
      (λ d h. record { fits = h.0; tells = h.1; is = record { comes = tt; puts_none = h.2 } })
  decided_fits (VenAdd role ven) =
      let p = base.portfolio in
      portfolio_fits true _ (λ x. tt) _ (new_then (Draws true) (is_taken ven_name ven.name p.vens) (is_full limits.vens p.vens) (putting_ven next (record { name = ven.name; stamps = fresh now })) (λ free room. ((refl, free_new ven_name next ven.name p.vens free), refl)))
  decided_fits (VenPut role id ven) =
      let p = base.portfolio in
      portfolio_fits false _ (λ x. tt) _ (found_then (Draws false) (λ v. IsFound p.vens v.0) refusal.NotFound (ven_with_id id p) _ (ven_there id p) (λ v there.
      free_then (Draws false) (is_taken_by_another ven_name v.0 ven.name p.vens) (putting_ven v.0 (record { name = ven.name; stamps = modified_at now v.1.stamps })) (λ free. ((there, free_again ven_name v.0 ven.name p.vens free), refl))))
  decided_fits (VenRemove role id) = portfolio_fits false _ (λ x. tt) _ (found_then (Draws false) (λ v. IsFound base.portfolio.vens v.0) refusal.NotFound (ven_with_id id base.portfolio) _ (ven_there id base.portfolio) (λ v there. (tt, refl)))
  decided_fits (ResourceAdd role ven resource) =
      let p = base.portfolio in
      portfolio_fits true _ (λ x. tt) _ (found_then (Draws true) (IsFound p.vens) refusal.NotFound (ven_at ven p) _ (number_there p.vens (ven_with_id ven p) (ven_there ven p)) (λ v there.
      new_then (Draws true) (is_taken resource_name resource.name p.resources) (is_full limits.resources p.resources) (putting_resource next (record { ven = v; name = resource.name; stamps = fresh now })) (λ free room. ((refl, free_new resource_name next resource.name p.resources free, there), refl))))
  decided_fits (ResourcePut role ven id resource) =
      let p = base.portfolio in
      portfolio_fits false _ (λ x. tt) _ (found_then (Draws false) (IsHeld p) refusal.NotFound (resource_under ven id p) _ (under_there ven id p) (λ r held.
      free_then (Draws false) (is_taken_by_another resource_name r.0 resource.name p.resources) (putting_resource r.0 (record { ven = r.1.ven; name = resource.name; stamps = modified_at now r.1.stamps }))
      (λ free. ((held.0, free_again resource_name r.0 resource.name p.resources free, held.1), refl))))
  decided_fits (ResourceRemove role ven id) =
      portfolio_fits false _ (λ x. tt) _ (found_then (Draws false) (IsHeld base.portfolio) refusal.NotFound (resource_under ven id base.portfolio) _ (under_there ven id base.portfolio) (λ r there. (tt, refl)))
  decided_fits (ShareSet role program resource share) =
      let p = base.portfolio in
      portfolio_fits false _ (λ x. tt) _ (found_then (Draws false) (IsFound p.resources) refusal.NotFound (resource_at resource p) _ (number_there p.resources (resource_with_id resource p) (resource_there resource p)) (λ n there.
      share_fits (record { program = program; resource = n }) share.share there))
  decided_fits (Freeze role event) = portfolio_fits false _ (λ x. tt) (freeze limits event base.mirror base.portfolio) (freeze_fits event)
  decided_fits (ReportPost role sent) =
      let keeps = Keeps (λ n. n ≡ next) sent in
      first_then (Fits next true base [] (IsKept base (λ n. n ≡ next) sent)) (λ sight. Unit {0}) (sight_of base role) _ (whatever (sight_of base role)) (λ sight h.
      kept_fits (λ n. n ≡ next) sent _ (allowed_then keeps (may_report sight sent base.portfolio) refusal.Forbidden (report_made limits next sent base.mirror base.portfolio) (made_fits sent)))
  decided_fits (ReportPut role id sent) =
      let keeps = Keeps (λ n. number_in 112 id ≡ Some n) sent in
      first_then (Fits next true base [] (IsKept base (λ n. number_in 112 id ≡ Some n) sent)) (λ sight. Unit {0}) (sight_of base role) _ (whatever (sight_of base role)) (λ sight h.
      kept_fits (λ n. number_in 112 id ≡ Some n) sent _ (allowed_then keeps (may_change sight id base.portfolio && may_report sight sent base.portfolio) refusal.Forbidden (report_replaced next id sent base.mirror base.portfolio) (replaced_fits id sent)))
  decided_fits (ReportDelete role id) =
      first_then (Fits next false base [] (IsGone base id)) (λ sight. Unit {0}) (sight_of base role) _ (whatever (sight_of base role)) (λ sight h.
      gone_fits id _ (allowed_then (Goes id) (may_change sight id base.portfolio) refusal.Forbidden (report_removed id base.portfolio) (removed_fits id)))
  decided_fits (SubPost role sub) =
      first_then (Fits next true base [] IsPlain) (λ body. Unit {0}) (settled sub) _ (whatever (settled sub)) (λ body h. first_then (Fits next true base [] IsPlain) (OwnerIsThere base) (sight_of base role) _ (owner_seen base role) (λ sight owner.
      portfolio_fits true sub_outcome (λ x. tt) (sub_post limits now next (owner_in sight) body base.portfolio) (tested (Draws true) (is_full limits.subs base.portfolio.subs) refusal.LimitReached _ (λ room. ((refl, owner), refl)))))
  decided_fits (SubPut role id sub) =
      first_then (Fits next false base [] IsPlain) (λ body. Unit {0}) (settled sub) _ (whatever (settled sub)) (λ body h. first_then (Fits next false base [] IsPlain) (λ sight. Unit {0}) (sight_of base role) _ (whatever (sight_of base role)) (λ sight h.
      portfolio_fits false sub_outcome (λ x. tt) (sub_put sight now id body base.portfolio)
      (first_then (Draws false) (IsSubOf id base.portfolio) (sub_in_sight sight id base.portfolio) _ (in_sight_there sight id base.portfolio) (λ s there. ((s.1, there.1, refl), refl)))))
  decided_fits (SubDelete role id) =
      first_then (Fits next false base [] IsPlain) (λ sight. Unit {0}) (sight_of base role) _ (whatever (sight_of base role)) (λ sight h.
      portfolio_fits false sub_outcome (λ x. tt) (sub_delete sight id base.portfolio)
      (first_then (Draws false) (λ s. Unit {0}) (sub_in_sight sight id base.portfolio) _ (whatever (sub_in_sight sight id base.portfolio)) (λ s there. (tt, refl))))
  -- what is about an entry leaves the base
  decided_fits Lease = leaves_fits
  decided_fits (Sent entry lease remote) = leaves_fits
  decided_fits (Failed entry lease forget) = leaves_fits

-- ---- an edit

-- the base after a decision of a command
abbrev pub base_after : Base → Command → Decision → Base
base_after base c d = record (changed d.change base) { serial = serial_then base.serial (draws_number c) }

-- what was within its limit is so still
abbrev pub StaysWithin : ℕ → ℕ → ℕ → Type 0
StaysWithin most before after = before ≤ most → after ≤ most

-- what holds of what every edit makes that is refused, and of what every decision that fits makes, holds of an edit
pub after_edit : (settings : Settings) (s : State) (c : ℕ × Command) (P : Result (Outcome × Base) Refusal → Type 0) → ((refusal : Refusal) → P (Err refusal))
    → ((d : Decision) → FitsCommand s.base c.1 d → StaysWithin settings.limits.serial s.base.serial (serial_then s.base.serial (draws_number c.1)) → P (Ok (d.outcome, base_after s.base c.1 d))) → P (edit settings.limits c.0 s.base c.1)
unfolding edit
after_edit settings s c P refused made =
    cond_both (is_allowed c.1) (edit_of settings.limits c.0 s.base c.1) (Err refusal.Forbidden) P (λ allowed. by_decision _ (decided_fits settings.limits c.0 (s.base.serial + 1) s.base c.1)) (λ forbidden. refused refusal.Forbidden)
  where
    most : ℕ
    most = settings.limits.serial

    ending : Decision → Result ℕ Refusal → Result (Outcome × Base) Refusal
    ending d r = r >>= λ serial. Ok (d.outcome, record (changed d.change s.base) { serial = serial })

    by_drawn : (d : Decision) (draws : Bool) → (StaysWithin most s.base.serial (serial_then s.base.serial draws) → P (ending d (Ok (serial_then s.base.serial draws)))) → P (ending d (drawn settings.limits s.base.serial draws))
    by_drawn d false is = is (λ within. within)
    by_drawn d true is =
        cond_both (nat_le most s.base.serial) (Err refusal.Exhausted) (Ok (s.base.serial + 1)) (λ r. P (ending d r)) (λ none. refused refusal.Exhausted) (λ left. is (λ within. let less = leb-false most s.base.serial left in omega (arith, less)))

    by_decision : (r : Result Decision Refusal) → IfOk r (FitsCommand s.base c.1) → P (r >>= numbered settings.limits (draws_number c.1) s.base)
    by_decision (Ok d) fits = by_drawn d (draws_number c.1) (made d fits)
    by_decision (Err refusal) fits = refused refusal

-- ---- a step

-- what is told of a decision
abbrev pub entries_by : Settings → State → ℕ × Command → Decision → List Entry
entries_by settings s c d = entries_then settings s c.0 (base_after s.base c.1 d)

-- the outbox with it, and the serial then
abbrev pub next_by : Settings → State → ℕ × Command → Decision → Outbox × ℕ
next_by settings s c d = with_further (serial_then s.base.serial (draws_number c.1)) (entries_by settings s c d) (kept_for (changed d.change s.base).portfolio.subs s.outbox)

-- the state after a decision
abbrev pub state_by : Settings → State → ℕ × Command → Decision → State
state_by settings s c d = record {
  base = record (changed d.change s.base) { serial = (next_by settings s c d).1 };
  stamps = (restamped_by s c.0 (base_after s.base c.1 d)).1;
  outbox = (next_by settings s c d).0;
}

-- a decision of an edit that fits and is answered
pub record IsAnswered (settings : Settings) (s : State) (c : ℕ × Command) (d : Decision) (a : Answer) : Type 0 where
  pub edits : is_delivery c.1 ≡ false
  pub fits : FitsCommand s.base c.1 d
  pub answers : answered_by d.outcome s.stamps (restamped_by s c.0 (base_after s.base c.1 d)) ≡ Ok a
  pub within : StaysWithin settings.limits.serial s.base.serial (next_by settings s c d).1

-- the serial does not fall by what is told
pub rises_on : (settings : Settings) (s : State) (c : ℕ × Command) (d : Decision) → serial_then s.base.serial (draws_number c.1) ≤ (next_by settings s c d).1
rises_on settings s c d = omega arith

-- entries are appended, where there are numbers and room
after_room : (settings : Settings) (s : State) (c : ℕ × Command) (d : Decision) (P : Result (Outbox × ℕ) Refusal → Type 0) → ((refusal : Refusal) → P (Err refusal))
    → (StaysWithin settings.limits.serial (serial_then s.base.serial (draws_number c.1)) (next_by settings s c d).1 → P (Ok (next_by settings s c d))) → P (outbox_then settings s c.0 (base_after s.base c.1 d))
after_room settings s c d P refused made =
    cond_both (length entries == 0) (Ok tt) _ (λ r. P (ending r)) (λ none. made (λ within. let is = (unsigned_Decides (length entries) 0).0 none in omega (arith, within, is)))
    (λ some. cond_both (nat_lt most (serial + length entries)) (Err refusal.Exhausted) _ (λ r. P (ending r)) (λ more. refused refusal.Exhausted)
    (λ left. cond_both (nat_lt settings.limits.pending (waiting + length entries)) (Err refusal.OutboxFull) (Ok tt) (λ r. P (ending r)) (λ full. refused refusal.OutboxFull)
    (λ room. made (λ within. ltb-false most (serial + length entries) left))))
  where
    most : ℕ
    most = settings.limits.serial

    serial : ℕ
    serial = serial_then s.base.serial (draws_number c.1)

    entries : List Entry
    entries = entries_by settings s c d

    kept : Outbox
    kept = kept_for (changed d.change s.base).portfolio.subs s.outbox

    waiting : ℕ
    waiting = length kept.entries

    ending : Result Unit Refusal → Result (Outbox × ℕ) Refusal
    ending r = r >>= λ _. Ok (with_further serial entries kept)

-- what every refusal leaves so, and every decision that fits and is answered makes so, and every command about an entry that is carried out, is so after a step
pub after_step : (settings : Settings) (s : State) (c : ℕ × Command) (P : Result (Answer × State) Refusal → Type 0) → ((refusal : Refusal) → P (Err refusal))
    → ((a : Answer) (o : Outbox) → is_delivery c.1 ≡ true → delivered settings.limits c.0 s.outbox c.1 ≡ Ok (a, o) → P (Ok (a, record s { outbox = o })))
    → ((d : Decision) (a : Answer) → IsAnswered settings s c d a → P (Ok (a, state_by settings s c d))) → P (step_at settings s c)
after_step settings s c P refused carried made =
    cond_both (is_delivery c.1) (delivery_step settings s c.0 c.1) (edit_step settings s c.0 c.1) P (λ is. by_delivered is _ refl)
    (λ edits. after_edit settings s c (λ r. P (r >>= λ e. committed settings s c.0 e.0 e.1)) refused (λ d fits within.
    after_room settings s c d (λ r. P (r >>= λ next. answered_by d.outcome s.stamps (restamped_by s c.0 (base_after s.base c.1 d)) >>= λ a. Ok (a, state_with d next))) refused (λ on.
    by d edits fits (λ first. on (within first)) (answered_by d.outcome s.stamps (restamped_by s c.0 (base_after s.base c.1 d))) refl)))
  where
    state_with : Decision → Outbox × ℕ → State
    state_with d next = record { base = record (base_after s.base c.1 d) { serial = next.1 }; stamps = (restamped_by s c.0 (base_after s.base c.1 d)).1; outbox = next.0 }

    by_delivered : is_delivery c.1 ≡ true → (r : Result (Answer × Outbox) Refusal) → delivered settings.limits c.0 s.outbox c.1 ≡ r → P (r >>= λ d. Ok (d.0, record s { outbox = d.1 }))
    by_delivered is (Ok d) done = carried d.0 d.1 is done
    by_delivered is (Err refusal) done = refused refusal

    by : (d : Decision) → is_delivery c.1 ≡ false → FitsCommand s.base c.1 d → StaysWithin settings.limits.serial s.base.serial (next_by settings s c d).1 → (r : Result Answer Refusal)
        → answered_by d.outcome s.stamps (restamped_by s c.0 (base_after s.base c.1 d)) ≡ r → P (r >>= λ a. Ok (a, state_by settings s c d))
    by d edits fits within (Ok a) is = made d a (record { edits = edits; fits = fits; answers = is; within = within })
    by d edits fits within (Err refusal) is = refused refusal

-- what holds of each command about an entry
pub of_delivery : (P : Command → Type 0) → P Lease → ((entry lease : ℕ) (remote : Option (List ℕ)) → P (Sent entry lease remote)) → ((entry lease : ℕ) (forget : Bool) → P (Failed entry lease forget)) → (c : Command) → is_delivery c ≡ true → P c
of_delivery P lease sent failed Lease is = lease
of_delivery P lease sent failed (Sent entry n remote) is = sent entry n remote
of_delivery P lease sent failed (Failed entry n forget) is = failed entry n forget
of_delivery P lease sent failed c is = absurd (let no : false ≡ true = is in cc)
