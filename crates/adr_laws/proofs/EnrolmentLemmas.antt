-- A new ven and a new resource have a number that is of nothing yet, so they touch nothing that is shown.
use Rattle.std.proofs.Common.{◌≡◌, ◌≢◌, ℕ, ◌+◌, ◌≤◌, ◌==◌, nat_le, Bool, true, false, cond, ◌&&◌, ◌||◌, List, [], ◌∷◌, ◌++◌, map, Option, Some, None, Result, Ok, Err, IfOk, IfErr, refl, ap, ap₂, subst, ◌∙◌, eqb-true, arith}
use Rattle.std.specs.Prelude.{is_some}
use Rattle.std.specs.List.{filter_map}
use Rattle.std.specs.Option.{option_map_or}
use Rattle.adr_text.specs.Refusals.{◌>>=◌, or_else}
use Rattle.adr_text.specs.declared.refusal.Refusal.TheVariants.{Conflict, Exhausted, Forbidden, LimitReached, NotFound, OutboxFull}
use Rattle.adr_objects.specs.declared.site.ResourceIn.{ResourceIn}
use Rattle.adr_objects.specs.declared.site.VenIn.{VenIn}
use Rattle.adr_state.specs.declared.base.Mark.{Mark}
use Rattle.adr_state.specs.declared.keys.FrozenKey.{FrozenKey}
use Rattle.adr_state.specs.declared.keys.MirrorKey.{MirrorKey}
use Rattle.adr_state.specs.declared.keys.ShareKey.{ShareKey}
use Rattle.adr_state.specs.declared.portfolio.Portfolio.{Portfolio}
use Rattle.adr_state.specs.declared.portfolio.Resource.{Resource}
use Rattle.adr_state.specs.declared.portfolio.Ven.{Ven}
use Rattle.adr_state.specs.Portfolios.{PortfolioChange, PutVen, PutResource}
use Rattle.adr_state.specs.Resources.{putting_resource}
use Rattle.adr_state.specs.Stamping.{fresh}
use Rattle.adr_state.specs.Vens.{putting_ven, ven_at}
use Rattle.adr_view.specs.Changes.{changes}
use Rattle.adr_view.specs.Laws.{StandsInOrder}
use Rattle.adr_view.specs.Views.{view}
use Rattle.adr_view.proofs.KeyLemmas.{share_exact}
use Rattle.adr_view.proofs.ListLemmas.{filter_alike}
use Rattle.adr_view.proofs.OrderLemmas.{in_order_put}
use Rattle.adr_view.proofs.RowLemmas.{each_there, row_found}
use Rattle.adr_refresh.specs.Sources.{Source, Reported, RolledUp, source_cmp}
use Rattle.adr_refresh.specs.Touched.{events_frozen_in, events_in, has_resource, is_event, live_in, one_shares, program_of, shares_in, touched_by, upstream_event}
use Rattle.adr_refresh.proofs.Common.{cons_option}
use Rattle.adr_refresh.proofs.EditLemmas.{edits_leave_others}
use Rattle.adr_refresh.proofs.ListLemmas.{false_unless}
use Rattle.adr_refresh.proofs.TurnLemmas.{changes_in_their_turn}
use Rattle.adr_queries.specs.declared.answer.Answer.{Answer}
use Rattle.adr_queries.specs.declared.role.Role.{Role}
use Rattle.adr_queries.proofs.Refuses.{Refuses, first_then, never}
use Rattle.adr_machine.specs.declared.command.Command.TheVariants.{VenAdd, ResourceAdd}
use Rattle.adr_machine.specs.declared.outcome.Outcome.{Outcome}
use Rattle.adr_machine.specs.declared.outcome.Outcome.TheVariants as outcome
use Rattle.adr_machine.specs.Edits.{edit, is_allowed, is_delivery, numbered, of_portfolio, resource_outcome, ven_outcome}
use Rattle.adr_machine.specs.Steps.{changes_of, committed, outbox_then}
use Rattle.adr_laws.specs.Enrolment.{enrols, ShowsNothing, EnrolmentShowsNothing}
use Rattle.adr_laws.proofs.Common.{All, All-head, All-tail, Base, ChangePortfolio, Command, Contains, Contains-from_lookup, IsStrictlySortedBy, Refusal, Settings, State, at, changed, empty, if_new, is_full, is_taken, list_any, nat_cmp_total, resource_name, share_cmp, tells_apart, ven_name}
use Rattle.adr_laws.proofs.PortfolioLemmas.{Whole, after, rows_in_order, whole_after}
use Rattle.adr_laws.proofs.StampLemmas.{same_view}

-- ---- what touches nothing

-- no live event is of a program that passes, where none passes
module _ (passes : List ℕ → Bool) (nowhere : (program : List ℕ) → passes program ≡ false) where
  live_nowhere : (e : MirrorKey × Mark) → live_in passes e ≡ None
  live_nowhere e = by (is_event e.0.kind) (program_of e.1)
    where
      by : (event : Bool) (program : Option (List ℕ)) → cond {A = Option (List ℕ)} (event && option_map_or passes program false) (Some e.0.id) None ≡ None
      by false program = refl
      by true None = refl
      by true (Some program) = ap (λ passed. cond {A = Option (List ℕ)} passed (Some e.0.id) None) (nowhere program)

  no_events : (es : List (MirrorKey × Mark)) → filter_map (live_in passes) es ≡ []
  no_events [] = refl
  no_events (e ∷ es) = ap₂ cons_option (live_nowhere e) (no_events es)

none_sorted : IsStrictlySortedBy source_cmp []
unfolding IsStrictlySortedBy
none_sorted = tt

-- an edit that touches nothing changes nothing that is shown, whatever number was drawn
untouched : (base : Base) (change : PortfolioChange) (serial : ℕ) → touched_by change base ≡ [] → StandsInOrder base → StandsInOrder (changed (ChangePortfolio change) base)
    → changes (view base) (view (record (changed (ChangePortfolio change) base) { serial = serial })) ≡ []
untouched base change serial none stands stood =
    ap (changes (view base)) (same_view (changed (ChangePortfolio change) base) serial)
    ∙ changes_in_their_turn base (changed (ChangePortfolio change) base) [] stands stood none_sorted (λ s out. edits_leave_others change base s (λ there. out (subst (λ (ss : List Source). Contains ss s) none there)))

-- ---- what is of the next number

module _ (first base : Base) (whole : Whole first base) (stands : StandsInOrder base) where
  abbrev next : ℕ
  next = base.serial + 1

  drawn_before : (n : ℕ) → n ≤ base.serial → (n == next) ≡ false
  drawn_before n low = false_unless (n == next) (λ same. let is : n ≡ next = eqb-true n next same in omega (arith, low, is))

  -- no resource is of the ven of that number
  of_others : (r : ℕ × Resource) → Contains base.portfolio.resources r → (r.1.ven == next) ≡ false
  of_others r there =
      let ven = row_found r.1.ven base.portfolio.vens (whole.0.1.0 r there) in
      drawn_before r.1.ven (whole.0.0.ones.drawn (r.1.ven, ven.0) ven.1).up_to_the_serial

  none_of_it : (test : ℕ × Resource → Bool) (rs : List (ℕ × Resource)) → All (λ r. (r.1.ven == next) ≡ false) rs → list_any (λ r. (r.1.ven == next) && test r) rs ≡ false
  none_of_it test [] all = refl
  none_of_it test (r ∷ rs) all = ap₂ (λ its others. (its && test r) || others) (All-head (λ r. (r.1.ven == next) ≡ false) r rs all) (none_of_it test rs (All-tail (λ r. (r.1.ven == next) ≡ false) r rs all))

  -- none at all
  none_its : (test : ℕ × Resource → Bool) → list_any (λ r. (r.1.ven == next) && test r) base.portfolio.resources ≡ false
  none_its test = none_of_it test base.portfolio.resources (each_there (λ r. (r.1.ven == next) ≡ false) base.portfolio.resources of_others)

  -- and no share is of the resource of that number
  no_share : (program : List ℕ) → shares_in base.portfolio next program ≡ false
  no_share program = by (at share_cmp key base.portfolio.shares) refl
    where
      key : ShareKey
      key = record { program = program; resource = next }

      by : (o : Option ℕ) → at share_cmp key base.portfolio.shares ≡ o → is_some o ≡ false
      by None is = refl
      by (Some weight) is =
          let resource = row_found next base.portfolio.resources (whole.0.1.1 (key, weight) (Contains-from_lookup (tells_apart share_exact) key weight base.portfolio.shares is)) in
          let low = (whole.0.0.others.drawn (next, resource.0) resource.1).up_to_the_serial in
          absurd (omega (arith, low))

  -- and none is frozen
  not_frozen : (s : FrozenKey × ℕ) → Contains base.portfolio.frozen_shares s → (s.0.resource == next) ≡ false
  not_frozen s there =
      let resource = row_found s.0.resource base.portfolio.resources (whole.0.1.3.have_resources s there) in
      drawn_before s.0.resource (whole.0.0.others.drawn (s.0.resource, resource.0) resource.1).up_to_the_serial

  none_frozen : (passes : ℕ → Bool) → ((s : FrozenKey × ℕ) → Contains base.portfolio.frozen_shares s → passes s.0.resource ≡ false) → events_frozen_in passes base.portfolio ≡ []
  none_frozen passes none =
      ap (map (λ (s : FrozenKey × ℕ). s.0.event)) (filter_alike (λ s. passes s.0.resource) false base.portfolio.frozen_shares (each_there (λ s. passes s.0.resource ≡ false) base.portfolio.frozen_shares none))

  none_touched : (passes : List ℕ → Bool) (frozen : ℕ → Bool) → ((program : List ℕ) → passes program ≡ false) → ((s : FrozenKey × ℕ) → Contains base.portfolio.frozen_shares s → frozen s.0.resource ≡ false)
      → map upstream_event (events_in passes base ++ events_frozen_in frozen base.portfolio) ++ map Reported [] ++ map RolledUp (events_in passes base ++ events_frozen_in frozen base.portfolio) ≡ []
  none_touched passes frozen nowhere none = ap (λ (ids : List (List ℕ)). map upstream_event ids ++ map Reported [] ++ map RolledUp ids) (ap₂ ◌++◌ (no_events passes nowhere base.mirror) (none_frozen frozen none))

  ven_shows_nothing : (ven : Ven) → changes (view base) (view (record (changed (ChangePortfolio (PutVen next ven)) base) { serial = next })) ≡ []
  ven_shows_nothing ven =
      untouched base (PutVen next ven) next (none_touched (one_shares base.portfolio next) (has_resource base.portfolio next) (λ program. none_its (λ r. shares_in base.portfolio r.0 program)) (λ s there. none_its (λ r. r.0 == s.0.resource)))
      stands (record { upstream_keys = stands.upstream_keys; resources = stands.resources; reports = stands.reports })

  resource_shows_nothing : (resource : Resource) → changes (view base) (view (record (changed (ChangePortfolio (PutResource next resource)) base) { serial = next })) ≡ []
  resource_shows_nothing resource =
      untouched base (PutResource next resource) next (none_touched (shares_in base.portfolio next) (λ m. m == next) no_share not_frozen)
      stands (record { upstream_keys = stands.upstream_keys; resources = in_order_put nat_cmp_total next resource base.portfolio.resources stands.resources; reports = stands.reports })

-- ---- what is answered

-- what is made is told, and nothing that is shown changes; and it is not refused for want of room
record IsUnseen (base : Base) (r : Result (Outcome × Base) Refusal) : Type 0 where
  ok : IfOk r (λ e. (changes (view base) (view e.1) ≡ []) × (a : Answer) × (e.0 ≡ outcome.Told a))
  err : IfErr r (λ refusal. refusal ≢ OutboxFull)

refused_unseen : (base : Base) (e : Refusal) → e ≢ OutboxFull → IsUnseen base (Err e)
refused_unseen base e other = record { ok = tt; err = other }

allowed_unseen : (base : Base) (allowed : Bool) (r : Result (Outcome × Base) Refusal) → IsUnseen base r → IsUnseen base (cond allowed r (Err Forbidden))
allowed_unseen base true r unseen = unseen
allowed_unseen base false r unseen = refused_unseen base Forbidden (λ is. absurd cc)

-- what is new is given a number, where there is room for it and a number is left
numbered_unseen : {A : Type 0} (base : Base) (comes : A → Outcome) (x : A) (change : PortfolioChange) (a : Answer) → comes x ≡ outcome.Told a
    → changes (view base) (view (record (changed (ChangePortfolio change) base) { serial = base.serial + 1 })) ≡ [] → (taken full past : Bool)
    → IsUnseen base (of_portfolio comes (if_new taken full (x, change)) >>= λ d. cond {A = Result ℕ Refusal} past (Err Exhausted) (Ok (base.serial + 1)) >>= λ serial. Ok (d.outcome, record (changed d.change base) { serial = serial }))
numbered_unseen base comes x change a is same true full past = refused_unseen base Conflict (λ it. absurd cc)
numbered_unseen base comes x change a is same false true past = refused_unseen base LimitReached (λ it. absurd cc)
numbered_unseen base comes x change a is same false false true = refused_unseen base Exhausted (λ it. absurd cc)
numbered_unseen base comes x change a is same false false false = record { ok = (same, a, is); err = tt }

-- it finds room, since there is nothing to tell
room_found : (settings : Settings) (s : State) (now : ℕ) (after : Base) → changes_of s after ≡ [] → Refuses (λ refusal. refusal ≢ OutboxFull) (outbox_then settings s now after)
room_found settings s now after same = rw same (never (λ refusal. refusal ≢ OutboxFull) _)

committed_so : (settings : Settings) (s : State) (now : ℕ) (r : Result (Outcome × Base) Refusal) → IsUnseen s.base r → IfErr (r >>= λ e. committed settings s now e.0 e.1) (λ refusal. refusal ≢ OutboxFull)
committed_so settings s now (Err e) unseen = unseen.err
committed_so settings s now (Ok e) unseen =
    (first_then (λ refusal. refusal ≢ OutboxFull) (outbox_then settings s now e.1) _ (room_found settings s now e.1 unseen.ok.0) (λ next. rw unseen.ok.2 (never (λ refusal. refusal ≢ OutboxFull) _))).so

-- so a step of a command that is no delivery is not refused so
of_unseen : (settings : Settings) (s : State) (now : ℕ) (c : Command) → IsUnseen s.base (edit settings.limits now s.base c) → is_delivery c ≡ false → ShowsNothing settings s now c
of_unseen settings s now c unseen other = record {
  unchanged = changes_so (edit settings.limits now s.base c) unseen;
  finds_room = rw other (committed_so settings s now (edit settings.limits now s.base c) unseen);
}
  where
    changes_so : (r : Result (Outcome × Base) Refusal) → IsUnseen s.base r → IfOk r (λ e. changes_of s e.1 ≡ [])
    changes_so (Ok e) unseen = unseen.ok.0
    changes_so (Err e) unseen = tt

-- ---- both commands

module _ (settings : Settings) (s : State) (now : ℕ) (first : Base) (whole : Whole first s.base) (stands : StandsInOrder s.base) where
  abbrev p : Portfolio
  p = s.base.portfolio

  abbrev past : Bool
  past = nat_le settings.limits.serial s.base.serial

  ven_unseen : (role : Role) (ven : VenIn) → IsUnseen s.base (edit settings.limits now s.base (VenAdd role ven))
  unfolding edit
  ven_unseen role ven =
      let new : Ven = record { name = ven.name; stamps = fresh now } in
      let x = putting_ven (s.base.serial + 1) new in
      allowed_unseen s.base (is_allowed (VenAdd role ven)) _
      (numbered_unseen s.base ven_outcome x.0 x.1 _ refl (ven_shows_nothing first s.base whole stands new) (is_taken ven_name ven.name p.vens) (is_full settings.limits.vens p.vens) past)

  resource_unseen : (role : Role) (id : List ℕ) (resource : ResourceIn) → IsUnseen s.base (edit settings.limits now s.base (ResourceAdd role id resource))
  unfolding edit
  resource_unseen role id resource =
      allowed_unseen s.base (is_allowed (ResourceAdd role id resource)) _ (by (ven_at id p))
    where
      by : (o : Option ℕ)
          → IsUnseen s.base (of_portfolio resource_outcome (or_else NotFound o >>= λ v. if_new (is_taken resource_name resource.name p.resources) (is_full settings.limits.resources p.resources) (putting_resource (s.base.serial + 1) (record { ven = v; name = resource.name; stamps = fresh now }))) >>= numbered settings.limits true s.base)
      by None = refused_unseen s.base NotFound (λ is. absurd cc)
      by (Some v) =
          let new : Resource = record { ven = v; name = resource.name; stamps = fresh now } in
          let x = putting_resource (s.base.serial + 1) new in
          numbered_unseen s.base resource_outcome x.0 x.1 _ refl (resource_shows_nothing first s.base whole stands new) (is_taken resource_name resource.name p.resources) (is_full settings.limits.resources p.resources) past

  shows_nothing : (c : Command) → enrols c ≡ true → ShowsNothing settings s now c
  shows_nothing (VenAdd role ven) is = of_unseen settings s now (VenAdd role ven) (ven_unseen role ven) refl
  shows_nothing (ResourceAdd role id resource) is = of_unseen settings s now (ResourceAdd role id resource) (resource_unseen role id resource) refl
  shows_nothing c is = absurd cc

pub enrolment_unseen : EnrolmentShowsNothing
enrolment_unseen settings cs now = shows_nothing settings (after settings cs) now empty.base (whole_after settings cs) (rows_in_order settings cs)
