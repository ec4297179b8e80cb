-- Which sources a change of the base touches: a list that has each of which something else may be shown then.
use Rattle.std.specs.Prelude.{ℕ, Bool, true, false, not, ◌&&◌, ◌==◌, List, [], ◌∷◌, ◌++◌, map, filter, Option, None, Some, is_some, option_map, if◌then◌else◌}
use Rattle.std.specs.List.{list_any, filter_map, flat_map}
use Rattle.std.specs.Option.{option_map_or, option_to_list}
use Rattle.std.specs.Ordering.{nat_cmp}
use Rattle.std.specs.Str.{bytes_eq}
use Rattle.adr_objects.specs.declared.kind.Kind.{Kind}
use Rattle.adr_objects.specs.declared.kind.Kind.TheVariants as kind
use Rattle.adr_state.specs.declared.base.Base.{Base}
use Rattle.adr_state.specs.declared.base.Mark.{Mark}
use Rattle.adr_state.specs.declared.keys.MirrorKey.{MirrorKey}
use Rattle.adr_state.specs.declared.portfolio.Portfolio.{Portfolio}
use Rattle.adr_state.specs.declared.portfolio.Report.{Report}
use Rattle.adr_state.specs.BaseChanges.{BaseChange, JoinMarks, SetScan, ChangePortfolio}
use Rattle.adr_state.specs.Frozen.{is_frozen}
use Rattle.adr_state.specs.Keys.{mirror_cmp, share_cmp, at}
use Rattle.adr_state.specs.Marks.{is_below}
use Rattle.adr_state.specs.Portfolios.{PortfolioChange, PutVen, DropVen, PutResource, DropResource, PutShare, DropShare, PutReport, DropReport, PutSub, DropSub, Freeze, is_of_ven, reported_on}
use Rattle.adr_view.specs.Frozen.{freezing_differs}
use Rattle.adr_view.specs.Rollups.{event_key, event_body, event_at}
use Rattle.adr_refresh.specs.Sources.{Source, Upstream, Reported, RolledUp}

-- ---- evidence

-- the key of a mark that is above what is known of it
abbrev pub rises : List (MirrorKey × Mark) → MirrorKey × Mark → Option MirrorKey
rises mirror e = if is_below (at mirror_cmp e.0 mirror) e.1 then Some e.0 else None

-- the keys whose mark rises by evidence, once for each mark that is above what is known of them
abbrev pub rising : List (MirrorKey × Mark) → List (MirrorKey × Mark) → List MirrorKey
rising mirror marks = filter_map (rises mirror) marks

-- an event's roll-up hangs on its upstream key too
abbrev pub sources_by : Kind → List ℕ → List Source
sources_by kind.Program id = Upstream (record { kind = kind.Program; id = id }) ∷ []
sources_by kind.Event id = Upstream (event_key id) ∷ RolledUp id ∷ []

-- what is made of an upstream key
abbrev pub sources_at : MirrorKey → List Source
sources_at k = sources_by k.kind k.id

-- ---- the portfolio

-- whether a key is an event's
abbrev pub is_event : Kind → Bool
is_event kind.Program = false
is_event kind.Event = true

-- the program of an event that a mark says
abbrev pub program_of : Mark → Option (List ℕ)
program_of mark = option_map (λ event. event.program) (event_body (Some mark))

-- the id of a live event of a program that passes
abbrev pub live_in : (List ℕ → Bool) → MirrorKey × Mark → Option (List ℕ)
live_in passes e = if is_event e.0.kind && option_map_or passes (program_of e.1) false then Some e.0.id else None

-- the live events of programs that pass
abbrev pub events_in : (List ℕ → Bool) → Base → List (List ℕ)
events_in passes base = filter_map (live_in passes) base.mirror

-- whether a resource has a share in a program
abbrev pub shares_in : Portfolio → ℕ → List ℕ → Bool
shares_in p n program = is_some (at share_cmp (record { program = program; resource = n }) p.shares)

-- whether a resource of a ven has one
abbrev pub one_shares : Portfolio → ℕ → List ℕ → Bool
one_shares p ven program = list_any (λ r. (r.1.ven == ven) && shares_in p r.0 program) p.resources

-- those of events that are not frozen
abbrev pub not_frozen : Portfolio → List (List ℕ) → List (List ℕ)
not_frozen p ids = filter (λ id. not (is_frozen p id)) ids

-- the events in which a resource of a number that passes is frozen
abbrev pub events_frozen_in : (ℕ → Bool) → Portfolio → List (List ℕ)
events_frozen_in passes p = map (λ s. s.0.event) (filter (λ s. passes s.0.resource) p.frozen_shares)

-- whether a ven has a resource of that number
abbrev pub has_resource : Portfolio → ℕ → ℕ → Bool
has_resource p ven n = list_any (λ r. (r.1.ven == ven) && (r.0 == n)) p.resources

-- the live events of programs in which a resource has a share, and the events in which it is frozen
abbrev pub events_of_resource : ℕ → Base → List (List ℕ)
events_of_resource n base = events_in (shares_in base.portfolio n) base ++ events_frozen_in (λ m. m == n) base.portfolio

-- those of the resources of a ven
abbrev pub events_of_ven : ℕ → Base → List (List ℕ)
events_of_ven n base = events_in (one_shares base.portfolio n) base ++ events_frozen_in (has_resource base.portfolio n) base.portfolio

-- the live events of a program that are not frozen
abbrev pub events_by_share : List ℕ → Base → List (List ℕ)
events_by_share id base = not_frozen base.portfolio (events_in (λ program. bytes_eq program id) base)

-- whether a live event has other participants, or others' weights, once it is frozen with these pairs
abbrev pub freezing_touches : List ℕ → List (ℕ × ℕ) → Base → Bool
freezing_touches id pairs base = option_map_or (freezing_differs id pairs base.portfolio) (event_at base.mirror id) false

-- the event that is frozen with these pairs, where that changes who takes part in it
abbrev pub events_by_freezing : List ℕ → List (ℕ × ℕ) → Base → List (List ℕ)
events_by_freezing id pairs base = if freezing_touches id pairs base then id ∷ [] else []

-- the event that the report of a number is on, where there is one
abbrev pub event_reported : Portfolio → ℕ → List (List ℕ)
event_reported p n = option_to_list (option_map (λ (r : Report). r.body.head.event) (at nat_cmp n p.reports))

-- the reports on resources that go
abbrev pub report_by : (ℕ → Bool) → ℕ × Report → Option ℕ
report_by goes r = if goes (reported_on r) then Some r.0 else None

abbrev pub reports_by : (ℕ → Bool) → Portfolio → List ℕ
reports_by goes p = filter_map (report_by goes) p.reports

-- a share touches the live events of its program that are not frozen; a resource those of the programs in which it has a
-- share and those in which it is frozen, and a ven those of its resources; a report the events that the old one and the
-- new one are on; and a freeze its event alone, where the pairs are others than those of who takes part
abbrev pub events_touched : PortfolioChange → Base → List (List ℕ)
events_touched (PutVen n ven) base = events_of_ven n base
events_touched (DropVen n) base = events_of_ven n base
events_touched (PutResource n resource) base = events_of_resource n base
events_touched (DropResource n) base = events_of_resource n base
events_touched (PutShare key weight) base = events_by_share key.program base
events_touched (DropShare key) base = events_by_share key.program base
events_touched (PutReport n report) base = report.body.head.event ∷ event_reported base.portfolio n
events_touched (DropReport n) base = event_reported base.portfolio n
events_touched (PutSub n sub) base = []
events_touched (DropSub n) base = []
events_touched (Freeze id pairs) base = events_by_freezing id pairs base

-- a report touches itself, and a resource and a ven the reports that go with them
abbrev pub reports_touched : PortfolioChange → Base → List ℕ
reports_touched (DropVen n) base = reports_by (is_of_ven n base.portfolio.resources) base.portfolio
reports_touched (DropResource n) base = reports_by (λ m. m == n) base.portfolio
reports_touched (PutReport n report) base = n ∷ []
reports_touched (DropReport n) base = n ∷ []
reports_touched _ base = []

-- whether what the participants are shown of an event may change, and not its roll-up alone
abbrev pub is_shared : PortfolioChange → Bool
is_shared (PutReport n report) = false
is_shared (DropReport n) = false
is_shared _ = true

-- what the participants are shown of an event
abbrev pub upstream_event : List ℕ → Source
upstream_event id = Upstream (event_key id)

-- the events whose participants may be shown something else
abbrev pub shares_touched : PortfolioChange → Base → List Source
shares_touched c base = if is_shared c then map upstream_event (events_touched c base) else []

-- what an edit of the portfolio touches: events, reports and roll-ups
abbrev pub touched_by : PortfolioChange → Base → List Source
touched_by c base = shares_touched c base ++ map Reported (reports_touched c base) ++ map RolledUp (events_touched c base)

-- ---- any change

-- what a change of the base touches: evidence the keys whose mark rises, a scan nothing
abbrev pub touched : BaseChange → Base → List Source
touched (JoinMarks marks scan) base = flat_map sources_at (rising base.mirror marks)
touched (SetScan scan) base = []
touched (ChangePortfolio c) base = touched_by c base
