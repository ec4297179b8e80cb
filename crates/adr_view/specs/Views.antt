-- What is shown: each live program; for each live event that carries a setpoint, and each of its participants, that participant's parts; each report; and the roll-up of each live event of which usage was reported.
use Rattle.std.specs.Prelude.{ℕ, Bool, List, [], ◌∷◌, ◌++◌, map, Option, None, Some, is_some, option_map, option_and_then, slice_get, if◌then◌else◌}
use Rattle.std.specs.List.{list_any, flat_map, enumerate_from}
use Rattle.adr_split.specs.Parts.{fair_split}
use Rattle.adr_objects.specs.declared.kind.Kind.{Kind}
use Rattle.adr_objects.specs.declared.kind.Kind.TheVariants as kind
use Rattle.adr_objects.specs.declared.interval.Interval.{Interval}
use Rattle.adr_objects.specs.declared.body.EventBody.{EventBody}
use Rattle.adr_objects.specs.declared.body.Body.{Body}
use Rattle.adr_objects.specs.declared.body.Body.TheVariants as body
use Rattle.adr_objects.specs.declared.report.Rollup.{Rollup}
use Rattle.adr_objects.specs.declared.shown.ShownInterval.{ShownInterval}
use Rattle.adr_state.specs.declared.base.Base.{Base}
use Rattle.adr_state.specs.declared.base.Mark.{Mark}
use Rattle.adr_state.specs.declared.base.Mark.TheVariants.{Live, Dead}
use Rattle.adr_state.specs.declared.keys.MirrorKey.{MirrorKey}
use Rattle.adr_state.specs.declared.keys.ViewKey.{ViewKey}
use Rattle.adr_state.specs.declared.keys.ViewKey.TheVariants as key
use Rattle.adr_view.specs.declared.view.Content.{Content}
use Rattle.adr_view.specs.declared.view.Content.TheVariants as content
use Rattle.adr_state.specs.declared.participants.Participant.{Participant}
use Rattle.adr_view.specs.declared.parts.SplitInterval.{SplitInterval}
use Rattle.adr_state.specs.Keys.{mirror_cmp, view_cmp, at, map_of}
use Rattle.adr_state.specs.Participants.{participants}
use Rattle.adr_state.specs.declared.portfolio.Report.{Report}
use Rattle.adr_view.specs.Rollups.{event_key, event_body, rollup_of}

-- the weights of participants, in their order
abbrev pub weights_of : List Participant → List ℕ
weights_of ps = map (λ p. p.weight) ps

-- an interval with the fair split of its setpoint, where it carries one
abbrev pub split_interval : List ℕ → Interval → SplitInterval
split_interval weights i = record { id = i.id; period = i.period; parts = option_map (λ v. fair_split v weights) i.setpoint }

-- what the participant at a place is shown of an interval
abbrev pub interval_at : ℕ → SplitInterval → ShownInterval
interval_at place i = record { id = i.id; period = i.period; part = option_and_then (λ parts. slice_get parts place) i.parts }

-- what the participant at a place is shown of an event, at their key
abbrev pub event_row : List ℕ → EventBody → List SplitInterval → ℕ × Participant → ViewKey × Content
event_row id event intervals p = (
  key.Event id p.1.resource,
  content.Event (record {
    program = event.program;
    name = event.name;
    priority = event.priority;
    period = event.period;
    intervals = map (interval_at p.0) intervals;
    ven_name = p.1.ven_name;
    resource_name = p.1.name;
  }),
)

-- what the participants are shown of an event, over all of whom it is split
abbrev pub rows_for : List ℕ → EventBody → List Participant → List (ViewKey × Content)
rows_for id event ps = map (event_row id event (map (split_interval (weights_of ps)) event.intervals)) (enumerate_from 0 ps)

-- whether some interval of an event carries a setpoint
abbrev pub carries : EventBody → Bool
carries event = list_any (λ i. is_some i.setpoint) event.intervals

-- what the participants of an event are shown, where it carries a setpoint, else nothing
abbrev pub event_rows : Base → List ℕ → EventBody → List (ViewKey × Content)
event_rows base id event = if carries event then rows_for id event (participants base.portfolio id event) else []

-- what is shown of a program
abbrev pub program_rows : List ℕ → List ℕ → List (ViewKey × Content)
program_rows id name = (key.Program id, content.Program name) ∷ []

-- what is shown of a body at a key of its own kind, and nothing of one that is kept unread
abbrev pub body_rows : Base → Kind → List ℕ → Body → List (ViewKey × Content)
body_rows base kind.Program id (body.Program name) = program_rows id name
body_rows base kind.Event id (body.Event event) = event_rows base id event
body_rows base _ id _ = []

-- what is shown of an upstream key with its mark, but for a roll-up
abbrev pub mark_rows : Base → MirrorKey × Mark → List (ViewKey × Content)
mark_rows base (k, Live m b) = body_rows base k.kind k.id b
mark_rows base (k, Dead) = []

-- what is shown of an upstream key by what is known of it
abbrev pub rows_known : Base → MirrorKey → Option Mark → List (ViewKey × Content)
rows_known base k None = []
rows_known base k (Some mark) = mark_rows base (k, mark)

-- what is shown of an upstream event, and nothing where nothing is known of it
abbrev pub shown_of : Base → List ℕ → List (ViewKey × Content)
shown_of base id = rows_known base (event_key id) (at mirror_cmp (event_key id) base.mirror)

-- what is shown of a report: what it says, at the key of its number
abbrev pub report_row : ℕ × Report → ViewKey × Content
report_row r = (key.Report r.0, content.Report r.1.body)

-- what is shown of a roll-up, where there is one
abbrev pub rolled_up : List ℕ → Option Rollup → List (ViewKey × Content)
rolled_up id None = []
rolled_up id (Some rollup) = (key.Rollup id, content.Rollup rollup) ∷ []

-- what the mark of an upstream key says of an event, and nothing of a program
abbrev pub event_of : Kind → Mark → Option EventBody
event_of kind.Program mark = None
event_of kind.Event mark = event_body (Some mark)

-- the roll-up of an upstream key, where it is an event's that has one
abbrev pub rollup_rows : Base → MirrorKey × Mark → List (ViewKey × Content)
rollup_rows base e = rolled_up e.0.id (option_and_then (rollup_of base.portfolio e.0.id) (event_of e.0.kind e.1))

-- all that is shown: programs and events, then reports, and then roll-ups
abbrev pub rows_shown : Base → List (ViewKey × Content)
rows_shown base = flat_map (mark_rows base) base.mirror ++ map report_row base.portfolio.reports ++ flat_map (rollup_rows base) base.mirror

-- all that is shown, in the order of the keys: each live program's name, for each live event that carries a setpoint
-- and each of its participants that one's parts of the fair splits, what each report says, and the roll-up of each
-- live event that has one
unfoldable pub view : Base → List (ViewKey × Content)
view base = map_of view_cmp (rows_shown base)
