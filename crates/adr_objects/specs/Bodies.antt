-- What every body keeps, by the types of its parts.
use Rattle.std.specs.Prelude.{◌≤◌, ℕ, List, length, All, IfSome, IsTrue, ⊤}
use Rattle.std.specs.Ordering.{nat_cmp}
use Rattle.std.specs.Cmp.Lexicographic.{slice_cmp}
use Rattle.std.specs.List.Sorted.{IsStrictlySortedBy}
use Rattle.adr_text.specs.Ids.{is_id}
use Rattle.adr_text.specs.Names.{is_name}
use Rattle.adr_text.specs.Fields.{is_i32}
use Rattle.adr_objects.specs.declared.interval.Period.{Period}
use Rattle.adr_objects.specs.declared.interval.Interval.{Interval}
use Rattle.adr_objects.specs.declared.body.EventBody.{EventBody}
use Rattle.adr_objects.specs.declared.body.Body.{Body}
use Rattle.adr_objects.specs.declared.body.Body.TheVariants.{Program, Event, Opaque}
use Rattle.adr_objects.specs.Limits.{is_setpoint, most_priority, most_intervals, most_names}
use Rattle.adr_objects.specs.Intervals.{differ}

-- texts of at most 64 bytes
pub record IsPeriod (p : Period) : Type 0 where
  pub start : length p.start ≤ 64
  pub duration : IfSome p.duration (λ text. length text ≤ 64)
  pub randomize_start : IfSome p.randomize_start (λ text. length text ≤ 64)

-- an id in 32 bits, and a setpoint of a magnitude of at most 10^12
pub record IsInterval (i : Interval) : Type 0 where
  pub id : IsTrue (is_i32 i.id)
  pub period : IfSome i.period IsPeriod
  pub setpoint : IfSome i.setpoint (λ amount. IsTrue (is_setpoint amount))

-- at most 1,000 intervals, with ids of their own
pub record AreIntervals (intervals : List Interval) : Type 0 where
  pub few : length intervals ≤ most_intervals
  pub apart : IsTrue (differ (λ i. i.id) intervals)
  pub each : All IsInterval intervals

-- at most 10,000 names of 1 to 128 bytes, ascending by bytes
pub record AreNames (names : List (List ℕ)) : Type 0 where
  pub few : length names ≤ most_names
  pub ascend : IsStrictlySortedBy (slice_cmp nat_cmp) names
  pub each : All (λ name. IsTrue (is_name name)) names

-- of an event: an object id as its program, a name of at most 256 bytes, a priority of at most 2^31 - 1, and its
-- period, resource names and intervals within their bounds, where all but the program and the intervals may be absent
pub record IsEvent (e : EventBody) : Type 0 where
  pub program : IsTrue (is_id e.program)
  pub name : IfSome e.name (λ text. length text ≤ 256)
  pub priority : IfSome e.priority (λ rank. rank ≤ most_priority)
  pub period : IfSome e.period IsPeriod
  pub resource_names : IfSome e.resource_names AreNames
  pub intervals : AreIntervals e.intervals

-- what a body keeps by the types of its parts: a program's name has 1 to 128 bytes, an event is as `IsEvent` says,
-- and of a body that is kept unread nothing is asked
abbrev pub IsBody : Body → Type 0
IsBody (Program name) = IsTrue (is_name name)
IsBody (Event event) = IsEvent event
IsBody (Opaque reason) = ⊤
