-- What every shown event and every roll-up keeps, by the types of its parts.
use Rattle.std.specs.Prelude.{◌≤◌, length, All, IfSome, IsTrue}
use Rattle.adr_text.specs.Ids.{is_id}
use Rattle.adr_text.specs.Names.{is_name}
use Rattle.adr_text.specs.Fields.{is_i32, is_i64}
use Rattle.adr_objects.specs.declared.shown.ShownInterval.{ShownInterval}
use Rattle.adr_objects.specs.declared.shown.ShownEvent.{ShownEvent}
use Rattle.adr_objects.specs.declared.report.RollupInterval.{RollupInterval}
use Rattle.adr_objects.specs.declared.report.Rollup.{Rollup}
use Rattle.adr_objects.specs.Limits.{most_priority}
use Rattle.adr_objects.specs.Bodies.{IsPeriod}

-- an id in 32 bits, and a part in 64
pub record IsShownInterval (i : ShownInterval) : Type 0 where
  pub id : IsTrue (is_i32 i.id)
  pub period : IfSome i.period IsPeriod
  pub part : IfSome i.part (λ amount. IsTrue (is_i64 amount))

-- an object id as its program, a name of at most 256 bytes, a priority of at most 2^31 - 1, and its period and
-- intervals within their bounds, where name, priority and period may be absent; and as the names of the ven and of
-- the resource 1 to 128 bytes each
pub record IsShown (e : ShownEvent) : Type 0 where
  pub program : IsTrue (is_id e.program)
  pub name : IfSome e.name (λ text. length text ≤ 256)
  pub priority : IfSome e.priority (λ rank. rank ≤ most_priority)
  pub period : IfSome e.period IsPeriod
  pub intervals : All IsShownInterval e.intervals
  pub ven_name : IsTrue (is_name e.ven_name)
  pub resource_name : IsTrue (is_name e.resource_name)

-- an id in 32 bits, a sum in 64, and names of 1 to 128 bytes
pub record IsRollupInterval (i : RollupInterval) : Type 0 where
  pub id : IsTrue (is_i32 i.id)
  pub sum : IsTrue (is_i64 i.sum)
  pub missing : All (λ name. IsTrue (is_name name)) i.missing

-- an object id as its program, and intervals within their bounds
pub record IsRollup (r : Rollup) : Type 0 where
  pub program : IsTrue (is_id r.program)
  pub intervals : All IsRollupInterval r.intervals
