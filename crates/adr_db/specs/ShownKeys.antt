-- The order of the keys of shown events.
use Rattle.std.specs.declared.cmp.Ordering.{Ordering}
use Rattle.std.specs.Ordering.{nat_cmp, ordering_then}
use Rattle.adr_state.specs.Keys.{id_cmp}
use Rattle.adr_db.specs.declared.shown.ShownKey.{ShownKey}

-- by the upstream event, and then by the number of the resource
abbrev pub shown_cmp : ShownKey → ShownKey → Ordering
shown_cmp a b = ordering_then (id_cmp a.event b.event) (nat_cmp a.resource b.resource)
