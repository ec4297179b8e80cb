use Rattle.std.proofs.Common.{◌≡◌, ◌++◌, drop}
use Rattle.std.specs.List.{filter_map}
use Rattle.adr_touched.specs.Touched.{id_at}
use Rattle.adr_touched.proofs.ordered.ids_among.Given as goal

-- the ids so far, and those of the keys that are left
abbrev pub invariant-keys : goal.invariant-keys
invariant-keys l = l.ids.items ++ filter_map (id_at l.kind) (drop l.key-index l.keys) ≡ filter_map (id_at l.kind) l.keys
