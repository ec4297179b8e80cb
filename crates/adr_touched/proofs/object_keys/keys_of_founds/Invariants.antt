use Rattle.std.proofs.Common.{◌≡◌, map, take}
use Rattle.adr_state.specs.Mirror.{key_of}
use Rattle.adr_touched.proofs.object_keys.keys_of_founds.Given as goal

-- those of the versions so far
abbrev pub invariant-founds : goal.invariant-founds
invariant-founds l = l.keys ≡ map key_of (take l.found-index l.founds)
