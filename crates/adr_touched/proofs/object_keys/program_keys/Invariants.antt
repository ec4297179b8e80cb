use Rattle.std.proofs.Common.{◌≡◌, map}
use Rattle.adr_kept_view.specs.declared.object.ObjectKey.TheVariants as object
use Rattle.adr_touched.proofs.object_keys.program_keys.Given as goal

-- those of the ids so far
abbrev pub invariant-ids : goal.invariant-ids
invariant-ids l = l.keys ≡ map object.Program l.yielded
