use Rattle.std.proofs.Common.{◌≡◌, map, Some}
use Rattle.adr_pages.specs.Objects.{object_kept}
use Rattle.adr_pages.proofs.objects.all_told.Given as goal

abbrev pub invariant-rows : goal.invariant-rows
invariant-rows l = map Some l.objects ≡ map (object_kept l.stamps) l.yielded
