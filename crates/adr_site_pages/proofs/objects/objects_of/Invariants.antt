use Rattle.std.proofs.Common.{◌≡◌, map}
use Rattle.adr_site_pages.proofs.objects.objects_of.Given as goal

-- those of the rows so far
abbrev pub invariant-rows : goal.invariant-rows
invariant-rows g l = l.objects ≡ map g.T.Told.object l.yielded
