use Rattle.std.proofs.Common.{◌≡◌, take}
use Rattle.adr_touched.proofs.touched.copies.Given as goal

-- those so far
abbrev pub invariant-ids : goal.invariant-ids
invariant-ids l = l.copies ≡ take l.id-index l.ids
