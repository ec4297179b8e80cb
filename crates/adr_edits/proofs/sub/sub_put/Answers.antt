use Rattle.std.proofs.Common.{refl}
use Rattle.adr_edits.proofs.sub.sub_put.Goals as goal

pub returns-clause-ok : goal.returns-clause-ok
returns-clause-ok c = rw (c.in_ok-number.ensures.ok, c.in_ok-object.ensures, c.in_ok-put.ensures.ok, c.modified_at.ensures) refl
