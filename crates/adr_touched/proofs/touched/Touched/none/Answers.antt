use Rattle.adr_touched.proofs.Stands.{none_covers}
use Rattle.adr_touched.proofs.touched.Touched.none.Goals as goal

pub returns-clause-covers : goal.returns-clause-covers
returns-clause-covers c = rw (c.new.ensures, c.new-2.ensures, c.new-3.ensures, c.new-4.ensures) none_covers
