use Rattle.adr_lent_image.proofs.gathering.lent_table.Goals as goal

pub returns-clause-lends : goal.returns-clause-lends
returns-clause-lends g c clean = rw c.new.ensures at (c.gather_all.ensures.lends clean)
