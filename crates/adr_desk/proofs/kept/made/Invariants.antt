use Rattle.adr_desk.proofs.kept.made.Given as goal

abbrev pub ghost-new : goal.ghost-new
ghost-new g a = g.K.Kept.kept
