use Rattle.std.proofs.Common.{sym, subst}
use Rattle.adr_state.specs.Fitting.{Fits}
use Rattle.adr_machine.proofs.Fitting.{empty_fits}
use Rattle.adr_machine.proofs.plain.PlainDesk.new.Goals as goal

-- the state at first fits
pub held-requires : goal.held-requires
held-requires c = subst Fits (sym c.new.ensures) empty_fits
