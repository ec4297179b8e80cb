-- Whoever refreshes all that a change touches refreshes all that is not shown as before.
use Rattle.std.proofs.Common.{List}
use Rattle.adr_state.specs.BaseChanges.{BaseChange, changed}
use Rattle.adr_refresh.specs.Sources.{Source}
use Rattle.adr_refresh.specs.Touched.{touched}
use Rattle.adr_refresh.specs.Laws.{HasAllThatDiffer, TouchedIsEnough}
use Rattle.adr_refresh.proofs.Common.{Base, Contains}
use Rattle.adr_refresh.proofs.OtherLemmas.{others_as_before}
use Rattle.adr_refresh.proofs.RefreshLemmas.{refreshed_as_computed}

all_that_differ : (c : BaseChange) (base : Base) (ss : List Source) → ((s : Source) → Contains (touched c base) s → Contains ss s) → HasAllThatDiffer base (changed c base) ss
all_that_differ c base ss all s free = others_as_before c base s (λ there. free (all s there))

pub touched_enough : TouchedIsEnough
touched_enough c base now stamps ss stands_before stands all stamped = refreshed_as_computed base (changed c base) now stamps ss stands_before stands (all_that_differ c base ss all) stamped
