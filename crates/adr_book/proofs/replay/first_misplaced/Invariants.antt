use Rattle.std.specs.Prelude.{All, take}
use Rattle.adr_book.specs.Receipts.{HasPlace}
use Rattle.adr_book.proofs.replay.first_misplaced.Given as goal

abbrev pub invariant-loop-receipt : goal.invariant-loop-receipt
invariant-loop-receipt l = All (HasPlace l.since l.trail l.answers) (take l.receipt-index l.receipts)
