use Rattle.std.proofs.Common.{subst, sym}
use Rattle.std.proofs.lemmas.List.{take_all}
use Rattle.std.proofs.lemmas.List.Elements.{All-more, All-same}
use Rattle.adr_book.specs.Receipts.{HasPlace}
use Rattle.adr_book.proofs.replay.first_misplaced.Goals as goal

pub loop-receipt-preserved : goal.loop-receipt-preserved
loop-receipt-preserved c =
    let P = HasPlace c.args.since c.args.trail.now c.args.answers.now in
    All-more P c.args.receipts.now c.loop-receipt.receipt-index c.receipt-item.result c.loop-receipt-test.true c.loop-receipt.invariant
    (subst P c.receipt-item.is (c.has_place.ensures.0 c.if-not-has_place.false))

pub returns-clause-none : goal.returns-clause-none
returns-clause-none c =
    let P = HasPlace c.args.since c.args.trail.now c.args.answers.now in
    let xs = c.args.receipts.now in
    All-same P xs _ (sym (take_all c.loop-receipt.receipt-index xs c.loop-receipt-test.false)) c.loop-receipt.invariant
