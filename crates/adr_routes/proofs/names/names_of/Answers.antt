use Rattle.std.proofs.Common.{rules, arith}
use Rattle.adr_routes.proofs.NameSteps.{name_pushed, names_done}
use Rattle.adr_routes.proofs.names.names_of.Goals as goal

pub loop-i-preserved : goal.loop-i-preserved
loop-i-preserved c =
    let least = c.min-most.ensures in
    let below = c.loop-i-test.true in
    name_pushed c.args.texts.now c.args.given.now c.loop-i.names.items _ c.loop-i.i _ _ _ (omega (arith, least, below)) (omega (arith, least, below)) c.in_ok-push_if.ensures c.loop-i.invariant

pub returns : goal.returns
returns c = names_done c.args.texts.now c.args.given.now _ _ c.loop-i.i c.min-most.result (search rules) c.loop-i-test.false c.loop-i.invariant
