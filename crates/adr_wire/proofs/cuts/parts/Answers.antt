use Rattle.std.proofs.Common.{rules}
use Rattle.adr_wire.proofs.PartByPart.{one_part, last_part}
use Rattle.adr_wire.proofs.cuts.parts.Goals as goal

pub parts-preserved : goal.parts-preserved
parts-preserved c =
    one_part c.args.separator c.parts.rest.now c.args.bytes.now c.in-Some.behind.now c.parts.all.items c.push.new.self.items c.cut.result.0 c.cut.ensures.front (rw c.in-Some.is at c.cut.ensures.back) c.parts.invariant (search rules)

pub returns-in-None : goal.returns-in-None
returns-in-None c =
    last_part c.args.separator c.parts.rest.now c.args.bytes.now c.parts.all.items c.push.new.self.items c.cut.result.0 c.cut.ensures.front (rw c.in-None.is at c.cut.ensures.back) c.parts.invariant (search rules)
