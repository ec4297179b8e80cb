use Rattle.std.proofs.Common.{◌∙◌, sym, arith}
use Rattle.adr_http.proofs.Tokens.{goes_on, all_seen}
use Rattle.adr_http.proofs.roles.is_same_token.Goals as goal

pub loop-i-preserved : goal.loop-i-preserved
loop-i-preserved c =
    goes_on c.args.one.now c.args.other.now c.loop-i.i c.loop-i.different (grind arith) (grind arith) ∙ c.loop-i.invariant

pub returns : goal.returns
returns c =
    sym (all_seen c.args.one.now c.args.other.now c.loop-i.i c.loop-i.different (grind arith) (grind arith)) ∙ c.loop-i.invariant
