use Rattle.std.proofs.Common.{sym, ap, ◌∙◌, arith}
use Rattle.adr_db.proofs.Common.{state, HasCleanDisk, Mark, MirrorKey, mirror_cmp, at}
use Rattle.adr_mirror.specs.Raises.{is_raised}
use Rattle.adr_mirror.proofs.Rising.{raised_tells}
use Rattle.adr_mirror.proofs.Keeping.{keeps_same, keeps_raised}
use Rattle.adr_mirror.proofs.raise.raise.Goals as goal

pub returns-then-not-is_raised-clause-turns : goal.returns-then-not-is_raised-clause-turns
returns-then-not-is_raised-clause-turns g c clean kept was =
    let e : MirrorKey × Mark = (c.args.key.now, c.args.mark.now) in
    let found = c.in_ok-known.ensures.finds clean kept was in
    let is = c.in_ok-rise.ensures (at mirror_cmp e.0 kept.mirror) found.0 in
    let low = sym (raised_tells (at mirror_cmp e.0 kept.mirror) e.1) ∙ ap is_raised (sym is) ∙ sym c.is_raised.ensures ∙ c.if-not-is_raised.true in
    (is, keeps_same kept e (state g.S.Store c.read_mark.new.tx.conn.now) low found.1)

pub returns-clause-turns : goal.returns-clause-turns
returns-clause-turns g c clean kept was =
    let e : MirrorKey × Mark = (c.args.key.now, c.args.mark.now) in
    let early : HasCleanDisk (state g.S.Store c.read_mark.new.tx.conn.now) = omega (arith, c.put_mark.ensures.lent.stays.crash.clean) in
    let found = c.in_ok-known.ensures.finds early kept was in
    let is = c.in_ok-rise.ensures (at mirror_cmp e.0 kept.mirror) found.0 in
    let above = sym (raised_tells (at mirror_cmp e.0 kept.mirror) e.1) ∙ ap is_raised (sym is) ∙ sym c.is_raised.ensures ∙ c.if-not-is_raised.false in
    (is, keeps_raised kept e (state g.S.Store c.put_mark.new.tx.conn.now) above (c.in_ok-put_mark.ensures.leaves clean kept found.1))
