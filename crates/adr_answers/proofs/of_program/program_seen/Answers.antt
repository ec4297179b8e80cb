use Rattle.std.proofs.Common.{Ok, refl, sym, ap, subst, ◌∙◌, arith}
use Rattle.adr_db.proofs.Common.{at, mirror_cmp}
use Rattle.adr_db.specs.BaseCalls.{Refuses}
use Rattle.adr_answers.specs.Calls.{FindsOr}
use Rattle.adr_answers.specs.Told.{name_in, program_key, program_named}
use Rattle.adr_answers.proofs.Behind.{as_found, finds_then, refuses_then}
use Rattle.adr_answers.proofs.of_program.program_seen.Goals as goal

pub returns-in-None-clause-refuses : goal.returns-in-None-clause-refuses
returns-in-None-clause-refuses g c clean kept was =
    let name = c.in_ok-name.ensures.finds clean kept was in
    ap (program_named kept.stamps c.args.id.now) (sym name.0 ∙ c.in-None.is)

pub returns-in-Some-clause-finds : goal.returns-in-Some-clause-finds
returns-in-Some-clause-finds g c =
    let id = c.args.id.now in
    finds_then g.S.Store c.args.tx.now.conn.now c.program_name.new.tx.conn.now c.stamped.new.tx.conn.now _ (λ kept. Ok (name_in (at mirror_cmp (program_key id) kept.mirror))) (λ kept name. program_named kept.stamps id name)
    (λ kept was. refl) (λ clean. omega (arith, clean, c.stamped.ensures.lent.stays.crash.clean)) c.in_ok-name.name (as_found g.S.Store c.args.tx.now.conn.now c.program_name.new.tx.conn.now (λ kept. name_in (at mirror_cmp (program_key id) kept.mirror)) c.in_ok-name.name c.in_ok-name.ensures.finds) c.stamped.result
    (subst (λ name. FindsOr g.S.Store c.program_name.new.tx.conn.now c.stamped.new.tx.conn.now (λ kept. program_named kept.stamps id name) c.stamped.result) (sym c.in-Some.is) c.stamped.ensures.finds)

pub returns-in-Some-clause-refuses : goal.returns-in-Some-clause-refuses
returns-in-Some-clause-refuses g c =
    let id = c.args.id.now in
    refuses_then g.S.Store c.args.tx.now.conn.now c.program_name.new.tx.conn.now c.stamped.new.tx.conn.now _ (λ kept. Ok (name_in (at mirror_cmp (program_key id) kept.mirror))) (λ kept name. program_named kept.stamps id name)
    (λ kept was. refl) (λ clean. omega (arith, clean, c.stamped.ensures.lent.stays.crash.clean)) c.in_ok-name.name (as_found g.S.Store c.args.tx.now.conn.now c.program_name.new.tx.conn.now (λ kept. name_in (at mirror_cmp (program_key id) kept.mirror)) c.in_ok-name.name c.in_ok-name.ensures.finds) c.stamped.result
    (subst (λ name. Refuses g.S.Store c.program_name.new.tx.conn.now c.stamped.new.tx.conn.now (λ kept. program_named kept.stamps id name) c.stamped.result) (sym c.in-Some.is) c.stamped.ensures.refuses)
