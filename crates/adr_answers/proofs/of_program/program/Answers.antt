use Rattle.std.proofs.Common.{arith}
use Rattle.adr_db.proofs.Common.{state}
use Rattle.adr_db.specs.Images.{image_kept}
use Rattle.adr_queries.specs.Roles.{sight_of}
use Rattle.adr_queries.specs.Shown.{program_reply}
use Rattle.adr_answers.specs.Told.{program_known}
use Rattle.adr_answers.proofs.Behind.{refused_first, finds_then, refuses_then}
use Rattle.adr_answers.proofs.ProgramLemmas.{program_replied}
use Rattle.adr_answers.proofs.of_program.program.Goals as goal

pub returns-in_err-sight_in-clause-refuses : goal.returns-in_err-sight_in-clause-refuses
returns-in_err-sight_in-clause-refuses g c =
    let old = c.args.tx.now.conn.now in
    let role = c.args.role.now in
    let id = c.args.id.now in
    refused_first g.S.Store old c.sight_in.new.tx.conn.now c.sight_in.new.tx.conn.now (λ kept. program_reply (image_kept kept) role id) (λ kept. sight_of (image_kept kept).base role) (λ kept sight. program_known kept.mirror kept.stamps id)
    (λ kept was. program_replied kept (state g.S.Store old) was role id) c.from_residual.result c.in_err-sight_in.field-0.0 c.from_residual.ensures.1 c.in_err-sight_in.ensures.refuses

pub returns-clause-finds : goal.returns-clause-finds
returns-clause-finds g c =
    let old = c.args.tx.now.conn.now in
    let role = c.args.role.now in
    let id = c.args.id.now in
    finds_then g.S.Store old c.sight_in.new.tx.conn.now c.program_seen.new.tx.conn.now (λ kept. program_reply (image_kept kept) role id) (λ kept. sight_of (image_kept kept).base role) (λ kept sight. program_known kept.mirror kept.stamps id)
    (λ kept was. program_replied kept (state g.S.Store old) was role id) (λ clean. omega (arith, clean, c.program_seen.ensures.lent.stays.crash.clean)) c.in_ok-sight_in.field-0 c.in_ok-sight_in.ensures.finds c.program_seen.result c.program_seen.ensures.finds

pub returns-clause-refuses : goal.returns-clause-refuses
returns-clause-refuses g c =
    let old = c.args.tx.now.conn.now in
    let role = c.args.role.now in
    let id = c.args.id.now in
    refuses_then g.S.Store old c.sight_in.new.tx.conn.now c.program_seen.new.tx.conn.now (λ kept. program_reply (image_kept kept) role id) (λ kept. sight_of (image_kept kept).base role) (λ kept sight. program_known kept.mirror kept.stamps id)
    (λ kept was. program_replied kept (state g.S.Store old) was role id) (λ clean. omega (arith, clean, c.program_seen.ensures.lent.stays.crash.clean)) c.in_ok-sight_in.field-0 c.in_ok-sight_in.ensures.finds c.program_seen.result c.program_seen.ensures.refuses
