use Rattle.std.proofs.Common.{◌≡◌, true, false, sym, arith, ◌∙◌}
use Rattle.std.proofs.lemmas.Result.{IfErr-weaker}
use Rattle.adr_db.proofs.Common.{state, HasCleanDisk}
use Rattle.adr_db.proofs.Results.{handed_on, ok_then}
use Rattle.adr_db.specs.Bases.{kept_beside}
use Rattle.adr_kept_view.proofs.OrderLemmas.{held_in_order}
use Rattle.adr_machine.specs.Commands.{traits_of}
use Rattle.adr_machine.specs.Edits.{is_quiet}
use Rattle.adr_machine.specs.Listed.{listed}
use Rattle.adr_machine.proofs.Listed.{room_listed}
use Rattle.adr_desk.proofs.DecisionLemmas.{of_store}
use Rattle.adr_desk.proofs.ListedLemmas.{Listed, store_listed, room_or_store}
use Rattle.adr_desk.proofs.ToldLemmas.{beside_left, edited_still, told_so, refused_so, untold_so}
use Rattle.adr_desk.proofs.told.tell.Goals as goal

pub returns-in_err-drop_gone-clause-refuses : goal.returns-in_err-drop_gone-clause-refuses
returns-in_err-drop_gone-clause-refuses g c clean =
    let e = c.in_err-drop_gone.field-0.0 in
    handed_on _ c.from_residual.result e c.from_residual.ensures.1 (λ before after beside was it. of_store e _ c.in_err-drop_gone.ensures.refused)

pub returns-in_err-drop_gone-clause-listed : goal.returns-in_err-drop_gone-clause-listed
returns-in_err-drop_gone-clause-listed g c =
    let e = c.in_err-drop_gone.field-0.0 in
    handed_on (Listed (listed c.args.command.now)) c.from_residual.result e c.from_residual.ensures.1 (store_listed (listed c.args.command.now) e c.in_err-drop_gone.ensures.refused)

pub returns-then-is_quiet-clause-keeps : goal.returns-then-is_quiet-clause-keeps
returns-then-is_quiet-clause-keeps g c clean before after beside was it =
    let yes : is_quiet c.args.command.now ≡ true = sym c.is_quiet.ensures ∙ c.if-is_quiet.true in
    let lost = c.in_ok-drop_gone.ensures.drops clean (kept_beside beside after) was it.edited.waits it.addressed in
    let stands = held_in_order beside after (state g.S.Store c.args.tx.now.conn.now) was in
    untold_so c.args.settings.now before after beside c.args.now c.args.meta.now c.args.command.now c.args.touched.now it stands c.drop_gone.new.meta lost.counted (state g.S.Store c.drop_gone.new.tx.conn.now) (it.quiet yes) c.get-made.ensures.within lost.keeps

pub returns-clause-keeps : goal.returns-clause-keeps
returns-clause-keeps g c clean =
    let first : HasCleanDisk (state g.S.Store c.drop_gone.new.tx.conn.now) = omega (arith, clean, c.commit_touched.ensures.lent.stays.crash.clean) in
    ok_then c.commit_touched.result (λ many commits before after beside was it.
    let lost = c.in_ok-drop_gone.ensures.drops first (kept_beside beside after) was it.edited.waits it.addressed in
    let stands = held_in_order beside after (state g.S.Store c.args.tx.now.conn.now) was in
    let mid = c.drop_gone.new.meta in
    let left = beside_left c.args.settings.now before after beside c.args.now c.args.meta.now c.args.command.now c.args.touched.now it stands in
    let edited = edited_still c.args.settings.now before after beside c.args.now c.args.meta.now c.args.command.now c.args.touched.now it stands mid lost.counted in
    told_so c.args.settings.now before after beside c.args.now c.args.meta.now c.args.command.now c.args.touched.now it stands mid lost.counted c.commit_touched.new.meta many (state g.S.Store c.commit_touched.new.tx.conn.now) (commits before after left lost.keeps edited))
    (c.commit_touched.ensures.commits clean)

pub returns-clause-refuses : goal.returns-clause-refuses
returns-clause-refuses g c clean =
    let first : HasCleanDisk (state g.S.Store c.drop_gone.new.tx.conn.now) = omega (arith, clean, c.commit_touched.ensures.lent.stays.crash.clean) in
    IfErr-weaker c.commit_touched.result _ _ (λ e refuses before after beside was it.
    let lost = c.in_ok-drop_gone.ensures.drops first (kept_beside beside after) was it.edited.waits it.addressed in
    let stands = held_in_order beside after (state g.S.Store c.args.tx.now.conn.now) was in
    let mid = c.drop_gone.new.meta in
    let left = beside_left c.args.settings.now before after beside c.args.now c.args.meta.now c.args.command.now c.args.touched.now it stands in
    let edited = edited_still c.args.settings.now before after beside c.args.now c.args.meta.now c.args.command.now c.args.touched.now it stands mid lost.counted in
    refused_so c.args.settings.now before after beside c.args.now c.args.meta.now c.args.command.now c.args.touched.now it stands mid lost.counted e (refuses before after left lost.keeps edited))
    (c.commit_touched.ensures.refuses clean)

pub returns-clause-listed : goal.returns-clause-listed
returns-clause-listed g c =
    let no : is_quiet c.args.command.now ≡ false = sym c.is_quiet.ensures ∙ c.if-is_quiet.false in
    let room = room_listed (traits_of c.args.command.now) no in
    IfErr-weaker c.commit_touched.result _ _ (room_or_store (listed c.args.command.now) room.0 room.1) c.commit_touched.ensures.listed
