use Rattle.std.proofs.Common.{refl, arith}
use Rattle.adr_db.proofs.Common.{LimitReached}
use Rattle.adr_queries.specs.declared.answer.Answer.TheVariants as answer
use Rattle.adr_machine.specs.declared.outcome.Outcome.TheVariants as outcome
use Rattle.adr_machine.specs.Listed.{listed}
use Rattle.adr_desk.proofs.DecisionLemmas.{begun_carries, delivery_carries}
use Rattle.adr_desk.proofs.AnswerLemmas.{along_answered}
use Rattle.adr_desk.proofs.ListedLemmas.{along_store, either_refused, own_refused}
use Rattle.adr_desk.proofs.decided.carry_out.Goals as goal

pub returns-in-VenAdd-clause-carries : goal.returns-in-VenAdd-clause-carries
returns-in-VenAdd-clause-carries g c = rw c.in-VenAdd.is c.ven_add.ensures.carries

pub returns-in-VenAdd-clause-answered : goal.returns-in-VenAdd-clause-answered
returns-in-VenAdd-clause-answered g c = c.ven_add.ensures.answered c.args.command.now

pub returns-in-VenAdd-clause-listed : goal.returns-in-VenAdd-clause-listed
returns-in-VenAdd-clause-listed g c = own_refused c.args.command.now c.ven_add.result (rw c.in-VenAdd.is c.ven_add.ensures.refused)

pub returns-in-VenPut-clause-carries : goal.returns-in-VenPut-clause-carries
returns-in-VenPut-clause-carries g c = rw c.in-VenPut.is c.ven_put.ensures.carries

pub returns-in-VenPut-clause-answered : goal.returns-in-VenPut-clause-answered
returns-in-VenPut-clause-answered g c = c.ven_put.ensures.answered c.args.command.now

pub returns-in-VenPut-clause-listed : goal.returns-in-VenPut-clause-listed
returns-in-VenPut-clause-listed g c = own_refused c.args.command.now c.ven_put.result (rw c.in-VenPut.is c.ven_put.ensures.refused)

pub returns-in-VenRemove-clause-carries : goal.returns-in-VenRemove-clause-carries
returns-in-VenRemove-clause-carries g c = rw c.in-VenRemove.is c.ven_remove.ensures.carries

pub returns-in-VenRemove-clause-answered : goal.returns-in-VenRemove-clause-answered
returns-in-VenRemove-clause-answered g c = c.ven_remove.ensures.answered c.args.command.now

pub returns-in-VenRemove-clause-listed : goal.returns-in-VenRemove-clause-listed
returns-in-VenRemove-clause-listed g c = own_refused c.args.command.now c.ven_remove.result (rw c.in-VenRemove.is c.ven_remove.ensures.refused)

pub returns-in-ResourceAdd-clause-carries : goal.returns-in-ResourceAdd-clause-carries
returns-in-ResourceAdd-clause-carries g c = rw c.in-ResourceAdd.is c.resource_add.ensures.carries

pub returns-in-ResourceAdd-clause-answered : goal.returns-in-ResourceAdd-clause-answered
returns-in-ResourceAdd-clause-answered g c = c.resource_add.ensures.answered c.args.command.now

pub returns-in-ResourceAdd-clause-listed : goal.returns-in-ResourceAdd-clause-listed
returns-in-ResourceAdd-clause-listed g c = own_refused c.args.command.now c.resource_add.result (rw c.in-ResourceAdd.is c.resource_add.ensures.refused)

pub returns-in-ResourcePut-clause-carries : goal.returns-in-ResourcePut-clause-carries
returns-in-ResourcePut-clause-carries g c = rw c.in-ResourcePut.is c.resource_put.ensures.carries

pub returns-in-ResourcePut-clause-answered : goal.returns-in-ResourcePut-clause-answered
returns-in-ResourcePut-clause-answered g c = c.resource_put.ensures.answered c.args.command.now

pub returns-in-ResourcePut-clause-listed : goal.returns-in-ResourcePut-clause-listed
returns-in-ResourcePut-clause-listed g c = own_refused c.args.command.now c.resource_put.result (rw c.in-ResourcePut.is c.resource_put.ensures.refused)

pub returns-in-ResourceRemove-clause-carries : goal.returns-in-ResourceRemove-clause-carries
returns-in-ResourceRemove-clause-carries g c = rw c.in-ResourceRemove.is c.resource_remove.ensures.carries

pub returns-in-ResourceRemove-clause-answered : goal.returns-in-ResourceRemove-clause-answered
returns-in-ResourceRemove-clause-answered g c = c.resource_remove.ensures.answered c.args.command.now

pub returns-in-ResourceRemove-clause-listed : goal.returns-in-ResourceRemove-clause-listed
returns-in-ResourceRemove-clause-listed g c = own_refused c.args.command.now c.resource_remove.result (rw c.in-ResourceRemove.is c.resource_remove.ensures.refused)

pub returns-in-ShareSet-clause-carries : goal.returns-in-ShareSet-clause-carries
returns-in-ShareSet-clause-carries g c = rw c.in-ShareSet.is c.share_set.ensures.carries

pub returns-in-ShareSet-clause-answered : goal.returns-in-ShareSet-clause-answered
returns-in-ShareSet-clause-answered g c = c.share_set.ensures.answered c.args.command.now

pub returns-in-ShareSet-clause-listed : goal.returns-in-ShareSet-clause-listed
returns-in-ShareSet-clause-listed g c = own_refused c.args.command.now c.share_set.result (rw c.in-ShareSet.is c.share_set.ensures.refused)

pub returns-in-Freeze-clause-carries : goal.returns-in-Freeze-clause-carries
returns-in-Freeze-clause-carries g c = rw c.in-Freeze.is c.freeze.ensures.carries

pub returns-in-Freeze-clause-answered : goal.returns-in-Freeze-clause-answered
returns-in-Freeze-clause-answered g c = c.freeze.ensures.answered c.args.command.now

pub returns-in-Freeze-clause-listed : goal.returns-in-Freeze-clause-listed
returns-in-Freeze-clause-listed g c = own_refused c.args.command.now c.freeze.result (rw c.in-Freeze.is c.freeze.ensures.refused)

pub returns-in-Evidence-clause-carries : goal.returns-in-Evidence-clause-carries
returns-in-Evidence-clause-carries g c = rw c.in-Evidence.is (rw c.as_slice.ensures at c.found.ensures.carries)

pub returns-in-Evidence-clause-answered : goal.returns-in-Evidence-clause-answered
returns-in-Evidence-clause-answered g c = c.found.ensures.answered c.args.command.now

pub returns-in-Evidence-clause-listed : goal.returns-in-Evidence-clause-listed
returns-in-Evidence-clause-listed g c = either_refused (listed c.args.command.now) LimitReached (rw c.in-Evidence.is (0, omega arith, refl)) c.found.result c.found.ensures.refused

pub returns-in-Gone-clause-carries : goal.returns-in-Gone-clause-carries
returns-in-Gone-clause-carries g c = rw c.in-Gone.is (c.deleted.ensures.carries)

pub returns-in-Gone-clause-answered : goal.returns-in-Gone-clause-answered
returns-in-Gone-clause-answered g c = c.deleted.ensures.answered c.args.command.now

pub returns-in-Gone-clause-listed : goal.returns-in-Gone-clause-listed
returns-in-Gone-clause-listed g c = either_refused (listed c.args.command.now) LimitReached (rw c.in-Gone.is (0, omega arith, refl)) c.deleted.result c.deleted.ensures.refused

pub returns-in-ScanBegin-clause-carries : goal.returns-in-ScanBegin-clause-carries
returns-in-ScanBegin-clause-carries g c =
    rw (c.in-ScanBegin.is, c.along.ensures, c.done.ensures) (begun_carries g.S.Store c.args.tx.now.conn.now c.scan_begin.new.tx.conn.now c.none.result c.none.ensures.covers c.args.meta.now c.scan_begin.new.meta c.scan_begin.result c.scan_begin.ensures.makes c.scan_begin.ensures.refused)

pub returns-in-ScanBegin-clause-answered : goal.returns-in-ScanBegin-clause-answered
returns-in-ScanBegin-clause-answered g c = rw (c.along.ensures, c.done.ensures) (along_answered c.args.command.now (λ _. outcome.Told answer.Done) (λ x before after. tt) c.none.result c.scan_begin.result)

pub returns-in-ScanBegin-clause-listed : goal.returns-in-ScanBegin-clause-listed
returns-in-ScanBegin-clause-listed g c = rw (c.along.ensures, c.done.ensures) (along_store (listed c.args.command.now) (λ _. outcome.Told answer.Done) c.none.result c.scan_begin.result c.scan_begin.ensures.refused)

pub returns-in-ReportPost-clause-carries : goal.returns-in-ReportPost-clause-carries
returns-in-ReportPost-clause-carries g c = rw c.in-ReportPost.is c.report_post.ensures.carries

pub returns-in-ReportPost-clause-answered : goal.returns-in-ReportPost-clause-answered
returns-in-ReportPost-clause-answered g c = rw c.in-ReportPost.is c.report_post.ensures.answered

pub returns-in-ReportPost-clause-listed : goal.returns-in-ReportPost-clause-listed
returns-in-ReportPost-clause-listed g c = rw c.in-ReportPost.is c.report_post.ensures.listed

pub returns-in-ReportPut-clause-carries : goal.returns-in-ReportPut-clause-carries
returns-in-ReportPut-clause-carries g c = rw c.in-ReportPut.is c.report_put.ensures.carries

pub returns-in-ReportPut-clause-answered : goal.returns-in-ReportPut-clause-answered
returns-in-ReportPut-clause-answered g c = rw c.in-ReportPut.is c.report_put.ensures.answered

pub returns-in-ReportPut-clause-listed : goal.returns-in-ReportPut-clause-listed
returns-in-ReportPut-clause-listed g c = rw c.in-ReportPut.is c.report_put.ensures.listed

pub returns-in-ReportDelete-clause-carries : goal.returns-in-ReportDelete-clause-carries
returns-in-ReportDelete-clause-carries g c = rw c.in-ReportDelete.is c.report_delete.ensures.carries

pub returns-in-ReportDelete-clause-answered : goal.returns-in-ReportDelete-clause-answered
returns-in-ReportDelete-clause-answered g c = rw c.in-ReportDelete.is c.report_delete.ensures.answered

pub returns-in-ReportDelete-clause-listed : goal.returns-in-ReportDelete-clause-listed
returns-in-ReportDelete-clause-listed g c = rw c.in-ReportDelete.is c.report_delete.ensures.listed

pub returns-in-SubPost-clause-carries : goal.returns-in-SubPost-clause-carries
returns-in-SubPost-clause-carries g c = rw c.in-SubPost.is c.sub_post.ensures.carries

pub returns-in-SubPost-clause-answered : goal.returns-in-SubPost-clause-answered
returns-in-SubPost-clause-answered g c = rw c.in-SubPost.is c.sub_post.ensures.answered

pub returns-in-SubPost-clause-listed : goal.returns-in-SubPost-clause-listed
returns-in-SubPost-clause-listed g c = rw c.in-SubPost.is c.sub_post.ensures.listed

pub returns-in-SubPut-clause-carries : goal.returns-in-SubPut-clause-carries
returns-in-SubPut-clause-carries g c = rw c.in-SubPut.is c.sub_put.ensures.carries

pub returns-in-SubPut-clause-answered : goal.returns-in-SubPut-clause-answered
returns-in-SubPut-clause-answered g c = rw c.in-SubPut.is c.sub_put.ensures.answered

pub returns-in-SubPut-clause-listed : goal.returns-in-SubPut-clause-listed
returns-in-SubPut-clause-listed g c = rw c.in-SubPut.is c.sub_put.ensures.listed

pub returns-in-SubDelete-clause-carries : goal.returns-in-SubDelete-clause-carries
returns-in-SubDelete-clause-carries g c = rw c.in-SubDelete.is c.sub_delete.ensures.carries

pub returns-in-SubDelete-clause-answered : goal.returns-in-SubDelete-clause-answered
returns-in-SubDelete-clause-answered g c = rw c.in-SubDelete.is c.sub_delete.ensures.answered

pub returns-in-SubDelete-clause-listed : goal.returns-in-SubDelete-clause-listed
returns-in-SubDelete-clause-listed g c = rw c.in-SubDelete.is c.sub_delete.ensures.listed

pub returns-in-Lease-clause-carries : goal.returns-in-Lease-clause-carries
returns-in-Lease-clause-carries g c =
    rw (c.along-in-Lease.ensures, c.done-in-Lease.ensures) (delivery_carries g.S.Store c.args.tx.now.conn.now c.args.limits.now c.args.now c.args.number c.args.meta.now c.none-in-Lease.result c.none-in-Lease.ensures.covers c.args.command.now c.in-Lease.is)
