use Rattle.std.proofs.Common.{List, arith}
use Rattle.adr_state.specs.declared.keys.MirrorKey.{MirrorKey}
use Rattle.adr_state.specs.Evidence.{scan_with}
use Rattle.adr_state.specs.Mirror.{evidence_of}
use Rattle.adr_desk.proofs.EvidenceLemmas.{evidence_carries, evidence_refused}
use Rattle.adr_desk.proofs.evidence.found.Goals as goal

pub returns-in_err-risen-clause-carries : goal.returns-in_err-risen-clause-carries
returns-in_err-risen-clause-carries g c =
    evidence_refused g.S.Store c.args.tx.now.conn.now c.stood_programs.new.tx.conn.now c.put_evidence.new.tx.conn.now c.args.limits.now (evidence_of c.args.founds.now) (λ base. scan_with base.scan c.args.founds.now c.args.polled) c.in_ok-programs.programs c.in_ok-programs.ensures.finds
    (λ clean. omega (arith, clean, c.put_evidence.ensures.lent.stays.crash.clean)) c.args.meta.now c.put_evidence.new.meta (List MirrorKey) c.in_err-risen.field-0.0 c.from_residual-in_err-risen.result c.from_residual-in_err-risen.ensures.1 c.in_err-risen.ensures.refuses

pub returns-clause-carries : goal.returns-clause-carries
returns-clause-carries g c =
    evidence_carries g.S.Store c.args.tx.now.conn.now c.stood_programs.new.tx.conn.now c.put_evidence.new.tx.conn.now c.args.limits.now (evidence_of c.args.founds.now) (λ base. scan_with base.scan c.args.founds.now c.args.polled) c.in_ok-programs.programs c.in_ok-programs.ensures.finds
    (λ clean. omega (arith, clean, c.put_evidence.ensures.lent.stays.crash.clean)) c.args.meta.now c.put_evidence.new.meta (λ (keys : List MirrorKey). keys) c.in_ok-risen.risen c.in_ok-touched.touched c.in_ok-touched.ensures c.in_ok-risen.ensures.makes
