use Rattle.std.proofs.Common.{◌∷◌, [], Bool, List, arith, subst}
use Rattle.std.specs.Prelude.{if◌then◌else◌}
use Rattle.adr_state.specs.declared.base.Mark.TheVariants.{Dead}
use Rattle.adr_state.specs.declared.keys.MirrorKey.{MirrorKey}
use Rattle.adr_desk.proofs.EvidenceLemmas.{evidence_carries, evidence_refused}
use Rattle.adr_desk.proofs.evidence.deleted.Goals as goal
use Rattle.adr_touched.specs.Touched.{CoversEvidence}

pub returns-in_err-rose-clause-carries : goal.returns-in_err-rose-clause-carries
returns-in_err-rose-clause-carries g c =
    let key : MirrorKey = record { kind = c.args.kind; id = c.args.id.now } in
    evidence_refused g.S.Store c.args.tx.now.conn.now c.stood_program.new.tx.conn.now c.gone.new.tx.conn.now c.args.limits.now ((key, Dead) ∷ []) (λ base. base.scan) c.in_ok-programs.programs
    (λ clean beside base was. let it = c.in_ok-programs.ensures.finds clean beside base was in (it.0 Dead, it.1))
    (λ clean. omega (arith, clean, c.gone.ensures.lent.stays.crash.clean)) c.args.meta.now c.gone.new.meta Bool c.in_err-rose.field-0.0 c.from_residual-in_err-rose.result c.from_residual-in_err-rose.ensures.1 c.in_err-rose.ensures.refuses

pub returns-clause-carries : goal.returns-clause-carries
returns-clause-carries g c =
    let key : MirrorKey = record { kind = c.args.kind; id = c.args.id.now } in
    evidence_carries g.S.Store c.args.tx.now.conn.now c.stood_program.new.tx.conn.now c.gone.new.tx.conn.now c.args.limits.now ((key, Dead) ∷ []) (λ base. base.scan) c.in_ok-programs.programs
    (λ clean beside base was. let it = c.in_ok-programs.ensures.finds clean beside base was in (it.0 Dead, it.1))
    (λ clean. omega (arith, clean, c.gone.ensures.lent.stays.crash.clean)) c.args.meta.now c.gone.new.meta (λ (rose : Bool). if rose then key ∷ [] else []) c.in_ok-rose.rose c.in_ok-touched.touched
    (subst (λ (keys : List MirrorKey). CoversEvidence c.in_ok-programs.programs keys c.in_ok-touched.touched) c.in_ok-risen.ensures c.in_ok-touched.ensures) c.in_ok-rose.ensures.makes
