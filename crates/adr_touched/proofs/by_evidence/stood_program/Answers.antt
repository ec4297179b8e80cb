use Rattle.std.proofs.Common.{List, subst}
use Rattle.adr_state.specs.declared.keys.MirrorKey.{MirrorKey}
use Rattle.adr_db.proofs.Results.{ok_then}
use Rattle.adr_touched.specs.Touched.{ProgramsStoodAt}
use Rattle.adr_touched.proofs.by_evidence.stood_program.Goals as goal

pub returns-clause-finds : goal.returns-clause-finds
returns-clause-finds g c clean =
    ok_then c.programs_at.result (λ olds finds beside base holds.
    let found = finds beside base holds in
    (λ mark. subst (λ (keys : List MirrorKey). ProgramsStoodAt keys base olds) c.in_ok-keys.ensures found.0, found.1)) (c.programs_at.ensures.finds clean)
