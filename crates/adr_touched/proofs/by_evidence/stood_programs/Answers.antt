use Rattle.std.proofs.Common.{List, sym, subst, ◌∙◌}
use Rattle.adr_objects.specs.declared.body.Found.{Found}
use Rattle.adr_state.specs.declared.base.Mark.{Mark}
use Rattle.adr_state.specs.declared.keys.MirrorKey.{MirrorKey}
use Rattle.adr_state.specs.Mirror.{key_of, mark_of}
use Rattle.adr_db.proofs.Common.{map-map}
use Rattle.adr_db.proofs.Results.{ok_then}
use Rattle.adr_touched.specs.Touched.{ProgramsStoodAt}
use Rattle.adr_touched.proofs.by_evidence.stood_programs.Goals as goal

pub returns-clause-finds : goal.returns-clause-finds
returns-clause-finds g c clean =
    ok_then c.programs_at.result (λ olds finds beside base holds.
    let found = finds beside base holds in
    (subst (λ (keys : List MirrorKey). ProgramsStoodAt keys base olds) (c.in_ok-keys.ensures ∙ sym (map-map (λ (e : MirrorKey × Mark). e.0) (λ (f : Found). (key_of f, mark_of f)) c.args.founds.now)) found.0, found.1)) (c.programs_at.ensures.finds clean)
