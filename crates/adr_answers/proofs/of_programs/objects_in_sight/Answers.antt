use Rattle.std.proofs.Common.{ap, arith, sym, ◌∙◌}
use Rattle.std.specs.List.{filter_map}
use Rattle.adr_db.proofs.Common.{state, HasCleanDisk}
use Rattle.adr_db.proofs.Results.{ok_then}
use Rattle.adr_db.specs.Images.{image_kept}
use Rattle.adr_state.specs.declared.keys.ViewKey.TheVariants as key
use Rattle.adr_view.specs.declared.view.Content.TheVariants as content
use Rattle.adr_queries.specs.Shown.{object_at}
use Rattle.adr_answers.specs.Told.{program_in}
use Rattle.adr_answers.proofs.ListedLemmas.{programs_are}
use Rattle.adr_answers.proofs.ProgramLemmas.{kept_in_order, programs_of_kind}
use Rattle.adr_answers.proofs.of_programs.objects_in_sight.Goals as goal

pub returns-clause-finds : goal.returns-clause-finds
returns-clause-finds g c clean =
    let early : HasCleanDisk (state g.S.Store c.read_kind.new.tx.conn.now) = omega (arith, clean, c.with_stamps.ensures.lent.stays.crash.clean) in
    ok_then c.with_stamps.result (λ all finds kept was.
    let known = c.in_ok-known.ensures.finds early kept was in
    let found = finds kept known.1 in (
      (λ sight. found.0 ∙ ap (filter_map (λ p. object_at kept.stamps (key.Program p.0, content.Program p.1))) (c.in_ok-programs.ensures ∙ ap (filter_map program_in) known.0 ∙ programs_of_kind kept.mirror)
          ∙ sym (programs_are (image_kept kept) sight (kept_in_order kept (state g.S.Store c.args.tx.now.conn.now) was))),
      found.1,
    )) (c.with_stamps.ensures.finds clean)
