use Rattle.std.proofs.Common.{ℕ, map, filter, ap, ◌∙◌}
use Rattle.std.specs.Prelude.{◌==◌}
use Rattle.adr_db.proofs.Common.{ShareKey, map-map}
use Rattle.adr_db.proofs.Results.{ok_then}
use Rattle.adr_touched.proofs.programs.programs_of_resource.Goals as goal

pub returns-clause-finds : goal.returns-clause-finds
returns-clause-finds g c clean =
    ok_then c.programs_in.result (λ programs is kept was.
    let keys = c.in_ok-keys.ensures.finds clean kept was in
    (is ∙ ap (map (λ (key : ShareKey). key.program)) keys.0 ∙ map-map (λ (key : ShareKey). key.program) (λ (s : ShareKey × ℕ). s.0) (filter (λ s. s.0.resource == c.args.resource) kept.portfolio.shares), keys.1)) c.programs_in.ensures.programs
