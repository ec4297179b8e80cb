use Rattle.std.proofs.lemmas.Result.{err_from_is_err_and}
use Rattle.adr_script.proofs.Scripts.{Stops-at_once}
use Rattle.adr_script.proofs.Readings.{of_any}
use Rattle.adr_script.proofs.script.run_script.Goals as goal

-- no line was taken
pub returns-in_err-routes-clause-some : goal.returns-in_err-routes-clause-some
returns-in_err-routes-clause-some g c =
    let handed = err_from_is_err_and c.from_residual.result c.from_residual.ensures.1 in
    rw handed.1 (of_any (g.S.Source.left c.args.source.now) (λ text sound. Stops-at_once))
