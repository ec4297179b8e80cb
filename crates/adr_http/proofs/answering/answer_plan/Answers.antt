use Rattle.std.proofs.Common.{refl}
use Rattle.std.proofs.lemmas.Result.{MatchResult-weaker, IfOk-weaker}
use Rattle.adr_http.specs.Takers.{of_problem, not_taken}
use Rattle.adr_http.proofs.answering.answer_plan.Goals as goal

pub returns-in-Ok-clause-ok : goal.returns-in-Ok-clause-ok
returns-in-Ok-clause-ok g c = rw c.in-Ok.is c.answer_asked.ensures.ok

pub returns-in-Ok-clause-err : goal.returns-in-Ok-clause-err
returns-in-Ok-clause-err g c = rw c.in-Ok.is c.answer_asked.ensures.err

-- a problem, for which nothing is taken
pub returns-in-Err-clause-ok : goal.returns-in-Err-clause-ok
returns-in-Err-clause-ok g c =
    IfOk-weaker c.problem_seen.result _ _ (λ out told. of_problem c.in-Err.problem c.in-Err.is refl told) c.problem_seen.ensures

pub returns-in-Err-clause-err : goal.returns-in-Err-clause-err
returns-in-Err-clause-err g c =
    MatchResult-weaker c.problem_seen.result c.problem_seen.ensures (λ out told. tt) (λ fault _. not_taken refl)
