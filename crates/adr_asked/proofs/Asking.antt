-- What was asked, or why nothing is.
use Rattle.std.proofs.Common.{◌≡◌, Option, Some, None, Result, Ok, Err, ap, sym, subst}
use Rattle.adr_text.specs.Refusals.{Gives}
use Rattle.adr_text.specs.declared.refusal.Refusal.{Refusal}
use Rattle.adr_text.specs.declared.refusal.Refusal.TheVariants.{OutOfMemory}
use Rattle.adr_routes.specs.declared.methods.Methods.{Methods}
use Rattle.adr_reply.specs.Problems.{Tells}
use Rattle.adr_reply.specs.declared.problem.Problem.{Problem}
use Rattle.adr_asked.specs.declared.asked.Asked.{Asked}
use Rattle.adr_asked.specs.Requests.{asked_or}

-- what was read stands, or memory ran out
read_tells : (methods : Methods) (read asked : Result (Option Asked) Refusal) → Gives (λ a. a) read asked → Tells (λ a. a) (asked_or methods read) (asked_or methods asked)
read_tells methods (Ok (Some a)) asked gives = ap (asked_or methods) gives
read_tells methods (Ok None) asked gives = ap (asked_or methods) gives
read_tells methods (Err OutOfMemory) asked gives = tt
read_tells methods (Err e) asked gives = ap (asked_or methods) gives

pub asked_or_gives : (methods : Methods) (read asked : Result (Option Asked) Refusal) (result : Result Asked Problem) → Gives (λ a. a) read asked → result ≡ asked_or methods read → Tells (λ a. a) result (asked_or methods asked)
asked_or_gives methods read asked result gives is = subst (λ r. Tells (λ a. a) r (asked_or methods asked)) (sym is) (read_tells methods read asked gives)
