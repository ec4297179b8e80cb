-- What the words of a line ask of the machine.
use Rattle.std.specs.Prelude.{ℕ, Bool, true, List, [], Option, Some, None, unwrap_or, Result, Ok, if◌then◌else◌}
use Rattle.adr_text.specs.Refusals.{◌>>=◌}
use Rattle.adr_wire.specs.Cuts.{cut}
use Rattle.adr_routes.specs.Methods.{has}
use Rattle.adr_routes.specs.Words.{text_from}
use Rattle.adr_reply.specs.declared.problem.Problem.{Problem}
use Rattle.adr_asked.specs.declared.asked.Asked.{Asked}
use Rattle.adr_asked.specs.Requests.{asked_of}
use Rattle.adr_script.specs.Words.{role_from, if_there}

-- one of the four methods
abbrev pub is_method : List ℕ → Bool
is_method word = has (record { get = true; post = true; put = true; delete = true }) word

-- what the words of a line ask: nothing, where they are of another form
abbrev pub line_asked : List ℕ → List ℕ → List ℕ → List ℕ → Result (Option Asked) Problem
line_asked role method target body =
    if is_method method then (if_there (text_from target) (λ text. if_there (role_from role) (λ r. asked_of r method target body >>= λ a. Ok (Some a))))
    else Ok None

-- a role, and then `METHOD TARGET` or `METHOD TARGET BODY`
unfoldable pub request_of : List ℕ → List ℕ → Result (Option Asked) Problem
request_of role rest = if_there (cut 32 rest).1 (λ words. line_asked role (cut 32 rest).0 (cut 32 words).0 (unwrap_or (cut 32 words).1 []))
