-- A loop that reads each item of a list, up to the first fault.
use Rattle.std.proofs.Common.{List, ◌++◌, Result, Ok}
use Rattle.adr_text.specs.Refusals.{◌>>=◌}

-- what was read before, and what is still read
abbrev pub with_front : {A E : Type 0} → List A → Result (List A) E → Result (List A) E
with_front front read = read >>= λ xs. Ok (front ++ xs)
