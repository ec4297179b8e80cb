-- Where a request goes to.
use Rattle.std.specs.Prelude.{ℕ, List}
use Rattle.std.specs.String.{string_bytes}
use Rattle.adr_work.specs.declared.request.Callee.{Callee}
use Rattle.adr_work.specs.declared.request.Callee.TheVariants.{Utility, Callback}

-- the host and the port of whom it goes to, where those of the utility are these
abbrev pub endpoint_of : List ℕ → Callee → List ℕ
endpoint_of utility Utility = utility
endpoint_of utility (Callback endpoint) = string_bytes endpoint
