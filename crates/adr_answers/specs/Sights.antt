-- What a role sees, by what was read of it.
use Rattle.std.specs.Prelude.{ℕ, Option, None, Result, Ok, Err}
use Rattle.adr_text.specs.declared.refusal.Refusal.{Refusal}
use Rattle.adr_text.specs.declared.refusal.Refusal.TheVariants.{Forbidden}
use Rattle.adr_state.specs.declared.portfolio.Portfolio.{Portfolio}
use Rattle.adr_state.specs.Vens.{ven_at}
use Rattle.adr_view.specs.declared.sight.Sight.{Sight}
use Rattle.adr_view.specs.declared.sight.Sight.TheVariants.{All}
use Rattle.adr_queries.specs.declared.role.Role.{Role}
use Rattle.adr_queries.specs.declared.role.Role.TheVariants.{Operator, Ven, Utility}
use Rattle.adr_queries.specs.Roles.{sight_by}

-- the number of the ven that a role is, where it is one that is enrolled
abbrev pub ven_of : Role → Portfolio → Option ℕ
ven_of Operator p = None
ven_of (Ven id) p = ven_at id p
ven_of Utility p = None

-- what a role sees, where that is its ven: the operator all, an enrolled ven what is its own, and another nothing, which is 8
abbrev pub sight_with : Role → Option ℕ → Result Sight Refusal
sight_with Operator ven = Ok All
sight_with (Ven id) ven = sight_by ven
sight_with Utility ven = Err Forbidden
