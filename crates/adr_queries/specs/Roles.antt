-- What a role may do and see.
use Rattle.std.specs.Prelude.{ℕ, Bool, true, false, Option, None, Some, Result, Ok, Err}
use Rattle.adr_text.specs.declared.refusal.Refusal.{Refusal}
use Rattle.adr_text.specs.declared.refusal.Refusal.TheVariants.{Forbidden}
use Rattle.adr_state.specs.declared.base.Base.{Base}
use Rattle.adr_queries.specs.declared.role.Role.{Role}
use Rattle.adr_queries.specs.declared.role.Role.TheVariants.{Operator, Ven, Utility}
use Rattle.adr_view.specs.declared.sight.Sight.{Sight}
use Rattle.adr_view.specs.declared.sight.Sight.TheVariants.{All, Of}
use Rattle.adr_state.specs.Vens.{ven_at}

-- the operator, and neither a ven nor the utility
abbrev pub is_operator : Role → Bool
is_operator Operator = true
is_operator (Ven id) = false
is_operator Utility = false

-- what is of the ven of a number, and 8 where there is none
abbrev pub sight_by : Option ℕ → Result Sight Refusal
sight_by None = Err Forbidden
sight_by (Some n) = Ok (Of n)

-- what a role sees: the operator all, an enrolled ven what is its own, and another nothing, which is 8
abbrev pub sight_of : Base → Role → Result Sight Refusal
sight_of base Operator = Ok All
sight_of base (Ven id) = sight_by (ven_at id base.portfolio)
sight_of base Utility = Err Forbidden
