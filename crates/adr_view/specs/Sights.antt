-- What is in sight.
use Rattle.std.specs.Prelude.{ℕ, Bool, true, false, ◌==◌, Option, Some, None}
use Rattle.adr_view.specs.declared.sight.Sight.{Sight}
use Rattle.adr_view.specs.declared.sight.Sight.TheVariants.{All, Of}

-- whether a ven, and what is its own, is in sight
abbrev pub sees_ven : Sight → ℕ → Bool
sees_ven All n = true
sees_ven (Of ven) n = n == ven

-- whether what is of an owner is in sight; what has none is the operator's
abbrev pub sees_owner : Sight → Option ℕ → Bool
sees_owner All owner = true
sees_owner (Of ven) (Some owner) = owner == ven
sees_owner (Of ven) None = false

-- the owner of what is made by who sees this much
abbrev pub owner_in : Sight → Option ℕ
owner_in All = None
owner_in (Of ven) = Some ven
