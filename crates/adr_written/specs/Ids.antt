-- The ids that the node gives: a letter and the number that it drew.
use Rattle.std.specs.Prelude.{ℕ, List, ◌∷◌, ◌++◌}
use Rattle.std.specs.Fmt.{decimal}

-- v1
abbrev pub ven_id : ℕ → List ℕ
ven_id n = 118 ∷ decimal n

-- r3
abbrev pub resource_id : ℕ → List ℕ
resource_id n = 114 ∷ decimal n

-- p6
abbrev pub report_id : ℕ → List ℕ
report_id n = 112 ∷ decimal n

-- s6
abbrev pub sub_id : ℕ → List ℕ
sub_id n = 115 ∷ decimal n

-- r3-e1: what resource 3 is shown of the upstream event e1
abbrev pub shown_id : ℕ → List ℕ → List ℕ
shown_id resource event = resource_id resource ++ 45 ∷ event
