-- The state that a trail began with, by the desk as it was then.
use Rattle.std.specs.Prelude.{List, [], ◌∷◌}
use Rattle.adr_state.specs.declared.state.State.{State}
use Rattle.adr_state.specs.States.{empty}

-- that of the desk that was noted first; the empty one where none was
abbrev pub base_in : {D : Type 0} → (D → State) → List (D × Unit {0}) → State
base_in state [] = empty
base_in state ((desk, _) ∷ rest) = state desk
