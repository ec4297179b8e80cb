-- The machine over the commands whose answers stand.
use Rattle.std.specs.Prelude.{List, [], ◌∷◌, map, filter, Result}
use Rattle.std.specs.List.{zip}
use Rattle.adr_text.specs.declared.refusal.Refusal.{Refusal}
use Rattle.adr_machine.specs.Runs.{told, state_after, stands}

-- each step in turn: the answers
abbrev pub answers_of : {A C S : Type 0} → (S → C → Result (A × S) Refusal) → S → List C → List (Result A Refusal)
answers_of step s [] = []
answers_of step s (c ∷ cs) = told (step s c) ∷ answers_of step (state_after s (step s c)) cs

-- each step in turn: the state in the end
abbrev pub state_of : {A C S : Type 0} → (S → C → Result (A × S) Refusal) → S → List C → S
state_of step s [] = s
state_of step s (c ∷ cs) = state_of step (state_after s (step s c)) cs

-- the commands whose answers stand
abbrev pub standing : {A C : Type 0} → List C → List (Result A Refusal) → List C
standing cs rs = map (λ p. p.0) (filter (λ p. stands p.1) (zip cs rs))
