-- The rows of a map at the keys that pass a test, and the others.
use Rattle.std.specs.Prelude.{Bool, not, List, filter}

-- the rows at the keys that pass
abbrev pub rows_at : {K V : Type 0} → (K → Bool) → List (K × V) → List (K × V)
rows_at passes m = filter (λ r. passes r.0) m

-- the rows at all other keys
abbrev pub rows_beside : {K V : Type 0} → (K → Bool) → List (K × V) → List (K × V)
rows_beside passes m = filter (λ r. not (passes r.0)) m
