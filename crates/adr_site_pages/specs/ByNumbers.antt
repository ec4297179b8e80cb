-- What is kept at numbers, and a page of it that is cut as it is read.
use Rattle.std.specs.Prelude.{ℕ, Bool, List, ◌++◌, filter, Option, option_map}
use Rattle.std.specs.List.{filter_map}
use Rattle.adr_db.specs.Kept.{Kept}
use Rattle.adr_lent.specs.Pages.{IsCut}

-- what is kept at a number, where there is something
abbrev pub AtNumber : Type 0 → Type 0
AtNumber T = ℕ → Kept → Option T

-- so it is behind the number
abbrev pub entry_at : {T : Type 0} → AtNumber T → ℕ → Kept → Option (ℕ × T)
entry_at found n kept = option_map (λ value. (n, value)) (found n kept)

-- and so at each of these numbers, in their order
abbrev pub entries_at : {T : Type 0} → AtNumber T → List ℕ → Kept → List (ℕ × T)
entries_at found numbers kept = filter_map (λ n. entry_at found n kept) numbers

-- with these behind what was wanted so far, of which so much was found and so many were to skip, so much is found and so many are to skip
abbrev pub CutsOn : {X : Type 0} → (X → Bool) → List X → List X → ℕ → List X → ℕ → Type 0
CutsOn {X} wanted more found left now_found now_left = (skip : ℕ) (so_far : List X) → IsCut skip so_far found left → IsCut skip (so_far ++ filter wanted more) now_found now_left
