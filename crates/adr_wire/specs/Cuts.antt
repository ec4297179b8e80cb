-- Bytes that are parted by a separator.
use Rattle.std.specs.Prelude.{ℕ, ◌+◌, ◌==◌, List, length, take, drop, Option, Some, None, bytes_eq, if◌then◌else◌}
use Rattle.std.specs.List.{position, slice_split}

abbrev pub cut_at : List ℕ → Option ℕ → List ℕ × Option (List ℕ)
cut_at bytes None = (bytes, None)
cut_at bytes (Some i) = (take i bytes, Some (drop (i + 1) bytes))

-- what stands before the first separator, and what stands behind it, where there is one
unfoldable pub cut : ℕ → List ℕ → List ℕ × Option (List ℕ)
cut separator bytes = cut_at bytes (position (λ b. b == separator) bytes)

-- what stands behind the front that the bytes begin with
unfoldable pub behind : List ℕ → List ℕ → Option (List ℕ)
behind front bytes = if bytes_eq (take (length front) bytes) front then Some (drop (length front) bytes) else None

-- what stands before, between and behind the separators
abbrev pub parts : ℕ → List ℕ → List (List ℕ)
parts separator bytes = slice_split (λ b. b == separator) bytes
