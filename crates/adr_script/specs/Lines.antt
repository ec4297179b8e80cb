-- How a text is cut into lines.
use Rattle.std.specs.Prelude.{◌≢◌, ◌<◌, ◌≤◌, ◌==◌, ◌^◌, ℕ, List, [], ◌∷◌, length, All, if◌then◌else◌}
use Rattle.std.specs.List.{onto_first, Any}

-- the lines of a text, without their LF, which the last one may lack: an LF ends a line, and any other byte begins the first line of what follows
unfoldable pub lines_of : List ℕ → List (List ℕ)
lines_of [] = []
lines_of (b ∷ bs) = if b == 10 then [] ∷ lines_of bs else onto_first b (lines_of bs)

-- bytes without an LF
abbrev pub IsLine : List ℕ → Type 0
IsLine bytes = All (λ b. b ≢ 10) bytes

-- the most bytes of a line, 1,048,576
abbrev pub most_bytes : ℕ
most_bytes = 1_048_576

-- the most lines of a text, 1,000,000
abbrev pub most_lines : ℕ
most_lines = 1_000_000

-- the most reads of one run, 2^41
abbrev pub most_reads : ℕ
most_reads = 2 ^ 41

-- a line has at most 1,048,576 bytes
abbrev pub IsShort : List ℕ → Type 0
IsShort line = length line ≤ most_bytes

-- a line of the text is too long: it has more than 1,048,576 bytes
abbrev pub HasLongLine : List ℕ → Type 0
HasLongLine text = Any (λ line. most_bytes < length line) (lines_of text)

-- the text has too many lines: more than 1,000,000
abbrev pub HasManyLines : List ℕ → Type 0
HasManyLines text = most_lines < length (lines_of text)
