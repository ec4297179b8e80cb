-- The run of a script: each line in its turn, and what is printed of them.
use Rattle.std.specs.Prelude.{◌≡◌, ◌<◌, ◌+◌, ◌==◌, ℕ, not, List, [], ◌∷◌, ◌++◌, length, take, All, Option}
use Rattle.std.specs.List.{count_by}
use Rattle.std.specs.Io.KnownBytes.{Appends}
use Rattle.adr_state.specs.declared.state.State.{State}
use Rattle.adr_state.specs.declared.limits.Settings.{Settings}
use Rattle.adr_script.specs.Lines.{most_bytes, most_lines, IsShort}
use Rattle.adr_script.specs.Turns.{IsTurn}

-- from s, a line prints out and leaves t
pub data Prints (may_refuse : Type 0) (settings : Settings) (s : State) : List ℕ → List ℕ → State → Type 0 where
  -- an empty line is passed over
  passed_over : Prints may_refuse settings s [] [] s
  -- any other has its turn
  has_turn : {b : ℕ} {line out : List ℕ} {t : State} → IsTurn may_refuse settings s (b ∷ line) out t → Prints may_refuse settings s (b ∷ line) out t

-- from s, the lines in turn print out and leave t
pub data PrintAll (may_refuse : Type 0) (settings : Settings) : State → List (List ℕ) → List ℕ → State → Type 0 where
  -- no lines
  no_lines : {s : State} → PrintAll may_refuse settings s [] [] s
  -- a line, and then the others
  line_first : {s u t : State} {line out rest : List ℕ} {lines : List (List ℕ)} → Prints may_refuse settings s line out u → PrintAll may_refuse settings u lines rest t → PrintAll may_refuse settings s (line ∷ lines) (out ++ rest) t

-- how many of the lines are printed: all but the empty ones
abbrev pub number_printed : List (List ℕ) → ℕ
number_printed lines = count_by (λ line. not (length line == 0)) lines

-- all the lines were taken, what they print is written, and it is counted
pub record RunsScript (may_refuse : Type 0) (settings : Settings) (s : State) (lines : List (List ℕ)) (t : State) (old new : Option (List ℕ)) (before after : ℕ) : Type 0 where
  pub out : List ℕ
  pub prints : PrintAll may_refuse settings s lines out t
  pub written : Appends old new out
  pub counted : after ≡ before + number_printed lines

-- the turn of the next line, if it was taken, and what that prints
pub data NextTurn (may_refuse : Type 0) (settings : Settings) (s : State) : List (List ℕ) → List ℕ → State → Type 0 where
  -- no more was taken
  no_more : {lines : List (List ℕ)} → NextTurn may_refuse settings s lines [] s
  -- one line more
  one_more : {line out : List ℕ} {others : List (List ℕ)} {t : State} → Prints may_refuse settings s line out t → NextTurn may_refuse settings s (line ∷ others) out t

-- the lines before were taken, and all that they print is written; of the next one at most its turn was taken, and a part of what it prints is written
pub record StopsScript (may_refuse : Type 0) (settings : Settings) (s : State) (lines : List (List ℕ)) (t : State) (old new : Option (List ℕ)) : Type 0 where
  pub before : List (List ℕ)
  pub others : List (List ℕ)
  pub lines_are : lines ≡ before ++ others
  pub out : List ℕ
  pub between : State
  pub prints : PrintAll may_refuse settings s before out between
  pub last : List ℕ
  pub next : NextTurn may_refuse settings between others last t
  pub part : ℕ
  pub written : Appends old new (out ++ take part last)

-- a line is too long: the lines before it, none of them too long and, with those that were seen, fewer than the most, were taken, and what they print is written
pub record StopsAtLongLine (IsSound may_refuse : Type 0) (settings : Settings) (s : State) (lines : List (List ℕ)) (t : State) (old new : Option (List ℕ)) (seen printed : ℕ) : Type 0 where
  pub before : List (List ℕ)
  pub long : List ℕ
  pub others : List (List ℕ)
  pub lines_are : lines ≡ before ++ long ∷ others
  pub short : All IsShort before
  pub few : seen + length before < most_lines
  pub is_long : most_bytes < length long
  pub runs : IsSound → (n : ℕ) × RunsScript may_refuse settings s before t old new printed n

-- there are more lines than the most: as many, with those that were seen, none of them too long, were taken, and what they print is written
pub record StopsAtManyLines (IsSound may_refuse : Type 0) (settings : Settings) (s : State) (lines : List (List ℕ)) (t : State) (old new : Option (List ℕ)) (seen printed : ℕ) : Type 0 where
  pub before : List (List ℕ)
  pub others : List (List ℕ)
  pub lines_are : lines ≡ before ++ others
  pub short : All IsShort before
  pub as_many : seen + length before ≡ most_lines
  pub more : 0 < length others
  pub runs : IsSound → (n : ℕ) × RunsScript may_refuse settings s before t old new printed n
