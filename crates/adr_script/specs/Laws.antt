-- That a text is its lines, and that no other lines fit.
use Rattle.std.specs.Prelude.{◌≡◌, ℕ, List, [], ◌∷◌, ◌++◌, All}
use Rattle.adr_script.specs.Lines.{lines_of, IsLine}

-- the text is the lines, each followed by an LF, which a last one that is not empty may lack
pub data AreLinesOf : List ℕ → List (List ℕ) → Type 0 where
  -- a text of no bytes has no lines
  no_line : AreLinesOf [] []
  -- the last line, with no LF behind it: it is not empty
  last_line : {b : ℕ} {line : List ℕ} → AreLinesOf (b ∷ line) ((b ∷ line) ∷ [])
  -- a line, its LF, and then the others
  ended_line : {line text : List ℕ} {lines : List (List ℕ)} → AreLinesOf text lines → AreLinesOf (line ++ 10 ∷ text) (line ∷ lines)

-- no line of a text has an LF
abbrev pub LinesHaveNoEnd : Type 0
LinesHaveNoEnd = (text : List ℕ) → All IsLine (lines_of text)

-- a text is its lines, each followed by an LF, which a last one that is not empty may lack
abbrev pub TextIsItsLines : Type 0
TextIsItsLines = (text : List ℕ) → AreLinesOf text (lines_of text)

-- where a text is lines without an LF, as `AreLinesOf` says it, these are its lines: no others fit
abbrev pub OneListOfLinesFits : Type 0
OneListOfLinesFits = (text : List ℕ) (lines : List (List ℕ)) → All IsLine lines → AreLinesOf text lines → lines ≡ lines_of text
