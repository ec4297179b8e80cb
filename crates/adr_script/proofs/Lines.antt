-- The lines of a text: laws, and what is too long.
use Rattle.std.proofs.Common.{◌≡◌, ℕ, ◌+◌, ◌<◌, ◌≤◌, true, false, cond, List, [], ◌∷◌, ◌++◌, length, refl, sym, ap, ◌∙◌, arith}
use Rattle.std.specs.Prelude.{◌==◌, ◌≢◌, All}
use Rattle.std.specs.List.{onto_first, Any}
use Rattle.std.proofs.lemmas.Bool.{ne_eqb}
use Rattle.std.proofs.lemmas.List.Elements.{All-nil, All-cons, All-head, All-tail}
use Rattle.adr_script.specs.Lines.{lines_of, IsLine, IsShort, most_bytes, most_lines}
use Rattle.adr_script.specs.Laws.{AreLinesOf, no_line, last_line, ended_line}

abbrev IsNoEnd : ℕ → Type 0
IsNoEnd b = b ≢ 10

-- any other byte than LF stands before the first line of what follows
other : (b : ℕ) (bs : List ℕ) → b ≢ 10 → lines_of (b ∷ bs) ≡ onto_first b (lines_of bs)
unfolding lines_of
other b bs h = rw (ne_eqb b 10 h) refl

pub lines_of-ended : (line rest : List ℕ) → IsLine line → lines_of (line ++ 10 ∷ rest) ≡ line ∷ lines_of rest
unfolding lines_of
lines_of-ended [] rest h = refl
lines_of-ended (b ∷ line) rest h = other b (line ++ 10 ∷ rest) (All-head IsNoEnd b line h) ∙ ap (onto_first b) (lines_of-ended line rest (All-tail IsNoEnd b line h))

pub lines_of-last : (b : ℕ) (line : List ℕ) → IsLine (b ∷ line) → lines_of (b ∷ line) ≡ (b ∷ line) ∷ []
unfolding lines_of
lines_of-last b [] h = other b [] (All-head IsNoEnd b [] h)
lines_of-last b (c ∷ line) h = other b (c ∷ line) (All-head IsNoEnd b (c ∷ line) h) ∙ ap (onto_first b) (lines_of-last c line (All-tail IsNoEnd b (c ∷ line) h))

-- ---- laws

onto_text : (b : ℕ) {text : List ℕ} {lines : List (List ℕ)} → AreLinesOf text lines → AreLinesOf (b ∷ text) (onto_first b lines)
onto_text b no_line = last_line
onto_text b last_line = last_line
onto_text b (ended_line h) = ended_line h

pub text_is_its_lines : (text : List ℕ) → AreLinesOf text (lines_of text)
unfolding lines_of
text_is_its_lines [] = no_line
text_is_its_lines (b ∷ bs) =
    elim (b == 10) as (λ x. b == 10 ≡ x → AreLinesOf (b ∷ bs) (cond x ([] ∷ lines_of bs) (onto_first b (lines_of bs)))) [
      | true ↦ λ e. let is : b ≡ 10 = grind arith in rw is (ended_line {line = []} (text_is_its_lines bs))
      | false ↦ λ e. onto_text b (text_is_its_lines bs)
    ] refl

onto_lines : (b : ℕ) (lines : List (List ℕ)) → b ≢ 10 → All IsLine lines → All IsLine (onto_first b lines)
onto_lines b [] h all = All-cons IsLine (b ∷ []) [] (All-cons IsNoEnd b [] h (All-nil IsNoEnd)) all
onto_lines b (line ∷ lines) h all = All-cons IsLine (b ∷ line) lines (All-cons IsNoEnd b line h (All-head IsLine line lines all)) (All-tail IsLine line lines all)

pub lines_have_no_end : (text : List ℕ) → All IsLine (lines_of text)
unfolding lines_of
lines_have_no_end [] = All-nil IsLine
lines_have_no_end (b ∷ bs) =
    elim (b == 10) as (λ x. b == 10 ≡ x → All IsLine (cond x ([] ∷ lines_of bs) (onto_first b (lines_of bs)))) [
      | true ↦ λ e. All-cons IsLine [] (lines_of bs) (All-nil IsNoEnd) (lines_have_no_end bs)
      | false ↦ λ e. let isnt : b ≢ 10 = grind arith in onto_lines b (lines_of bs) isnt (lines_have_no_end bs)
    ] refl

pub one_list_fits : (text : List ℕ) (lines : List (List ℕ)) → All IsLine lines → AreLinesOf text lines → lines ≡ lines_of text
unfolding lines_of
one_list_fits text lines all no_line = refl
one_list_fits text lines all (last_line {b = b} {line = line}) = sym (lines_of-last b line (All-head IsLine (b ∷ line) [] all))
one_list_fits text lines all (ended_line {line = line} {text = rest} {lines = others} h) =
    ap (λ (ls : List (List ℕ)). line ∷ ls) (one_list_fits rest others (All-tail IsLine line others all) h) ∙ sym (lines_of-ended line rest (All-head IsLine line others all))

-- ---- what is too long

-- the first line of a text that goes on with a line is longer than what the line had so far
pub first_line : (line : List ℕ) (b : ℕ) (rest : List ℕ) → IsLine line → b ≢ 10
    → (first : List ℕ) × (others : List (List ℕ)) × (lines_of (line ++ b ∷ rest) ≡ first ∷ others) × (length line < length first)
first_line [] b rest h isnt =
    elim (lines_of rest) as (λ ls. lines_of rest ≡ ls → (first : List ℕ) × (others : List (List ℕ)) × (lines_of (b ∷ rest) ≡ first ∷ others) × (0 < length first)) [
      | [] ↦ λ e. (b ∷ [], [], other b rest isnt ∙ ap (onto_first b) e, omega arith)
      | line ∷ lines ↦ λ e. (b ∷ line, lines, other b rest isnt ∙ ap (onto_first b) e, omega arith)
    ] refl
first_line (c ∷ line) b rest h isnt =
    let f = first_line line b rest (All-tail IsNoEnd c line h) isnt in
    (c ∷ f.0, f.1, other c (line ++ b ∷ rest) (All-head IsNoEnd c line h) ∙ ap (onto_first c) f.2, omega (arith, f.3))

some_line : (b : ℕ) (bs : List ℕ) → 0 < length (lines_of (b ∷ bs))
unfolding lines_of
some_line b bs = grind arith

-- a byte begins a line, or goes on with one
pub lines_of-some : (line : List ℕ) (b : ℕ) (rest : List ℕ) → 0 < length (lines_of (line ++ b ∷ rest))
lines_of-some [] b rest = some_line b rest
lines_of-some (c ∷ line) b rest = some_line c (line ++ b ∷ rest)

pub short_lines : (lines : List (List ℕ)) → All IsShort lines → ¬ Any (λ line. most_bytes < length line) lines
short_lines lines short h = absurd (omega (arith, short h.0 h.1 h.2, ap length h.3, h.4))

-- ---- the line so far, as the last one

pub last_line-short : (line : List ℕ) → IsLine line → length line ≤ most_bytes → All IsShort (lines_of line)
unfolding lines_of
last_line-short [] h short = All-nil IsShort
last_line-short (b ∷ line) h short = rw (lines_of-last b line h) (All-cons IsShort (b ∷ line) [] short (All-nil IsShort))

pub last_line-few : (line : List ℕ) (n : ℕ) → IsLine line → n ≤ most_lines → (0 < length line → n < most_lines) → n + length (lines_of line) ≤ most_lines
unfolding lines_of
last_line-few [] n h few room = omega (arith, few)
last_line-few (b ∷ line) n h few room = rw (lines_of-last b line h) (omega (arith, room (omega arith)))
