-- Runs of scripts, one after another.
use Rattle.std.proofs.Common.{◌≡◌, ℕ, ◌+◌, ◌<◌, true, false, List, [], ◌∷◌, ◌++◌, length, take, cond, Option, append_assoc, append-nil, length-append, refl, sym, ap, ◌∙◌, true≢false, arith}
use Rattle.std.specs.Prelude.{◌==◌, not, All}
use Rattle.std.proofs.Math.Dec.{eqb-suc-zero}
use Rattle.std.proofs.lemmas.List.Sums.{sum_by-append}
use Rattle.std.proofs.lemmas.List.Elements.{All-append}
use Rattle.std.specs.Io.KnownBytes.{Appends}
use Rattle.std.proofs.KnownBytes.{Appends-trans, Appends-nil}
use Rattle.adr_state.specs.declared.state.State.{State}
use Rattle.adr_state.specs.declared.limits.Settings.{Settings}
use Rattle.adr_script.specs.Turns.{IsTurn}
use Rattle.adr_script.specs.Lines.{lines_of, IsLine, IsShort}
use Rattle.adr_script.specs.Scripts.{Prints, passed_over, has_turn, PrintAll, no_lines, line_first, no_more, one_more, RunsScript, StopsScript, StopsAtLongLine, StopsAtManyLines}
use Rattle.adr_script.proofs.Lines.{lines_of-last}

behind : (xs before others : List (List ℕ)) {ys : List (List ℕ)} → ys ≡ before ++ others → xs ++ ys ≡ (xs ++ before) ++ others
behind xs before others is = ap (λ (lines : List (List ℕ)). xs ++ lines) is ∙ sym (append_assoc xs before others)

pub some_line : (line : List ℕ) → false ≡ (length line == 0) → 0 < length line
some_line [] h = absurd (true≢false (sym h))
some_line (b ∷ line) h = omega arith

module _ {may_refuse : Type 0} {settings : Settings} where
  PrintAll-append : {s u t : State} {xs ys : List (List ℕ)} {a b : List ℕ} → PrintAll may_refuse settings s xs a u → PrintAll may_refuse settings u ys b t → PrintAll may_refuse settings s (xs ++ ys) (a ++ b) t
  PrintAll-append no_lines q = q
  PrintAll-append (line_first first others) q = rw append_assoc (line_first first (PrintAll-append others q))

  PrintAll-one : {s t : State} {line out : List ℕ} → Prints may_refuse settings s line out t → PrintAll may_refuse settings s (line ∷ []) out t
  PrintAll-one h = rw append-nil at (line_first h no_lines)

  -- ---- runs

  pub Runs-nothing : {s : State} {o : Option (List ℕ)} {p : ℕ} → RunsScript may_refuse settings s [] s o o p p
  Runs-nothing {o = o} = record { out = []; prints = no_lines; written = Appends-nil o; counted = omega arith }

  pub Runs-empty : {s : State} {o : Option (List ℕ)} {p : ℕ} (line : List ℕ) → true ≡ (length line == 0) → RunsScript may_refuse settings s (line ∷ []) s o o p p
  Runs-empty {o = o} [] h = record { out = []; prints = PrintAll-one passed_over; written = Appends-nil o; counted = omega arith }
  Runs-empty (b ∷ line) h = absurd (true≢false (h ∙ eqb-suc-zero (length line)))

  pub Runs-turn : {s t : State} {line out : List ℕ} {o w : Option (List ℕ)} {p : ℕ} → false ≡ (length line == 0) → IsTurn may_refuse settings s line out t → Appends o w out → RunsScript may_refuse settings s (line ∷ []) t o w p (p + 1)
  Runs-turn {line = []} h turn written = absurd (true≢false (sym h))
  Runs-turn {line = b ∷ line} {out = out} h turn written = record { out = out; prints = PrintAll-one (has_turn turn); written = written; counted = rw (← h) (omega arith) }

  pub Runs-append : {s u t : State} {xs ys : List (List ℕ)} {o m w : Option (List ℕ)} {p q r : ℕ} → RunsScript may_refuse settings s xs u o m p q → RunsScript may_refuse settings u ys t m w q r
      → RunsScript may_refuse settings s (xs ++ ys) t o w p r
  Runs-append {xs = xs} {ys = ys} {o = o} {m = m} {w = w} a b =
      record {
        out = a.out ++ b.out;
        prints = PrintAll-append a.prints b.prints;
        written = Appends-trans o m w a.out b.out a.written b.written;
        counted = omega (arith, a.counted, b.counted, sum_by-append (λ (line : List ℕ). cond (not (length line == 0)) 1 0) xs ys);
      }

  -- ---- runs that stop

  pub Stops-at_once : {s : State} {lines : List (List ℕ)} {o : Option (List ℕ)} → StopsScript may_refuse settings s lines s o o
  Stops-at_once {s = s} {lines = lines} {o = o} =
      record { before = []; others = lines; lines_are = refl; out = []; between = s; prints = no_lines; last = []; next = no_more; part = 0; written = Appends-nil o }

  pub Stops-turn : {s t : State} {line out : List ℕ} {o w : Option (List ℕ)} {others : List (List ℕ)} (part : ℕ) → false ≡ (length line == 0) → IsTurn may_refuse settings s line out t → Appends o w (take part out)
      → StopsScript may_refuse settings s (line ∷ others) t o w
  Stops-turn {line = []} part h turn written = absurd (true≢false (sym h))
  Stops-turn {s = s} {line = b ∷ line} {out = out} {others = others} part h turn written =
      record { before = []; others = (b ∷ line) ∷ others; lines_are = refl; out = []; between = s; prints = no_lines; last = out; next = one_more (has_turn turn); part = part; written = written }

  pub Stops-after : {s u t : State} {xs ys : List (List ℕ)} {o m w : Option (List ℕ)} {p q : ℕ} → RunsScript may_refuse settings s xs u o m p q → StopsScript may_refuse settings u ys t m w
      → StopsScript may_refuse settings s (xs ++ ys) t o w
  Stops-after {xs = xs} {o = o} {m = m} {w = w} a b =
      record {
        before = xs ++ b.before;
        others = b.others;
        lines_are = behind xs b.before b.others b.lines_are;
        out = a.out ++ b.out;
        between = b.between;
        prints = PrintAll-append a.prints b.prints;
        last = b.last;
        next = b.next;
        part = b.part;
        written = rw (append_assoc a.out b.out (take b.part b.last)) (Appends-trans o m w a.out (b.out ++ take b.part b.last) a.written b.written);
      }

  module _ {P Q : Type 0} {s u t : State} {xs ys : List (List ℕ)} {o m w : Option (List ℕ)} {p q seen then : ℕ} (was : Q → P) (short : All IsShort xs) (is : then ≡ seen + length xs) (runs : P → RunsScript may_refuse settings s xs u o m p q) where
    pub LongLine-after : StopsAtLongLine Q may_refuse settings u ys t m w then q → StopsAtLongLine Q may_refuse settings s (xs ++ ys) t o w seen p
    LongLine-after b =
        record {
          before = xs ++ b.before;
          long = b.long;
          others = b.others;
          lines_are = behind xs b.before (b.long ∷ b.others) b.lines_are;
          short = All-append IsShort xs b.before short b.short;
          few = omega (arith, length-append xs b.before, is, b.few);
          is_long = b.is_long;
          runs = λ sound. let more = b.runs sound in (more.0, Runs-append (runs (was sound)) more.1);
        }

    pub ManyLines-after : StopsAtManyLines Q may_refuse settings u ys t m w then q → StopsAtManyLines Q may_refuse settings s (xs ++ ys) t o w seen p
    ManyLines-after b =
        record {
          before = xs ++ b.before;
          others = b.others;
          lines_are = behind xs b.before b.others b.lines_are;
          short = All-append IsShort xs b.before short b.short;
          as_many = omega (arith, length-append xs b.before, is, b.as_many);
          more = b.more;
          runs = λ sound. let more = b.runs sound in (more.0, Runs-append (runs (was sound)) more.1);
        }

  -- ---- the last line, which has no LF

  nothing_printed : {s t : State} {out : List ℕ} → PrintAll may_refuse settings s ([] ∷ []) out t → PrintAll may_refuse settings s [] out t
  nothing_printed (line_first passed_over no_lines) = no_lines

  pub Runs-last : {s t : State} {o w : Option (List ℕ)} {p q : ℕ} {line : List ℕ} → IsLine line → RunsScript may_refuse settings s (line ∷ []) t o w p q → RunsScript may_refuse settings s (lines_of line) t o w p q
  unfolding lines_of
  Runs-last {line = []} h a = record { out = a.out; prints = nothing_printed a.prints; written = a.written; counted = a.counted }
  Runs-last {line = b ∷ line} h a = rw (lines_of-last b line h) a

  pub Stops-last : {s t : State} {o w : Option (List ℕ)} {line : List ℕ} → IsLine line → 0 < length line → StopsScript may_refuse settings s (line ∷ []) t o w → StopsScript may_refuse settings s (lines_of line) t o w
  Stops-last {line = []} h some a = absurd (omega (arith, some))
  Stops-last {line = b ∷ line} h some a = rw (lines_of-last b line h) a
