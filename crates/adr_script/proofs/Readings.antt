-- Readings of a script, one after another, and where they end.
use Rattle.std.proofs.Common.{◌≡◌, ℕ, ◌<◌, List, [], ◌∷◌, ◌++◌, length, Option, Some, None, IfSome, append_assoc, append-nil, length-append, refl, sym, ap, ◌∙◌, subst, arith}
use Rattle.std.specs.Prelude.{◌≢◌}
use Rattle.std.specs.Io.KnownBytes.{Consumes}
use Rattle.std.proofs.lemmas.List.Elements.{All-nil, All-append}
use Rattle.adr_state.specs.declared.state.State.{State}
use Rattle.adr_state.specs.declared.limits.Settings.{Settings}
use Rattle.adr_script.specs.declared.fault.ScriptFault.{ScriptFault}
use Rattle.adr_script.specs.declared.fault.ScriptFault.TheVariants.{LineTooLong, ScriptTooLong}
use Rattle.adr_script.specs.declared.progress.Progress.{Progress}
use Rattle.adr_script.specs.Lines.{lines_of, IsShort, HasLongLine, HasManyLines}
use Rattle.adr_script.specs.Scripts.{RunsScript, StopsScript}
use Rattle.adr_script.specs.Readings.{HasRead, HasStopped}
use Rattle.adr_script.proofs.Lines.{short_lines, last_line-short, last_line-few}
use Rattle.adr_script.proofs.Scripts.{Runs-nothing, Runs-append, Runs-last, Stops-at_once, Stops-after, LongLine-after, ManyLines-after, Stops-last}

module _ {may_refuse : Type 0} {settings : Settings} where
  pub HasRead-nothing : {P : Type 0} {s : State} {o : Option (List ℕ)} {p : Progress} → HasRead P may_refuse settings s s o o p p []
  HasRead-nothing = record { ended = []; lines = λ rest. refl; short = All-nil IsShort; seen = omega arith; runs = λ sound. Runs-nothing }

  -- a text, and then one more
  pub HasRead-append : {P Q : Type 0} {s u t : State} {o m w : Option (List ℕ)} {p q r : Progress} {xs ys : List ℕ} → (Q → P)
      → HasRead P may_refuse settings s u o m p q xs → HasRead Q may_refuse settings u t m w q r ys → HasRead Q may_refuse settings s t o w p r (xs ++ ys)
  HasRead-append {r = r} {xs = xs} {ys = ys} was a b =
      record {
        ended = a.ended ++ b.ended;
        lines = λ rest. rw (append_assoc xs ys rest) (a.lines (ys ++ rest) ∙ ap (λ (ls : List (List ℕ)). a.ended ++ ls) (b.lines rest) ∙ sym (append_assoc a.ended b.ended (lines_of (r.line.items ++ rest))));
        short = All-append IsShort a.ended b.ended a.short b.short;
        seen = omega (arith, length-append a.ended b.ended, a.seen, b.seen);
        runs = λ sound. Runs-append (a.runs (was sound)) (b.runs sound);
      }

  -- a text, and then one in which a fault came
  pub HasStopped-after : {P Q : Type 0} {s u t : State} {o m w : Option (List ℕ)} {p q : Progress} {xs ys : List ℕ} {fault : ScriptFault} → (Q → P)
      → HasRead P may_refuse settings s u o m p q xs → HasStopped Q may_refuse settings u t m w q ys fault → HasStopped Q may_refuse settings s t o w p (xs ++ ys) fault
  HasStopped-after {q = q} {ys = ys} was a b =
      record {
        stops = λ sound. rw (a.lines ys) (Stops-after (a.runs (was sound)) (b.stops sound));
        long_line = λ e. rw (a.lines ys) (LongLine-after was a.short a.seen a.runs (b.long_line e));
        long_script = λ e. rw (a.lines ys) (ManyLines-after was a.short a.seen a.runs (b.long_script e));
      }

  -- a fault that is no limit's
  pub HasStopped-plain : {P : Type 0} {s t : State} {o w : Option (List ℕ)} {p : Progress} {text : List ℕ} {fault : ScriptFault} → fault ≢ LineTooLong → fault ≢ ScriptTooLong
      → (P → StopsScript may_refuse settings s (lines_of (p.line.items ++ text)) t o w) → HasStopped P may_refuse settings s t o w p text fault
  HasStopped-plain no_line no_script stops = record { stops = stops; long_line = λ e. absurd (no_line e); long_script = λ e. absurd (no_script e) }

  -- ---- whole scripts

  module _ {P : Type 0} {s u : State} {o m : Option (List ℕ)} {p q : Progress} {text : List ℕ} (fresh : p.line.items ≡ []) (a : HasRead P may_refuse settings s u o m p q text) where
    goes_on : (rest : List ℕ) → lines_of (text ++ rest) ≡ a.ended ++ lines_of (q.line.items ++ rest)
    goes_on rest = ap (λ (l : List ℕ). lines_of (l ++ (text ++ rest))) (sym fresh) ∙ a.lines rest

    whole : lines_of text ≡ a.ended ++ lines_of q.line.items
    whole = simp append-nil at (goes_on [])

    pub Stops-read : (rest : List ℕ) → P → StopsScript may_refuse settings s (lines_of (text ++ rest)) u o m
    Stops-read rest sound = rw (goes_on rest) (Stops-after (a.runs sound) Stops-at_once)

    pub Runs-whole : {t : State} {w : Option (List ℕ)} {n : ℕ} → P → RunsScript may_refuse settings u (q.line.items ∷ []) t m w q.printed n → RunsScript may_refuse settings s (lines_of text) t o w p.printed n
    Runs-whole sound b = rw whole (Runs-append (a.runs sound) (Runs-last q.no_end b))

    pub Stops-whole : {t : State} {w : Option (List ℕ)} → P → 0 < length q.line.items → StopsScript may_refuse settings u (q.line.items ∷ []) t m w → StopsScript may_refuse settings s (lines_of text) t o w
    Stops-whole sound some b = rw whole (Stops-after (a.runs sound) (Stops-last q.no_end some b))

    pub short_whole : ¬ HasLongLine text
    short_whole = rw whole (short_lines (a.ended ++ lines_of q.line.items) (All-append IsShort a.ended (lines_of q.line.items) a.short (last_line-short q.line.items q.no_end q.short)))

    pub few_whole : p.seen ≡ 0 → ¬ HasManyLines text
    few_whole none many =
        absurd (omega (arith, ap length whole, length-append a.ended (lines_of q.line.items), a.seen, none, last_line-few q.line.items q.seen q.no_end q.few q.room, many))

-- what holds however the text goes on holds of the text
pub whatever_follows : (old mid new : Option (List ℕ)) (xs ys : List ℕ) (P : List ℕ → Type 0) → Consumes old mid xs → Consumes mid new ys → ((rest : List ℕ) → P (xs ++ (ys ++ rest))) → IfSome old P
whatever_follows None mid new xs ys P c d h = tt
whatever_follows (Some text) None new xs ys P c d h = absurd c
whatever_follows (Some text) (Some left) None xs ys P c d h = absurd d
whatever_follows (Some text) (Some left) (Some rest) xs ys P c d h = subst P (sym (c ∙ ap (λ (l : List ℕ). xs ++ l) d)) (h rest)

-- what holds of anything holds of what is there
pub of_any : {A : Type 0} {P : A → Type 0} (o : Option A) → ((x : A) → P x) → IfSome o P
of_any None all = tt
of_any (Some x) all = all x
