use Rattle.std.proofs.Common.{◌++◌, ◌∙◌, refl, sym, ap, length, List, ℕ, [], ◌∷◌, append_assoc, arith}
use Rattle.std.proofs.lemmas.Result.{err_from_is_err_and}
use Rattle.std.proofs.lemmas.List.Elements.{All-nil}
use Rattle.adr_script.specs.Lines.{lines_of, IsShort}
use Rattle.adr_script.proofs.Lines.{first_line, lines_of-some}
use Rattle.adr_script.proofs.Scripts.{Runs-nothing, Stops-at_once}
use Rattle.adr_script.proofs.Readings.{HasStopped-plain}
use Rattle.adr_script.proofs.script.take_byte.Goals as goal

pub returns-then-progress-eq-MOST_LINES-clause-err : goal.returns-then-progress-eq-MOST_LINES-clause-err
returns-then-progress-eq-MOST_LINES-clause-err g c =
    λ rest. record {
      stops = λ sound. Stops-at_once;
      long_line = λ e. cc;
      long_script = λ e. record {
        before = [];
        others = lines_of (c.args.progress.now.line.items ++ c.args.byte ∷ rest);
        lines_are = refl;
        short = All-nil IsShort;
        as_many = omega (arith, c.if-progress-eq-MOST_LINES.true);
        more = lines_of-some c.args.progress.now.line.items c.args.byte rest;
        runs = λ sound. (c.args.progress.now.printed, Runs-nothing);
      };
    }

pub returns-then-so_far-eq-MOST_BYTES-clause-err : goal.returns-then-so_far-eq-MOST_BYTES-clause-err
returns-then-so_far-eq-MOST_BYTES-clause-err g c =
    λ rest.
    let first = first_line c.args.progress.now.line.items c.args.byte rest c.args.progress.now.no_end c.if-byte-eq10.false in
    record {
      stops = λ sound. Stops-at_once;
      long_line = λ e. record {
        before = [];
        long = first.0;
        others = first.1;
        lines_are = first.2;
        short = All-nil IsShort;
        few = omega (arith, c.args.progress.now.few, c.if-progress-eq-MOST_LINES.false);
        is_long = omega (arith, first.3, ap length (sym c.as_slice-so_far.ensures.value) ∙ c.if-so_far-eq-MOST_BYTES.true);
        runs = λ sound. (c.args.progress.now.printed, Runs-nothing);
      };
      long_script = λ e. cc;
    }

pub returns-in_err-push-clause-err : goal.returns-in_err-push-clause-err
returns-in_err-push-clause-err g c =
    let handed = err_from_is_err_and c.from_residual.result c.from_residual.ensures.1 in
    rw (handed.1, handed.2) (λ rest. HasStopped-plain (λ e. cc) (λ e. cc) (λ sound. Stops-at_once))

-- the line goes on
pub returns-clause-ok : goal.returns-clause-ok
returns-clause-ok g c =
    let line = c.args.progress.now.line.items in
    record {
      ended = [];
      lines = λ rest. ap lines_of (sym (append_assoc line (c.args.byte ∷ []) rest) ∙ ap (λ (l : List ℕ). l ++ rest) (sym c.in_ok-push.ensures.items));
      short = All-nil IsShort;
      seen = omega arith;
      runs = λ sound. Runs-nothing;
    }
