use Rattle.std.proofs.Common.{sym, ap, ◌∙◌, [], ◌∷◌, ◌++◌, List, ℕ, Err, arith}
use Rattle.std.proofs.lemmas.Result.{err_from_is_err_and}
use Rattle.std.proofs.lemmas.List.Elements.{All-nil, All-cons}
use Rattle.adr_script.specs.Lines.{lines_of, IsShort}
use Rattle.adr_script.proofs.Lines.{lines_of-ended}
use Rattle.adr_script.proofs.Readings.{HasStopped-plain}
use Rattle.adr_script.proofs.script.take_end.Goals as goal

pub returns-in_err-progress-clause-err : goal.returns-in_err-progress-clause-err
returns-in_err-progress-clause-err g c =
    let line = c.args.progress.now.line.items in
    let end = c.in_err-progress.ensures in
    let handed = err_from_is_err_and c.from_residual.result c.from_residual.ensures.1 in
    rw (handed.1, handed.2) (λ rest.
    HasStopped-plain (λ e. end.no_long_line (ap (λ x. Err x) e)) (λ e. end.no_long_script (ap (λ x. Err x) e)) (λ sound. rw (lines_of-ended line rest c.args.progress.now.no_end) (end.err.1 sound (lines_of rest))))

-- the line ended
pub returns-clause-ok : goal.returns-clause-ok
returns-clause-ok g c =
    let line = c.args.progress.now.line.items in
    record {
      ended = line ∷ [];
      lines = λ rest. lines_of-ended line rest c.args.progress.now.no_end ∙ ap (λ (l : List ℕ). line ∷ lines_of (l ++ rest)) (sym c.clear.ensures.items);
      short = All-cons IsShort line [] c.args.progress.now.short (All-nil IsShort);
      seen = omega arith;
      runs = c.in_ok-progress.ensures.ok;
    }
