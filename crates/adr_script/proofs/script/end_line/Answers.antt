use Rattle.std.proofs.Common.{◌≡◌, ◌∙◌, ◌==◌, false, length, sym}
use Rattle.std.proofs.lemmas.Result.{err_from_is_err_and}
use Rattle.std.proofs.KnownBytes.{Appends-nil}
use Rattle.adr_script.specs.Turns.{want_line}
use Rattle.adr_script.proofs.Turns.{left_is_a_turn}
use Rattle.adr_script.proofs.Scripts.{Runs-empty, Runs-turn, Stops-turn, some_line}
use Rattle.adr_script.proofs.script.end_line.Goals as goal

pub returns-then-is_empty-clause-ok : goal.returns-then-is_empty-clause-ok
returns-then-is_empty-clause-ok g c = λ sound. rw (← c.as_slice-line.ensures.value) (Runs-empty c.as_slice-line.result.now (sym c.if-is_empty.true ∙ c.is_empty.ensures))

pub returns-in_err-out-clause-err : goal.returns-in_err-out-clause-err
returns-in_err-out-clause-err g c =
    let handed = err_from_is_err_and c.from_residual.result c.from_residual.ensures.1 in
    let some : false ≡ (length c.as_slice-line.result.now == 0) = sym c.if-is_empty.false ∙ c.is_empty.ensures in
    rw (handed.1, ← c.as_slice-line.ensures.value) (
      some_line c.as_slice-line.result.now some,
      λ sound others.
          let left = left_is_a_turn (want_line c.as_slice-line.result.now) (c.in_err-out.ensures.err sound) in
          Stops-turn 0 some left.1 (Appends-nil (g.W.Sink.written c.args.sink.now)),
    )

pub returns-in-Ok-clause-ok : goal.returns-in-Ok-clause-ok
returns-in-Ok-clause-ok g c =
    let written = rw (c.as_bytes.ensures.value, c.as_str.ensures.value) at c.in-Ok.ensures.ok in
    λ sound. rw (← c.as_slice-line.ensures.value) (Runs-turn (sym c.if-is_empty.false ∙ c.is_empty.ensures) (c.in_ok-out.ensures.ok sound) written)

pub returns-clause-err : goal.returns-clause-err
returns-clause-err g c =
    let written = rw (c.as_bytes.ensures.value, c.as_str.ensures.value) at c.in-Err.ensures.err.written in
    let some : false ≡ (length c.as_slice-line.result.now == 0) = sym c.if-is_empty.false ∙ c.is_empty.ensures in
    rw (← c.as_slice-line.ensures.value) (some_line c.as_slice-line.result.now some, λ sound others. Stops-turn c.in-Err.ensures.err.part some (c.in_ok-out.ensures.ok sound) written)
