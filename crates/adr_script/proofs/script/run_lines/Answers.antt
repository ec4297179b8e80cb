use Rattle.std.proofs.Common.{◌++◌, ◌∙◌, ap, take, [], append-nil, List, ℕ, IfSome, refl, arith}
use Rattle.std.proofs.KnownBytes.{Consumes-nil, Consumes-trans, Consumes-whole}
use Rattle.std.proofs.lemmas.Result.{IfOk-weaker, on_err_weaker, err_from_is_err_and}
use Rattle.adr_script.proofs.Readings.{HasRead-nothing, HasRead-append, HasStopped-after, Runs-whole, Stops-whole, Stops-read, short_whole, few_whole, whatever_follows}
use Rattle.adr_text.specs.Calls.{Calls}
use Rattle.adr_script.proofs.script.run_lines.Given.{Over}
use Rattle.adr_script.proofs.script.run_lines.Goals as goal

pub loop-init : goal.loop-init
loop-init g c =
    record {
      calls = omega arith;
      failed = refl;
      write_failed = refl;
      bytes = [];
      consumed = Consumes-nil (g.S.Source.left c.args.source.now);
      read = HasRead-nothing;
      was_sound = λ sound. sound;
      stays_sound = λ sound stands. sound;
      stood = λ stands. stands;
      settings = refl;
    }

-- a piece more
pub loop-preserved : goal.loop-preserved
loop-preserved g c =
    let before = c.loop.invariant in
    let piece = c.in_ok-take_piece.ensures in
    record {
      calls = omega (arith, ap (λ (calls : Calls). calls.made) c.in-Ok.ensures.calls, before.calls);
      failed = omega (arith, ap (λ (calls : Calls). calls.failed) c.in-Ok.ensures.calls, before.failed);
      write_failed = piece.no_write_fault (λ e. cc) ∙ before.write_failed;
      bytes = before.bytes ++ take c.in-Ok.n c.pull.new.into;
      consumed = Consumes-trans _ _ _ before.bytes _ before.consumed c.in-Ok.ensures.bytes.0;
      read = HasRead-append piece.was_sound before.read (rw before.settings at piece.ok);
      was_sound = λ sound. before.was_sound (piece.was_sound sound);
      stays_sound = λ sound stands. piece.stays_sound (before.stays_sound sound (piece.stood stands)) stands;
      stood = λ stands. before.stood (piece.stood stands);
      settings = piece.same_settings ∙ before.settings;
    }

-- a read failed, or there were too many
pub returns-in-Err-clause-some : goal.returns-in-Err-clause-some
returns-in-Err-clause-some g c =
    let before = c.loop.invariant in
    whatever_follows _ _ _ before.bytes [] _ before.consumed (Consumes-nil (g.S.Source.left c.loop.source)) (Stops-read c.new.ensures.items before.read)

pub returns-clause-some : goal.returns-clause-some
returns-clause-some g c =
    let before = c.loop.invariant in
    whatever_follows _ _ _ before.bytes [] _ before.consumed (Consumes-nil (g.S.Source.left c.loop.source)) (Stops-read c.new.ensures.items before.read)

-- a fault came in a piece
pub returns-in_err-take_piece-clause-some : goal.returns-in_err-take_piece-clause-some
returns-in_err-take_piece-clause-some g c =
    let before = c.loop.invariant in
    let piece = c.in_err-take_piece.ensures in
    let handed = err_from_is_err_and c.from_residual.result c.from_residual.ensures.1 in
    rw handed.1 (whatever_follows _ _ _ before.bytes _ _ before.consumed c.in-Ok.ensures.bytes.0 (λ rest sound.
    rw c.new.ensures.items at ((HasStopped-after piece.was_sound before.read (rw before.settings at (piece.err rest))).stops sound)))

pub returns-in_err-take_piece-clause-long_line : goal.returns-in_err-take_piece-clause-long_line
returns-in_err-take_piece-clause-long_line g c =
    let before = c.loop.invariant in
    let piece = c.in_err-take_piece.ensures in
    let handed = err_from_is_err_and c.from_residual.result c.from_residual.ensures.1 in
    λ e. whatever_follows _ _ _ before.bytes _ _ before.consumed c.in-Ok.ensures.bytes.0 (λ rest.
    rw c.new.ensures.items at ((HasStopped-after piece.was_sound before.read (rw before.settings at (piece.err rest))).long_line cc))

pub returns-in_err-take_piece-clause-long_script : goal.returns-in_err-take_piece-clause-long_script
returns-in_err-take_piece-clause-long_script g c =
    let before = c.loop.invariant in
    let piece = c.in_err-take_piece.ensures in
    let handed = err_from_is_err_and c.from_residual.result c.from_residual.ensures.1 in
    λ e. whatever_follows _ _ _ before.bytes _ _ before.consumed c.in-Ok.ensures.bytes.0 (λ rest.
    rw c.new.ensures.items at ((HasStopped-after piece.was_sound before.read (rw before.settings at (piece.err rest))).long_script cc))

-- the source is at its end: what was read is the text
the_text : (g : Over) (c : goal.After-drop-progress-then-n-eq0 g) (P : List ℕ → Type 0) → P c.loop.invariant.bytes → IfSome (g.S.Source.left c.args.source.now) P
the_text g c P =
    Consumes-whole _ _ c.loop.invariant.bytes P (rw (c.if-n-eq0.true, append-nil) at (Consumes-trans _ _ _ c.loop.invariant.bytes _ c.loop.invariant.consumed c.in-Ok.ensures.bytes.0))
    (c.in-Ok.ensures.bytes.1 c.if-n-eq0.true (omega arith))

pub returns-then-n-eq0-clause-all : goal.returns-then-n-eq0-clause-all
returns-then-n-eq0-clause-all g c =
    let before = c.loop.invariant in
    let end = c.end_line.ensures in
    IfOk-weaker c.end_line.result _ _ (λ n h. the_text g c _ (λ sound. Runs-whole c.new.ensures.items before.read (end.was_sound sound) (rw before.settings at (h sound)))) end.ok

pub returns-then-n-eq0-clause-some : goal.returns-then-n-eq0-clause-some
returns-then-n-eq0-clause-some g c =
    let before = c.loop.invariant in
    let end = c.end_line.ensures in
    on_err_weaker c.end_line.result (λ h. the_text g c _ (λ sound. Stops-whole c.new.ensures.items before.read (end.was_sound sound) h.0 (rw before.settings at (h.1 sound [])))) end.err

pub returns-then-n-eq0-clause-short_lines : goal.returns-then-n-eq0-clause-short_lines
returns-then-n-eq0-clause-short_lines g c =
    IfOk-weaker c.end_line.result _ _ (λ n few. the_text g c _ (short_whole c.new.ensures.items c.loop.invariant.read)) c.end_line.ensures.few

pub returns-then-n-eq0-clause-few_lines : goal.returns-then-n-eq0-clause-few_lines
returns-then-n-eq0-clause-few_lines g c =
    IfOk-weaker c.end_line.result _ _ (λ n few. the_text g c _ (few_whole c.new.ensures.items c.loop.invariant.read refl)) c.end_line.ensures.few
