use Rattle.std.proofs.Common.{◌≡◌, ◌++◌, ◌∷◌, take, drop, get_or, refl, sym, ap, ◌∙◌, List, ℕ, suc, append_assoc}
use Rattle.std.proofs.Math.Seq.{drop-cons}
use Rattle.std.proofs.lemmas.Result.{err_from_is_err_and}
use Rattle.std.proofs.lemmas.List.{take_more, take-append-drop}
use Rattle.adr_script.proofs.Readings.{HasRead-nothing, HasRead-append, HasStopped-after}
use Rattle.adr_script.proofs.script.take_piece.Goals as goal

pub loop-byte-init : goal.loop-byte-init
loop-byte-init g c = record { read = HasRead-nothing; write_failed = refl; was_sound = λ sound. sound; stays_sound = λ sound stands. sound; stood = λ stands. stands; settings = refl }

-- a byte more
pub loop-byte-preserved : goal.loop-byte-preserved
loop-byte-preserved g c =
    let before = c.loop-byte.invariant in
    let byte = c.in_ok-take_byte.ensures in
    record {
      read = rw (take_more c.args.piece.now c.loop-byte.byte-index 0 c.loop-byte-test.true) (HasRead-append byte.was_sound before.read (rw before.settings at byte.ok));
      write_failed = byte.no_write_fault (λ e. cc) ∙ before.write_failed;
      was_sound = λ sound. before.was_sound (byte.was_sound sound);
      stays_sound = λ sound stands. byte.stays_sound (before.stays_sound sound (byte.stood stands)) stands;
      stood = λ stands. before.stood (byte.stood stands);
      settings = byte.same_settings ∙ before.settings;
    }

-- a fault came at a byte
pub returns-in_err-take_byte-clause-err : goal.returns-in_err-take_byte-clause-err
returns-in_err-take_byte-clause-err g c =
    let before = c.loop-byte.invariant in
    let byte = c.in_err-take_byte.ensures in
    let piece = c.args.piece.now in
    let i = c.loop-byte.byte-index in
    let b = get_or piece i 0 in
    let whole : piece ≡ take i piece ++ b ∷ drop (suc i) piece = sym (take-append-drop i piece) ∙ ap (λ (l : List ℕ). take i piece ++ l) (drop-cons piece i 0 c.loop-byte-test.true) in
    let handed = err_from_is_err_and c.from_residual.result c.from_residual.ensures.1 in
    rw (handed.1, handed.2) (λ rest.
    rw (ap (λ (l : List ℕ). l ++ rest) whole ∙ append_assoc (take i piece) (b ∷ drop (suc i) piece) rest)
    (HasStopped-after byte.was_sound before.read (rw before.settings at (byte.err (drop (suc i) piece ++ rest)))))
