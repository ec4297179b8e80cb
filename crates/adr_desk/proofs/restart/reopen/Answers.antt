use Rattle.std.proofs.Common.{inl, ap, ◌∙◌}
use Rattle.std.proofs.Math.Logic.{∥∥₁_map}
use Rattle.sqlite.specs.Held.{Held}
use Rattle.sqlite.specs.Effect.{Database}
use Rattle.sqlite.specs.declared.FileStore.{FileStore}
use Rattle.sqlite.specs.Files.{file_state}
use Rattle.sqlite.proofs.Callers.{finds_again}
use Rattle.adr_db.specs.ReadBack.{state_in}
use Rattle.adr_state.specs.declared.limits.Settings.{Settings}
use Rattle.adr_desk.proofs.Restarts.{some_then, left_by}
use Rattle.adr_desk.proofs.restart.reopen.Goals as goal

pub returns-in-Ok-open_files : goal.returns-in-Ok-open_files
returns-in-Ok-open_files g c =
    let old = file_state c.args.desk.conn in
    let conn = c.in-Ok-open_files.conn in
    let same = ap (λ (p : Settings × Held (FileStore g.row.D.Denot g.D.Disk)). p.1) c.into_parts-settings.ensures.same in
    some_then c.over_left.result (λ again found clean is_open sound.
    let it = found clean is_open in
    let opened = c.in-Ok-open_files.ensures.opened it.0 in
    let kept = finds_again c.into_parts-settings.result.1 conn c.in-Ok.files c.in-Ok.ensures.copied (c.in-Ok-open_files.ensures.found it.0) in
    let trees = ap (λ (d : Database). d.trees) opened.0.clean ∙ kept ∙ ap (λ (h : Held (FileStore g.row.D.Denot g.D.Disk)). (file_state h).committed.trees) same ∙ ap (λ (d : Database). d.trees) (c.rests.ensures.committed sound) in
    ∥∥₁_map (c.sound_is_held.ensures sound) (λ was. let both = it.1 opened.0.is_open (state_in old) (inl (left_by (state_in old) old _ trees was)) in both)) c.over_left.ensures
