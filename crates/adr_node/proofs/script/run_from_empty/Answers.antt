use Rattle.std.proofs.Common.{◌≡◌, ℕ, List, [], Option, IfSome, subst}
use Rattle.std.proofs.KnownBytes.{Consumes-nil}
use Rattle.std.proofs.lemmas.Option.{IfSome_then}
use Rattle.std.proofs.lemmas.Result.{err_from_is_err_and}
use Rattle.adr_state.specs.States.{empty}
use Rattle.adr_state.specs.declared.state.State.{State}
use Rattle.adr_state.specs.declared.limits.Limits.{Limits}
use Rattle.adr_state.specs.declared.limits.Settings.{Settings}
use Rattle.adr_script.specs.Lines.{lines_of}
use Rattle.adr_script.specs.Scripts.{RunsScript, StopsScript, StopsAtLongLine, StopsAtManyLines}
use Rattle.adr_script.proofs.Scripts.{Stops-at_once}
use Rattle.adr_script.proofs.Readings.{whatever_follows}
use Rattle.adr_node.specs.Script.{settings_of, RunsFromEmpty, StopsFromEmpty, EndsAtLongLine, EndsAtManyLines}
use Rattle.adr_node.proofs.script.run_from_empty.Goals as goal

-- a run over a sound desk, from the empty state and under the settings that were meant
module _ (limits : Limits) {IsSound : Type 0} (sound : IsSound) {settings : Settings} {s : State} (are : settings ≡ settings_of limits) (at : s ≡ empty) (t : State) (left old new : Option (List ℕ)) where
  from_empty : (P : Settings → State → Type 0) → P settings s → P (settings_of limits) empty
  from_empty P h = subst (λ (x : Settings). P x empty) are (subst (λ (u : State). P settings u) at h)

  runs : (n : ℕ) → IfSome left (λ text. IsSound → RunsScript (Unit {0}) settings s (lines_of text) t old new 0 n) → IfSome left (λ text. RunsFromEmpty limits text old new n)
  runs n h = IfSome_then left h (λ text ran. (t, from_empty (λ x u. RunsScript (Unit {0}) x u (lines_of text) t old new 0 n) (ran sound)))

  stops : IfSome left (λ text. IsSound → StopsScript (Unit {0}) settings s (lines_of text) t old new) → IfSome left (λ text. StopsFromEmpty limits text old new)
  stops h = IfSome_then left h (λ text ran. (t, from_empty (λ x u. StopsScript (Unit {0}) x u (lines_of text) t old new) (ran sound)))

  at_long_line : IfSome left (λ text. StopsAtLongLine IsSound (Unit {0}) settings s (lines_of text) t old new 0 0) → IfSome left (λ text. EndsAtLongLine limits text old new)
  at_long_line h =
      IfSome_then left h (λ text a. (
        t,
        from_empty (λ x u. StopsAtLongLine (Unit {0}) (Unit {0}) x u (lines_of text) t old new 0 0)
            (record { before = a.before; long = a.long; others = a.others; lines_are = a.lines_are; short = a.short; few = a.few; is_long = a.is_long; runs = λ _. a.runs sound }),
      ))

  at_many_lines : IfSome left (λ text. StopsAtManyLines IsSound (Unit {0}) settings s (lines_of text) t old new 0 0) → IfSome left (λ text. EndsAtManyLines limits text old new)
  at_many_lines h =
      IfSome_then left h (λ text a. (
        t,
        from_empty (λ x u. StopsAtManyLines (Unit {0}) (Unit {0}) x u (lines_of text) t old new 0 0)
            (record { before = a.before; others = a.others; lines_are = a.lines_are; short = a.short; as_many = a.as_many; more = a.more; runs = λ _. a.runs sound }),
      ))

-- the desk could not be opened: no line was taken
pub returns-in_err-desk-clause-some : goal.returns-in_err-desk-clause-some
returns-in_err-desk-clause-some g c =
    let left = g.S.Source.left c.args.source.now in
    let handed = err_from_is_err_and c.from_residual.result c.from_residual.ensures.1 in
    rw handed.1 (whatever_follows left left left [] [] _ (Consumes-nil left) (Consumes-nil left) (λ text. (empty, Stops-at_once)))

-- a fault came in the script
pub returns-in_err-run_script-clause-some : goal.returns-in_err-run_script-clause-some
returns-in_err-run_script-clause-some g c =
    let desk = c.in_ok-desk.ensures in
    let handed = err_from_is_err_and c.from_residual-in_err-run_script.result c.from_residual-in_err-run_script.ensures.1 in
    rw handed.1 (stops c.args.limits (c.in_err-run_script.ensures.stays_sound desk.sound (c.memory_stands.ensures c.run_script.new.desk)) desk.settings desk.state _ _ _ _ c.in_err-run_script.ensures.some)

pub returns-in_err-run_script-clause-long_line : goal.returns-in_err-run_script-clause-long_line
returns-in_err-run_script-clause-long_line g c =
    let desk = c.in_ok-desk.ensures in
    let handed = err_from_is_err_and c.from_residual-in_err-run_script.result c.from_residual-in_err-run_script.ensures.1 in
    λ e. at_long_line c.args.limits (c.in_err-run_script.ensures.stays_sound desk.sound (c.memory_stands.ensures c.run_script.new.desk)) desk.settings desk.state _ _ _ _ (c.in_err-run_script.ensures.long_line cc)

pub returns-in_err-run_script-clause-long_script : goal.returns-in_err-run_script-clause-long_script
returns-in_err-run_script-clause-long_script g c =
    let desk = c.in_ok-desk.ensures in
    let handed = err_from_is_err_and c.from_residual-in_err-run_script.result c.from_residual-in_err-run_script.ensures.1 in
    λ e. at_many_lines c.args.limits (c.in_err-run_script.ensures.stays_sound desk.sound (c.memory_stands.ensures c.run_script.new.desk)) desk.settings desk.state _ _ _ _ (c.in_err-run_script.ensures.long_script cc)

-- it ran to its end
pub returns-clause-all : goal.returns-clause-all
returns-clause-all g c =
    let desk = c.in_ok-desk.ensures in
    runs c.args.limits (c.in_ok-run_script.ensures.stays_sound desk.sound (c.memory_stands.ensures c.run_script.new.desk)) desk.settings desk.state _ _ _ _ _ c.in_ok-run_script.ensures.all
