-- How far the reading of a script has come.
use Rattle.std.specs.Prelude.{◌≡◌, ◌+◌, ℕ, List, ◌++◌, length, All, Option}
use Rattle.adr_state.specs.declared.state.State.{State}
use Rattle.adr_state.specs.declared.limits.Settings.{Settings}
use Rattle.adr_script.specs.declared.fault.ScriptFault.{ScriptFault}
use Rattle.adr_script.specs.declared.fault.ScriptFault.TheVariants.{LineTooLong, ScriptTooLong}
use Rattle.adr_script.specs.declared.progress.Progress.{Progress}
use Rattle.adr_script.specs.Lines.{lines_of, IsShort}
use Rattle.adr_script.specs.Scripts.{RunsScript, StopsScript, StopsAtLongLine, StopsAtManyLines}

-- behind the line so far a text was read: lines ended, none of them too long, which had their turn, and another line began
pub record HasRead (IsSound may_refuse : Type 0) (settings : Settings) (s t : State) (old new : Option (List ℕ)) (before after : Progress) (text : List ℕ) : Type 0 where
  pub ended : List (List ℕ)
  pub lines : (rest : List ℕ) → lines_of (before.line.items ++ (text ++ rest)) ≡ ended ++ lines_of (after.line.items ++ rest)
  pub short : All IsShort ended
  pub seen : after.seen ≡ before.seen + length ended
  pub runs : IsSound → RunsScript may_refuse settings s ended t old new before.printed after.printed

-- behind the line so far a fault came in a text: its first lines had their turn, and what the fault says of its length is so
pub record HasStopped (IsSound may_refuse : Type 0) (settings : Settings) (s t : State) (old new : Option (List ℕ)) (before : Progress) (text : List ℕ) (fault : ScriptFault) : Type 0 where
  pub stops : IsSound → StopsScript may_refuse settings s (lines_of (before.line.items ++ text)) t old new
  pub long_line : fault ≡ LineTooLong → StopsAtLongLine IsSound may_refuse settings s (lines_of (before.line.items ++ text)) t old new before.seen before.printed
  pub long_script : fault ≡ ScriptTooLong → StopsAtManyLines IsSound may_refuse settings s (lines_of (before.line.items ++ text)) t old new before.seen before.printed
