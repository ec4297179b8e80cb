-- What is answered by what was found of a roll-up.
use Rattle.std.specs.Prelude.{◌≡◌, ℕ, List, Option, None, Some, Ok, IfSome, option_map}
use Rattle.adr_objects.specs.declared.report.Rollup.{Rollup}
use Rattle.adr_view.specs.declared.changes.Operation.{Operation}
use Rattle.adr_shown.specs.RollupTexts.{kept_rollup_text}
use Rattle.adr_shown.specs.ReadRollups.{kept_rollup_of}
use Rattle.adr_db.specs.declared.shown.RollupColumns.{RollupColumns}
use Rattle.adr_kept_view.specs.declared.change.RollupChange.{RollupChange}
use Rattle.adr_kept_view.specs.Rollups.{change_of}

-- what happened to a roll-up, where it is told
abbrev pub operation_of : List ℕ → Option RollupColumns → Option Rollup → Option Operation
operation_of id old new = option_map (λ (c : RollupChange). c.operation) (change_of id old new)

-- what is told of a roll-up by what happened to it
abbrev pub told_of : Option Operation → Option Rollup → Option RollupChange
told_of (Some operation) (Some rollup) = Some (record { operation = operation; rollup = rollup })
told_of _ _ = None

-- the text of a roll-up, if there is one, reads back
abbrev pub ReadsRolled : List ℕ → Option Rollup → Type 0
ReadsRolled id new = IfSome new (λ r. kept_rollup_of (kept_rollup_text id r) ≡ Ok (id, r))
