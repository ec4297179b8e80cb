-- What a configuration says of many deletions at once.
use Rattle.std.specs.Prelude.{ℕ, List, bytes_eq, codes, Option, Some, None, option_and_then, Result, if◌then◌else◌}
use Rattle.serde_json.specs.Data.{Data}
use Rattle.serde_json.specs.Find.{as_str}
use Rattle.adr_text.specs.Refusals.{or_else}
use Rattle.adr_text.specs.declared.fault.Fault.{Fault}
use Rattle.adr_text.specs.declared.fault.Fault.TheVariants.{BadShape}
use Rattle.adr_config.specs.declared.deletion.MassDeletion.{MassDeletion}
use Rattle.adr_config.specs.declared.deletion.MassDeletion.TheVariants.{Confirm, AtOnce}

-- by a name: `confirm` or `at once`
abbrev pub deletion_named : List ℕ → Option MassDeletion
deletion_named name =
    if bytes_eq name (codes "confirm") then Some Confirm
    else (if bytes_eq name (codes "at once") then Some AtOnce
    else None)

-- by a text
abbrev pub deletion_in : Data → Option MassDeletion
deletion_in d = option_and_then deletion_named (as_str d)

-- what a value says, or its fault
unfoldable pub deletion_read : Data → Result MassDeletion Fault
deletion_read d = or_else BadShape (deletion_in d)
