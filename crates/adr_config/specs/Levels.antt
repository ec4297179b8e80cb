-- How much a configuration says is told on standard error.
use Rattle.std.specs.Prelude.{ℕ, List, bytes_eq, codes, Option, Some, None, option_and_then, unwrap_or, Result, Ok, Err, if◌then◌else◌}
use Rattle.log.specs.declared.level.LevelFilter.{LevelFilter}
use Rattle.log.specs.declared.level.LevelFilter.TheVariants.{Off, Error, Warn, Info, Debug}
use Rattle.serde_json.specs.Data.{Data}
use Rattle.serde_json.specs.Find.{as_str}
use Rattle.adr_text.specs.Fields.{member_of, value_in}
use Rattle.adr_text.specs.Refusals.{or_else}
use Rattle.adr_text.specs.declared.fault.Fault.{Fault}
use Rattle.adr_text.specs.declared.fault.Fault.TheVariants.{BadShape}

-- the level of a name: `off`, `error`, `warn`, `info` or `debug`
abbrev pub level_named : List ℕ → Option LevelFilter
level_named name =
    if bytes_eq name (codes "off") then Some Off
    else (if bytes_eq name (codes "error") then Some Error
    else (if bytes_eq name (codes "warn") then Some Warn
    else (if bytes_eq name (codes "info") then Some Info
    else (if bytes_eq name (codes "debug") then Some Debug
    else None))))

-- that of a text
abbrev pub level_in : Data → Option LevelFilter
level_in d = option_and_then level_named (as_str d)

-- the level that a value is, or its fault
unfoldable pub log_in : Data → Result LevelFilter Fault
log_in d = or_else BadShape (level_in d)

-- ---- also of what is no configuration

-- off where none is said, and error where what is said is none, so that this is told
abbrev pub level_or_error : Option Data → LevelFilter
level_or_error None = Off
level_or_error (Some d) = unwrap_or (level_in d) Error

-- the level by which a value is told of
abbrev pub level_at : Data → LevelFilter
level_at d = level_or_error (member_of (codes "log") d)

-- that by which bytes are: off where they are no JSON
abbrev pub level_read : Result Data Fault → LevelFilter
level_read (Ok d) = level_at d
level_read (Err e) = Off

-- the level by which bytes are told of: off where they are no JSON
abbrev pub level_of : List ℕ → LevelFilter
level_of bytes = level_read (value_in bytes)
