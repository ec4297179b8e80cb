-- Programs of an upstream, and runs with scans of them.
use Rattle.std.specs.Prelude.{ℕ, true, false, List, [], ◌∷◌, map, codes}
use Rattle.adr_objects.specs.declared.body.Body.TheVariants as body
use Rattle.adr_objects.specs.declared.body.Found.{Found}
use Rattle.adr_objects.specs.declared.kind.Kind.TheVariants as kind
use Rattle.adr_state.specs.declared.base.Mark.{Mark}
use Rattle.adr_state.specs.declared.base.Mark.TheVariants.{Dead}
use Rattle.adr_state.specs.declared.keys.MirrorKey.{MirrorKey}
use Rattle.adr_state.specs.declared.limits.Settings.{Settings}
use Rattle.adr_state.specs.Limits.{largest}
use Rattle.adr_state.specs.Mirror.{key_of, mark_of}
use Rattle.adr_machine.specs.declared.command.Command.{Command}
use Rattle.adr_machine.specs.declared.command.Command.TheVariants.{Evidence, Gone}
use Rattle.adr_catch_up.specs.QuietScans.{Given, Scanned}

-- a program's version: its id, its moment and its name
abbrev pub program : List ℕ → ℕ → List ℕ → Found
program id moment name = record { kind = kind.Program; id = id; moment = moment; body = body.Program name }

-- what an upstream wrote by it, and by deleting it
abbrev pub version : Found → MirrorKey × Mark
version f = (key_of f, mark_of f)

abbrev pub deletion : Found → MirrorKey × Mark
deletion f = (key_of f, Dead)

-- a command at a moment, and what was written by then
abbrev pub given : List (MirrorKey × Mark) → ℕ → Command → Given
given written now command = record { written = written; command = (now, command) }

-- a notification of a version, a page, and an answer that a program is gone
abbrev pub notice : Found → Command
notice f = Evidence (f ∷ []) false

abbrev pub page : List Found → Command
page founds = Evidence founds true

abbrev pub is_gone : Found → Command
is_gone f = Gone f.kind f.id

-- a node that keeps this many upstream keys at most
abbrev pub keeping : ℕ → Settings
keeping keys = record { client = codes "node"; limits = record largest { keys = keys } }

-- ---- a quiet scan

-- two versions of a program, and one of another
abbrev pub summer : Found
summer = program (codes "p1") 1 (codes "summer")

abbrev pub late_summer : Found
late_summer = program (codes "p1") 2 (codes "late summer")

abbrev pub winter : Found
winter = program (codes "p2") 3 (codes "winter")

-- a notification of winter came, which was deleted since; then a page shows summer, the `ScanEnd` answers winter, and a probe finds it gone
abbrev pub quiet_scan : Scanned
quiet_scan = let written = version summer ∷ version winter ∷ deletion winter ∷ [] in record {
  before = given (version summer ∷ version winter ∷ []) 3 (notice winter) ∷ [];
  begun_with = written;
  begins = 4;
  polling = given written 5 (page (summer ∷ [])) ∷ [];
  written = written;
  ends = 6;
  probing = given written 7 (is_gone winter) ∷ [];
}

-- ---- scans of an upstream that is still

-- what was told before
abbrev pub told_before : List (MirrorKey × Mark) → Found → List Given
told_before written f = given written 3 (notice f) ∷ []

-- a scan with these commands, after what came before
abbrev pub scan_of : List Given → List (MirrorKey × Mark) → List Command → List Command → Scanned
scan_of before written polling probing = record { before = before; begun_with = written; begins = 4; polling = map (given written 5) polling; written = written; ends = 6; probing = map (given written 7) probing }
