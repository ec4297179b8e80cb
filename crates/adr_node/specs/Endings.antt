-- How the program ends: what it says on standard error, and its exit status.
use Rattle.std.specs.Prelude.{◌≡◌, ◌⊎◌, ℕ, List, codes, Option, Some, None, Result, Ok, Err}
use Rattle.adr_text.specs.declared.refusal.Refusal.{Refusal}
use Rattle.adr_text.specs.declared.refusal.Refusal.TheVariants as refusal
use Rattle.adr_script.specs.declared.fault.ScriptFault.TheVariants.{Read, Write, LineTooLong, ScriptTooLong, OutOfMemory}
use Rattle.adr_node.specs.declared.ending.NodeFault.{NodeFault}
use Rattle.adr_node.specs.declared.ending.NodeFault.TheVariants.{Script, Store, BadConfig, Bind}
use Rattle.adr_server.specs.declared.server.NodeFault.{NodeFault as ServerFault}
use Rattle.adr_server.specs.declared.server.NodeFault.TheVariants as server

-- the fault of a desk that could not be opened: want of memory, or else the store's refusal
abbrev pub fault_of : Refusal → NodeFault
fault_of refusal.OutOfMemory = Script OutOfMemory
fault_of _ = Store

-- the fault of a server that did not serve, or stopped early
abbrev pub fault_served : ServerFault → NodeFault
fault_served server.Bind = Bind
fault_served server.OutOfMemory = Script OutOfMemory
fault_served server.Store = Store

-- how the program may end before the first line of a script
abbrev pub IsOfOpening : NodeFault → Type 0
IsOfOpening fault = (fault ≡ Script OutOfMemory) ⊎ (fault ≡ Store)

-- how a server may end before it begins: by its configuration, or for want of memory while that is read
abbrev pub IsOfReading : NodeFault → Type 0
IsOfReading fault = (fault ≡ Script OutOfMemory) ⊎ (fault ≡ BadConfig)

-- the line of a fault: the program's name, and what went wrong
abbrev pub fault_line : NodeFault → List ℕ
fault_line (Script Read) = codes "adr_node: read fault"
fault_line (Script Write) = codes "adr_node: write fault"
fault_line (Script LineTooLong) = codes "adr_node: line too long"
fault_line (Script ScriptTooLong) = codes "adr_node: script too long"
fault_line (Script OutOfMemory) = codes "adr_node: out of memory"
fault_line Store = codes "adr_node: store refused"
fault_line BadConfig = codes "adr_node: bad configuration"
fault_line Bind = codes "adr_node: bind fault"

-- the line on standard error: none after a script of which so many lines were printed or a server that stopped, the
-- usage where the arguments are of another form, and that of a fault
abbrev pub line_of : Result (Option ℕ) NodeFault → Option (List ℕ)
line_of (Ok (Some n)) = None
line_of (Ok None) = Some (codes "usage: adr_node script [NAME=NUMBER ..] | init FILE | serve CONFIG")
line_of (Err fault) = Some (fault_line fault)

-- the exit status: 0 after such a script or server, 2 where the arguments are of another form, and 1 after a fault
abbrev pub status_of : Result (Option ℕ) NodeFault → ℕ
status_of (Ok (Some n)) = 0
status_of (Ok None) = 2
status_of (Err fault) = 1
