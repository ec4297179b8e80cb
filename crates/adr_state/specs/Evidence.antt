-- Evidence of upstream objects, and scans: what is decided.
use Rattle.std.specs.Prelude.{ℕ, nat_lt, ◌&&◌, Bool, true, false, List, [], ◌∷◌, length, Option, None, Some, Result, Ok, Err, if◌then◌else◌}
use Rattle.adr_text.specs.Refusals.{◌>>=◌}
use Rattle.adr_text.specs.declared.refusal.Refusal.{Refusal}
use Rattle.adr_text.specs.declared.refusal.Refusal.TheVariants.{LimitReached, NoScan}
use Rattle.adr_objects.specs.declared.body.Found.{Found}
use Rattle.adr_state.specs.declared.base.Base.{Base}
use Rattle.adr_state.specs.declared.base.Mark.{Mark}
use Rattle.adr_state.specs.declared.base.Mark.TheVariants.{Dead}
use Rattle.adr_state.specs.declared.keys.MirrorKey.{MirrorKey}
use Rattle.adr_state.specs.declared.limits.Limits.{Limits}
use Rattle.adr_state.specs.Mirror.{evidence_of, joined}
use Rattle.adr_state.specs.Scans.{polled_with, probes}
use Rattle.adr_state.specs.BaseChanges.{BaseChange, JoinMarks, SetScan}

-- whether keys were added, and are more than the limit
abbrev pub adds_beyond : ℕ → List (MirrorKey × Mark) → List (MirrorKey × Mark) → Bool
adds_beyond limit old new = nat_lt (length old) (length new) && nat_lt limit (length new)

-- the mirror is joined with marks, where that adds no key beyond the limit
abbrev pub joining : Limits → Base → List (MirrorKey × Mark) → Option (List MirrorKey) → Result BaseChange Refusal
joining limits base marks scan = if adds_beyond limits.keys base.mirror (joined base.mirror marks) then Err LimitReached else Ok (JoinMarks marks scan)

-- polled keys join the set of an open scan
abbrev pub scan_with : Option (List MirrorKey) → List Found → Bool → Option (List MirrorKey)
scan_with scan founds true = polled_with scan founds
scan_with scan founds false = scan

-- versions were found: the mirror is joined with them, and where they were polled they join the set of an open scan:
-- 10 where keys are added and are then more than the limit
abbrev pub evidence : Limits → List Found → Bool → Base → Result BaseChange Refusal
evidence limits founds polled base = joining limits base (evidence_of founds) (scan_with base.scan founds polled)

-- an object was deleted: the mirror is joined with that: 10 where its key is added and there are then more than the
-- limit
abbrev pub gone : Limits → MirrorKey → Base → Result BaseChange Refusal
gone limits key base = joining limits base ((key, Dead) ∷ []) base.scan

-- a scan is opened, in place of an open one
abbrev pub scan_begin : BaseChange
scan_begin = SetScan (Some [])

-- the keys that were polled, where a scan is open
abbrev pub open_scan : Option (List MirrorKey) → Result (List MirrorKey) Refusal
open_scan None = Err NoScan
open_scan (Some polled) = Ok polled

-- the open scan is closed, and the live keys that were not polled are answered, and where none is open it is 12
abbrev pub scan_end : Base → Result (List MirrorKey × BaseChange) Refusal
scan_end base = open_scan base.scan >>= λ polled. Ok (probes base.mirror polled, SetScan None)
