-- The end of a scan whose keys were read before.
use Rattle.std.specs.Prelude.{◌≡◌, List, None, Result, Ok, IfOk}
use Rattle.sqlite.specs.Store.{Ghosts}
use Rattle.sqlite.specs.Held.{Held, state}
use Rattle.sqlite.specs.State.{HasCleanDisk}
use Rattle.adr_text.specs.declared.refusal.Refusal.{Refusal}
use Rattle.adr_state.specs.declared.base.Base.{Base}
use Rattle.adr_state.specs.declared.keys.MirrorKey.{MirrorKey}
use Rattle.adr_state.specs.BaseChanges.{SetScan}
use Rattle.adr_state.specs.Evidence.{scan_end}
use Rattle.adr_db.specs.declared.meta.Meta.{Meta}
use Rattle.adr_db.specs.Bases.{Beside, with_base, HoldsBeside}
use Rattle.adr_db.specs.BaseCalls.{IsMade}
use Rattle.adr_missed.specs.Missed.{missed, closing}

-- after Ok, the end of the scan is made of each base that the tables held whose scan missed these keys, and answers them, where the caller's numbers were
-- those of the base; these are then those of the base after
abbrev pub ShutsWith : {S : Type 0} → Ghosts S → Held S → Held S → Meta → Meta → List MirrorKey → Result (List MirrorKey) Refusal → Type 0
ShutsWith {S} g old new before after keys result =
    HasCleanDisk (state g new)
    → IfOk result (λ answer. (beside : Beside) (base : Base) → HoldsBeside beside base (state g old) → before ≡ with_base before base → missed None base ≡ Ok keys
    → IsMade closing (λ was _ found. scan_end was ≡ Ok (found, SetScan None)) beside base before after answer (state g new))
