-- The live keys that an open scan missed.
use Rattle.std.specs.Prelude.{◌≡◌, ℕ, List, Option, Result, Ok, IfOk}
use Rattle.sqlite.specs.Store.{Ghosts}
use Rattle.sqlite.specs.Held.{Held, state}
use Rattle.sqlite.specs.State.{HasCleanDisk}
use Rattle.adr_text.specs.Refusals.{◌>>=◌}
use Rattle.adr_text.specs.declared.refusal.Refusal.{Refusal}
use Rattle.adr_state.specs.declared.base.Base.{Base}
use Rattle.adr_state.specs.declared.keys.MirrorKey.{MirrorKey}
use Rattle.adr_state.specs.Scans.{probes}
use Rattle.adr_state.specs.BaseChanges.{BaseChange}
use Rattle.adr_state.specs.Evidence.{open_scan, scan_end}
use Rattle.adr_db.specs.declared.meta.Meta.{Meta}
use Rattle.adr_db.specs.Kept.{at_most}
use Rattle.adr_db.specs.Bases.{Beside, with_base, HoldsBeside}

-- the live keys that an open scan missed, the first of them where there is a limit, at most so many; `NoScan` where
-- none is open
abbrev pub missed : Option ℕ → Base → Result (List MirrorKey) Refusal
missed limit base = open_scan base.scan >>= λ polled. Ok (at_most limit (probes base.mirror polled))

-- the change that the end of a scan makes
abbrev pub closing : Base → Result BaseChange Refusal
closing base = scan_end base >>= λ d. Ok d.1

module _ {S : Type 0} (g : Ghosts S) (old new : Held S) where
  -- after Ok, the answer is what the base that the tables held, whatever stood beside it, tells, where those of the caller's numbers which a base has
  -- were those of the base; and they hold it still
  abbrev pub TellsOn : {T E : Type 0} → (Base → Result T Refusal) → Meta → Result T E → Type 0
  TellsOn told before result =
      HasCleanDisk (state g new) → IfOk result (λ x. (beside : Beside) (base : Base) → HoldsBeside beside base (state g old) → before ≡ with_base before base → (told base ≡ Ok x) × HoldsBeside beside base (state g new))
