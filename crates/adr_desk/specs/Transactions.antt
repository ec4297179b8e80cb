-- A transaction from its begin to its end, on a connection that had none.
use Rattle.std.specs.Prelude.{◌≡◌, false, [], Result, OnOk, IfErr, IsTrue}
use Rattle.sqlite.specs.Store.{Ghosts}
use Rattle.sqlite.specs.Held.{Held, state}
use Rattle.sqlite.specs.State.{HasCleanDisk, KeepsCounts, Shows, Survives}
use Rattle.sqlite.specs.Steps.{FailsToCommit}
use Rattle.adr_text.specs.declared.refusal.Refusal.{Refusal}
use Rattle.adr_db.specs.Refusals.{IsRefusalFor}

module _ {S : Type 0} (g : Ghosts S) (old new : Held S) where
  -- A commit of what was done so far. After Ok it is the last commit; a refusal is that of the error of the store, which is the commit's own;
  -- and a crash on the way leaves what it could before or all of it.
  pub record Ends {T : Type 0} (result : Result T Refusal) : Type 0 where
    pub over : new.in_transaction ≡ false
    pub ok : HasCleanDisk (state g new) → OnOk result (IsTrue (state g old).in_transaction × Shows (state g old) (state g new) (state g old).now (state g old).now false × KeepsCounts (state g old) (state g new) × ((state g new).marks ≡ []))
    pub err : IfErr result (IsRefusalFor (λ e. HasCleanDisk (state g new) → FailsToCommit (state g old) (state g new) e))
    pub crash : Survives (state g old) (state g new) (λ db. db ≡ (state g old).now.trees)

  -- A transaction that was begun and then dropped: where the store is open all is as it was, and a crash may leave what it could before.
  pub record IsDropped : Type 0 where
    pub same : HasCleanDisk (state g new) → IsTrue (state g new).is_open → ((state g new).now ≡ (state g old).now) × ((state g new).committed ≡ (state g old).committed)
    pub was_open : HasCleanDisk (state g new) → IsTrue (state g new).is_open → IsTrue (state g old).is_open
    pub over : new.in_transaction ≡ false
    pub crash : Survives (state g old) (state g new) (λ _. ⊥)
