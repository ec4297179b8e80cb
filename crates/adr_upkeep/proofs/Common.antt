-- What several proofs of this crate need of lists and results.
use Rattle.std.proofs.Common.{◌≡◌, ℕ, Bool, true, false, cond, List, [], ◌∷◌, ◌++◌, Option, Some, None, Result, Ok, Err, IfOk, OnOk, refl, ap}
use Rattle.std.specs.List.{cons_option}
use Rattle.std.specs.Option.{option_to_list}
use Rattle.std.specs.Prelude.{option_map}
use Rattle.adr_objects.specs.declared.report.Rollup.{Rollup}
use Rattle.adr_view.specs.declared.changes.Operation.TheVariants.{Put}
use Rattle.adr_db.specs.declared.shown.RollupColumns.{RollupColumns}
use Rattle.adr_kept_view.specs.declared.change.RollupChange.{RollupChange}
use Rattle.adr_kept_view.specs.Rollups.{says, change_of}
use Rattle.adr_upkeep.specs.Rolled.{operation_of, told_of}

-- an item that is added, if there is one, stands before those that are left
pub added : {X : Type 0} (items : List X) (o : Option X) (xs : List X) → (items ++ option_to_list o) ++ xs ≡ items ++ cons_option o xs
added [] None xs = refl
added [] (Some x) xs = refl
added (i ∷ items) o xs = ap (λ all. i ∷ all) (added items o xs)

-- two clauses of one result
pub ok_with : {T E X : Type 0} {P Q : T → Type 0} (r : Result T E) → ((x : T) → P x → X → Q x) → IfOk r P → OnOk r X → IfOk r Q
ok_with (Ok x) f h k = f x h k
ok_with (Err e) f h k = tt

-- what is told of a roll-up, by what happened to it, is its change
pub told_is : (id : List ℕ) (old : Option RollupColumns) (new : Option Rollup) → told_of (operation_of id old new) new ≡ change_of id old new
told_is id old None = refl
told_is id None (Some r) = refl
told_is id (Some columns) (Some r) = by (says id columns r)
  where
    put : RollupChange
    put = record { operation = Put; rollup = r }

    by : (b : Bool) → told_of (option_map (λ (c : RollupChange). c.operation) (cond b None (Some put))) (Some r) ≡ cond b None (Some put)
    by true = refl
    by false = refl
