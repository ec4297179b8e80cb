-- A query that the schema understands is not refused as a text.
use Rattle.std.proofs.Common.{◌≡◌, ◌⊎◌, inl, inr, ℕ, List, Ok, Err, Option, Some, None, Result, refl, sym, ap, ◌∙◌}
use Rattle.adr_db.proofs.Common.{Row, State, understood}
use Rattle.sqlite_schema.specs.declared.command.Returning.{Returning}
use Rattle.sqlite_resolve.specs.declared.compiled.Compiled.{Compiled}
use Rattle.sqlite_resolve.specs.declared.error.CompileError.{CompileError}
use Rattle.sqlite_trees.specs.declared.error.StoreError.{StoreError}
use Rattle.sqlite_trees.specs.declared.error.StoreError.TheVariants as store
use Rattle.sqlite.specs.declared.error.Error.TheVariants.{SqlInputError}
use Rattle.sqlite.specs.Command.{Command}
use Rattle.sqlite.specs.Command.TheVariants.{Select, Rows}
use Rattle.sqlite.specs.Effect.{Database, RefusesToRead}
use Rattle.sqlite.specs.Given.{IsPlain}
use Rattle.sqlite.specs.State.{IsTooLate, FailsToShow, store_error}
unfoldable use Rattle.sqlite.specs.State.{FailsToQuery, IsNotRun}

-- no error of the store is one of a text
not_of_store : (cause : StoreError) (fault : CompileError) → store_error cause ≡ SqlInputError fault → ⊥
not_of_store store.OutOfMemory fault is = cc
not_of_store store.Io fault is = cc
not_of_store store.Corrupt fault is = cc
not_of_store store.Full fault is = cc
not_of_store store.Broken fault is = cc
not_of_store store.Unstorable fault is = cc

-- nor one of a query's reading
not_of_reading : (limit : Option ℕ) (command : Command) (db : Database) (params : Row) (fault : CompileError) → RefusesToRead limit command db params (SqlInputError fault) → ⊥
not_of_reading limit (Select q names) db params fault refused = elim refused [ inl kind ↦ (let no = kind.0 in cc) | inr (inl far) ↦ (let no = far.0 in cc) | inr (inr late) ↦ (let no = late.0 in cc) ]
not_of_reading limit (Rows values width names) db params fault refused = (let no = refused.0 in cc)
not_of_reading limit _ db params fault refused = cc

module _ (sql : List ℕ) (params : Row) (old new : State) (fault : CompileError) where
  module _ (known : Compiled) (is : understood old.now.schema sql ≡ Ok known) where
    runs : IsNotRun old new sql params (SqlInputError fault) → ⊥
    unfolding IsNotRun
    runs (inl given) = elim given.0 [
      | inl text ↦ (let no = sym is ∙ text.1 in cc)
      | inr other ↦ elim other.2 [ inl many ↦ (let no = many.1 in cc) | inr (inl count) ↦ (let no = count.1 in cc) | inr (inr clock) ↦ (let no = clock.1 in cc) ]
    ]
    runs (inr lost) = not_of_store lost.0 fault (sym lost.1)

    shows : (it : Compiled) (given : Row) (returning : Option Returning) → returning ≡ None → FailsToShow old new sql it given (SqlInputError fault) returning → ⊥
    shows it given None none fails = not_of_reading _ it.command fails.0 given fault fails.2
    shows it given (Some what) none fails = cc

    is_a_query : known.returning ≡ None → FailsToQuery sql params old new (SqlInputError fault) ⊎ IsTooLate sql params old new (SqlInputError fault) → ⊥
    unfolding FailsToQuery
    is_a_query none (inl (inl fails)) = runs fails
    is_a_query none (inl (inr fails)) =
        let same : known ≡ fails.0 = (let both = sym is ∙ fails.1.is in cc) in
        shows fails.0 _ fails.0.returning (ap (λ (it : Compiled). it.returning) (sym same) ∙ none) fails.2
    is_a_query none (inr late) = (let no = late.4 in cc)

  found : (text : Result Compiled CompileError) → IsPlain text → (known : Compiled) × (text ≡ Ok known) × (known.returning ≡ None)
  found (Ok known) plain = (known, refl, plain.0)
  found (Err e) plain = absurd plain

  pub not_of_text : IsPlain (understood old.now.schema sql) → FailsToQuery sql params old new (SqlInputError fault) ⊎ IsTooLate sql params old new (SqlInputError fault) → ⊥
  not_of_text plain fails = let it = found (understood old.now.schema sql) plain in is_a_query it.0 it.1 it.2 fails
