-- What does not read, from a row to the rows.
use Rattle.std.proofs.Common.{◌≡◌, ◌⊎◌, ◌<◌, ◌≤◌, refl, inl, inr, ℕ, zero, suc, List, [], ◌∷◌, slice_index_or, length, sym, ap, subst, ◌∙◌, arith}
use Rattle.adr_db.proofs.Common.{AllByRecursion, AllZip, Row, Refusal, OutOfMemory, Store}
use Rattle.adr_db.specs.Refusals.{CannotRead}

module _ {X : Type 0} (Admits : X → Type 0) (Reads : Row → X → Type 0) where
  -- where one row reads as nothing, the rows read as nothing
  not_all : (rows : List Row) (at : ℕ) (row : Row) → at < length rows → row ≡ slice_index_or rows at row → ((x : X) → Admits x → ¬ Reads row x) → (xs : List X) → AllByRecursion Admits xs → ¬ AllZip Reads rows xs
  not_all [] at row within is none xs are reads = absurd (omega (arith, within))
  not_all (r ∷ rows) at row within is none [] are reads = absurd reads
  not_all (r ∷ rows) zero row within is none (x ∷ xs) are reads = none x are.0 (subst (λ row. Reads row x) (sym is) reads.0)
  not_all (r ∷ rows) (suc at) row within is none (x ∷ xs) are reads = not_all rows at row (omega (arith, within)) is none xs are.1 reads.1

  pub rows_unread : (rows : List Row) (at : ℕ) (row : Row) (e : Refusal) → at < length rows → row ≡ slice_index_or rows at row → CannotRead Admits Reads row e → CannotRead (AllByRecursion Admits) (AllZip Reads) rows e
  rows_unread rows at row e within is (inl memory) = inl memory
  rows_unread rows at row e within is (inr none) = inr (none.0, not_all rows at row within is none.1)

-- what more of values there cannot be read of
pub unread_weaker : {R X : Type 0} (Admits More : X → Type 0) (Reads : R → X → Type 0) (from : R) (e : Refusal) → ((x : X) → More x → Admits x) → CannotRead Admits Reads from e → CannotRead More Reads from e
unread_weaker Admits More Reads from e weaker (inl memory) = inl memory
unread_weaker Admits More Reads from e weaker (inr none) = inr (none.0, λ x more. none.1 x (weaker x more))

zip_length : {X : Type 0} (Reads : Row → X → Type 0) (rows : List Row) (xs : List X) → AllZip Reads rows xs → length rows ≡ length xs
zip_length Reads [] [] h = refl
zip_length Reads [] (x ∷ xs) h = absurd h
zip_length Reads (r ∷ rows) [] h = absurd h
zip_length Reads (r ∷ rows) (x ∷ xs) h = ap suc (zip_length Reads rows xs h.1)

-- rows that read as more values than there may be read as none
pub many_unread : {X : Type 0} (Admits : X → Type 0) (Reads : Row → X → Type 0) (most : ℕ) (rows : List Row) (es : List X) (e : Refusal) → AllZip Reads rows es → (e ≡ OutOfMemory) ⊎ ((e ≡ Store) × (most < length es))
    → CannotRead (λ xs. (length xs ≤ most) × AllByRecursion Admits xs) (AllZip Reads) rows e
many_unread Admits Reads most rows es e read (inl memory) = inl memory
many_unread Admits Reads most rows es e read (inr many) = inr (many.0, λ xs few reads. let same : length xs ≡ length es = sym (zip_length Reads rows xs reads) ∙ zip_length Reads rows es read in omega (arith, few.0, many.1, same))
