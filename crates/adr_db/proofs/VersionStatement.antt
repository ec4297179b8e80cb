-- The statement that reads the version of the tables.
use Rattle.std.proofs.Common.{◌≡◌, inl, inr, ℕ, List, [], ◌∷◌, codes, map, Result, Ok, Err, IfOk, IfErr, refl, ap, sym, subst, ◌∙◌}
use Rattle.adr_text.specs.declared.refusal.Refusal.TheVariants.{BadFile}
use Rattle.adr_sql.proofs.Places.{IsFound}
use Rattle.adr_db.proofs.Common.{Refusal, Row, end, State, Shown, understood, everything, Contents, rows_of_table, Holds, cells, IsSelectText, first_columns, first_runs, holds_still, filter_all, all_of}
use Rattle.adr_db.specs.declared.version.TheConstants.{READ}
use Rattle.adr_db.specs.declared.version.Version.{Version}
use Rattle.adr_db.specs.declared.version.Version.TheVariants.{First, Second}
use Rattle.adr_db.specs.Tables.{schema, version, first_schema, first_version}
use Rattle.adr_db.specs.Versions.{SayVersion, SayKnown, CannotKnow, number_of, schema_of_version}
use Rattle.adr_db.proofs.Tables.{meta, meta_keyed, first_meta_keyed}

reads_today : IsSelectText schema meta (first_columns 2 [] meta) end READ.now
unfolding understood everything
reads_today = record { names = codes "k" ∷ codes "version" ∷ []; command = refl; alone = (refl, refl); unlisted = refl; from = refl; order = refl; ungrouped = refl; undistinct = refl; joins = refl; sorts = refl; shows = refl }

reads_first : IsSelectText first_schema meta (first_columns 2 [] meta) end READ.now
unfolding understood everything
reads_first = record { names = codes "k" ∷ codes "version" ∷ []; command = refl; alone = (refl, refl); unlisted = refl; from = refl; order = refl; ungrouped = refl; undistinct = refl; joins = refl; sorts = refl; shows = refl }

-- of the tables of either version
pub reads : (of : Version) → IsSelectText (schema_of_version of) meta (first_columns 2 [] meta) end READ.now
reads First = reads_first
reads Second = reads_today

found_in : (of : Version) → IsFound (schema_of_version of) 0 meta
found_in First = first_meta_keyed.place
found_in Second = meta_keyed.place

-- its rows are the first two columns of those of the table
pub version_read : (of : Version) (old new : State) (rows : List Row) (all : Contents) → Shown READ.now [] old new rows → Holds (schema_of_version of) all old → rows ≡ map (cells 0 2) (rows_of_table all 0)
version_read of old new rows all shown was =
    first_runs (schema_of_version of) 0 2 [] meta (found_in of) READ.now [] (reads of) old new rows all shown was
    ∙ ap (map (cells 0 2)) (filter_all _ (rows_of_table all 0) (all_of _ (λ row. refl) (rows_of_table all 0)))

-- which say the version that those say
pub says : (n : ℕ) (rows : List Row) → SayVersion n (map (cells 0 2) rows) → SayVersion n rows
says n [] said = said
says n (row ∷ rows) said = said

pub is_said : (n : ℕ) (rows : List Row) → SayVersion n rows → SayVersion n (map (cells 0 2) rows)
is_said n [] said = said
is_said n (row ∷ rows) said = said

known_said : (rows : List Row) → SayKnown rows → SayKnown (map (cells 0 2) rows)
known_said rows (inl first) = inl (is_said first_version rows first)
known_said rows (inr today) = inr (is_said version rows today)

pub held_still : (of : Version) (old new : State) (rows : List Row) (all : Contents) → Shown READ.now [] old new rows → Holds (schema_of_version of) all old → Holds (schema_of_version of) all new
held_still of old new rows all shown was = holds_still (schema_of_version of) READ.now [] old new rows all (reads of).alone shown was

-- the version that was read is that of the tables
pub known_by : {E : Type 0} (old new : State) (rows : List Row) (r : Result Version E) → Shown READ.now [] old new rows → IfOk r (λ v. SayVersion (number_of v) rows)
    → IfOk r (λ v. (of : Version) (all : Contents) → Holds (schema_of_version of) all old → SayVersion (number_of v) (rows_of_table all 0) × Holds (schema_of_version of) all new)
known_by old new rows (Ok v) shown said = λ of all was. (says (number_of v) _ (subst (SayVersion (number_of v)) (version_read of old new rows all shown was) said), held_still of old new rows all shown was)
known_by old new rows (Err e) shown said = tt

-- and what was not known as one isn't theirs
pub unknown_by : (old new : State) (rows : List Row) (r : Result Version Refusal) → Shown READ.now [] old new rows → IfErr r (CannotKnow rows)
    → IfErr r (λ refusal. refusal ≡ BadFile → (of : Version) (all : Contents) → Holds (schema_of_version of) all old → ¬ SayKnown (rows_of_table all 0))
unknown_by old new rows (Ok v) shown why = tt
unknown_by old new rows (Err e) shown (inl memory) = λ is of all was said. let no = sym memory ∙ is in absurd cc
unknown_by old new rows (Err e) shown (inr other) = λ is of all was said. other.1 (subst SayKnown (sym (version_read of old new rows all shown was)) (known_said _ said))
