-- Rows of the keys of one kind.
use Rattle.std.proofs.Common.{◌≡◌, pos, Bool, List, [], ◌∷◌, map, filter, Result, refl, ap, subst, ◌∙◌}
use Rattle.std.specs.Prelude.{◌==◌}
use Rattle.adr_objects.specs.declared.kind.Kind.{Kind}
use Rattle.adr_objects.specs.declared.kind.Kind.TheVariants.{Program, Event}
use Rattle.adr_db.proofs.Common.{AllZip, Null, Row, Ghosts, Held, state, Mark, Live, Dead, MirrorKey, column, is_eq, nat_cmp, value_cmp, value_cmp-Int, filter-map, map-map, cells, and_true, equal_is, passes, is_text, first_runs}
use Rattle.adr_sql.proofs.Common.{has_filtered}
use Rattle.adr_db.specs.Tables.{schema}
use Rattle.adr_db.specs.Rows.{number, kind_number, mark_row}
use Rattle.adr_db.specs.Kept.{contents_of}
use Rattle.adr_db.specs.Calls.{Finds, Shows}
use Rattle.adr_db.specs.Admitted.{ReadsEntry}
use Rattle.adr_db.proofs.Rows.{numbers_as_values}
use Rattle.adr_db.proofs.Tables.{mirror, mirror_keyed}
use Rattle.adr_db.proofs.Calls.{shown_finds}
use Rattle.adr_db.proofs.KeptMaps.{read_back}
use Rattle.adr_db.proofs.Marks.{entry_read}
use Rattle.adr_db_mirror.proofs.MirrorStatements.{reads_of}
use Rattle.adr_db_mirror.specs.declared.mirror.TheConstants.{READ_OF}

kinds : (a b : Kind) → is_eq (nat_cmp (kind_number a) (kind_number b)) ≡ (kind_number b == kind_number a)
kinds Program Program = refl
kinds Program Event = refl
kinds Event Program = refl
kinds Event Event = refl

kind_told : (a b : Kind) → is_eq (value_cmp (number (kind_number a)) (number (kind_number b))) ≡ (kind_number b == kind_number a)
kind_told a b = ap is_eq (value_cmp-Int (pos (kind_number a)) (pos (kind_number b)) ∙ numbers_as_values (kind_number a) (kind_number b)) ∙ kinds a b

-- a row passes where its key is of that kind
kind_passes : (kind : Kind) (e : MirrorKey × Mark) → passes (number (kind_number kind) ∷ []) (is_text 0) (Null ∷ mark_row e) ≡ (kind_number e.0.kind == kind_number kind)
kind_passes kind e = and_true _ ∙ equal_is (column (mark_row e) 0) (number (kind_number kind)) refl ∙ kind_told kind e.0.kind

-- its columns are all of the row
whole : (e : MirrorKey × Mark) → cells 0 6 (mark_row e) ≡ mark_row e
whole (key, Live moment body) = refl
whole (key, Dead) = refl

module _ {S E : Type 0} (g : Ghosts S) (old new : Held S) where
  -- what is known of the keys of a kind is read back
  pub kind_finds : (kind : Kind) (r : Result (List (MirrorKey × Mark)) E) → Shows g old new READ_OF.now (number (kind_number kind) ∷ []) (AllZip ReadsEntry) r
      → Finds g old new (λ kept marks. marks ≡ filter (λ m. kind_number m.0.kind == kind_number kind) kept.mirror) r
  kind_finds kind r =
      let is_of : MirrorKey × Mark → Bool = λ m. kind_number m.0.kind == kind_number kind in
      shown_finds g old new READ_OF.now (number (kind_number kind) ∷ []) (AllZip ReadsEntry) (λ kept marks. marks ≡ filter is_of kept.mirror) r reads_of.alone (λ read rows kept shown was reads.
      let es = kept.mirror in
      let met = λ (row : Row). passes (number (kind_number kind) ∷ []) (is_text 0) (Null ∷ row) in
      let are = first_runs schema 1 6 (is_text 0) mirror mirror_keyed.place READ_OF.now (number (kind_number kind) ∷ []) reads_of (state g old) (state g new) rows (contents_of kept) shown was.rows
      ∙ ap (map (cells 0 6)) (filter-map met mark_row es) ∙ map-map (cells 0 6) mark_row (filter (λ e. met (mark_row e)) es)
      ∙ ap (λ (row_of : MirrorKey × Mark → Row). map row_of (filter (λ e. met (mark_row e)) es)) (λ i e. whole e i)
      ∙ ap (λ (p : MirrorKey × Mark → Bool). map mark_row (filter p es)) (λ i e. kind_passes kind e i) in
      read_back ReadsEntry mark_row read (filter is_of es) (λ d e has. entry_read es was.marks d e (has_filtered is_of es e has).0) (subst (λ rows. AllZip ReadsEntry rows read) are reads))
