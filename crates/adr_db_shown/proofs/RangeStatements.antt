-- The statements that read the stamps of one event, all or those of some resources, and the live events of a program.
use Rattle.std.proofs.Common.{◌≡◌, ℕ, pos, false, ◌&&◌, List, [], ◌∷◌, Option, None, Some, codes, map, refl, ap, ap₂, ◌∙◌, is_eq}
use Rattle.std.specs.Prelude.{nat_le}
use Rattle.sqlite.specs.Values.{or_null}
use Rattle.sqlite_value.specs.declared.keys.Collation.TheVariants.{Binary}
use Rattle.sqlite_sql.specs.declared.ops.BinaryOp.TheVariants.{Compare}
use Rattle.sqlite_sql.specs.declared.ops.CompareOp.TheVariants.{Eq, Le, Ge}
use Rattle.sqlite_sql.specs.Term.{Term}
use Rattle.sqlite_value.proofs.OrderLemmas.{value_cmp-apart}
use Rattle.adr_db.proofs.Common.{AllZip, int_cmp, ordering_then, option_map_or, Null, Text, Row, column, value_cmp, value_cmp-Int, value_cmp-Text, col, op2, end, understood, everything, Mark, Live, Dead, MirrorKey, Stamps, ViewKey, id_cmp, cells, has_key, equal_is, and_true, passes, IsSelectText, first_columns, whole_rows, is_text, number_text_key}
use Rattle.adr_state.specs.declared.keys.ViewKey.TheVariants as view
use Rattle.adr_view.specs.Laws.{is_key_of}
use Rattle.adr_db.specs.Tables.{schema}
use Rattle.adr_db.specs.Rows.{number, stamps_columns, stamp_row, view_kind, view_id, view_number, program_of, mark_row, event_key_row}
use Rattle.adr_db.specs.Admitted.{ReadsKey, ReadsStamped}
use Rattle.adr_db.proofs.Comparisons.{number_ge, number_le}
use Rattle.adr_db.proofs.Tables.{mirror, stamp}
use Rattle.adr_db.proofs.Rows.{key_kept, stamps_kept, view_key_kept}
use Rattle.adr_db.proofs.KeptMaps.{read_back}
use Rattle.adr_db_shown.specs.declared.programs.TheConstants.{READ_OF as EVENTS_OF}
use Rattle.adr_db_shown.specs.declared.stamps.TheConstants.{READ_OF as STAMPS_OF, READ_BETWEEN as STAMPS_BETWEEN}
use Rattle.adr_db_shown.specs.Entries.{is_event_of, is_key_between}

-- ---- stamps

pub reads_stamps : IsSelectText schema stamp (whole_rows 2 stamp) end STAMPS_OF.now
unfolding understood everything
reads_stamps = record { names = codes "kind" ∷ codes "a" ∷ codes "b" ∷ codes "created" ∷ codes "modified" ∷ []; command = refl; alone = (refl, refl); unlisted = refl; from = refl; order = refl; ungrouped = refl; undistinct = refl; joins = refl; sorts = refl; shows = refl }

-- the rows of an event are those that begin with the kind of shown events and its id
pub stamps_begin : (event : List ℕ) (e : ViewKey × Stamps) → has_key 2 (number 2 ∷ Text event ∷ []) (stamp_row e) ≡ is_key_of event e.0
stamps_begin event e = ap is_eq (number_text_key (pos 2) (pos (view_kind e.0)) event (view_id e.0) [] (number (view_number e.0) ∷ stamps_columns e.1)) ∙ by e.0
  where
    by : (k : ViewKey) → is_eq (ordering_then (int_cmp (pos 2) (pos (view_kind k))) (id_cmp event (view_id k))) ≡ is_key_of event k
    by (view.Program id) = refl
    by (view.Event id resource) = refl
    by (view.Report n) = refl
    by (view.Rollup id) = refl

-- so those of its resources between two numbers
abbrev pub between : List Term
between =
    op2 (Compare Eq Binary) (col 1 1) (col 0 0)
    ∷ op2 (Compare Eq Binary) (col 1 2) (col 0 1)
    ∷ op2 (Compare Ge Binary) (col 1 3) (col 0 2)
    ∷ op2 (Compare Le Binary) (col 1 3) (col 0 3)
    ∷ []

abbrev pub between_row : List ℕ → ℕ → ℕ → Row
between_row event first last = number 2 ∷ Text event ∷ number first ∷ number last ∷ []

pub reads_between : IsSelectText schema stamp (first_columns 5 between stamp) end STAMPS_BETWEEN.now
unfolding understood everything
reads_between = record { names = codes "kind" ∷ codes "a" ∷ codes "b" ∷ codes "created" ∷ codes "modified" ∷ []; command = refl; alone = (refl, refl); unlisted = refl; from = refl; order = refl; ungrouped = refl; undistinct = refl; joins = refl; sorts = refl; shows = refl }

pub between_pass : (event : List ℕ) (first last : ℕ) (e : ViewKey × Stamps) → passes (between_row event first last) between (Null ∷ stamp_row e) ≡ is_key_between event first last e.0
between_pass event first last e =
    ap₂ ◌&&◌ (equal_is (number (view_kind e.0)) (number 2) refl ∙ ap is_eq (value_cmp-Int (pos 2) (pos (view_kind e.0))))
    (ap₂ ◌&&◌ (equal_is (Text (view_id e.0)) (Text event) refl ∙ ap is_eq (value_cmp-Text event (view_id e.0)))
    (ap₂ ◌&&◌ (number_ge (view_number e.0) first) (and_true _ ∙ number_le (view_number e.0) last)))
    ∙ by e.0
  where
    by : (k : ViewKey) → (is_eq (int_cmp (pos 2) (pos (view_kind k))) && (is_eq (id_cmp event (view_id k)) && (nat_le first (view_number k) && nat_le (view_number k) last))) ≡ is_key_between event first last k
    by (view.Program id) = refl
    by (view.Event id resource) = refl
    by (view.Report n) = refl
    by (view.Rollup id) = refl

pub stamps_read : (es read : List (ViewKey × Stamps)) → AllZip ReadsStamped (map stamp_row es) read → read ≡ es
stamps_read es read = read_back ReadsStamped stamp_row read es (λ x y has reads. ap₂ (λ (k : ViewKey) (v : Stamps). (k, v)) (view_key_kept x.0 y.0 reads.0) (stamps_kept x.1 y.1 reads.1))

-- ---- events of a program

pub reads_events : IsSelectText schema mirror (first_columns 2 (is_text 5) mirror) end EVENTS_OF.now
unfolding understood everything
reads_events = record { names = codes "kind" ∷ codes "id" ∷ []; command = refl; alone = (refl, refl); unlisted = refl; from = refl; order = refl; ungrouped = refl; undistinct = refl; joins = refl; sorts = refl; shows = refl }

-- a row passes where it has that program
pub events_pass : (program : List ℕ) (e : MirrorKey × Mark) → passes (event_key_row program) (is_text 5) (Null ∷ mark_row e) ≡ is_event_of program e
events_pass program e = and_true _ ∙ equal_is (column (mark_row e) 5) (Text program) refl ∙ ap (λ (v : _). is_eq (value_cmp (Text program) v)) (cell e.1) ∙ by (program_of e.1)
  where
    cell : (mark : Mark) → column (mark_row (e.0, mark)) 5 ≡ or_null Text (program_of mark)
    cell (Live moment body) = refl
    cell Dead = refl

    by : (its : Option (List ℕ)) → is_eq (value_cmp (Text program) (or_null Text its)) ≡ option_map_or (λ its. is_eq (id_cmp program its)) its false
    by None = ap is_eq (value_cmp-apart (Text program) Null (λ same. cc))
    by (Some its) = ap is_eq (value_cmp-Text program its)

pub keys_read : (es : List (MirrorKey × Mark)) (read : List MirrorKey) → AllZip ReadsKey (map (λ e. cells 0 2 (mark_row e)) es) read → read ≡ map (λ e. e.0) es
keys_read [] [] h = refl
keys_read [] (x ∷ read) h = absurd h
keys_read (e ∷ es) [] h = absurd h
keys_read (e ∷ es) (x ∷ read) h = ap₂ ◌∷◌ (key_kept x e.0 h.0) (keys_read es read h.1)
