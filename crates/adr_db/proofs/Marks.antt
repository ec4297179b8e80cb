-- A mark that is kept reads back.
use Rattle.std.proofs.Common.{◌≡◌, ℕ, pos, Bool, true, false, cond, nat_le, List, [], ◌∷◌, map, Result, Ok, Err, refl, sym, ap, ap₂, ◌∙◌}
use Rattle.std.specs.String.{string_bytes}
use Rattle.std.specs.Prelude.{IfSome}
use Rattle.adr_db.proofs.Common.{Text, Has, Refusal, BadShape, Mark, Live, Dead, MirrorKey, at, mirror_cmp}
use Rattle.sqlite_rules.proofs.ListLemmas.{all_has}
use Rattle.adr_text.specs.Moments.{moment_at, last_nanos}
use Rattle.adr_objects.specs.declared.body.Body.{Body}
use Rattle.adr_objects.specs.Canonical.{canonical_text}
use Rattle.adr_objects.specs.ReadBack.{canonical_of}
use Rattle.adr_objects.specs.Bodies.{IsBody}
use Rattle.adr_objects.proofs.RoundTrips.{canonical_reads_back}
use Rattle.adr_db.specs.Rows.{number, mark_columns, known_columns, mark_row, columns_row, live_from, mark_from}
use Rattle.adr_db.specs.declared.known.MarkColumns.{MarkColumns}
use Rattle.adr_db.specs.Kept.{IsMark, AreMarks}
use Rattle.adr_db.specs.Admitted.{ReadsEntry}
use Rattle.adr_db.specs.ReadBack.{live_in, mark_in, entry_in}
use Rattle.adr_db.proofs.Entries.{entry_is, entries_again}
use Rattle.adr_db.proofs.Rows.{key_again, key_kept, columns_are}

row_parts : (columns : MarkColumns) (state moment : ℕ) (text : List ℕ) → columns_row columns ≡ number state ∷ number moment ∷ Text text ∷ [] → (columns.state ≡ state) × (columns.moment ≡ moment) × (string_bytes columns.body ≡ text)
row_parts columns state moment text h = (cc, cc, cc)

moment_read : (n m : ℕ) → moment_at (pos n) ≡ Ok m → m ≡ n
moment_read n m = by (nat_le n last_nanos)
  where
    by : (b : Bool) → ◌≡◌ {A = Result ℕ Refusal} (cond b (Ok n) (Err BadShape)) (Ok m) → m ≡ n
    by true h = cc
    by false h = absurd cc

live_read : (moment : Result ℕ Refusal) (body : Result Body Refusal) (mark : Mark) → live_from moment body ≡ Ok mark → (n : ℕ) × (b : Body) × (moment ≡ Ok n) × (body ≡ Ok b) × (mark ≡ Live n b)
live_read (Ok n) (Ok b) mark h = (n, b, refl, refl, cc)
live_read (Ok n) (Err e) mark h = absurd cc
live_read (Err e) body mark h = absurd cc

body_read : (text : List ℕ) (a b : Body) → canonical_of text ≡ Ok a → IsBody b → text ≡ canonical_text b → a ≡ b
body_read text a b reads valid is =
    let read : ◌≡◌ {A = Result Body Refusal} (Ok a) (Ok b) = sym reads ∙ ap canonical_of is ∙ canonical_reads_back b valid in cc

-- what is read of the columns of a valid mark is that mark
pub mark_read : (columns : MarkColumns) (read : Mark) → mark_from columns ≡ Ok read → (mark : Mark) → IsMark mark → columns_row columns ≡ mark_columns mark → read ≡ mark
mark_read columns read h (Live moment body) valid same =
    let is = row_parts columns 1 moment (canonical_text body) same in
    let live : live_from (moment_at (pos columns.moment)) (canonical_of (string_bytes columns.body)) ≡ Ok read = rw is.0 at h in
    let r = live_read _ _ read live in
    r.4 ∙ ap₂ Live (moment_read columns.moment r.0 r.2 ∙ is.1) (body_read (string_bytes columns.body) r.1 body r.3 valid is.2)
mark_read columns read h Dead valid same =
    let is = row_parts columns 2 0 [] same in
    let dead : ◌≡◌ {A = Result Mark Refusal} (Ok Dead) (Ok read) = rw is.0 at h in cc

pub entry_read : (marks : List (MirrorKey × Mark)) → AreMarks marks → (e kept : MirrorKey × Mark) → Has marks kept → ReadsEntry (mark_row kept) e → e ≡ kept
entry_read marks are e kept has reads =
    let it = reads.1 in
    let valid = all_has (λ m. IsMark m.1) marks kept are has in
    ap₂ (λ (key : MirrorKey) (mark : Mark). (key, mark)) (key_kept e.0 kept.0 reads.0) (mark_read it.0 e.1 it.3 kept.1 valid (it.2 ∙ columns_are kept.0 kept.1))

-- what is known of a key is one of the marks
pub known_is_mark : (marks : List (MirrorKey × Mark)) → AreMarks marks → (key : MirrorKey) → IfSome (at mirror_cmp key marks) IsMark
known_is_mark = entry_is mirror_cmp IsMark

-- ---- as the tables are read back

mark_again : (mark : Mark) → IsMark mark → mark_in (known_columns mark) ≡ mark
mark_again (Live moment body) valid = ap (live_in moment) (canonical_reads_back body valid)
mark_again Dead valid = refl

pub marks_again : (marks : List (MirrorKey × Mark)) → AreMarks marks → map entry_in (map mark_row marks) ≡ marks
marks_again = entries_again IsMark mark_row entry_in (λ e is. ap₂ (λ (key : MirrorKey) (mark : Mark). (key, mark)) (key_again e.0) (mark_again e.1 is))
