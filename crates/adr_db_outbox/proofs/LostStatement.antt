-- The selection of the entries that go to a subscription which is not there.
use Rattle.std.proofs.Common.{◌≡◌, ℕ, pos, ◌<◌, Bool, true, false, not, ◌&&◌, ◌||◌, ◌==◌, List, [], ◌∷◌, codes, length, map, filter, min, refl, sym, ap, ap₂, ◌∙◌, arith, Less, Equal, Greater, Ordering, is_eq}
use Rattle.std.specs.Prelude.{is_some}
use Rattle.std.specs.Map.{lookup}
use Rattle.std.proofs.lemmas.Bool.{ne_eqb}
use Rattle.std.proofs.lemmas.Map.Made.{is_some-lookup}
use Rattle.adr_db.proofs.Common.{list_all, list_any, nat_cmp, is_at, ranked, MatchOrdering, Null, Int, Row, value_cmp-Int, filter-map, map-map, Query, Join, inner, counted, end, matches, Term, lit, col, op1, op2, holds, State, Shown, understood, everything, and_true, equal_is, cells, seen, IsSelectText, order_from, selection, is_found, select_runs, Sub}
use Rattle.sqlite_value.specs.declared.keys.Collation.TheVariants.{Binary}
use Rattle.sqlite_sql.specs.declared.ops.BinaryOp.TheVariants.{Compare}
use Rattle.sqlite_sql.specs.declared.ops.CompareOp.TheVariants.{Ne}
use Rattle.sqlite_sql.specs.declared.ops.UnaryOp.TheVariants.{Not}
use Rattle.sqlite_sql.specs.Ops.{binary, unary, is_true, test}
use Rattle.adr_sql.proofs.Keys.{told}
use Rattle.adr_sql.proofs.Selections.{absent_is}
use Rattle.adr_delivery.specs.declared.entry.Entry.{Entry}
use Rattle.adr_delivery.specs.Entries.{destination}
use Rattle.adr_delivery.specs.Outboxes.{has_addressee}
use Rattle.adr_db_outbox.specs.declared.lost.TheConstants.{READ_LOST}
use Rattle.adr_db.specs.Tables.{schema}
use Rattle.adr_db.specs.Rows.{number, number_row, sub_row, entry_row}
use Rattle.adr_db.specs.Kept.{Kept, Keeps, contents_of, numbers_lost}
use Rattle.adr_db.proofs.Rows.{numbers_as_values}
use Rattle.adr_db.proofs.Tables.{outbox, outbox_keyed, sub}
use Rattle.adr_db.proofs.Maps.{outbox_map}
use Rattle.adr_db.proofs.Comparisons.{compared}
use Rattle.adr_db_outbox.proofs.NextStatement.{equals}

abbrev tests : List Term
tests = equals (col 2 1) (col 1 2) ∷ []

abbrev rest : Join
rest = counted 1 (inner sub.tree end) tests end

abbrev filters : List Term
filters = op2 (Compare Ne Binary) (col 1 2) (lit (number 0)) ∷ op1 Not (col 2 0) ∷ []

abbrev query : Query
query = selection outbox.tree rest filters (col 1 1 ∷ []) (order_from 0 1)

pub selects : IsSelectText schema outbox query rest READ_LOST.now
unfolding understood everything
selects = record { names = codes "id" ∷ []; command = refl; alone = (refl, refl); unlisted = refl; from = refl; order = refl; ungrouped = refl; undistinct = refl; joins = refl; sorts = refl; shows = refl }

-- ---- the tests

zero_is : (d : ℕ) → test Ne (nat_cmp d 0) ≡ not (d == 0)
zero_is d = by (nat_cmp d 0) (ranked d 0 (nat_cmp d 0) refl)
  where
    by : (o : Ordering) → MatchOrdering o (d < 0) (d ≡ 0) (0 < d) → test Ne o ≡ not (d == 0)
    by Less h = absurd (omega (arith, h))
    by Equal h = ap (λ n. not (n == 0)) (sym h)
    by Greater h = ap not (sym (ne_eqb d 0 (λ same. omega (arith, h, same))))

-- it goes to a subscription
other_is : (d : ℕ) → is_true (binary (Compare Ne Binary) (number d) (number 0)) ≡ not (d == 0)
other_is d = ap is_true (compared Ne d 0) ∙ told _ ∙ zero_is d

-- the subscription is the one that it goes to
same_is : (e : ℕ × Entry) (s : ℕ × Sub) → list_all (holds ([] ∷ (Null ∷ entry_row e) ∷ (Null ∷ sub_row s) ∷ [])) tests ≡ is_at (nat_cmp (destination e.1.addressee)) s.0
same_is e s =
    let d = destination e.1.addressee in
    ap (λ b. b && true) (equal_is (number s.0) (number d) refl ∙ ap is_eq (value_cmp-Int (pos d) (pos s.0) ∙ numbers_as_values d s.0)) ∙ and_true _

any_map : {X Y : Type 0} (p : Y → Bool) (f : X → Y) (xs : List X) → list_any p (map f xs) ≡ list_any (λ x. p (f x)) xs
any_map p f [] = refl
any_map p f (x ∷ xs) = ap (λ b. p (f x) || b) (any_map p f xs)

-- which is none of those that are there
none_is : (kept : Kept) (e : ℕ × Entry) → is_true (unary Not (Int (pos (min 1 (length (matches (seen schema.tables (contents_of kept)) tests (inner sub.tree end) ([] ∷ (Null ∷ entry_row e) ∷ []))))))) ≡ not (is_some (lookup (is_at (nat_cmp (destination e.1.addressee))) kept.portfolio.subs))
none_is kept e =
    let p = is_at (nat_cmp (destination e.1.addressee)) in
    let subs = kept.portfolio.subs in
    absent_is schema.tables (contents_of kept) tests sub.tree ([] ∷ (Null ∷ entry_row e) ∷ [])
    ∙ ap not (any_map (λ row. list_all (holds ([] ∷ (Null ∷ entry_row e) ∷ (Null ∷ row) ∷ [])) tests) sub_row subs ∙ ap (λ (p : ℕ × Sub → Bool). list_any p subs) (λ i s. same_is e s i)
    ∙ sym (any_map p (λ (s : ℕ × Sub). s.0) subs) ∙ sym (is_some-lookup p subs))

neither : (a b : Bool) → (not a && (not b && true)) ≡ not (a || b)
neither true b = refl
neither false true = refl
neither false false = refl

passes_is : (kept : Kept) (e : ℕ × Entry) → is_found (seen schema.tables (contents_of kept)) rest filters [] (Null ∷ entry_row e) ≡ not (has_addressee kept.portfolio.subs e)
passes_is kept e =
    let d = destination e.1.addressee in
    ap₂ ◌&&◌ (other_is d) (ap (λ b. b && true) (none_is kept e)) ∙ neither (d == 0) (is_some (lookup (is_at (nat_cmp d)) kept.portfolio.subs))

-- ---- what is found

found_is : (kept : Kept) → map (λ row. cells 0 1 row) (filter (λ row. is_found (seen schema.tables (contents_of kept)) rest filters [] (Null ∷ row)) (map entry_row kept.entries)) ≡ map number_row (numbers_lost kept)
found_is kept =
    ap (map (λ row. cells 0 1 row)) (filter-map _ entry_row kept.entries ∙ ap (λ (p : ℕ × Entry → Bool). map entry_row (filter p kept.entries)) (λ i e. passes_is kept e i))
    ∙ map-map (λ row. cells 0 1 row) entry_row _ ∙ sym (map-map number_row (λ e. e.0) _)

pub lost_read : (old new : State) (rows : List Row) (kept : Kept) → Shown READ_LOST.now [] old new rows → Keeps kept old → rows ≡ map number_row (numbers_lost kept)
lost_read old new rows kept h was = select_runs schema outbox_map.rows.at outbox outbox_keyed.place query rest READ_LOST.now [] selects refl old new rows (contents_of kept) h was.rows ∙ found_is kept
