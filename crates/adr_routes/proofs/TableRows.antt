-- What matchit answers over a good table is the entry whose shape the path has.
use Rattle.std.proofs.Common.{◌≡◌, ℕ, ◌<◌, ◌⊎◌, inl, inr, List, [], ◌∷◌, length, map, Bool, true, false, cond, ◌&&◌, not, refl, sym, ap, subst, ◌∙◌, arith, Option, Some, None, Result, Ok, Err, bytes_eq, fold}
use Rattle.std.specs.List.{list_all}
use Rattle.std.proofs.lemmas.Slice.Eq.{bytes_eq-Decides}
use Rattle.matchit.specs.Rows.{RowsOf, comes_before}
use Rattle.matchit.specs.Route.{parse_route, Scan}
use Rattle.matchit.specs.Router.{RouteOf, route_from}
use Rattle.matchit.specs.Order.{placed}
use Rattle.matchit.specs.Seek.{first}
use Rattle.matchit.specs.declared.error.InsertError.{InsertError}
use Rattle.adr_wire.specs.Cuts.{parts}
use Rattle.adr_routes.specs.Shapes.{Part, word, any, part_fits, fits, part_of, shape_of, entry_in, value_of, value_in}
use Rattle.adr_routes.specs.Tables.{row_added, row_of, rows_of_table, route_value, route_of}
use Rattle.adr_routes.proofs.Seeking.{Has, AreWhole, IsWhole, Takes, found, taken}
use Rattle.adr_routes.proofs.Shapes.{both, pattern, is_word, fits_takes, takes_fits, whole_pattern, some_parts}

-- ---- two shapes that no path has

abbrev pub part_apart : Part → Part → Bool
part_apart (word a) (word b) = not (bytes_eq a b)
part_apart (word a) any = false
part_apart any (word b) = false
part_apart any any = false

abbrev pub apart : List Part → List Part → Bool
apart [] [] = false
apart [] (q ∷ qs) = true
apart (p ∷ ps) [] = true
apart (p ∷ ps) (q ∷ qs) = cond (part_apart p q) true (apart ps qs)

part_once : (p q : Part) (s : List ℕ) → part_apart p q ≡ true → part_fits p s ≡ true → part_fits q s ≡ true → ⊥
part_once (word a) (word b) s far x y =
    let same : a ≡ b = (bytes_eq-Decides a s).0 x ∙ sym ((bytes_eq-Decides b s).0 y) in
    let yes_same = (bytes_eq-Decides a b).1 same in
    let P : Bool → Type 0 = λ v. not v ≡ true in
    let no : false ≡ true = subst P yes_same far in
    cc no
part_once (word a) any s far x y = cc far
part_once any (word b) s far x y = cc far
part_once any any s far x y = cc far

once : (ps qs : List Part) (ss : List (List ℕ)) → apart ps qs ≡ true → fits ps ss ≡ true → fits qs ss ≡ true → ⊥
once [] [] ss far x y = cc far
once [] (q ∷ qs) [] far x y = cc y
once [] (q ∷ qs) (s ∷ ss) far x y = cc x
once (p ∷ ps) [] [] far x y = cc x
once (p ∷ ps) [] (s ∷ ss) far x y = cc y
once (p ∷ ps) (q ∷ qs) [] far x y = cc x
once (p ∷ ps) (q ∷ qs) (s ∷ ss) far x y =
    let u = both (part_fits p s) (fits ps ss) x in
    let v = both (part_fits q s) (fits qs ss) y in
    by (λ f. once ps qs ss f u.1 v.1) (part_apart p q) refl far
  where
    by : (apart ps qs ≡ true → ⊥) → (t : Bool) → part_apart p q ≡ t → cond t true (apart ps qs) ≡ true → ⊥
    by rest true e f = part_once p q s e (both (part_fits p s) (fits ps ss) x).0 (both (part_fits q s) (fits qs ss) y).0
    by rest false e f = rest f

pub some_mapped : (ss : List (List ℕ)) → 0 < length ss → 0 < length (map part_of ss)
some_mapped [] l = l
some_mapped (s ∷ ss) l = omega arith

shape_fits : (shape : List Part) (path : List ℕ) → 0 < length shape → list_all is_word shape ≡ true → Takes (pattern shape) path → fits shape (parts 47 path) ≡ true
shape_fits [] path l words h = absurd (omega (arith, l))
shape_fits (p ∷ ps) path l words h = takes_fits p ps path words h

text_fits : (text path : List ℕ) → list_all is_word (shape_of text) ≡ true → Takes (pattern (shape_of text)) path → fits (shape_of text) (parts 47 path) ≡ true
text_fits text path words h = shape_fits (shape_of text) path (some_mapped (parts 47 text) (some_parts text)) words h

-- ---- good tables

-- a text is read as this shape's pattern
abbrev pub reads_as : Result Scan InsertError → List Part → Bool
reads_as (Ok s) shape = bytes_eq s.pattern (pattern shape)
reads_as (Err e) shape = false

module _ {T : Type 0} where
  -- matchit reads the text as its shape's pattern
  abbrev pub is_good : List ℕ × T → Bool
  is_good e = reads_as (parse_route e.0) (shape_of e.0) && list_all is_word (shape_of e.0)

  abbrev pub apart_from : List Part → List (List ℕ × T) → Bool
  apart_from ps [] = true
  apart_from ps (e ∷ rest) = apart ps (shape_of e.0) && apart_from ps rest

  abbrev pub all_apart : List (List ℕ × T) → Bool
  all_apart [] = true
  all_apart (e ∷ rest) = apart_from (shape_of e.0) rest && all_apart rest

  abbrev pub all_good : List (List ℕ × T) → Bool
  all_good [] = true
  all_good (e ∷ rest) = is_good e && all_good rest

  abbrev pub Among : List ℕ × T → List (List ℕ × T) → Type 0
  Among e [] = ⊥
  Among e (d ∷ rest) = (d ≡ e) ⊎ Among e rest

  -- ---- rows of entries

  has_placed : (r : List ℕ × RouteOf T) (p : List ℕ) (k : RouteOf T) (rows : RowsOf (RouteOf T)) → Has p k (placed r rows) → ((r.0 ≡ p) × (r.1 ≡ k)) ⊎ Has p k rows
  has_placed r p k [] (inl e) = inl e
  has_placed r p k [] (inr h) = absurd h
  has_placed r p k (x ∷ rows) h = by (λ q. has_placed r p k rows q) (comes_before r.0 x.0) h
    where
      by : (Has p k (placed r rows) → ((r.0 ≡ p) × (r.1 ≡ k)) ⊎ Has p k rows) → (v : Bool)
          → Has p k (cond v (r ∷ x ∷ rows) (x ∷ placed r rows)) → ((r.0 ≡ p) × (r.1 ≡ k)) ⊎ Has p k (x ∷ rows)
      by ih true (inl e) = inl e
      by ih true (inr q) = inr q
      by ih false (inl e) = inr (inl e)
      by ih false (inr q) = later (ih q)
        where
          later : ((r.0 ≡ p) × (r.1 ≡ k)) ⊎ Has p k rows → ((r.0 ≡ p) × (r.1 ≡ k)) ⊎ Has p k (x ∷ rows)
          later (inl e) = inl e
          later (inr h) = inr (inr h)

  placed_has : (r : List ℕ × RouteOf T) (rows : RowsOf (RouteOf T)) → Has r.0 r.1 (placed r rows)
  placed_has r [] = inl (refl, refl)
  placed_has r (x ∷ rows) = by (comes_before r.0 x.0) (placed_has r rows)
    where
      by : (v : Bool) → Has r.0 r.1 (placed r rows) → Has r.0 r.1 (cond v (r ∷ x ∷ rows) (x ∷ placed r rows))
      by true ih = inl (refl, refl)
      by false ih = inr ih

  placed_keeps : (r : List ℕ × RouteOf T) (p : List ℕ) (k : RouteOf T) (rows : RowsOf (RouteOf T)) → Has p k rows → Has p k (placed r rows)
  placed_keeps r p k [] h = absurd h
  placed_keeps r p k (x ∷ rows) h = by (λ q. placed_keeps r p k rows q) (comes_before r.0 x.0) h
    where
      by : (Has p k rows → Has p k (placed r rows)) → (v : Bool) → Has p k (x ∷ rows) → Has p k (cond v (r ∷ x ∷ rows) (x ∷ placed r rows))
      by ih true q = inr q
      by ih false (inl e) = inl e
      by ih false (inr q) = inr (ih q)

  added_keeps : (s : Result Scan InsertError) (value : T) (p : List ℕ) (k : RouteOf T) (rows : RowsOf (RouteOf T)) → Has p k rows → Has p k (row_added rows value s)
  added_keeps (Ok s) value p k rows h = placed_keeps (s.pattern, route_from s value) p k rows h
  added_keeps (Err e) value p k rows h = h

  all_keep : (table : List (List ℕ × T)) (p : List ℕ) (k : RouteOf T) (rows : RowsOf (RouteOf T)) → Has p k rows → Has p k (fold row_of rows table)
  all_keep [] p k rows h = h
  all_keep (e ∷ rest) p k rows h = all_keep rest p k (row_of rows e) (added_keeps (parse_route e.0) e.1 p k rows h)

  added_has : (s : Result Scan InsertError) (value : T) (shape : List Part) (rows : RowsOf (RouteOf T)) → reads_as s shape ≡ true
      → (k : RouteOf T) × Has (pattern shape) k (row_added rows value s)
  added_has (Ok s) value shape rows e =
      let is = (bytes_eq-Decides s.pattern (pattern shape)).0 e in
      let P : List ℕ → Type 0 = λ q. Has q (route_from s value) (placed (s.pattern, route_from s value) rows) in
      (route_from s value, subst P is (placed_has (s.pattern, route_from s value) rows))
  added_has (Err x) value shape rows e = absurd cc

  has_added : (s : Result Scan InsertError) (value : T) (shape : List Part) (p : List ℕ) (k : RouteOf T) (rows : RowsOf (RouteOf T)) → reads_as s shape ≡ true
      → Has p k (row_added rows value s) → ((pattern shape ≡ p) × (value ≡ k.value)) ⊎ Has p k rows
  has_added (Err x) value shape p k rows e h = absurd cc
  has_added (Ok s) value shape p k rows e h = by (has_placed (s.pattern, route_from s value) p k rows h)
    where
      by : ((s.pattern ≡ p) × (route_from s value ≡ k)) ⊎ Has p k rows → ((pattern shape ≡ p) × (value ≡ k.value)) ⊎ Has p k rows
      by (inl q) = inl (sym ((bytes_eq-Decides s.pattern (pattern shape)).0 e) ∙ q.0, ap (λ r. r.value) q.1)
      by (inr q) = inr q

  -- every row is an entry's
  row_entry : (table : List (List ℕ × T)) (p : List ℕ) (k : RouteOf T) (rows : RowsOf (RouteOf T)) → all_good table ≡ true
      → Has p k (fold row_of rows table) → ((e : List ℕ × T) × Among e table × (pattern (shape_of e.0) ≡ p) × (e.1 ≡ k.value)) ⊎ Has p k rows
  row_entry [] p k rows good h = inr h
  row_entry (d ∷ rest) p k rows good h =
      let g = both (is_good d) (all_good rest) good in
      let reads = (both (reads_as (parse_route d.0) (shape_of d.0)) (list_all is_word (shape_of d.0)) g.0).0 in
      by (λ q. has_added (parse_route d.0) d.1 (shape_of d.0) p k rows reads q) (row_entry rest p k (row_of rows d) g.1 h)
    where
      one : ((pattern (shape_of d.0) ≡ p) × (d.1 ≡ k.value)) ⊎ Has p k rows → ((e : List ℕ × T) × Among e (d ∷ rest) × (pattern (shape_of e.0) ≡ p) × (e.1 ≡ k.value)) ⊎ Has p k rows
      one (inl q) = inl (d, inl refl, q.0, q.1)
      one (inr q) = inr q

      by : (Has p k (row_of rows d) → ((pattern (shape_of d.0) ≡ p) × (d.1 ≡ k.value)) ⊎ Has p k rows)
          → ((e : List ℕ × T) × Among e rest × (pattern (shape_of e.0) ≡ p) × (e.1 ≡ k.value)) ⊎ Has p k (row_of rows d)
          → ((e : List ℕ × T) × Among e (d ∷ rest) × (pattern (shape_of e.0) ≡ p) × (e.1 ≡ k.value)) ⊎ Has p k rows
      by added (inl q) = inl (q.0, inr q.1, q.2, q.3)
      by added (inr q) = one (added q)

  entry_row : (table : List (List ℕ × T)) (e : List ℕ × T) (rows : RowsOf (RouteOf T)) → all_good table ≡ true → Among e table
      → (k : RouteOf T) × Has (pattern (shape_of e.0)) k (fold row_of rows table)
  entry_row [] e rows good h = absurd h
  entry_row (d ∷ rest) e rows good (inr h) = entry_row rest e (row_of rows d) (both (is_good d) (all_good rest) good).1 h
  entry_row (d ∷ rest) e rows good (inl is) =
      let g = both (is_good d) (all_good rest) good in
      let reads = (both (reads_as (parse_route d.0) (shape_of d.0)) (list_all is_word (shape_of d.0)) g.0).0 in
      let at = added_has (parse_route d.0) d.1 (shape_of d.0) rows reads in
      let P : List ℕ × T → Type 0 = λ x. (k : RouteOf T) × Has (pattern (shape_of x.0)) k (fold row_of rows (d ∷ rest)) in
      subst P is (at.0, all_keep rest (pattern (shape_of d.0)) at.0 (row_of rows d) at.1)

  entry_good : (table : List (List ℕ × T)) (e : List ℕ × T) → all_good table ≡ true → Among e table → list_all is_word (shape_of e.0) ≡ true
  entry_good [] e good h = absurd h
  entry_good (d ∷ rest) e good (inl is) =
      let g = both (is_good d) (all_good rest) good in
      let words = (both (reads_as (parse_route d.0) (shape_of d.0)) (list_all is_word (shape_of d.0)) g.0).1 in
      let P : List ℕ × T → Type 0 = λ x. list_all is_word (shape_of x.0) ≡ true in
      subst P is words
  entry_good (d ∷ rest) e good (inr h) = entry_good rest e (both (is_good d) (all_good rest) good).1 h

  -- ---- the one entry

  far_from : (ps : List Part) (rest : List (List ℕ × T)) (e : List ℕ × T) → apart_from ps rest ≡ true → Among e rest → apart ps (shape_of e.0) ≡ true
  far_from ps [] e far h = absurd h
  far_from ps (d ∷ rest) e far (inl is) =
      let P : List ℕ × T → Type 0 = λ x. apart ps (shape_of x.0) ≡ true in
      subst P is (both (apart ps (shape_of d.0)) (apart_from ps rest) far).0
  far_from ps (d ∷ rest) e far (inr h) = far_from ps rest e (both (apart ps (shape_of d.0)) (apart_from ps rest) far).1 h

  pub the_entry : (table : List (List ℕ × T)) (e : List ℕ × T) (ss : List (List ℕ)) → all_apart table ≡ true → Among e table → fits (shape_of e.0) ss ≡ true → entry_in table ss ≡ Some e
  the_entry [] e ss far h fit = absurd h
  the_entry (d ∷ rest) e ss far (inl is) fit =
      let P : List ℕ × T → Type 0 = λ x. fits (shape_of x.0) ss ≡ true in
      let here : fits (shape_of d.0) ss ≡ true = subst P (sym is) fit in
      rw here (ap (λ x. Some x) is)
  the_entry (d ∷ rest) e ss far (inr h) fit =
      let g = both (apart_from (shape_of d.0) rest) (all_apart rest) far in
      by (fits (shape_of d.0) ss) refl (the_entry rest e ss g.1 h fit)
    where
      by : (v : Bool) → fits (shape_of d.0) ss ≡ v → entry_in rest ss ≡ Some e → cond v (Some d) (entry_in rest ss) ≡ Some e
      by true q ih = absurd (once (shape_of d.0) (shape_of e.0) ss (far_from (shape_of d.0) rest e (both (apart_from (shape_of d.0) rest) (all_apart rest) far).0 h) q fit)
      by false q ih = ih

  no_entry : (table : List (List ℕ × T)) (ss : List (List ℕ)) → ((e : List ℕ × T) → Among e table → fits (shape_of e.0) ss ≡ true → ⊥) → entry_in table ss ≡ None
  no_entry [] ss none = refl
  no_entry (d ∷ rest) ss none = by (fits (shape_of d.0) ss) refl (no_entry rest ss (λ e h fit. none e (inr h) fit))
    where
      by : (v : Bool) → fits (shape_of d.0) ss ≡ v → entry_in rest ss ≡ None → cond v (Some d) (entry_in rest ss) ≡ None
      by true q ih = absurd (none d (inl refl) q)
      by false q ih = ih

  whole_table : (table : List (List ℕ × T)) → all_good table ≡ true → AreWhole (fold row_of [] table)
  whole_table table good = λ p k h. by p k (row_entry table p k [] good h)
    where
      by : (p : List ℕ) (k : RouteOf T) → ((e : List ℕ × T) × Among e table × (pattern (shape_of e.0) ≡ p) × (e.1 ≡ k.value)) ⊎ Has p k [] → IsWhole p
      by p k (inl q) = subst IsWhole q.2 (whole_pattern (shape_of q.0.0) (entry_good table q.0 good q.1))
      by p k (inr h) = absurd h

  answer : (table : List (List ℕ × T)) (path : List ℕ) → all_good table ≡ true → all_apart table ≡ true
      → (r : Option (RouteOf T)) → first (fold row_of [] table) path ≡ r → route_value r ≡ value_in table path
  answer table path good far None e =
      sym (ap value_of (no_entry table (parts 47 path) (λ d h fit.
      let row = entry_row table d [] good h in
      let some = found (pattern (shape_of d.0)) path (fits_takes (shape_of d.0) path fit) row.0 (fold row_of [] table) (whole_table table good) row.1 in
      let is = some.1 in
      cc (e, is))))
  answer table path good far (Some k) e =
      let took = taken (length path) path (omega arith) k (fold row_of [] table) (whole_table table good) e in
      by took.0 took.2 (row_entry table took.0 k [] good took.1)
    where
      by : (p : List ℕ) → Takes p path → ((e : List ℕ × T) × Among e table × (pattern (shape_of e.0) ≡ p) × (e.1 ≡ k.value)) ⊎ Has p k [] → Some k.value ≡ value_in table path
      by p t (inr h) = absurd h
      by p t (inl q) =
          let there : Takes (pattern (shape_of q.0.0)) path = subst (λ x. Takes x path) (sym q.2) t in
          let fit = text_fits q.0.0 path (entry_good table q.0 good q.1) there in
          ap (λ v. Some v) (sym q.3) ∙ sym (ap value_of (the_entry table q.0 (parts 47 path) far q.1 fit))

  -- over any good table, for any path
  pub places_are : (table : List (List ℕ × T)) (path : List ℕ) → all_good table ≡ true → all_apart table ≡ true → route_of (rows_of_table table) path ≡ value_in table path
  unfolding rows_of_table
  places_are table path good far = answer table path good far (first (fold row_of [] table) path) refl
