-- A path is found under its text, and under no other.
use Rattle.std.proofs.Common.{◌≡◌, ℕ, suc, ◌<◌, inl, inr, List, [], ◌∷◌, ◌++◌, length, map, append-nil, codes, Bool, true, false, cond, refl, sym, ap, subst, ◌∙◌, arith, Option, Some, None, option_map, bytes_eq, IsTrue, ◌==◌}
use Rattle.std.specs.List.{All}
use Rattle.std.proofs.lemmas.List.Elements.{All-nil, All-cons, All-head, All-tail}
use Rattle.std.proofs.lemmas.Slice.Eq.{bytes_eq-Decides}
use Rattle.matchit.specs.Seek.{has_slash}
use Rattle.adr_wire.specs.Cuts.{parts}
use Rattle.adr_text.specs.Ids.{is_id}
use Rattle.adr_routes.specs.declared.place.Root.TheVariants.{Programs}
use Rattle.adr_routes.specs.declared.place.One.TheVariants.{Program}
use Rattle.adr_routes.specs.declared.place.Two.TheVariants.{Resource, Share}
use Rattle.adr_routes.specs.declared.place.Place.{Place}
use Rattle.adr_routes.specs.declared.place.Place.TheVariants.{Root, One, Two}
use Rattle.adr_routes.specs.declared.path.Path.{Path}
use Rattle.adr_routes.specs.declared.path.Path.TheVariants.{At, Of, Under}
use Rattle.adr_routes.specs.Words.{id_from}
use Rattle.adr_routes.specs.Places.{text_of, entry_of, entries_of, all_places, table}
use Rattle.adr_routes.specs.Shapes.{Part, word, any, part_of, part_fits, fits, shape_of, names_in, filled, joined, entry_in, value_of}
use Rattle.adr_routes.specs.Paths.{place_of, two_ids, path_at, names_at, path_in, place_in, path_of}
use Rattle.adr_routes.specs.Laws.{ids_of, HasIds, text_with, text_at, EveryPathIsFound, NoOtherTextIsFound}
use Rattle.adr_routes.proofs.Shapes.{both, AreSlashFree, parts_free, some_parts, joined_parts, parts_joined}
use Rattle.adr_routes.proofs.TableRows.{Among, the_entry, some_mapped}
use Rattle.adr_routes.proofs.PlaceTable.{table_apart}
use Rattle.adr_routes.proofs.IdTexts.{id_free, id_some, id_read, read_id}

abbrev IsId : List ℕ → Type 0
IsId id = IsTrue (is_id id)

-- ---- the table

-- how many ids a shape has room for
abbrev braces : List Part → ℕ
braces [] = 0
braces (word w ∷ ps) = braces ps
braces (any ∷ ps) = suc (braces ps)

abbrev arity : Place → ℕ
arity (Root root) = 0
arity (One one) = 1
arity (Two two) = 2

braces_are : (p : Place) → braces (shape_of (text_of p)) ≡ arity p
braces_are (Root Programs) = refl
braces_are (One Program) = refl
braces_are (Two Resource) = refl
braces_are _ = refl

-- each place is found under its own text
own_text : (p : Place) → place_in (text_of p) ≡ Some p
unfolding place_in
own_text (Root Programs) = refl
own_text (One Program) = refl
own_text (Two Resource) = refl
own_text _ = refl

-- what is found is of the table, and fits
fitting : (places : List Place) (ss : List (List ℕ)) (p : Place) → value_of (entry_in (entries_of places) ss) ≡ Some p
    → Among (entry_of p) (entries_of places) × (fits (shape_of (text_of p)) ss ≡ true)
fitting [] ss p e = absurd cc
fitting (q ∷ rest) ss p e = by (fits (shape_of (text_of q)) ss) refl (fitting rest ss p) e
  where
    Is : Place → Type 0
    Is r = Among (entry_of r) (entries_of (q ∷ rest)) × (fits (shape_of (text_of r)) ss ≡ true)

    by : (v : Bool) → fits (shape_of (text_of q)) ss ≡ v
        → (value_of (entry_in (entries_of rest) ss) ≡ Some p → Among (entry_of p) (entries_of rest) × (fits (shape_of (text_of p)) ss ≡ true))
        → value_of (cond v (Some (entry_of q)) (entry_in (entries_of rest) ss)) ≡ Some p → Is p
    by true f ih h =
        let same : q ≡ p = cc in
        subst Is same (inl refl, f)
    by false f ih h = let there = ih h in (inr there.0, there.1)

-- ---- a path is found under its text

-- a shape that is filled fits, and has the names that it was filled with
abbrev Fills : List Part → List (List ℕ) → Type 0
Fills ps ids = AreSlashFree (filled ps ids) × (fits ps (filled ps ids) ≡ true) × (names_in ps (filled ps ids) ≡ ids)

word_fills : (w : List ℕ) (ps : List Part) (ids : List (List ℕ)) → has_slash w ≡ false → Fills ps ids → Fills (word w ∷ ps) ids
word_fills w ps ids free h = ((free, h.0), rw ((bytes_eq-Decides w w).1 refl) h.1, h.2)

id_fills : (id : List ℕ) (ps : List Part) (ids : List (List ℕ)) → is_id id ≡ true → Fills ps ids → Fills (any ∷ ps) (id ∷ ids)
id_fills id ps ids is h = ((id_free id is, h.0), rw (id_some id is) h.1, ap (λ z. id ∷ z) h.2)

fills : (ts ids : List (List ℕ)) → AreSlashFree ts → length ids ≡ braces (map part_of ts) → All IsId ids → Fills (map part_of ts) ids
fills [] [] free n good = (tt, refl, refl)
fills [] (id ∷ ids) free n good = absurd (omega (arith, n))
fills ([] ∷ ts) ids free n good = word_fills [] (map part_of ts) ids refl (fills ts ids free.1 n good)
fills ((b ∷ rest) ∷ ts) ids free n good = by (b == 123) ids (λ ids. fills ts ids free.1) n good
  where
    ps : List Part
    ps = map part_of ts

    by : (v : Bool) (ids : List (List ℕ)) → ((ids : List (List ℕ)) → length ids ≡ braces ps → All IsId ids → Fills ps ids)
        → length ids ≡ braces (cond v any (word (b ∷ rest)) ∷ ps) → All IsId ids → Fills (cond v any (word (b ∷ rest)) ∷ ps) ids
    by false ids ih n good = word_fills (b ∷ rest) ps ids free.0 (ih ids n good)
    by true [] ih n good = absurd (omega (arith, n))
    by true (id ∷ ids) ih n good = id_fills id ps ids (All-head IsId id ids good) (ih ids (omega (arith, n)) (All-tail IsId id ids good))

some_fit : (ps : List Part) (ss : List (List ℕ)) → 0 < length ps → fits ps ss ≡ true → 0 < length ss
some_fit [] ss some e = absurd (omega (arith, some))
some_fit (p ∷ ps) [] some e = absurd cc
some_fit (p ∷ ps) (s ∷ ss) some e = omega arith

found_at : (p : Place) (ids : List (List ℕ)) (path : Path) → length ids ≡ arity p → All IsId ids → path_at p (map id_from ids) ≡ Some path
    → path_of (text_with p ids) ≡ Some path
unfolding path_of place_in
found_at p ids path n good is =
    let text : List ℕ = text_of p in
    let shape : List Part = shape_of text in
    let ss : List (List ℕ) = filled shape ids in
    let h = fills (parts 47 text) ids (parts_free text) (n ∙ sym (braces_are p)) good in
    let cut : parts 47 (joined ss) ≡ ss = parts_joined ss (some_fit shape ss (some_mapped (parts 47 text) (some_parts text)) h.1) h.0 in
    let among = (fitting all_places (parts 47 text) p (own_text p)).0 in
    let entry : entry_in table (parts 47 (joined ss)) ≡ Some (entry_of p) = ap (entry_in table) cut ∙ the_entry table (entry_of p) ss table_apart among h.1 in
    ap (λ e. path_in (value_of e) (joined ss)) entry
    ∙ ap (λ given. path_at p (map id_from (names_in shape given))) cut
    ∙ ap (λ names. path_at p (map id_from names)) h.2
    ∙ is

-- the two texts that are written out are those of their kinds, filled
filled_text : (path : Path) → text_at path ≡ text_with (place_of path) (ids_of path)
filled_text (At root) = refl
filled_text (Of one id) = refl
filled_text (Under Resource a b) = ap (λ end. codes "/vens/" ++ (a ++ (codes "/resources/" ++ end))) (sym (append-nil b))
filled_text (Under Share a b) = ap (λ end. codes "/shares/" ++ (a ++ (codes "/" ++ end))) (sym (append-nil b))

two_read : (a b : List ℕ) → is_id a ≡ true → is_id b ≡ true → two_ids (id_from a ∷ id_from b ∷ []) ≡ Some (a, b)
two_read a b e f =
    ap (λ o. two_ids (o ∷ id_from b ∷ [])) (id_read a e) ∙ ap (λ o. two_ids (Some a ∷ o ∷ [])) (id_read b f)

pub every_path : EveryPathIsFound
every_path (At root) good = found_at (Root root) [] (At root) refl good refl
every_path (Of one id) good = found_at (One one) (id ∷ []) (Of one id) refl good (ap (option_map (λ i. Of one i)) (id_read id (All-head IsId id [] good)))
every_path (Under two a b) good =
    let b_is = All-head IsId b [] (All-tail IsId a (b ∷ []) good) in
    ap path_of (filled_text (Under two a b))
    ∙ found_at (Two two) (a ∷ b ∷ []) (Under two a b) refl good (ap (option_map (λ ids. Under two ids.0 ids.1)) (two_read a b (All-head IsId a (b ∷ []) good) b_is))

-- ---- a text that is found is its path's

again : (ps : List Part) (ss : List (List ℕ)) → fits ps ss ≡ true → (filled ps (names_in ps ss) ≡ ss) × (length (names_in ps ss) ≡ braces ps)
again [] [] e = (refl, refl)
again [] (s ∷ ss) e = absurd cc
again (p ∷ ps) [] e = absurd cc
again (word w ∷ ps) (s ∷ ss) e =
    let h = both (bytes_eq w s) (fits ps ss) e in
    let rest = again ps ss h.1 in
    (ap (λ x. x ∷ filled ps (names_in ps ss)) ((bytes_eq-Decides w s).0 h.0) ∙ ap (λ z. s ∷ z) rest.0, rest.1)
again (any ∷ ps) (s ∷ ss) e =
    let rest = again ps ss (both (part_fits any s) (fits ps ss) e).1 in
    (ap (λ z. s ∷ z) rest.0, ap (λ n. suc n) rest.1)

-- the path is of this place, and of these names, which are ids
abbrev IsMade : Place → List (List ℕ) → Path → Type 0
IsMade p names path = (place_of path ≡ p) × (ids_of path ≡ names) × All IsId names

made : (p : Place) (names : List (List ℕ)) (path : Path) → length names ≡ arity p → path_at p (map id_from names) ≡ Some path → IsMade p names path
made (Root root) [] path n e =
    let same : At root ≡ path = cc in
    subst (IsMade (Root root) []) same (refl, refl, All-nil IsId)
made (One one) (a ∷ []) path n e = by (id_from a) refl e
  where
    by : (x : Option (List ℕ)) → id_from a ≡ x → option_map (λ id. Of one id) x ≡ Some path → IsMade (One one) (a ∷ []) path
    by None f h = absurd cc
    by (Some id) f h =
        let r = read_id a id f in
        let same : Of one id ≡ path = cc in
        subst (IsMade (One one) (a ∷ [])) same (refl, ap (λ i. i ∷ []) r.0, All-cons IsId a [] r.1 (All-nil IsId))
made (Two two) (a ∷ b ∷ []) path n e = by (id_from a) (id_from b) refl refl e
  where
    by : (x y : Option (List ℕ)) → id_from a ≡ x → id_from b ≡ y → option_map (λ ids. Under two ids.0 ids.1) (two_ids (x ∷ y ∷ [])) ≡ Some path
        → IsMade (Two two) (a ∷ b ∷ []) path
    by None y f g h = absurd cc
    by (Some i) None f g h = absurd cc
    by (Some i) (Some j) f g h =
        let r = read_id a i f in
        let s = read_id b j g in
        let same : Under two i j ≡ path = cc in
        subst (IsMade (Two two) (a ∷ b ∷ [])) same (
          refl,
          ap (λ x. x ∷ j ∷ []) r.0 ∙ ap (λ y. a ∷ y ∷ []) s.0,
          All-cons IsId a (b ∷ []) r.1 (All-cons IsId b [] s.1 (All-nil IsId)),
        )
made _ _ path n e = absurd (omega (arith, n))

pub no_other_text : NoOtherTextIsFound
unfolding path_of place_in
no_other_text text path e = by (place_in text) refl e
  where
    by : (o : Option Place) → place_in text ≡ o → path_in o text ≡ Some path → (text ≡ text_at path) × HasIds path
    by None f h = absurd cc
    by (Some p) f h =
        let back = again (shape_of (text_of p)) (parts 47 text) (fitting all_places (parts 47 text) p f).1 in
        let m = made p (names_at p text) path (back.1 ∙ braces_are p) h in
        let written : text_at path ≡ text =
        filled_text path
        ∙ ap (λ q. text_with q (ids_of path)) m.0
        ∙ ap (text_with p) m.1
        ∙ ap joined back.0
        ∙ joined_parts text in
        (sym written, subst (All IsId) (sym m.1) m.2)
