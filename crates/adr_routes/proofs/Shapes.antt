-- Patterns of shapes: a path fits a shape where the shape's pattern takes it.
use Rattle.std.proofs.Common.{◌≡◌, ◌≢◌, ℕ, ◌<◌, List, [], ◌∷◌, ◌++◌, length, map, Bool, true, false, cond, ◌&&◌, refl, sym, ap, subst, ◌∙◌, arith, ◌==◌, nat_lt, append-nil, not}
use Rattle.std.specs.Bool.{⊤}
use Rattle.std.specs.List.{list_all}
use Rattle.std.proofs.lemmas.Bool.Decides.{nat_tests}
use Rattle.std.proofs.lemmas.Slice.Eq.{bytes_eq-Decides}
use Rattle.matchit.specs.Seek.{has_slash}
use Rattle.std.specs.List.{onto_first, flat_map}
use Rattle.adr_wire.specs.Cuts.{parts}
use Rattle.adr_routes.specs.Shapes.{Part, word, any, part_fits, fits, joined}
use Rattle.adr_routes.proofs.Seeking.{Takes, done, byte, run, AtSlash, IsWhole}

-- a shape's pattern
abbrev pub tokens : Part → List ℕ
tokens (word w) = w
tokens any = 256 ∷ []

-- further parts
abbrev pub more : List (List ℕ) → List ℕ
more ss = flat_map (λ s. 47 ∷ s) ss

abbrev pub further : List Part → List ℕ
further ps = more (map tokens ps)

abbrev pub pattern : List Part → List ℕ
pattern ps = joined (map tokens ps)

abbrev pub AreSlashFree : List (List ℕ) → Type 0
AreSlashFree [] = ⊤
AreSlashFree (s ∷ ss) = (has_slash s ≡ false) × AreSlashFree ss

-- a word's bytes
abbrev pub is_byte : ℕ → Bool
is_byte b = nat_lt b 256 && not (b == 47)

abbrev pub is_word : Part → Bool
is_word (word w) = list_all is_byte w
is_word any = true

pub both : (a b : Bool) → (a && b) ≡ true → (a ≡ true) × (b ≡ true)
both true b e = (refl, e)
both false b e = absurd cc

-- ---- parts

first_free : (b : ℕ) (ss : List (List ℕ)) → (b == 47) ≡ false → AreSlashFree ss → AreSlashFree (onto_first b ss)
first_free b [] e h = (rw e refl, tt)
first_free b (s ∷ ss) e h = (rw e h.0, h.1)

pub parts_free : (path : List ℕ) → AreSlashFree (parts 47 path)
parts_free [] = (refl, tt)
parts_free (b ∷ path) = by (b == 47) refl (parts_free path)
  where
    by : (v : Bool) → (b == 47) ≡ v → AreSlashFree (parts 47 path) → AreSlashFree (cond v ([] ∷ parts 47 path) (onto_first b (parts 47 path)))
    by true e ih = (refl, ih)
    by false e ih = first_free b (parts 47 path) e ih

first_joined : (b : ℕ) (ss : List (List ℕ)) → joined (onto_first b ss) ≡ b ∷ joined ss
first_joined b [] = refl
first_joined b (s ∷ ss) = refl

joined_next : (path : List ℕ) (ss : List (List ℕ)) → joined ss ≡ path → 0 < length ss → more ss ≡ 47 ∷ path
joined_next path [] e l = absurd (omega arith)
joined_next path (s ∷ ss) e l = ap (λ z. 47 ∷ z) e

some_first : (b : ℕ) (ss : List (List ℕ)) → 0 < length (onto_first b ss)
some_first b [] = omega arith
some_first b (s ∷ ss) = omega arith

pub some_parts : (path : List ℕ) → 0 < length (parts 47 path)
some_parts [] = omega arith
some_parts (b ∷ path) = by (b == 47)
  where
    by : (v : Bool) → 0 < length (cond v ([] ∷ parts 47 path) (onto_first b (parts 47 path)))
    by true = omega arith
    by false = some_first b (parts 47 path)

pub joined_parts : (path : List ℕ) → joined (parts 47 path) ≡ path
joined_parts [] = refl
joined_parts (b ∷ path) = by (b == 47) refl (joined_parts path)
  where
    by : (v : Bool) → (b == 47) ≡ v → joined (parts 47 path) ≡ path → joined (cond v ([] ∷ parts 47 path) (onto_first b (parts 47 path))) ≡ b ∷ path
    by true e ih =
        let is : b ≡ 47 = grind (arith, nat_tests) in
        joined_next path (parts 47 path) ih (some_parts path) ∙ ap (λ y. y ∷ path) (sym is)
    by false e ih = first_joined b (parts 47 path) ∙ ap (λ z. b ∷ z) ih

head_not : (x : ℕ) (a : List ℕ) → has_slash (x ∷ a) ≡ false → ((x == 47) ≡ false) × (has_slash a ≡ false)
head_not x a e = by (x == 47) e
  where
    by : (v : Bool) → cond v true (has_slash a) ≡ false → (v ≡ false) × (has_slash a ≡ false)
    by true q = absurd cc
    by false q = (refl, q)

pub parts_one : (s : List ℕ) → has_slash s ≡ false → parts 47 s ≡ s ∷ []
parts_one [] e = refl
parts_one (x ∷ s) e = let h = head_not x s e in rw h.0 (ap (onto_first x) (parts_one s h.1))

pub parts_more : (s r : List ℕ) → has_slash s ≡ false → parts 47 (s ++ 47 ∷ r) ≡ s ∷ parts 47 r
parts_more [] r e = refl
parts_more (x ∷ s) r e = let h = head_not x s e in rw h.0 (ap (onto_first x) (parts_more s r h.1))

pub parts_joined : (ss : List (List ℕ)) → 0 < length ss → AreSlashFree ss → parts 47 (joined ss) ≡ ss
parts_joined [] some free = absurd (omega (arith, some))
parts_joined (s ∷ []) some free = ap (parts 47) (append-nil s) ∙ parts_one s free.0
parts_joined (s ∷ t ∷ ss) some free = parts_more s (joined (t ∷ ss)) free.0 ∙ ap (λ z. s ∷ z) (parts_joined (t ∷ ss) (omega arith) free.1)

-- ---- a path that fits is taken

takes_same : (s t rest : List ℕ) → Takes t rest → Takes (s ++ t) (s ++ rest)
takes_same [] t rest h = h
takes_same (x ∷ s) t rest h = byte x (s ++ t) (s ++ rest) (takes_same s t rest h)

takes_part : (p : Part) (s t rest : List ℕ) → part_fits p s ≡ true → has_slash s ≡ false → Takes t rest → Takes (tokens p ++ t) (s ++ rest)
takes_part (word w) s t rest e free h =
    let P : List ℕ → Type 0 = λ v. Takes (v ++ t) (s ++ rest) in
    subst P (sym ((bytes_eq-Decides w s).0 e)) (takes_same s t rest h)
takes_part any [] t rest e free h = absurd cc
takes_part any (b ∷ n) t rest e free h = run b n t rest free h

takes_more : (ps : List Part) (ss : List (List ℕ)) → AreSlashFree ss → fits ps ss ≡ true → Takes (further ps) (more ss)
takes_more [] [] free e = done
takes_more [] (s ∷ ss) free e = absurd cc
takes_more (p ∷ ps) [] free e = absurd cc
takes_more (p ∷ ps) (s ∷ ss) free e =
    let h = both (part_fits p s) (fits ps ss) e in
    byte 47 (tokens p ++ further ps) (s ++ more ss) (takes_part p s (further ps) (more ss) h.0 free.0 (takes_more ps ss free.1 h.1))

takes_joined : (ps : List Part) (ss : List (List ℕ)) → AreSlashFree ss → fits ps ss ≡ true → Takes (pattern ps) (joined ss)
takes_joined [] [] free e = done
takes_joined [] (s ∷ ss) free e = absurd cc
takes_joined (p ∷ ps) [] free e = absurd cc
takes_joined (p ∷ ps) (s ∷ ss) free e =
    let h = both (part_fits p s) (fits ps ss) e in
    takes_part p s (further ps) (more ss) h.0 free.0 (takes_more ps ss free.1 h.1)

pub fits_takes : (ps : List Part) (path : List ℕ) → fits ps (parts 47 path) ≡ true → Takes (pattern ps) path
fits_takes ps path e = subst (Takes (pattern ps)) (joined_parts path) (takes_joined ps (parts 47 path) (parts_free path) e)

-- ---- a path that is taken fits

nothing_taken : (p path : List ℕ) → Takes p path → p ≡ [] → path ≡ []
nothing_taken _ _ done e = refl
nothing_taken _ _ (byte b t path h) e = absurd cc
nothing_taken _ _ (run b n t rest f h) e = absurd cc

byte_taken : (p path : List ℕ) → Takes p path → (x : ℕ) (t : List ℕ) → p ≡ x ∷ t → x ≢ 256 → (r : List ℕ) × (path ≡ x ∷ r) × Takes t r
byte_taken _ _ done x t e n = absurd cc
byte_taken _ _ (byte b u path h) x t e n =
    let head : b ≡ x = cc in
    let tail : u ≡ t = cc in
    (path, ap (λ y. y ∷ path) head, subst (λ q. Takes q path) tail h)
byte_taken _ _ (run b m u rest f h) x t e n =
    let head : 256 ≡ x = cc in
    absurd (n (sym head))

run_taken : (p path : List ℕ) → Takes p path → (t : List ℕ) → p ≡ 256 ∷ t → (s : List ℕ) × (rest : List ℕ) × (path ≡ s ++ rest) × (has_slash s ≡ false) × (0 < length s) × Takes t rest
run_taken _ _ done t e = absurd cc
run_taken _ _ (byte b u path h) t e =
    let head : b ≡ 256 = cc in
    let tail : u ≡ t = cc in
    (256 ∷ [], path, ap (λ y. y ∷ path) head, refl, omega arith, subst (λ q. Takes q path) tail h)
run_taken _ _ (run b m u rest f h) t e =
    let tail : u ≡ t = cc in
    (b ∷ m, rest, refl, f, omega arith, subst (λ q. Takes q rest) tail h)

word_taken : (w t path : List ℕ) → list_all is_byte w ≡ true → Takes (w ++ t) path → (rest : List ℕ) × (path ≡ w ++ rest) × (has_slash w ≡ false) × Takes t rest
word_taken [] t path e h = (path, refl, refl, h)
word_taken (x ∷ w) t path e h =
    let good = both (is_byte x) (list_all is_byte w) e in
    let n : x ≢ 256 = λ q. grind (arith, nat_tests, good.0) in
    let free : (x == 47) ≡ false = grind (arith, nat_tests, good.0) in
    let first = byte_taken (x ∷ (w ++ t)) path h x (w ++ t) refl n in
    let ih = word_taken w t first.0 good.1 first.2 in
    (ih.0, first.1 ∙ ap (λ z. x ∷ z) ih.1, rw free ih.2, ih.3)

part_taken : (p : Part) (t path : List ℕ) → is_word p ≡ true → Takes (tokens p ++ t) path
    → (s : List ℕ) × (rest : List ℕ) × (path ≡ s ++ rest) × (has_slash s ≡ false) × (part_fits p s ≡ true) × Takes t rest
part_taken (word w) t path e h =
    let r = word_taken w t path e h in
    (w, r.0, r.1, r.2, (bytes_eq-Decides w w).1 refl, r.3)
part_taken any t path e h =
    let r = run_taken (256 ∷ t) path h t refl in
    let some : nat_lt 0 (length r.0) ≡ true = let l = r.4 in grind (arith, nat_tests) in
    (r.0, r.1, r.2, r.3, some, r.5)

pub takes_fits : (p : Part) (ps : List Part) (path : List ℕ) → list_all is_word (p ∷ ps) ≡ true → Takes (tokens p ++ further ps) path → fits (p ∷ ps) (parts 47 path) ≡ true
takes_fits p [] path e h =
    let good = both (is_word p) true e in
    let r = part_taken p [] path good.0 h in
    let end = nothing_taken [] r.1 r.5 refl in
    let is : path ≡ r.0 = r.2 ∙ ap (λ z. r.0 ++ z) end ∙ append-nil r.0 in
    rw (is, parts_one r.0 r.3, r.4) refl
takes_fits p (q ∷ ps) path e h =
    let good = both (is_word p) (list_all is_word (q ∷ ps)) e in
    let r = part_taken p (further (q ∷ ps)) path good.0 h in
    let not_any : 47 ≢ 256 = λ z. omega (arith, z) in
    let slash = byte_taken (further (q ∷ ps)) r.1 r.5 47 (tokens q ++ further ps) refl not_any in
    let ih = takes_fits q ps slash.0 good.1 slash.2 in
    let is : path ≡ r.0 ++ 47 ∷ slash.0 = r.2 ∙ ap (λ z. r.0 ++ z) slash.1 in
    rw (is, parts_more r.0 slash.0 r.3, r.4) ih

-- ---- such a pattern is whole

slash_further : (ps : List Part) → AtSlash (further ps)
slash_further [] = tt
slash_further (p ∷ ps) = refl

whole_word : (w t : List ℕ) → list_all is_byte w ≡ true → IsWhole t → IsWhole (w ++ t)
whole_word [] t e h = h
whole_word (x ∷ w) t e h =
    let good = both (is_byte x) (list_all is_byte w) e in
    let small : x < 256 = grind (arith, nat_tests, good.0) in
    (omega arith, λ q. absurd (omega (arith, q)), whole_word w t good.1 h)

whole_part : (p : Part) (t : List ℕ) → is_word p ≡ true → AtSlash t → IsWhole t → IsWhole (tokens p ++ t)
whole_part (word w) t e at h = whole_word w t e h
whole_part any t e at h = (omega arith, λ q. at, h)

whole_further : (ps : List Part) → list_all is_word ps ≡ true → IsWhole (further ps)
whole_further [] e = tt
whole_further (p ∷ ps) e =
    let good = both (is_word p) (list_all is_word ps) e in
    (omega arith, λ q. absurd (omega (arith, q)), whole_part p (further ps) good.0 (slash_further ps) (whole_further ps good.1))

pub whole_pattern : (ps : List Part) → list_all is_word ps ≡ true → IsWhole (pattern ps)
whole_pattern [] e = tt
whole_pattern (p ∷ ps) e =
    let good = both (is_word p) (list_all is_word ps) e in
    whole_part p (further ps) good.0 (slash_further ps) (whole_further ps good.1)
