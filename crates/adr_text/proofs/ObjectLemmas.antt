-- What an object that was written has at a name, and that it has no float and is not deep.
use Rattle.std.proofs.Common.{◌≡◌, ℕ, suc, ◌≤◌, Bool, true, false, cond, ◌||◌, List, [], ◌∷◌, map, Option, Some, None, Ordering, Less, Equal, Greater, nat_cmp, bytes_eq, refl, sym, ap, ◌∙◌, arith, true≢false}
use Rattle.std.specs.Cmp.Lexicographic.{slice_cmp}
use Rattle.std.specs.Ordering.{match_ordering}
use Rattle.std.proofs.lemmas.Slice.Eq.{bytes_eq-Decides}
use Rattle.serde_json.specs.Data.{Data, Items, Members, no_members, member, put, depth, members_depth, items_depth}
use Rattle.serde_json.specs.Find.{get, get_member}
use Rattle.serde_json.specs.Written.{has_float, items_have_float, members_have_float}
use Rattle.serde_json.specs.View.{items_of}
use Rattle.serde_json.proofs.Views.{get_member-put, get_member-put_other}
use Rattle.adr_text.specs.Objects.{put_some, add_all, object_of, array_of}

-- a later value stands over an earlier one
abbrev pub over : Option Data → Option Data → Option Data
over None d = d
over (Some x) d = Some x

-- what is at a name after more members went in
abbrev pub found_after : List ℕ → Option Data → List (List ℕ × Option Data) → Option Data
found_after q d [] = d
found_after q d (f ∷ fields) = found_after q (cond (bytes_eq q f.0) (over f.1 d) d) fields

at_name : (q k : List ℕ) (b : Bool) (d : Data) (ms : Members) → bytes_eq q k ≡ b → get_member q (put k d ms) ≡ cond b (Some d) (get_member q ms)
at_name q k true d ms e = let same : q ≡ k = (bytes_eq-Decides q k).0 e in rw same (get_member-put k d ms)
at_name q k false d ms e = get_member-put_other q k d ms (λ same. true≢false (sym ((bytes_eq-Decides q k).1 same) ∙ e))

get_member-put_some : (q k : List ℕ) (b : Bool) (o : Option Data) (ms : Members) → bytes_eq q k ≡ b → get_member q (put_some k o ms) ≡ cond b (over o (get_member q ms)) (get_member q ms)
get_member-put_some q k true None ms e = refl
get_member-put_some q k false None ms e = refl
get_member-put_some q k b (Some d) ms e = at_name q k b d ms e

get_member-add_all : (q : List ℕ) (ms : Members) (fields : List (List ℕ × Option Data)) → get_member q (add_all ms fields) ≡ found_after q (get_member q ms) fields
get_member-add_all q ms [] = refl
get_member-add_all q ms (f ∷ fields) = get_member-add_all q (put_some f.0 f.1 ms) fields ∙ ap (λ (d : Option Data). found_after q d fields) (get_member-put_some q f.0 _ f.1 ms refl)

-- what a written object has at a name
pub get-object_of : (q : List ℕ) (fields : List (List ℕ × Option Data)) → get q (object_of fields) ≡ found_after q None fields
get-object_of q fields = get_member-add_all q no_members fields

-- ---- no float, and not deep

pub record IsPlain (n : ℕ) (d : Data) : Type 0 where
  pub no_float : has_float d ≡ false
  pub flat : depth d ≤ n

pub record ArePlain (n : ℕ) (ms : Members) : Type 0 where
  pub no_float : members_have_float ms ≡ false
  pub flat : members_depth ms ≤ n

both : (a b : Bool) → a ≡ false → b ≡ false → (a || b) ≡ false
both a b p q = rw (p, q) refl

left : (a b : Bool) → (a || b) ≡ false → a ≡ false
left true b e = e
left false b e = refl

right : (a b : Bool) → (a || b) ≡ false → b ≡ false
right true b e = absurd (true≢false e)
right false b e = e

first_plain : (n : ℕ) (l : List ℕ) (e : Data) (ms : Members) → ArePlain n (member l e ms) → IsPlain n e
first_plain n l e ms h = record { no_float = left _ _ h.no_float; flat = omega (arith, h.flat) }

rest_plain : (n : ℕ) (l : List ℕ) (e : Data) (ms : Members) → ArePlain n (member l e ms) → ArePlain n ms
rest_plain n l e ms h = record { no_float = right (has_float e) _ h.no_float; flat = omega (arith, h.flat) }

member_plain : (n : ℕ) (l : List ℕ) (e : Data) (ms : Members) → IsPlain n e → ArePlain n ms → ArePlain n (member l e ms)
member_plain n l e ms h k = record { no_float = both _ _ h.no_float k.no_float; flat = omega (arith, h.flat, k.flat) }

put_plain_at : (o : Ordering) (n : ℕ) (k l : List ℕ) (d e : Data) (ms : Members) → IsPlain n d → ArePlain n (member l e ms) → ArePlain n (put k d ms)
    → ArePlain n (match_ordering o (member k d (member l e ms)) (member l d ms) (member l e (put k d ms)))
put_plain_at Less n k l d e ms h all later = member_plain n k d (member l e ms) h all
put_plain_at Equal n k l d e ms h all later = member_plain n l d ms h (rest_plain n l e ms all)
put_plain_at Greater n k l d e ms h all later = member_plain n l e (put k d ms) (first_plain n l e ms all) later

put_plain : (n : ℕ) (k : List ℕ) (d : Data) (ms : Members) → IsPlain n d → ArePlain n ms → ArePlain n (put k d ms)
put_plain n k d no_members h all = member_plain n k d no_members h all
put_plain n k d (member l e ms) h all = put_plain_at (slice_cmp nat_cmp k l) n k l d e ms h all (put_plain n k d ms h (rest_plain n l e ms all))

-- the values that are there are plain
abbrev pub FieldIsPlain : ℕ → Option Data → Type 0
FieldIsPlain n None = Unit {0}
FieldIsPlain n (Some d) = IsPlain n d

abbrev pub FieldsArePlain : ℕ → List (List ℕ × Option Data) → Type 0
FieldsArePlain n [] = Unit {0}
FieldsArePlain n (f ∷ fields) = FieldIsPlain n f.1 × FieldsArePlain n fields

put_some_plain : (n : ℕ) (k : List ℕ) (o : Option Data) (ms : Members) → FieldIsPlain n o → ArePlain n ms → ArePlain n (put_some k o ms)
put_some_plain n k None ms h all = all
put_some_plain n k (Some d) ms h all = put_plain n k d ms h all

add_all_plain : (n : ℕ) (ms : Members) (fields : List (List ℕ × Option Data)) → FieldsArePlain n fields → ArePlain n ms → ArePlain n (add_all ms fields)
add_all_plain n ms [] h all = all
add_all_plain n ms (f ∷ fields) h all = add_all_plain n (put_some f.0 f.1 ms) fields h.1 (put_some_plain n f.0 f.1 ms h.0 all)

pub object_of_plain : (n : ℕ) (fields : List (List ℕ × Option Data)) → FieldsArePlain n fields → IsPlain (suc n) (object_of fields)
object_of_plain n fields h =
    let all = add_all_plain n no_members fields h (record { no_float = refl; flat = omega arith }) in
    record { no_float = all.no_float; flat = omega (arith, all.flat) }

pub record ItemsArePlain (n : ℕ) (ds : Items) : Type 0 where
  pub no_float : items_have_float ds ≡ false
  pub flat : items_depth ds ≤ n

items_plain : {X : Type 0} (n : ℕ) (f : X → Data) → ((x : X) → IsPlain n (f x)) → (xs : List X) → ItemsArePlain n (items_of (map f xs))
items_plain n f h [] = record { no_float = refl; flat = omega arith }
items_plain n f h (x ∷ xs) =
    let rest = items_plain n f h xs in
    record { no_float = both _ _ (h x).no_float rest.no_float; flat = omega (arith, (h x).flat, rest.flat) }

pub array_of_plain : {X : Type 0} (n : ℕ) (f : X → Data) → ((x : X) → IsPlain n (f x)) → (xs : List X) → IsPlain (suc n) (array_of (map f xs))
array_of_plain n f h xs =
    let rest = items_plain n f h xs in
    record { no_float = rest.no_float; flat = omega (arith, rest.flat) }
