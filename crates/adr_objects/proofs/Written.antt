-- Data that is written reads back as itself: its numbers fit 64 bits and are whole, and its members are in order.
use Rattle.std.proofs.Common.{◌≡◌, ℕ, suc, ◌^◌, ◌<◌, ◌≤◌, ℤ, pos, negsuc, Bool, true, false, ◌&&◌, List, [], ◌∷◌, ◌++◌, map, Option, Some, None, option_map, Ordering, Less, Equal, Greater, nat_cmp, refl, sym, ap, ◌∙◌, subst, arith, append_assoc, append-nil}
use Rattle.std.specs.Prelude.{option_and_then, ⊤}
use Rattle.std.specs.List.{AllByRecursion}
use Rattle.std.specs.Cmp.Lexicographic.{slice_cmp}
use Rattle.std.specs.Int.Signed.{mag}
use Rattle.std.proofs.lemmas.Bool.{and_parts, or_from}
use Rattle.json.specs.Token.{Token}
use Rattle.json.specs.Json as json
use Rattle.json.specs.Tree as tree
use Rattle.json.specs.Lex.{tokens}
use Rattle.json.proofs.Printed.Tokens.{tokens-print}
use Rattle.json.proofs.Printed.Trees.{value-json_tokens, ArePrintable-json_tokens}
use Rattle.json.proofs.Printed.Decimals.{IsNumber-decimal, IsNumber-signed_decimal}
use Rattle.serde_json.specs.Data.{Data, number, string, Items, Members, no_members, member, put, object, array}
use Rattle.serde_json.specs.Read.{read, of_json, of_items, of_members, max_depth}
use Rattle.serde_json.specs.View.{items_of}
use Rattle.serde_json.specs.Written.{outline, items_outline, members_outline, compact_text, has_float, items_have_float, members_have_float}
use Rattle.serde_json.proofs.Numbers.{number_of-decimal, number_of-negative}
use Rattle.serde_json.proofs.Texts.{print-outline}
use Rattle.adr_text.specs.Objects.{put_some, add_all, object_of, array_of, whole_data}

pub record IsWritten (n : ℕ) (d : Data) : Type 0 where
  pub same : of_json (outline d) ≡ Some d
  pub numbers : tree.HasNumbers (outline d)
  pub flat : tree.depth (outline d) ≤ n
  pub no_float : has_float d ≡ false

abbrev whole : Option (json.Json × List Token) → Option Data
whole o = option_and_then of_json (option_and_then (λ p. json.if_last p.0 p.1) o)

-- its text reads back
pub read_back : (n : ℕ) (d : Data) → IsWritten n d → n ≤ 127 → read (compact_text d) ≡ Some d
read_back n d w shallow =
    let ts = tree.json_tokens (outline d) in
    let same : tokens (compact_text d) ≡ ts ++ [] = ap tokens (sym (print-outline d)) ∙ tokens-print ts (ArePrintable-json_tokens (outline d) w.numbers) ∙ sym (append-nil ts) in
    ap whole (ap (json.value max_depth) same ∙ value-json_tokens (outline d) max_depth [] (omega (arith, w.flat))) ∙ w.same

-- ---- texts and numbers

pub string_written : (n : ℕ) (s : List ℕ) → IsWritten n (string s)
string_written n s = record { same = refl; numbers = tt; flat = omega arith; no_float = refl }

pub whole_written : (n : ℕ) (z : ℤ) → mag z < 2 ^ 62 → IsWritten n (whole_data z)
whole_written n (pos k) h = record { same = ap (option_map number) (number_of-decimal k (omega arith)); numbers = IsNumber-decimal k (omega arith); flat = omega arith; no_float = refl }
whole_written n (negsuc k) h = record { same = ap (option_map number) (number_of-negative k (omega arith)); numbers = IsNumber-signed_decimal (negsuc k) (omega arith); flat = omega arith; no_float = refl }

-- ---- lists

record AreWritten (n : ℕ) (ds : Items) : Type 0 where
  same : of_items (items_outline ds) ≡ Some ds
  numbers : tree.ItemsHaveNumbers (items_outline ds)
  flat : tree.items_depth (items_outline ds) ≤ n
  no_float : items_have_float ds ≡ false

items_written : {X : Type 0} (n : ℕ) (f : X → Data) (P : X → Type 0) → ((x : X) → P x → IsWritten n (f x)) → (xs : List X) → AllByRecursion P xs → AreWritten n (items_of (map f xs))
items_written n f P h [] all = record { same = refl; numbers = tt; flat = omega arith; no_float = refl }
items_written n f P h (x ∷ xs) all =
    let first = h x all.0 in
    let rest = items_written n f P h xs all.1 in
    record { same = rw (first.same, rest.same) refl; numbers = (first.numbers, rest.numbers); flat = omega (arith, first.flat, rest.flat); no_float = or_from _ _ first.no_float rest.no_float }

pub array_written : {X : Type 0} (n : ℕ) (f : X → Data) (P : X → Type 0) → ((x : X) → P x → IsWritten n (f x)) → (xs : List X) → AllByRecursion P xs → IsWritten (suc n) (array_of (map f xs))
array_written n f P h xs all =
    let items = items_written n f P h xs all in
    record { same = ap (option_map array) items.same; numbers = items.numbers; flat = omega (arith, items.flat); no_float = items.no_float }

-- ---- members as they are listed

abbrev listed_at : List ℕ → Option Data → Members → Members
listed_at k None ms = ms
listed_at k (Some d) ms = member k d ms

abbrev listed : List (List ℕ × Option Data) → Members
listed [] = no_members
listed (f ∷ fields) = listed_at f.0 f.1 (listed fields)

abbrev pub FieldIsWritten : ℕ → Option Data → Type 0
FieldIsWritten n None = ⊤
FieldIsWritten n (Some d) = IsWritten n d

abbrev pub FieldsAreWritten : ℕ → List (List ℕ × Option Data) → Type 0
FieldsAreWritten n [] = ⊤
FieldsAreWritten n (f ∷ fields) = FieldIsWritten n f.1 × FieldsAreWritten n fields

record ReadAs (n : ℕ) (ms : Members) (fields : List (List ℕ × Option Data)) : Type 0 where
  same : (found : Members) → of_members (members_outline ms) found ≡ Some (add_all found fields)
  numbers : tree.MembersHaveNumbers (members_outline ms)
  flat : tree.members_depth (members_outline ms) ≤ n
  no_float : members_have_float ms ≡ false

one_listed : (n : ℕ) (k : List ℕ) (o : Option Data) (fields : List (List ℕ × Option Data)) → FieldIsWritten n o → ReadAs n (listed fields) fields → ReadAs n (listed_at k o (listed fields)) ((k, o) ∷ fields)
one_listed n k None fields w rest = record { same = rest.same; numbers = rest.numbers; flat = rest.flat; no_float = rest.no_float }
one_listed n k (Some d) fields w rest = record {
  same = λ found. rw w.same (rest.same (put k d found));
  numbers = (w.numbers, rest.numbers);
  flat = omega (arith, w.flat, rest.flat);
  no_float = or_from _ _ w.no_float rest.no_float;
}

listed_written : (n : ℕ) (fields : List (List ℕ × Option Data)) → FieldsAreWritten n fields → ReadAs n (listed fields) fields
listed_written n [] w = record { same = λ found. refl; numbers = tt; flat = omega arith; no_float = refl }
listed_written n (f ∷ fields) w = one_listed n f.0 f.1 fields w.0 (listed_written n fields w.1)

-- ---- names in order: then members stand as they are listed

abbrev is_greater : Ordering → Bool
is_greater Less = false
is_greater Equal = false
is_greater Greater = true

abbrev is_above : List ℕ → List (List ℕ × Option Data) → Bool
is_above k [] = true
is_above k (f ∷ fields) = is_greater (slice_cmp nat_cmp k f.0) && is_above k fields

-- each name is above those before it
abbrev pub ascend : List (List ℕ × Option Data) → List (List ℕ × Option Data) → Bool
ascend before [] = true
ascend before (f ∷ fields) = is_above f.0 before && ascend (before ++ f ∷ []) fields

put_behind : (o : Ordering) (k l : List ℕ) (d e : Data) (ms : Members) → slice_cmp nat_cmp k l ≡ o → is_greater o ≡ true → put k d (member l e ms) ≡ member l e (put k d ms)
put_behind Less k l d e ms is h = absurd (cc)
put_behind Equal k l d e ms is h = absurd (cc)
put_behind Greater k l d e ms is h = rw is refl

put_past : (k l : List ℕ) (d : Data) (o : Option Data) (ms more : Members) → is_greater (slice_cmp nat_cmp k l) ≡ true → put k d ms ≡ more → put k d (listed_at l o ms) ≡ listed_at l o more
put_past k l d None ms more h e = e
put_past k l d (Some x) ms more h e = put_behind _ k l d x ms refl h ∙ ap (λ (rest : Members). member l x rest) e

put_listed : (k : List ℕ) (d : Data) (before : List (List ℕ × Option Data)) → is_above k before ≡ true → put k d (listed before) ≡ listed (before ++ (k, Some d) ∷ [])
put_listed k d [] h = refl
put_listed k d (f ∷ before) h =
    put_past k f.0 d f.1 (listed before) _ (and_parts _ _ h).0 (put_listed k d before (and_parts _ _ h).1)

none_listed : (k : List ℕ) (before : List (List ℕ × Option Data)) → listed before ≡ listed (before ++ (k, None) ∷ [])
none_listed k [] = refl
none_listed k (f ∷ before) = ap (listed_at f.0 f.1) (none_listed k before)

one_more : (k : List ℕ) (o : Option Data) (before : List (List ℕ × Option Data)) → is_above k before ≡ true → put_some k o (listed before) ≡ listed (before ++ (k, o) ∷ [])
one_more k None before h = none_listed k before
one_more k (Some d) before h = put_listed k d before h

all_listed : (before fields : List (List ℕ × Option Data)) → ascend before fields ≡ true → add_all (listed before) fields ≡ listed (before ++ fields)
all_listed before [] h = ap listed (sym (append-nil before))
all_listed before (f ∷ fields) h =
    ap (λ (ms : Members). add_all ms fields) (one_more f.0 f.1 before (and_parts _ _ h).0)
    ∙ all_listed (before ++ f ∷ []) fields (and_parts _ _ h).1 ∙ ap listed (append_assoc before (f ∷ []) fields)

pub object_written : (n : ℕ) (fields : List (List ℕ × Option Data)) → ascend [] fields ≡ true → FieldsAreWritten n fields → IsWritten (suc n) (object_of fields)
object_written n fields order w =
    let there : add_all no_members fields ≡ listed fields = all_listed [] fields order in
    let read = listed_written n fields w in
    let flat : tree.members_depth (members_outline (add_all no_members fields)) ≤ n = subst (λ (ms : Members). tree.members_depth (members_outline ms) ≤ n) (sym there) read.flat in
    record {
      same = ap (λ (ms : Members). option_map object (of_members (members_outline ms) no_members)) there ∙ ap (option_map object) (read.same no_members);
      numbers = subst (λ (ms : Members). tree.MembersHaveNumbers (members_outline ms)) (sym there) read.numbers;
      flat = omega (arith, flat);
      no_float = subst (λ (ms : Members). members_have_float ms ≡ false) (sym there) read.no_float;
    }
