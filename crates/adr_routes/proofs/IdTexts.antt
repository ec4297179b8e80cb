-- The text of an id: it is UTF-8, it has no slash, and it is not empty.
use Rattle.std.proofs.Common.{◌≡◌, ℕ, zero, suc, ◌<◌, List, [], ◌∷◌, length, Bool, true, false, cond, ◌&&◌, ◌==◌, nat_lt, nat_le, refl, arith, Some, None, Ok, Err, option_and_then}
use Rattle.std.specs.List.{list_all}
use Rattle.std.specs.Str.{IsAscii, is_utf8}
use Rattle.std.proofs.lemmas.Bool.Decides.{nat_tests}
use Rattle.std.proofs.lemmas.Str.{IsUtf8-from_ascii, is_utf8-from_IsUtf8}
use Rattle.matchit.specs.Seek.{has_slash}
use Rattle.std.specs.Result.{result_ok}
use Rattle.adr_text.specs.Ids.{is_id_byte, is_id, max_id, id_of}
use Rattle.adr_text.specs.declared.refusal.Refusal.TheVariants.{BadShape}
use Rattle.adr_routes.specs.Words.{text_from, id_from}
use Rattle.adr_routes.proofs.Shapes.{both}

byte_small : (b : ℕ) → is_id_byte b ≡ true → b < 128
byte_small b e = grind (arith, nat_tests)

byte_other : (b : ℕ) → is_id_byte b ≡ true → (b == 47) ≡ false
byte_other b e = grind (arith, nat_tests)

bytes_ascii : (id : List ℕ) → list_all is_id_byte id ≡ true → IsAscii id
bytes_ascii [] e i = omega arith
bytes_ascii (b ∷ id) e zero = byte_small b (both (is_id_byte b) (list_all is_id_byte id) e).0
bytes_ascii (b ∷ id) e (suc i) = bytes_ascii id (both (is_id_byte b) (list_all is_id_byte id) e).1 i

bytes_free : (id : List ℕ) → list_all is_id_byte id ≡ true → has_slash id ≡ false
bytes_free [] e = refl
bytes_free (b ∷ id) e =
    let h = both (is_id_byte b) (list_all is_id_byte id) e in
    rw (byte_other b h.0) (bytes_free id h.1)

bytes_of : (id : List ℕ) → is_id id ≡ true → list_all is_id_byte id ≡ true
bytes_of id e = (both (nat_le 1 (length id) && nat_le (length id) max_id) (list_all is_id_byte id) e).1

pub id_free : (id : List ℕ) → is_id id ≡ true → has_slash id ≡ false
id_free id e = bytes_free id (bytes_of id e)

pub id_some : (id : List ℕ) → is_id id ≡ true → nat_lt 0 (length id) ≡ true
id_some id e =
    let few = (both (nat_le 1 (length id) && nat_le (length id) max_id) (list_all is_id_byte id) e).0 in
    let one = (both (nat_le 1 (length id)) (nat_le (length id) max_id) few).0 in
    grind (arith, nat_tests)

pub id_read : (id : List ℕ) → is_id id ≡ true → id_from id ≡ Some id
unfolding id_from text_from
id_read id e =
    let text : is_utf8 id ≡ true = is_utf8-from_IsUtf8 id (IsUtf8-from_ascii id (bytes_ascii id (bytes_of id e))) in
    rw (text, e) refl

id_as : (bytes id : List ℕ) (v : Bool) → is_id bytes ≡ v → result_ok (cond v (Ok bytes) (Err BadShape)) ≡ Some id → (id ≡ bytes) × (is_id bytes ≡ true)
id_as bytes id true e read = (cc, e)
id_as bytes id false e read = absurd cc

text_as : (bytes id : List ℕ) (v : Bool) → option_and_then (λ text. result_ok (id_of text)) (cond v (Some bytes) None) ≡ Some id → (id ≡ bytes) × (is_id bytes ≡ true)
text_as bytes id true read = id_as bytes id (is_id bytes) refl read
text_as bytes id false read = absurd cc

pub read_id : (bytes id : List ℕ) → id_from bytes ≡ Some id → (id ≡ bytes) × (is_id bytes ≡ true)
unfolding id_from text_from
read_id bytes id read = text_as bytes id (is_utf8 bytes) read
