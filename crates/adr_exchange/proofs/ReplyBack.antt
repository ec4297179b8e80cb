-- A reply as it is written is read as its status and its body.
use Rattle.std.proofs.Common.{◌≡◌, ℕ, zero, suc, ◌+◌, ◌^◌, ◌<◌, ◌≤◌, ◌||◌, ◌&&◌, ◌==◌, List, [], ◌∷◌, ◌++◌, length, map, Bool, true, false, MatchBool, refl, sym, subst, ap, ◌∙◌, arith, Some, Result, Ok, codes, decimal, nat_lt, nat_le, append_assoc, append-nil, length-append}
use Rattle.std.specs.List.{flat_map, list_all}
use Rattle.std.specs.Char.{is_ascii_digit}
use Rattle.std.specs.Fmt.{digits}
use Rattle.std.specs.Str.Parse.{digits_value}
use Rattle.std.proofs.lemmas.Bool.Decides.{nat_tests, Decides-below_and}
use Rattle.std.proofs.lemmas.Fmt.{decimal_is_IsNumeral, length-decimal-le}
use Rattle.std.proofs.lemmas.List.Elements.{All-from_recursion}
use Rattle.std.proofs.lemmas.List.Concat.{flat_map-append}
use Rattle.httparse.specs.Grammar.{crlf, print_field, print_section, is_value_byte, is_uri_byte, IsField, ResponseHead, IsResponseHead, print_response}
use Rattle.httparse.specs.Spans.{name_and_value}
use Rattle.httparse.proofs.GrammarLemmas.{print_response-append}
use Rattle.httparse.proofs.OnLiterals.{httparse_on_literals}
use Rattle.adr_wire.specs.declared.end.MessageFault.{MessageFault}
use Rattle.adr_wire.specs.declared.extent.Extent.TheVariants.{Length}
use Rattle.adr_wire.specs.Written.{line}
use Rattle.adr_wire.specs.Lengths.{body_of_length}
use Rattle.adr_wire.specs.Extents.{extent_in}
use Rattle.adr_routes.specs.declared.methods.Methods.{Methods}
use Rattle.adr_reply.specs.declared.reply.Extra.{Extra}
use Rattle.adr_reply.specs.declared.reply.Extra.TheVariants.{Nothing, Challenge, Allow}
use Rattle.adr_reply.specs.Replies.{ReplyParts, phrase, start_line, allow_text, extra_fields, reply_bytes}
use Rattle.adr_link.specs.ReplyHeads.{is_bodiless, HeadAt, reply_extent, head_with, head_in}
use Rattle.adr_link.specs.Replies.{IsBody, IsReply, reply}
use Rattle.adr_exchange.proofs.Digits.{digits_are, values_are, visible_are, number_is, whole_body}
use Rattle.adr_exchange.proofs.Fields.{pass, trimmed, field_of, good_field, are_fields, lines_are, line_length}

-- ---- the status, by trying each

abbrev fine_status : ℕ → Bool
fine_status n = nat_lt n 100 || (length (decimal n) == 3 && (list_all is_value_byte (phrase n) && nat_le (length (phrase n)) 40))

abbrev fine_below : ℕ → Bool
fine_below zero = true
fine_below (suc n) = fine_status n && fine_below n

each_status : (n : ℕ) → n < 1000 → fine_status n ≡ true
unfolding digits
each_status n h = (Decides-below_and fine_status (λ k. fine_status k ≡ true) fine_below (λ k. (λ x. x, λ x. x)) refl (λ _. refl) 1000).0 refl n h

record FineStatus (n : ℕ) : Type 0 where
  three : length (decimal n) ≡ 3
  visible : list_all is_value_byte (phrase n) ≡ true
  short : length (phrase n) ≤ 40

status_fine : (n : ℕ) → 100 ≤ n → n < 1000 → FineStatus n
status_fine n large small = by (each_status n small)
  where
    all : (a b c : Bool) → (a && (b && c)) ≡ true → (a ≡ true) × ((b ≡ true) × (c ≡ true))
    all true true true e = (refl, (refl, refl))
    all true true false e = absurd cc
    all true false c e = absurd cc
    all false b c e = absurd cc

    known : nat_lt n 100 ≡ false
    known = grind (arith, nat_tests)

    or : (a b : Bool) → a ≡ false → (a || b) ≡ true → b ≡ true
    or true b other e = absurd cc
    or false b other e = e

    by : fine_status n ≡ true → FineStatus n
    by e =
        let h = all (length (decimal n) == 3) (list_all is_value_byte (phrase n)) (nat_le (length (phrase n)) 40) (or (nat_lt n 100) _ known e) in
        let three : (length (decimal n) == 3) ≡ true = h.0 in
        let short : nat_le (length (phrase n)) 40 ≡ true = h.1.1 in
        record { three = grind (arith, nat_tests); visible = h.1.0; short = grind (arith, nat_tests) }

-- ---- the fields

abbrev fields : Extra → ℕ → List (List ℕ × List ℕ)
fields extra n = (codes "Content-Type", codes "application/json") ∷ (codes "Content-Length", decimal n) ∷ (extra_fields extra ++ (codes "Connection", codes "close") ∷ [])

abbrev head : ℕ → Extra → ℕ → ResponseHead
head status extra n = record { blank = []; minor = 1; digits = decimal status; reason = Some (phrase status); line_end = crlf; fields = map field_of (fields extra n); last = crlf }

allow_good : (v : Methods) → list_all is_value_byte (allow_text v) ≡ true
allow_good v = by v.get v.post v.put v.delete
  where
    by : (a b c d : Bool) → list_all is_value_byte (allow_text (record { get = a; post = b; put = c; delete = d })) ≡ true
    by true true true true = refl
    by true true true false = refl
    by true true false true = refl
    by true true false false = refl
    by true false true true = refl
    by true false true false = refl
    by true false false true = refl
    by true false false false = refl
    by false true true true = refl
    by false true true false = refl
    by false true false true = refl
    by false true false false = refl
    by false false true true = refl
    by false false true false = refl
    by false false false true = refl
    by false false false false = refl

allow_short : (v : Methods) → length (allow_text v) ≤ 30
allow_short v = by v.get v.post v.put v.delete
  where
    by : (a b c d : Bool) → length (allow_text (record { get = a; post = b; put = c; delete = d })) ≤ 30
    by true true true true = omega arith
    by true true true false = omega arith
    by true true false true = omega arith
    by true true false false = omega arith
    by true false true true = omega arith
    by true false true false = omega arith
    by true false false true = omega arith
    by true false false false = omega arith
    by false true true true = omega arith
    by false true true false = omega arith
    by false true false true = omega arith
    by false true false false = omega arith
    by false false true true = omega arith
    by false false true false = omega arith
    by false false false true = omega arith
    by false false false false = omega arith

fields_good : (extra : Extra) (n : ℕ) → list_all is_value_byte (decimal n) ≡ true → list_all good_field (fields extra n) ≡ true
unfolding httparse_on_literals
fields_good Nothing n e = rw e refl
fields_good Challenge n e = rw e refl
fields_good (Allow v) n e = rw (e, allow_good v) refl

few_fields : (extra : Extra) (n : ℕ) → length (map field_of (fields extra n)) ≤ 64
few_fields Nothing n = omega arith
few_fields Challenge n = omega arith
few_fields (Allow v) n = omega arith

-- ---- the head

is_head : (status : ℕ) (extra : Extra) (n : ℕ) → status < 1000 → FineStatus status → n < 2 ^ 64 → IsResponseHead (head status extra n)
is_head status extra n small fine long = record {
  minor = omega arith;
  digits = (fine.three, pass is_ascii_digit (decimal status) (digits_are (decimal status) (decimal_is_IsNumeral status (omega arith)).0.1));
  reason = pass is_value_byte (phrase status) fine.visible;
  fields = All-from_recursion IsField (map field_of (fields extra n)) (are_fields (fields extra n) (fields_good extra n (values_are (decimal n) (decimal_is_IsNumeral n long).0.1)));
}

section_is : (extra : Extra) (n : ℕ) (body : List ℕ) → print_section (map field_of (fields extra n)) crlf ++ body
    ≡ line (codes "Content-Type", codes "application/json")
    ++ (line (codes "Content-Length", decimal n)
    ++ (flat_map line (extra_fields extra)
    ++ (line (codes "Connection", codes "close") ++ (13 ∷ 10 ∷ body))))
section_is extra n body =
    let c : List ℕ = line (codes "Content-Length", decimal n) in
    let k : List ℕ = line (codes "Connection", codes "close") in
    let e : List ℕ = flat_map line (extra_fields extra) in
    let rest : List ℕ = 13 ∷ 10 ∷ body in
    let tail : flat_map line (extra_fields extra ++ (codes "Connection", codes "close") ∷ []) ≡ e ++ k = flat_map-append line (extra_fields extra) ((codes "Connection", codes "close") ∷ []) in
    append_assoc (flat_map print_field (map field_of (fields extra n))) (13 ∷ 10 ∷ []) body
    ∙ ap (λ z. z ++ rest) (lines_are (fields extra n))
    ∙ ap (λ z. line (codes "Content-Type", codes "application/json") ++ z) (
    append_assoc c (flat_map line (extra_fields extra ++ (codes "Connection", codes "close") ∷ [])) rest
    ∙ ap (λ z. c ++ z) (ap (λ z. z ++ rest) tail ∙ append_assoc e k rest))

start_is : (status : ℕ) (x : List ℕ) → start_line status ++ x ≡ codes "HTTP/1.1" ++ 32 ∷ (decimal status ++ (32 ∷ (phrase status ++ (13 ∷ 10 ∷ x))))
start_is status x =
    ap (λ z. codes "HTTP/1.1 " ++ z) (append_assoc (decimal status) (32 ∷ (phrase status ++ (13 ∷ 10 ∷ []))) x
    ∙ ap (λ z. decimal status ++ 32 ∷ z) (append_assoc (phrase status) (13 ∷ 10 ∷ []) x))

printed : (r : ReplyParts) → reply_bytes r ≡ print_response (head r.status r.extra (length r.body)) ++ r.body
unfolding reply_bytes
printed r =
    start_is r.status _
    ∙ sym (print_response-append (head r.status r.extra (length r.body)) r.body
    ∙ ap (λ z. codes "HTTP/1.1" ++ 32 ∷ (decimal r.status ++ (32 ∷ (phrase r.status ++ (13 ∷ 10 ∷ z))))) (section_is r.extra (length r.body) r.body))

-- ---- its length

start_length : (status : ℕ) → FineStatus status → length (start_line status) ≤ 55
start_length status fine =
    let p : List ℕ = phrase status ++ (13 ∷ 10 ∷ []) in
    let a = length-append (phrase status) (13 ∷ 10 ∷ []) in
    let b = length-append (decimal status) (32 ∷ p) in
    omega (arith, a, b, fine.three, fine.short)

extra_length : (extra : Extra) → length (flat_map line (extra_fields extra)) ≤ 45
extra_length Nothing = omega arith
extra_length Challenge = omega arith
extra_length (Allow v) =
    let a = length-append (line (codes "Allow", allow_text v)) [] in
    let b = line_length (codes "Allow") (allow_text v) in
    let l = allow_short v in
    omega (arith, a, b, l)

chain_length : (a b c d e : List ℕ) → length (a ++ (b ++ (c ++ (d ++ e)))) ≡ length a + (length b + (length c + (length d + length e)))
chain_length a b c d e =
    length-append a (b ++ (c ++ (d ++ e))) ∙ ap (λ n. length a + n) (length-append b (c ++ (d ++ e)) ∙ ap (λ n. length b + n) (length-append c (d ++ e) ∙ ap (λ n. length c + n) (length-append d e)))

head_is : (status : ℕ) (extra : Extra) (n : ℕ) → print_response (head status extra n) ≡ start_line status
    ++ (line (codes "Content-Type", codes "application/json")
    ++ (line (codes "Content-Length", decimal n)
    ++ (flat_map line (extra_fields extra)
    ++ (line (codes "Connection", codes "close") ++ (13 ∷ 10 ∷ [])))))
head_is status extra n =
    sym (append-nil (print_response (head status extra n)))
    ∙ print_response-append (head status extra n) []
    ∙ ap (λ z. codes "HTTP/1.1" ++ 32 ∷ (decimal status ++ (32 ∷ (phrase status ++ (13 ∷ 10 ∷ z))))) (section_is extra n [])
    ∙ sym (start_is status _)

fits_head : (status : ℕ) (extra : Extra) (n : ℕ) → FineStatus status → n ≤ 8388608 → length (print_response (head status extra n)) ≤ 16384
fits_head status extra n fine few =
    let t : List ℕ = line (codes "Content-Type", codes "application/json") in
    let c : List ℕ = line (codes "Content-Length", decimal n) in
    let x : List ℕ = flat_map line (extra_fields extra) in
    let k : List ℕ = line (codes "Connection", codes "close") in
    let all = ap length (head_is status extra n) in
    let s = length-append (start_line status) (t ++ (c ++ (x ++ (k ++ (13 ∷ 10 ∷ []))))) in
    let chain = chain_length t c x k (13 ∷ 10 ∷ []) in
    let lt = line_length (codes "Content-Type") (codes "application/json") in
    let lc = line_length (codes "Content-Length") (decimal n) in
    let lk = line_length (codes "Connection") (codes "close") in
    let d = length-decimal-le 20 n (omega arith) (omega arith) (omega arith) in
    let ls = start_length status fine in
    let lx = extra_length extra in
    small_enough _ (length (start_line status)) (length t) (length c) (length x) (length k) (length (decimal n)) (all ∙ s ∙ ap (λ m. length (start_line status) + m) chain) ls lt lc d lx lk
  where
    small_enough : (n s t c x k d : ℕ) → n ≡ s + (t + (c + (x + (k + 2)))) → s ≤ 55 → t ≡ 12 + 16 + 4 → c ≡ 14 + d + 4 → d ≤ 20 → x ≤ 45 → k ≡ 10 + 5 + 4 → n ≤ 16384
    small_enough n s t c x k d e ls lt lc ld lx lk = omega arith

-- ---- what it says

extent_is : (extra : Extra) (n : ℕ) → n < 2 ^ 64 → n ≤ 8388608 → extent_in 8388608 (map name_and_value (map field_of (fields extra n))) ≡ Ok (Length n)
unfolding extent_in
extent_is Nothing n small few = rw (trimmed (decimal n) (pass is_uri_byte (decimal n) (visible_are (decimal n) (decimal_is_IsNumeral n small).0.1))) (number_is 8388608 n small few)
extent_is Challenge n small few = rw (trimmed (decimal n) (pass is_uri_byte (decimal n) (visible_are (decimal n) (decimal_is_IsNumeral n small).0.1))) (number_is 8388608 n small few)
extent_is (Allow v) n small few = rw (trimmed (decimal n) (pass is_uri_byte (decimal n) (visible_are (decimal n) (decimal_is_IsNumeral n small).0.1))) (number_is 8388608 n small few)

status_is : (status : ℕ) → status < 1000 → digits_value 10 (decimal status) ≡ status
status_is status small = (decimal_is_IsNumeral status (omega arith)).1

extent_says : (status : ℕ) (extra : Extra) (n : ℕ) → 200 ≤ status → is_bodiless status ≡ false → n ≤ 8388608 → reply_extent status (map name_and_value (map field_of (fields extra n))) ≡ Ok (Length n)
unfolding reply_extent
extent_says status extra n final some few =
    let not_interim : nat_lt status 200 ≡ false = grind (arith, nat_tests) in
    rw (not_interim, some, extent_is extra n (omega arith) few) refl

head_says : (status : ℕ) (extra : Extra) (n : ℕ) → 200 ≤ status → status < 1000 → is_bodiless status ≡ false → n ≤ 8388608 → head_in (head status extra n) ≡ Ok (record { status = status; extent = Length n })
head_says status extra n final small some few =
    let is = status_is status small in
    let P : ℕ → Type 0 = λ m. reply_extent m (map name_and_value (map field_of (fields extra n))) ≡ Ok (Length n) in
    ap (head_with (head status extra n)) (subst P (sym is) (extent_says status extra n final some few)) ∙ ap (λ m. Ok (record { status = m; extent = Length n })) is

-- a status that has a body
is_body : (status n : ℕ) (body : List ℕ) → is_bodiless status ≡ false → Ok body ≡ body_of_length n body → IsBody (record { status = status; extent = Length n }) body (Ok body)
is_body status n body some is = subst (λ b. MatchBool b (◌≡◌ {A = Result (List ℕ) MessageFault} (Ok body) (Ok [])) (Ok body ≡ body_of_length n body)) (sym some) is

pub reads_back : (r : ReplyParts) → 200 ≤ r.status → r.status < 1000 → is_bodiless r.status ≡ false → length r.body ≤ 8388608 → IsReply (reply_bytes r) (Ok (record { status = r.status; body = r.body }))
reads_back r final small some few =
    let n : ℕ = length r.body in
    let fine = status_fine r.status (omega arith) small in
    let at : HeadAt (reply_bytes r) (head r.status r.extra n) r.body = record {
      reads = (is_head r.status r.extra n small fine (omega arith), printed r);
      within = fits_head r.status r.extra n fine few;
      few = few_fields r.extra n;
    } in
    reply (record { status = r.status; extent = Length n }) r.body (Ok r.body) (head r.status r.extra n, at, head_says r.status r.extra n final small some few)
    (is_body r.status n r.body some (whole_body r.body))
