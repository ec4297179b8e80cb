-- A request as it is written is read as its method, its target, its host, its token and its body.
use Rattle.std.proofs.Common.{◌≡◌, ℕ, ◌+◌, ◌^◌, ◌<◌, ◌≤◌, List, [], ◌∷◌, ◌++◌, length, map, reverse, true, false, refl, sym, ap, subst, ◌∙◌, arith, IsTrue, IfSome, Option, Some, None, Ok, codes, decimal, append_assoc, append-nil, length-append}
use Rattle.std.specs.List.{flat_map, list_all, AllByRecursion}
use Rattle.std.proofs.lemmas.Bool.Decides.{nat_tests}
use Rattle.std.proofs.lemmas.Fmt.{decimal_is_IsNumeral, length-decimal-le}
use Rattle.std.proofs.lemmas.List.Elements.{All-from_recursion, recursion_from_All}
use Rattle.std.proofs.lemmas.List.{reverse-append, length-reverse}
use Rattle.httparse.specs.Grammar.{crlf, print_field, print_section, is_value_byte, is_uri_byte, is_ows, skip_ows, trim_ows, AllPass, IsField, RequestHead, IsRequestHead, print_request}
use Rattle.httparse.specs.Spans.{name_and_value}
use Rattle.httparse.proofs.GrammarLemmas.{print_request-append}
use Rattle.httparse.proofs.TrimLemmas.{trim_ows_space, AllPass-reverse}
use Rattle.httparse.proofs.OnLiterals.{httparse_on_literals}
use Rattle.adr_wire.specs.declared.extent.Extent.{Extent}
use Rattle.adr_wire.specs.declared.extent.Extent.TheVariants.{Unsaid, Length}
use Rattle.adr_wire.specs.Written.{line}
use Rattle.adr_wire.specs.Fields.{values}
use Rattle.adr_wire.specs.Extents.{extent_in}
use Rattle.adr_request.specs.Tokens.{token_in}
use Rattle.adr_request.specs.Heads.{HeadAt, request_extent, head_in}
use Rattle.adr_request.specs.Requests.{IsBody, request}
use Rattle.adr_link.specs.Requests.{RequestText, request_line, token_line, body_lines, body_text, request_bytes}
use Rattle.adr_exchange.specs.Exchanges.{token_length, FitsHead, ReadsAs}
use Rattle.adr_exchange.proofs.Fields.{pass, trimmed, field_of, good_field, are_fields, lines_are, line_length}
use Rattle.adr_exchange.proofs.Digits.{values_are, visible_are, number_is, whole_body}

-- ---- the fields

abbrev token_field : Option (List ℕ) → List (List ℕ × List ℕ)
token_field None = []
token_field (Some token) = (codes "Authorization", codes "Bearer " ++ token) ∷ []

abbrev body_fields : Option (List ℕ) → List (List ℕ × List ℕ)
body_fields None = []
body_fields (Some body) = (codes "Content-Type", codes "application/json") ∷ (codes "Content-Length", decimal (length body)) ∷ []

abbrev after_token : Option (List ℕ) → List (List ℕ × List ℕ)
after_token body = (codes "Accept", codes "application/json") ∷ (body_fields body ++ ((codes "Connection", codes "close") ∷ []))

abbrev fields_by : List ℕ → Option (List ℕ) → Option (List ℕ) → List (List ℕ × List ℕ)
fields_by host token body = (codes "Host", host) ∷ (token_field token ++ after_token body)

abbrev fields : RequestText → List (List ℕ × List ℕ)
fields r = fields_by r.host r.token r.body

abbrev head : RequestText → RequestHead
head r = record { blank = []; method = r.method; target = r.target; minor = 1; line_end = crlf; fields = map field_of (fields r); last = crlf }

step : (f : List ℕ × List ℕ) (fs : List (List ℕ × List ℕ)) (rest more : List ℕ) → flat_map line fs ++ rest ≡ more → flat_map line (f ∷ fs) ++ rest ≡ line f ++ more
step f fs rest more e = append_assoc (line f) (flat_map line fs) rest ∙ ap (λ z. line f ++ z) e

lines_of : (r : RequestText) (rest : List ℕ) → flat_map line (fields r) ++ rest
    ≡ line (codes "Host", r.host) ++ (token_line r.token ++ (line (codes "Accept", codes "application/json") ++ (body_lines r.body ++ (line (codes "Connection", codes "close") ++ rest))))
lines_of r rest = step (codes "Host", r.host) (token_field r.token ++ after_token r.body) rest _ (of_token r.token)
  where
    last : flat_map line ((codes "Connection", codes "close") ∷ []) ++ rest ≡ line (codes "Connection", codes "close") ++ rest
    last = step (codes "Connection", codes "close") [] rest rest refl

    of_body : (body : Option (List ℕ)) → flat_map line (body_fields body ++ ((codes "Connection", codes "close") ∷ [])) ++ rest ≡ body_lines body ++ (line (codes "Connection", codes "close") ++ rest)
    of_body None = last
    of_body (Some body) =
        let type : List ℕ × List ℕ = (codes "Content-Type", codes "application/json") in
        let long : List ℕ × List ℕ = (codes "Content-Length", decimal (length body)) in
        step type (long ∷ (codes "Connection", codes "close") ∷ []) rest _ (step long ((codes "Connection", codes "close") ∷ []) rest _ last)
        ∙ sym (append_assoc (line type) (line long) (line (codes "Connection", codes "close") ++ rest))

    behind : flat_map line (after_token r.body) ++ rest ≡ line (codes "Accept", codes "application/json") ++ (body_lines r.body ++ (line (codes "Connection", codes "close") ++ rest))
    behind = step (codes "Accept", codes "application/json") (body_fields r.body ++ ((codes "Connection", codes "close") ∷ [])) rest _ (of_body r.body)

    of_token : (token : Option (List ℕ)) → flat_map line (token_field token ++ after_token r.body) ++ rest
        ≡ token_line token ++ (line (codes "Accept", codes "application/json") ++ (body_lines r.body ++ (line (codes "Connection", codes "close") ++ rest)))
    of_token None = behind
    of_token (Some token) = step (codes "Authorization", codes "Bearer " ++ token) (after_token r.body) rest _ behind

section_is : (r : RequestText) (body : List ℕ) → print_section (map field_of (fields r)) crlf ++ body ≡ flat_map line (fields r) ++ (13 ∷ 10 ∷ body)
section_is r body =
    append_assoc (flat_map print_field (map field_of (fields r))) (13 ∷ 10 ∷ []) body ∙ ap (λ z. z ++ (13 ∷ 10 ∷ body)) (lines_are (fields r))

start_is : (method target x : List ℕ) → request_line method target ++ x ≡ method ++ 32 ∷ (target ++ 32 ∷ (codes "HTTP/1.1" ++ (13 ∷ 10 ∷ x)))
start_is method target x =
    append_assoc method (32 ∷ (target ++ codes " HTTP/1.1\r\n")) x ∙ ap (λ z. method ++ 32 ∷ z) (append_assoc target (codes " HTTP/1.1\r\n") x)

pub printed : (r : RequestText) → request_bytes r ≡ print_request (head r) ++ body_text r.body
unfolding request_bytes
printed r =
    let rest : List ℕ = 13 ∷ 10 ∷ body_text r.body in
    start_is r.method r.target _
    ∙ sym (print_request-append (head r) (body_text r.body)
    ∙ ap (λ z. r.method ++ 32 ∷ (r.target ++ 32 ∷ (codes "HTTP/1.1" ++ (13 ∷ 10 ∷ z)))) (section_is r (body_text r.body) ∙ lines_of r rest))

-- ---- what the head is

visible_values : (xs : List ℕ) → AllByRecursion (λ b. IsTrue (is_uri_byte b)) xs → list_all is_value_byte xs ≡ true
visible_values [] h = refl
visible_values (c ∷ xs) h =
    let d : is_uri_byte c ≡ true = h.0 in
    let e : is_value_byte c ≡ true = grind (arith, nat_tests) in
    rw e (visible_values xs h.1)

values_good : (xs : List ℕ) → AllPass is_uri_byte xs → list_all is_value_byte xs ≡ true
values_good xs all = visible_values xs (recursion_from_All (λ b. IsTrue (is_uri_byte b)) xs all)

number_good : (n : ℕ) → n < 2 ^ 64 → list_all is_value_byte (decimal n) ≡ true
number_good n small = values_are (decimal n) (decimal_is_IsNumeral n small).0.1

fields_good : (r : RequestText) → FitsHead r → list_all good_field (fields r) ≡ true
unfolding httparse_on_literals
fields_good r fits = by r.token r.body fits.token fits.body
  where
    by : (token body : Option (List ℕ)) → IfSome token (λ t. (0 < length t) × AllPass is_uri_byte t) → IfSome body (λ b. length b ≤ 1048576)
        → list_all good_field (fields_by r.host token body) ≡ true
    by None None t b = rw (values_good r.host fits.host) refl
    by None (Some body) t b = let few = b in rw (values_good r.host fits.host, number_good (length body) (omega arith)) refl
    by (Some token) None t b = rw (values_good r.host fits.host, values_good token t.1) refl
    by (Some token) (Some body) t b = let few = b in rw (values_good r.host fits.host, values_good token t.1, number_good (length body) (omega arith)) refl

is_head : (r : RequestText) → FitsHead r → IsRequestHead (head r)
is_head r fits = record {
  method = fits.method;
  target = fits.target;
  target_text = fits.target_text;
  minor = omega arith;
  fields = All-from_recursion IsField (map field_of (fields r)) (are_fields (fields r) (fields_good r fits));
}

few_fields : (r : RequestText) → length (map field_of (fields r)) ≤ 64
few_fields r = by r.token r.body
  where
    by : (token body : Option (List ℕ)) → length (map field_of (fields_by r.host token body)) ≤ 64
    by None None = omega arith
    by None (Some body) = omega arith
    by (Some token) None = omega arith
    by (Some token) (Some body) = omega arith

-- ---- its length

token_long : (token : Option (List ℕ)) → length (token_line token) ≤ token_length token + 24
token_long None = omega arith
token_long (Some token) = let a = line_length (codes "Authorization") (codes "Bearer " ++ token) in let b = length-append (codes "Bearer ") token in omega (arith, a, b)

body_long : (body : Option (List ℕ)) → IfSome body (λ b. length b ≤ 1048576) → length (body_lines body) ≤ 70
body_long None few = omega arith
body_long (Some body) few =
    let small = few in
    let a = line_length (codes "Content-Type") (codes "application/json") in
    let b = line_length (codes "Content-Length") (decimal (length body)) in
    let c = length-append (line (codes "Content-Type", codes "application/json")) (line (codes "Content-Length", decimal (length body))) in
    let d = length-decimal-le 20 (length body) (omega arith) (omega arith) (omega arith) in
    omega (arith, a, b, c, d)

chain_length : (a b c d e : List ℕ) → length (a ++ (b ++ (c ++ (d ++ e)))) ≡ length a + (length b + (length c + (length d + length e)))
chain_length a b c d e =
    length-append a (b ++ (c ++ (d ++ e))) ∙ ap (λ n. length a + n) (length-append b (c ++ (d ++ e)) ∙ ap (λ n. length b + n) (length-append c (d ++ e) ∙ ap (λ n. length c + n) (length-append d e)))

head_is : (r : RequestText) → print_request (head r) ≡ request_line r.method r.target
    ++ (line (codes "Host", r.host) ++ (token_line r.token ++ (line (codes "Accept", codes "application/json") ++ (body_lines r.body ++ (line (codes "Connection", codes "close") ++ (13 ∷ 10 ∷ []))))))
head_is r =
    sym (append-nil (print_request (head r)))
    ∙ print_request-append (head r) []
    ∙ ap (λ z. r.method ++ 32 ∷ (r.target ++ 32 ∷ (codes "HTTP/1.1" ++ (13 ∷ 10 ∷ z)))) (section_is r [] ∙ lines_of r (13 ∷ 10 ∷ []))
    ∙ sym (start_is r.method r.target _)

start_length : (method target : List ℕ) → length (request_line method target) ≡ length method + length target + 12
start_length method target =
    let a = length-append method (32 ∷ (target ++ codes " HTTP/1.1\r\n")) in
    let b = length-append target (codes " HTTP/1.1\r\n") in
    omega (arith, a, b)

fits_length : (r : RequestText) → FitsHead r → length (print_request (head r)) ≤ 16384
fits_length r fits =
    let s : List ℕ = request_line r.method r.target in
    let h : List ℕ = line (codes "Host", r.host) in
    let t : List ℕ = token_line r.token in
    let a : List ℕ = line (codes "Accept", codes "application/json") in
    let b : List ℕ = body_lines r.body in
    let k : List ℕ = line (codes "Connection", codes "close") in
    let all = ap length (head_is r) in
    let first = length-append s (h ++ (t ++ (a ++ (b ++ (k ++ (13 ∷ 10 ∷ [])))))) in
    let chain = chain_length h t a b (k ++ (13 ∷ 10 ∷ [])) in
    let last = length-append k (13 ∷ 10 ∷ []) in
    let ls = start_length r.method r.target in
    let lh = line_length (codes "Host") r.host in
    let lt = token_long r.token in
    let la = line_length (codes "Accept") (codes "application/json") in
    let lb = body_long r.body fits.body in
    let lk = line_length (codes "Connection") (codes "close") in
    let short = fits.short in
    small_enough _ (length s) (length h) (length t) (length a) (length b) (length k) (length (k ++ (13 ∷ 10 ∷ []))) (length r.method) (length r.target) (length r.host) (token_length r.token)
    (all ∙ first ∙ ap (λ m. length s + m) chain) last ls lh lt la lb lk short
  where
    small_enough : (n s h t a b k kk m g o u : ℕ) → n ≡ s + (h + (t + (a + (b + kk)))) → kk ≡ k + 2 → s ≡ m + g + 12 → h ≡ 4 + o + 4 → t ≤ u + 24 → a ≡ 6 + 16 + 4 → b ≤ 70 → k ≡ 10 + 5 + 4 → m + g + o + u ≤ 16000 → n ≤ 16384
    small_enough n s h t a b k kk m g o u e ek es eh et ea eb el short = omega arith

-- ---- what it says

no_white_front : (a b : List ℕ) → 0 < length a → AllByRecursion (λ b. IsTrue (is_uri_byte b)) a → skip_ows (a ++ b) ≡ a ++ b
no_white_front [] b some h = absurd (omega arith)
no_white_front (c ∷ a) b some h =
    let d : is_uri_byte c ≡ true = h.0 in
    let e : is_ows c ≡ false = grind (arith, nat_tests) in
    rw e refl

token_trimmed : (token : List ℕ) → 0 < length token → AllPass is_uri_byte token → trim_ows (32 ∷ (codes "Bearer " ++ token)) ≡ codes "Bearer " ++ token
token_trimmed token some all =
    let back : reverse (codes "Bearer " ++ token) ≡ reverse token ++ reverse (codes "Bearer ") = reverse-append (codes "Bearer ") token in
    let long : length (reverse token) ≡ length token = length-reverse token in
    let whole = no_white_front (reverse token) (reverse (codes "Bearer ")) (omega (arith, long)) (recursion_from_All (λ b. IsTrue (is_uri_byte b)) (reverse token) (AllPass-reverse is_uri_byte token all)) in
    trim_ows_space (codes "Bearer " ++ token) refl (subst (λ z. skip_ows z ≡ z) (sym back) whole)

token_says : (r : RequestText) → FitsHead r → token_in (map name_and_value (map field_of (fields r))) ≡ r.token
unfolding token_in
token_says r fits = by r.token r.body fits.token
  where
    by : (token body : Option (List ℕ)) → IfSome token (λ t. (0 < length t) × AllPass is_uri_byte t)
        → token_in (map name_and_value (map field_of (fields_by r.host token body))) ≡ token
    by None None t = refl
    by None (Some body) t = refl
    by (Some token) None t = rw (token_trimmed token t.0 t.1) refl
    by (Some token) (Some body) t = rw (token_trimmed token t.0 t.1) refl

abbrev extent_for : Option (List ℕ) → Extent
extent_for None = Unsaid
extent_for (Some body) = Length (length body)

extent_says : (r : RequestText) → FitsHead r → request_extent 1 (map name_and_value (map field_of (fields r))) ≡ Ok (extent_for r.body)
unfolding request_extent extent_in
extent_says r fits = by r.token r.body fits.body
  where
    trimmed_number : (n : ℕ) → n < 2 ^ 64 → trim_ows (32 ∷ decimal n) ≡ decimal n
    trimmed_number n small = trimmed (decimal n) (pass is_uri_byte (decimal n) (visible_are (decimal n) (decimal_is_IsNumeral n small).0.1))

    by : (token body : Option (List ℕ)) → IfSome body (λ b. length b ≤ 1048576)
        → request_extent 1 (map name_and_value (map field_of (fields_by r.host token body))) ≡ Ok (extent_for body)
    by None None b = refl
    by (Some token) None b = refl
    by None (Some body) b = let few = b in rw (trimmed_number (length body) (omega arith)) (number_is 1048576 (length body) (omega arith) few)
    by (Some token) (Some body) b = let few = b in rw (trimmed_number (length body) (omega arith)) (number_is 1048576 (length body) (omega arith) few)

head_says : (r : RequestText) → FitsHead r → head_in (head r) ≡ Ok (record { method = r.method; target = r.target; token = r.token; extent = extent_for r.body })
head_says r fits = rw (extent_says r fits, token_says r fits) refl

host_says : (r : RequestText) → FitsHead r → values (codes "host") (map name_and_value (map field_of (fields r))) ≡ r.host ∷ []
host_says r fits = by r.token r.body
  where
    by : (token body : Option (List ℕ)) → values (codes "host") (map name_and_value (map field_of (fields_by r.host token body))) ≡ r.host ∷ []
    by None None = rw (trimmed r.host fits.host) refl
    by None (Some body) = rw (trimmed r.host fits.host) refl
    by (Some token) None = rw (trimmed r.host fits.host) refl
    by (Some token) (Some body) = rw (trimmed r.host fits.host) refl

is_body : (body : Option (List ℕ)) → IsBody (extent_for body) (body_text body) (Ok (body_text body))
is_body None = refl
is_body (Some body) = whole_body body

pub reads_back : (r : RequestText) → FitsHead r → ReadsAs (request_bytes r) r
reads_back r fits =
    let at : HeadAt (request_bytes r) (head r) (body_text r.body) = record {
      reads = (is_head r fits, printed r);
      within = fits_length r fits;
      few = few_fields r;
    } in
    record {
      read = request (record { method = r.method; target = r.target; token = r.token; extent = extent_for r.body }) (body_text r.body) (Ok (body_text r.body)) (head r, at, head_says r fits) (is_body r.body);
      head = head r;
      at = at;
      host = host_says r fits;
    }
