-- The requests of the client are such as a head has.
use Rattle.std.proofs.Common.{◌≡◌, ℕ, ◌+◌, ◌^◌, ◌<◌, ◌≤◌, ◌==◌, ◌&&◌, Bool, true, false, not, List, [], ◌∷◌, ◌++◌, length, take, drop, ◌-◌, All, refl, sym, ap, subst, arith, IsTrue, IsUtf8, IfSome, Option, Some, None, codes, decimal, nat_lt, nat_le, leb, unwrap_or, if◌then◌else◌, ⊎_elim, length-append}
use Rattle.std.specs.Str.{bytes_eq}
use Rattle.std.specs.List.{list_all}
use Rattle.std.specs.Str.Parse.{AllDigits}
use Rattle.std.proofs.lemmas.Bool.Decides.{nat_tests}
use Rattle.std.proofs.lemmas.Fmt.{decimal_is_IsNumeral}
use Rattle.std.proofs.lemmas.Str.Parse.{digit_from_value}
use Rattle.std.proofs.lemmas.Slice.Eq.{bytes_eq-Decides}
use Rattle.std.proofs.lemmas.Str.{IsUtf8-from_ascii}
use Rattle.std.proofs.lemmas.Str.Ascii.{IsAscii-from_all}
use Rattle.std.proofs.lemmas.List.Elements.{All-nil, All-append, All-weaker, All-take}
use Rattle.percent_encoding.specs.declared.ascii_set.TheConstants.{CONTROLS}
use Rattle.percent_encoding.specs.Percent.{IsKept}
use Rattle.httparse.specs.Grammar.{AllPass, IsToken, is_token_byte, is_uri_byte}
use Rattle.url.specs.declared.sets.TheConstants.{PATH, SPECIAL_QUERY, FORBIDDEN_HOST, FORBIDDEN_DOMAIN}
use Rattle.url.specs.declared.host.Host.{Host}
use Rattle.url.specs.declared.host.Host.TheVariants.{Domain}
use Rattle.url.specs.declared.scheme.SchemeType.TheVariants.{SpecialNotFile}
use Rattle.url.specs.Scheme.{scheme_type, default_port, is_special}
use Rattle.url.specs.Host.{host_text}
use Rattle.url.specs.Parts.{Parts, kind_of, host_or_empty, query_set, IsPortOf, IsValid}
use Rattle.url.proofs.InputLemmas.{Passes}
use Rattle.url.proofs.SetLemmas.{passes_from_kept}
use Rattle.url.proofs.HostLemmas.{All-host_text}
use Rattle.url.proofs.PiecesLemmas.{option_cases}
use Rattle.url.proofs.TextLemmas.{All_kept}
use Rattle.url.proofs.ValidLemmas.{segment_list_kept, special_has_authority, base_from_authority, hierarchical}
use Rattle.httparse.proofs.OnLiterals.{httparse_on_literals}
use Rattle.adr_text.specs.Ids.{is_id_byte, is_id}
use Rattle.adr_objects.specs.declared.kind.Kind.{Kind}
use Rattle.adr_objects.specs.declared.kind.Kind.TheVariants.{Program, Event}
use Rattle.adr_subscription.specs.Callbacks.{is_callback}
use Rattle.adr_subscription.specs.Tokens.{is_token_byte as bearer_byte, is_token}
use Rattle.adr_delivery.specs.declared.job.JobMethod.{JobMethod}
use Rattle.adr_delivery.specs.declared.job.JobMethod.TheVariants.{Post, Put}
use Rattle.adr_delivery.specs.Jobs.{report_target}
use Rattle.adr_link.specs.Requests.{RequestText}
use Rattle.adr_link.specs.Targets.{collection, page_target, probe_target, method_word, page_request, probe_request, report_request, notice_request}
use Rattle.adr_exchange.specs.Exchanges.{token_length, FitsHead, IsShown, IsOfClient, page, probe, report, notice}
use Rattle.adr_link.specs.Addresses.{port_text, host_field, without_slash, target_below, query_text}
use Rattle.adr_exchange.proofs.Fields.{pass}

-- above a space, and in ASCII
abbrev pub is_visible : ℕ → Bool
is_visible b = nat_lt 32 b && nat_lt b 127

uri_visible : (b : ℕ) → IsTrue (is_visible b) → IsTrue (is_uri_byte b)
uri_visible b is = grind (arith, nat_tests)

below_128 : (b : ℕ) → IsTrue (is_visible b) → b < 128
below_128 b is = grind (arith, nat_tests)

pub as_target : (xs : List ℕ) → AllPass is_visible xs → AllPass is_uri_byte xs × IsUtf8 xs
as_target xs all = (
  All-weaker (λ b. IsTrue (is_visible b)) (λ b. IsTrue (is_uri_byte b)) uri_visible xs all,
  IsUtf8-from_ascii xs (IsAscii-from_all xs (All-weaker (λ b. IsTrue (is_visible b)) (λ b. b < 128) below_128 xs all)),
)

pub both_visible : (xs ys : List ℕ) → AllPass is_visible xs → AllPass is_visible ys → AllPass is_visible (xs ++ ys)
both_visible xs ys a b = All-append (λ b. IsTrue (is_visible b)) xs ys a b

digits_visible : (ds : List ℕ) → AllDigits 10 ds → list_all is_visible ds ≡ true
digits_visible [] d = refl
digits_visible (c ∷ ds) d =
    let b = digit_from_value c d.0 in
    let e : is_visible c ≡ true = grind (arith, nat_tests) in
    rw e (digits_visible ds d.1)

pub number_visible : (n : ℕ) → n < 2 ^ 64 → AllPass is_visible (decimal n)
number_visible n small = pass is_visible (decimal n) (digits_visible (decimal n) (decimal_is_IsNumeral n small).0.1)

-- ---- an address

kind_is : (url : Parts) → url.scheme ≡ codes "http" → kind_of url ≡ SpecialNotFile
unfolding scheme_type default_port
kind_is url is = ap scheme_type is

pub path_visible : (url : Parts) → IsValid url → url.scheme ≡ codes "http" → AllPass is_visible url.path × (0 < length url.path)
path_visible url valid is =
    let special : is_special (kind_of url) ≡ true = ap is_special (kind_is url is) in
    let h = hierarchical url valid.path (base_from_authority url (special_has_authority url valid.head special)) in
    (All_kept is_visible PATH refl url.path (segment_list_kept (kind_of url) url.path h.0), h.1 special)

pub query_visible : (url : Parts) → IsValid url → url.scheme ≡ codes "http" → AllPass is_visible (query_text url.query)
query_visible url valid is = by url.query (subst (λ kind. IfSome url.query (All (IsKept (query_set kind)))) (kind_is url is) valid.query)
  where
    by : (query : Option (List ℕ)) → IfSome query (All (IsKept SPECIAL_QUERY)) → AllPass is_visible (query_text query)
    by None kept = All-nil (λ b. IsTrue (is_visible b))
    by (Some q) kept = both_visible (63 ∷ []) q (pass is_visible (63 ∷ []) refl) (All_kept is_visible SPECIAL_QUERY refl q kept)

pub without_visible : (path : List ℕ) → AllPass is_visible path → AllPass is_visible (without_slash path)
without_visible path all = by (bytes_eq (drop (length path - 1) path) (codes "/"))
  where
    by : (b : Bool) → AllPass is_visible (if b then take (length path - 1) path else path)
    by true = All-take (λ b. IsTrue (is_visible b)) (length path - 1) path all
    by false = all

opaque_visible : (b : ℕ) → IsKept FORBIDDEN_HOST b → IsKept CONTROLS b → Passes is_uri_byte b
opaque_visible b allowed visible =
    let mark = passes_from_kept FORBIDDEN_HOST (λ x. not (x == 32)) refl b allowed in
    let above = passes_from_kept CONTROLS (λ x. leb 32 x && not (x == 127)) refl b visible in
    grind (arith, nat_tests)

host_visible : (url : Parts) → IsValid url → AllPass is_uri_byte (host_text (host_or_empty url))
host_visible url valid =
    let P = λ (o : Option (Host (List ℕ))). All (Passes is_uri_byte) (host_text (unwrap_or o (Domain []))) in
    ⊎_elim (λ none. subst P (sym none) (All-nil (Passes is_uri_byte)))
    (λ some. subst P (sym some.1) (All-host_text (Passes is_uri_byte) (kind_of url) some.0 (passes_from_kept FORBIDDEN_DOMAIN is_uri_byte refl) opaque_visible (λ b digit. grind (arith, nat_tests)) (λ b hex. grind (arith, nat_tests)) refl refl (rw some.1 at valid.head.host)))
    (option_cases url.host)

port_visible : (port : Option ℕ) → IfSome port (λ n. n < 2 ^ 16) → AllPass is_uri_byte (port_text port)
port_visible None small = All-nil (λ b. IsTrue (is_uri_byte b))
port_visible (Some n) small = by (n == 80)
  where
    by : (b : Bool) → AllPass is_uri_byte (if b then [] else codes ":" ++ decimal n)
    by true = All-nil (λ b. IsTrue (is_uri_byte b))
    by false = let s = small in (as_target (codes ":" ++ decimal n) (both_visible (codes ":") (decimal n) (pass is_visible (codes ":") refl) (number_visible n (omega (arith, s))))).0

small_port : (scheme : List ℕ) (port : Option ℕ) → IsPortOf scheme port → IfSome port (λ n. n < 2 ^ 16)
small_port scheme None valid = tt
small_port scheme (Some n) valid = valid.0

pub host_field_visible : (url : Parts) → IsValid url → AllPass is_uri_byte (host_field url)
host_field_visible url valid =
    All-append (λ b. IsTrue (is_uri_byte b)) (host_text (host_or_empty url)) (port_text url.port) (host_visible url valid) (port_visible url.port (small_port url.scheme url.port valid.head.port))

-- ---- tokens and ids

all_three : (a b c : Bool) → (a && b && c) ≡ true → (a ≡ true) × (c ≡ true)
all_three true true true e = (refl, refl)
all_three true true false e = absurd cc
all_three true false true e = absurd cc
all_three true false false e = absurd cc
all_three false true true e = absurd cc
all_three false true false e = absurd cc
all_three false false true e = absurd cc
all_three false false false e = absurd cc

two : (a b : Bool) → (a && b) ≡ true → (a ≡ true) × (b ≡ true)
two true b e = (refl, e)
two false b e = absurd cc

token_bytes : (xs : List ℕ) → list_all bearer_byte xs ≡ true → list_all is_uri_byte xs ≡ true
token_bytes [] e = refl
token_bytes (c ∷ xs) e =
    let h = two (bearer_byte c) (list_all bearer_byte xs) e in
    let first : bearer_byte c ≡ true = h.0 in
    let d : is_uri_byte c ≡ true = grind (arith, nat_tests) in
    rw d (token_bytes xs h.1)

some_long : (n : ℕ) → nat_le 1 n ≡ true → 0 < n
some_long n e = grind (arith, nat_tests)

token_fits : (token : Option (List ℕ)) → IfSome token (λ t. IsTrue (is_token t)) → IfSome token (λ t. (0 < length t) × AllPass is_uri_byte t)
token_fits None is = tt
token_fits (Some t) is =
    let h = all_three (nat_le 1 (length t)) (nat_le (length t) 1024) (list_all bearer_byte t) is in
    (some_long (length t) h.0, pass is_uri_byte t (token_bytes t h.1))

id_byte : (c : ℕ) → is_id_byte c ≡ true → is_visible c ≡ true
id_byte c e = grind (arith, nat_tests)

id_bytes : (xs : List ℕ) → list_all is_id_byte xs ≡ true → list_all is_visible xs ≡ true
id_bytes [] e = refl
id_bytes (c ∷ xs) e =
    let h = two (is_id_byte c) (list_all is_id_byte xs) e in
    rw (id_byte c h.0) (id_bytes xs h.1)

id_visible : (id : List ℕ) → IsTrue (is_id id) → AllPass is_visible id
id_visible id is = pass is_visible id (id_bytes id (all_three (nat_le 1 (length id)) (nat_le (length id) 128) (list_all is_id_byte id) is).1)

-- ---- the requests

http_scheme : (url : Parts) → IsTrue (is_callback url) → url.scheme ≡ codes "http"
http_scheme url is = (bytes_eq-Decides url.scheme (codes "http")).0 (first_of (bytes_eq url.scheme (codes "http")) _ is)
  where
    first_of : (a b : Bool) → (a && b) ≡ true → a ≡ true
    first_of a b e = (two a b e).0

below_visible : (url : Parts) (token : Option (List ℕ)) → IsShown url token → (below : List ℕ) → AllPass is_visible below → AllPass is_visible (target_below url below)
below_visible url token shown below all =
    both_visible (without_slash url.path) below (without_visible url.path (path_visible url shown.valid (http_scheme url shown.called)).0) all

longer : (a b : List ℕ) → 0 < length b → 0 < length (a ++ b)
longer a b some = let sum = length-append a b in omega (arith, sum)

fits : (r : RequestText) (url : Parts) → IsShown url r.token → IsToken r.method → 0 < length r.target → AllPass is_visible r.target → r.host ≡ host_field url
    → length r.method + length r.target + length r.host + token_length r.token ≤ 16000 → IfSome r.body (λ body. length body ≤ 1048576) → FitsHead r
fits r url shown method some target host short body =
    let t = as_target r.target target in
    record {
      method = method;
      target = (some, t.0);
      target_text = t.1;
      host = subst (AllPass is_uri_byte) (sym host) (host_field_visible url shown.valid);
      token = token_fits r.token shown.bearer;
      short = short;
      body = body;
    }

get_is : IsToken (codes "GET")
unfolding httparse_on_literals
get_is = (omega arith, pass is_token_byte (codes "GET") refl)

post_is : IsToken (codes "POST")
unfolding httparse_on_literals
post_is = (omega arith, pass is_token_byte (codes "POST") refl)

method_is : (method : JobMethod) → IsToken (method_word method)
unfolding httparse_on_literals
method_is Post = (omega arith, pass is_token_byte (codes "POST") refl)
method_is Put = (omega arith, pass is_token_byte (codes "PUT") refl)

collection_visible : (kind : Kind) → AllPass is_visible (collection kind)
collection_visible Program = pass is_visible (codes "/programs") refl
collection_visible Event = pass is_visible (codes "/events") refl

page_visible : (kind : Kind) (skip : ℕ) → skip < 2 ^ 64 → AllPass is_visible (page_target kind skip)
page_visible kind skip small =
    both_visible (collection kind) (codes "?skip=" ++ (decimal skip ++ codes "&limit=50")) (collection_visible kind)
    (both_visible (codes "?skip=") (decimal skip ++ codes "&limit=50") (pass is_visible (codes "?skip=") refl) (both_visible (decimal skip) (codes "&limit=50") (number_visible skip small) (pass is_visible (codes "&limit=50") refl)))

probe_visible : (kind : Kind) (id : List ℕ) → IsTrue (is_id id) → AllPass is_visible (probe_target kind id)
probe_visible kind id is = both_visible (collection kind) (codes "/" ++ id) (collection_visible kind) (both_visible (codes "/") id (pass is_visible (codes "/") refl) (id_visible id is))

report_visible : (remote : Option (List ℕ)) → IfSome remote (λ id. IsTrue (is_id id)) → AllPass is_visible (report_target remote) × (0 < length (report_target remote))
report_visible None is = (pass is_visible (codes "/reports") refl, omega arith)
report_visible (Some id) is = (both_visible (codes "/reports/") id (pass is_visible (codes "/reports/") refl) (id_visible id is), omega arith)

page_long : (kind : Kind) (skip : ℕ) → 0 < length (page_target kind skip)
page_long Program skip = omega arith
page_long Event skip = omega arith

probe_long : (kind : Kind) (id : List ℕ) → 0 < length (probe_target kind id)
probe_long Program id = omega arith
probe_long Event id = omega arith

pub clients_fit : (r : RequestText) → IsOfClient r → length r.method + length r.target + length r.host + token_length r.token ≤ 16000
    → IfSome r.body (λ body. length body ≤ 1048576) → FitsHead r
clients_fit r (page u shown kind skip small) short body =
    fits (page_request u kind skip) u.url shown get_is (longer (without_slash u.url.path) (page_target kind skip) (page_long kind skip)) (below_visible u.url u.token shown (page_target kind skip) (page_visible kind skip small)) refl short body
clients_fit r (probe u shown kind id is) short body =
    fits (probe_request u kind id) u.url shown get_is (longer (without_slash u.url.path) (probe_target kind id) (probe_long kind id)) (below_visible u.url u.token shown (probe_target kind id) (probe_visible kind id is)) refl short body
clients_fit r (report u shown job remote is target) short body =
    let v = report_visible remote is in
    let all : AllPass is_visible job.target = subst (AllPass is_visible) (sym target) v.0 in
    let some : 0 < length job.target = subst (λ z. 0 < length z) (sym target) v.1 in
    fits (report_request u job) u.url shown (method_is job.method) (longer (without_slash u.url.path) job.target some) (below_visible u.url u.token shown job.target all) refl short body
clients_fit r (notice url token shown text) short body =
    let path = path_visible url shown.valid (http_scheme url shown.called) in
    let sum = length-append url.path (query_text url.query) in
    let some = path.1 in
    fits (notice_request url token text) url shown post_is (omega (arith, sum, some)) (both_visible url.path (query_text url.query) path.0 (query_visible url shown.valid (http_scheme url shown.called))) refl short body
