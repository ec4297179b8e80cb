-- What one node writes and another reads.
use Rattle.std.specs.Prelude.{◌≡◌, ℕ, ◌+◌, ◌^◌, ◌<◌, ◌≤◌, false, IsTrue, List, [], ◌∷◌, length, map, codes, IsUtf8, IfSome, Option, Some, None, Ok}
use Rattle.httparse.specs.Grammar.{AllPass, IsToken, is_uri_byte, RequestHead}
use Rattle.httparse.specs.Spans.{name_and_value}
use Rattle.url.specs.Parts.{Parts, IsValid, serialize}
use Rattle.adr_text.specs.Ids.{is_id}
use Rattle.adr_objects.specs.declared.kind.Kind.{Kind}
use Rattle.adr_subscription.specs.Callbacks.{is_callback, callable_address, callback_address}
use Rattle.adr_subscription.specs.Tokens.{is_token}
use Rattle.adr_delivery.specs.declared.job.Job.{Job}
use Rattle.adr_delivery.specs.Jobs.{report_target}
use Rattle.adr_wire.specs.Fields.{values}
use Rattle.adr_request.specs.Heads.{HeadAt}
use Rattle.adr_request.specs.Requests.{IsRequest}
use Rattle.adr_reply.specs.Replies.{ReplyParts, reply_bytes}
use Rattle.adr_link.specs.ReplyHeads.{is_bodiless}
use Rattle.adr_link.specs.Replies.{IsReply}
use Rattle.adr_link.specs.Requests.{RequestText, body_text, request_bytes}
use Rattle.adr_link.specs.Upstreams.{UpstreamParts}
use Rattle.adr_link.specs.Targets.{page_request, probe_request, report_request, notice_request}

-- ---- replies

-- Each reply that the server writes is read by the client as its status and its body: of any final status but those that have no
-- body, and with a body of at most 8 MiB.
abbrev pub RepliesReadBack : Type 0
RepliesReadBack = (r : ReplyParts) → 200 ≤ r.status → r.status < 1000 → is_bodiless r.status ≡ false → length r.body ≤ 8388608
    → IsReply (reply_bytes r) (Ok (record { status = r.status; body = r.body }))

-- ---- requests

abbrev pub token_length : Option (List ℕ) → ℕ
token_length None = 0
token_length (Some token) = length token

-- The parts of a request are such as a head has: visible bytes, 16,000 together at most, and a body of at most 1 MiB.
pub record FitsHead (r : RequestText) : Type 0 where
  pub method : IsToken r.method
  pub target : (0 < length r.target) × AllPass is_uri_byte r.target
  pub target_text : IsUtf8 r.target
  pub host : AllPass is_uri_byte r.host
  pub token : IfSome r.token (λ token. (0 < length token) × AllPass is_uri_byte token)
  pub short : length r.method + length r.target + length r.host + token_length r.token ≤ 16000
  pub body : IfSome r.body (λ body. length body ≤ 1048576)

-- the bytes are read as the request: its method, its target, its token and its body, and its host is the only one
pub record ReadsAs (bytes : List ℕ) (r : RequestText) : Type 0 where
  pub read : IsRequest bytes (Ok (record { method = r.method; target = r.target; token = r.token; body = body_text r.body }))
  pub head : RequestHead
  pub at : HeadAt bytes head (body_text r.body)
  pub host : values (codes "host") (map name_and_value head.fields) ≡ r.host ∷ []

-- each request that the client writes and that fits a head is read by the server as what it is
abbrev pub RequestsReadBack : Type 0
RequestsReadBack = (r : RequestText) → FitsHead r → ReadsAs (request_bytes r) r

-- ---- the requests of the client

-- an address that url may have read, and that may be called, and a bearer token, where there is one
pub record IsShown (url : Parts) (token : Option (List ℕ)) : Type 0 where
  pub valid : IsValid url
  pub called : IsTrue (is_callback url)
  pub bearer : IfSome token (λ t. IsTrue (is_token t))

-- a request of the client: a page or a probe of an object id, a report, new or in the place of one of an object id, or a notification
pub data IsOfClient : RequestText → Type 0 where
  page : (u : UpstreamParts) → IsShown u.url u.token → (kind : Kind) (skip : ℕ) → skip < 2 ^ 64 → IsOfClient (page_request u kind skip)
  probe : (u : UpstreamParts) → IsShown u.url u.token → (kind : Kind) (id : List ℕ) → IsTrue (is_id id) → IsOfClient (probe_request u kind id)
  report : (u : UpstreamParts) → IsShown u.url u.token → (job : Job) (remote : Option (List ℕ)) → IfSome remote (λ id. IsTrue (is_id id)) → job.target ≡ report_target remote
      → IsOfClient (report_request u job)
  notice : (url : Parts) (token : Option (List ℕ)) → IsShown url token → (body : List ℕ) → IsOfClient (notice_request url token body)

-- each of them fits a head, and so reads back, where it isn't too long
abbrev pub ClientsRequestsFit : Type 0
ClientsRequestsFit = (r : RequestText) → IsOfClient r → length r.method + length r.target + length r.host + token_length r.token ≤ 16000
    → IfSome r.body (λ body. length body ≤ 1048576) → FitsHead r

-- An address that was posted, of a URL that holds to what url keeps, is kept as the URL is written: that may be called, and is
-- read as the same URL.
abbrev pub KeptAddressesMayBeCalled : Type 0
KeptAddressesMayBeCalled = (text : List ℕ) (url : Parts) → IsValid url → callback_address text ≡ Ok url → callable_address (serialize url) ≡ Ok url
