-- The bytes of a request.
use Rattle.std.specs.Prelude.{ℕ, List, [], ◌++◌, length, codes, decimal, Option, Some, None, unwrap_or}
use Rattle.adr_wire.specs.Written.{crlf, line}

-- a request: its method, its target, the host that it goes to, the token that is shown, and its body
pub record RequestText : Type 0 where
  pub method : List ℕ
  pub target : List ℕ
  pub host : List ℕ
  pub token : Option (List ℕ)
  pub body : Option (List ℕ)

-- the method, the target and `HTTP/1.1`, parted by spaces, and the end of the line
abbrev pub request_line : List ℕ → List ℕ → List ℕ
request_line method target = method ++ (codes " " ++ (target ++ (codes " HTTP/1.1" ++ crlf)))

-- the field `Host` with the host, as a line
abbrev pub host_line : List ℕ → List ℕ
host_line host = line (codes "Host", host)

-- the token, where there is one
abbrev pub token_line : Option (List ℕ) → List ℕ
token_line None = []
token_line (Some token) = line (codes "Authorization", codes "Bearer " ++ token)

-- what tells of the body, where there is one
abbrev pub body_lines : Option (List ℕ) → List ℕ
body_lines None = []
body_lines (Some body) = line (codes "Content-Type", codes "application/json") ++ line (codes "Content-Length", decimal (length body))

-- the body, and no bytes where there is none
abbrev pub body_text : Option (List ℕ) → List ℕ
body_text body = unwrap_or body []

-- the request line, the fields in their order, an empty line, and the body
unfoldable pub request_bytes : RequestText → List ℕ
request_bytes r =
    request_line r.method r.target
    ++ (host_line r.host
    ++ (token_line r.token
    ++ (line (codes "Accept", codes "application/json")
    ++ (body_lines r.body
    ++ (line (codes "Connection", codes "close") ++ (crlf ++ body_text r.body))))))
