-- The bytes of a reply.
use Rattle.std.specs.Prelude.{ℕ, Bool, List, [], ◌∷◌, ◌++◌, length, codes, decimal, if◌then◌else◌, unwrap_or, string_bytes}
use Rattle.std.specs.List.{flat_map}
use Rattle.http.specs.StatusCode.{reason_phrase}
use Rattle.adr_wire.specs.Written.{crlf, line}
use Rattle.adr_routes.specs.declared.methods.Methods.{Methods}
use Rattle.adr_reply.specs.declared.reply.Extra.{Extra}
use Rattle.adr_reply.specs.declared.reply.Extra.TheVariants.{Nothing, Challenge, Allow}
use Rattle.adr_reply.specs.declared.reply.Reply.{Reply}

-- a reply: its status, a field that not all have, and its body
pub record ReplyParts : Type 0 where
  pub status : ℕ
  pub extra : Extra
  pub body : List ℕ

-- a reply as the code keeps it, by its parts
abbrev pub reply_parts : Reply → ReplyParts
reply_parts r = record { status = r.status; extra = r.extra; body = string_bytes r.body }

-- the phrase of a status, as `http` has it, and empty where it has none
abbrev pub phrase : ℕ → List ℕ
phrase status = unwrap_or (reason_phrase status) []

-- `HTTP/1.1`, the status and its phrase, and the end of the line
abbrev pub start_line : ℕ → List ℕ
start_line status = codes "HTTP/1.1 " ++ (decimal status ++ (codes " " ++ (phrase status ++ crlf)))

-- one more word, behind a comma where it isn't the first
abbrev pub after_comma : List ℕ → List ℕ → List ℕ
after_comma [] word = word
after_comma (b ∷ text) word = (b ∷ text) ++ (codes ", " ++ word)

-- the text with one more method behind it, where that is taken
abbrev pub with_method : Bool → List ℕ → List ℕ → List ℕ
with_method is_there word text = if is_there then after_comma text word else text

-- the methods in the order GET, POST, PUT, DELETE
abbrev pub allow_text : Methods → List ℕ
allow_text m =
    with_method m.delete (codes "DELETE") (with_method m.put (codes "PUT") (with_method m.post (codes "POST") (with_method m.get (codes "GET") [])))

-- `WWW-Authenticate: Bearer`, or `Allow` with the methods, where a reply has it
abbrev pub extra_fields : Extra → List (List ℕ × List ℕ)
extra_fields Nothing = []
extra_fields Challenge = (codes "WWW-Authenticate", codes "Bearer") ∷ []
extra_fields (Allow methods) = (codes "Allow", allow_text methods) ∷ []

-- the start line, the fields in their order, an empty line, and the body
unfoldable pub reply_bytes : ReplyParts → List ℕ
reply_bytes r =
    start_line r.status
    ++ (line (codes "Content-Type", codes "application/json")
    ++ (line (codes "Content-Length", decimal (length r.body))
    ++ (flat_map line (extra_fields r.extra)
    ++ (line (codes "Connection", codes "close") ++ (crlf ++ r.body)))))
