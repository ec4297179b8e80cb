-- The words for kinds of objects, and for what was done to one.
use Rattle.std.specs.Prelude.{ℕ, List, codes, Result, Ok, Err, if◌then◌else◌}
use Rattle.std.specs.Str.{bytes_eq}
use Rattle.serde_json.specs.Data.{Data}
use Rattle.adr_text.specs.Refusals.{◌>>=◌}
use Rattle.adr_text.specs.Fields.{text_of}
use Rattle.adr_text.specs.declared.fault.Fault.{Fault}
use Rattle.adr_text.specs.declared.fault.Fault.TheVariants.{BadShape}
use Rattle.adr_subscription.specs.declared.words.ObjectKind.{ObjectKind}
use Rattle.adr_subscription.specs.declared.words.ObjectKind.TheVariants.{Program, Event, Report, Subscription, Ven, Resource}
use Rattle.adr_subscription.specs.declared.words.OperationKind.{OperationKind}
use Rattle.adr_subscription.specs.declared.words.OperationKind.TheVariants.{Get, Post, Put, Delete}

-- `PROGRAM`, `EVENT`, `REPORT`, `SUBSCRIPTION`, `VEN` or `RESOURCE`
abbrev pub kind_word : ObjectKind → List ℕ
kind_word Program = codes "PROGRAM"
kind_word Event = codes "EVENT"
kind_word Report = codes "REPORT"
kind_word Subscription = codes "SUBSCRIPTION"
kind_word Ven = codes "VEN"
kind_word Resource = codes "RESOURCE"

-- the kind of that word
abbrev pub kind_named : List ℕ → Result ObjectKind Fault
kind_named word =
    if bytes_eq word (codes "PROGRAM") then Ok Program
    else (if bytes_eq word (codes "EVENT") then Ok Event
    else (if bytes_eq word (codes "REPORT") then Ok Report
    else (if bytes_eq word (codes "SUBSCRIPTION") then Ok Subscription
    else (if bytes_eq word (codes "VEN") then Ok Ven
    else (if bytes_eq word (codes "RESOURCE") then Ok Resource
    else Err BadShape)))))

-- the kind whose word a text is, else the wrong shape
unfoldable pub kind_in : Data → Result ObjectKind Fault
kind_in d = text_of d >>= kind_named

-- `GET`, `POST`, `PUT` or `DELETE`
abbrev pub operation_word : OperationKind → List ℕ
operation_word Get = codes "GET"
operation_word Post = codes "POST"
operation_word Put = codes "PUT"
operation_word Delete = codes "DELETE"

-- the operation of that word
abbrev pub operation_named : List ℕ → Result OperationKind Fault
operation_named word =
    if bytes_eq word (codes "GET") then Ok Get
    else (if bytes_eq word (codes "POST") then Ok Post
    else (if bytes_eq word (codes "PUT") then Ok Put
    else (if bytes_eq word (codes "DELETE") then Ok Delete
    else Err BadShape)))

-- the operation whose word a text is, else the wrong shape
unfoldable pub operation_in : Data → Result OperationKind Fault
operation_in d = text_of d >>= operation_named
