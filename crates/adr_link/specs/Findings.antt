-- What comes of asking the utility.
use Rattle.std.specs.Prelude.{ℕ, ◌==◌, List, bytes_eq, Result, Ok, Err, if◌then◌else◌}
use Rattle.adr_text.specs.declared.refusal.Refusal.{Refusal}
use Rattle.adr_objects.specs.declared.kind.Kind.{Kind}
use Rattle.adr_objects.specs.declared.body.Found.{Found}
use Rattle.adr_schema.specs.Pages.{page_of, version_of}
use Rattle.adr_link.specs.declared.reply.HttpReply.{HttpReply}
use Rattle.adr_link.specs.declared.reply.LinkFault.{LinkFault}
use Rattle.adr_link.specs.declared.found.Asked.{Asked}
use Rattle.adr_link.specs.declared.found.Asked.TheVariants as asked
use Rattle.adr_link.specs.declared.found.Finding.{Finding}
use Rattle.adr_link.specs.declared.found.Finding.TheVariants.{Page, Version, Gone, Failure}

-- a page, where there is one: its versions, and how many of its elements are none; else a failure
abbrev pub page_found : Result (List Found × ℕ) Refusal → Finding
page_found (Ok page) = Page page.0 page.1
page_found (Err e) = Failure

-- a version, where it has the id that was asked for; else a failure
abbrev pub version_asked : List ℕ → Found → Finding
version_asked id version = if bytes_eq version.id id then Version version else Failure

-- the same of a version that was read, and a failure where none was
abbrev pub version_found : List ℕ → Result Found Refusal → Finding
version_found id (Ok version) = version_asked id version
version_found id (Err e) = Failure

-- what a reply tells of a page of a kind
abbrev pub page_told : Kind → HttpReply → Finding
page_told kind reply = if reply.status == 200 then page_found (page_of kind reply.body) else Failure

-- what a reply tells of the object of an id: where it is 404, that there is none
abbrev pub probe_told : Kind → List ℕ → HttpReply → Finding
probe_told kind id reply =
    if reply.status == 200 then version_found id (version_of kind reply.body)
    else (if reply.status == 404 then Gone else Failure)

-- what a reply tells of what was asked: of a page, or of the object of an id
abbrev pub told_by : Asked → HttpReply → Finding
told_by (asked.Page kind) reply = page_told kind reply
told_by (asked.Probe kind id) reply = probe_told kind id reply

-- what comes of asking for something: what the reply tells, and a failure where none came
abbrev pub found_of : Asked → Result HttpReply LinkFault → Finding
found_of a (Ok reply) = told_by a reply
found_of a (Err fault) = Failure
