-- What the replies to requests for pages tell, and how the asking for them goes on.
use Rattle.std.specs.Prelude.{ℕ, zero, suc, ◌+◌, ◌==◌, nat_le, true, if◌then◌else◌, List, [], ◌∷◌, ◌++◌, length, Option, None, Some}
use Rattle.adr_objects.specs.declared.body.Found.{Found}
use Rattle.adr_objects.specs.declared.kind.Kind.{Kind}
use Rattle.adr_link.specs.declared.found.Asked.TheVariants as asked
use Rattle.adr_link.specs.declared.found.Finding.{Finding}
use Rattle.adr_link.specs.declared.found.Finding.TheVariants as finding
use Rattle.adr_link.specs.Findings.{found_of}
use Rattle.adr_link.specs.Requests.{request_bytes}
use Rattle.adr_link.specs.Targets.{page_request}
use Rattle.adr_link.specs.Upstreams.{UpstreamParts}
use Rattle.adr_machine.specs.declared.command.Command.{Command}
use Rattle.adr_machine.specs.declared.command.Command.TheVariants as command
use Rattle.adr_work.specs.Exchanges.{Came, Exchange, to_utility}
use Rattle.adr_work.specs.declared.page.PageRead.{PageRead}
use Rattle.adr_work.specs.declared.page.PageRead.TheVariants.{Filled, Empty, Failed}
use Rattle.adr_work.specs.declared.page.PollEnd.{PollEnd}
use Rattle.adr_work.specs.declared.page.PollEnd.TheVariants.{Whole, Broken}

-- a body has no more bytes than this, and a page no more elements
abbrev pub most_elements : ℕ
most_elements = 8_388_608

-- pages of one kind that are asked for in a round
abbrev pub most_pages : ℕ
most_pages = 2000

-- a page of so many elements, of which these are versions
abbrev pub page_of_length : List Found → ℕ → PageRead
page_of_length found count = if count == 0 then Empty else (if nat_le count most_elements then Filled (command.Evidence found true) count else Failed)

-- the page that a finding is: one with elements, an empty one, or a failed one, as with more than 8,388,608 elements
abbrev pub page_in : Finding → PageRead
page_in (finding.Page found skipped) = page_of_length found (length found + skipped)
page_in _ = Failed

-- what comes of the request for a page of a kind
abbrev pub page_read : Kind → Came → PageRead
page_read kind came = page_in (found_of (asked.Page kind) came)

-- how many elements a page has
abbrev pub elements : PageRead → ℕ
elements (Filled command count) = count
elements Empty = 0
elements Failed = 0

-- the command that a page stands for, where it has elements
abbrev pub command_of : PageRead → List Command
command_of (Filled command count) = command ∷ []
command_of Empty = []
command_of Failed = []

-- the requests for pages of a kind by what came of each: each page is asked for behind the elements of those before it
abbrev pub pages_asked : UpstreamParts → Kind → ℕ → List Came → List Exchange
pages_asked u kind skip [] = []
pages_asked u kind skip (came ∷ rest) = (to_utility (request_bytes (page_request u kind skip)), came) ∷ pages_asked u kind (skip + elements (page_read kind came)) rest

-- the commands that pages stand for
abbrev pub pages_told : Kind → List Came → List Command
pages_told kind [] = []
pages_told kind (came ∷ rest) = command_of (page_read kind came) ++ pages_told kind rest

-- how the asking ends with a page, where none was asked for behind it
abbrev pub end_with : PollEnd → List Came → Option PollEnd
end_with end [] = Some end
end_with end (came ∷ rest) = None

-- how it ends after a page: behind one that has elements as it goes on
abbrev pub end_after : PageRead → List Came → Option PollEnd → Option PollEnd
end_after (Filled command count) rest on = on
end_after Empty rest on = end_with Whole rest
end_after Failed rest on = end_with Broken rest

-- how asking for pages ended, where so many might be asked for: with an empty page, with one that failed, or with too many; None where it did not end there
abbrev pub pages_end : Kind → ℕ → List Came → Option PollEnd
pages_end kind zero [] = Some Broken
pages_end kind (suc left) [] = None
pages_end kind zero (came ∷ rest) = None
pages_end kind (suc left) (came ∷ rest) = end_after (page_read kind came) rest (pages_end kind left rest)
