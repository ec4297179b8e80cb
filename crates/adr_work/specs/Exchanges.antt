-- What goes through a gate.
use Rattle.std.specs.Prelude.{ℕ, List, Result}
use Rattle.adr_link.specs.declared.reply.HttpReply.{HttpReply}
use Rattle.adr_link.specs.declared.reply.LinkFault.{LinkFault}
use Rattle.adr_work.specs.declared.request.Request.{Request}
use Rattle.adr_work.specs.declared.request.Callee.TheVariants.{Utility}

-- what comes of a request: a reply, or why there is none
abbrev pub Came : Type 0
Came = Result HttpReply LinkFault

-- a request, and what came of it
abbrev pub Exchange : Type 0
Exchange = Request × Came

-- the request of these bytes to the utility
abbrev pub to_utility : List ℕ → Request
to_utility bytes = record { to = Utility; bytes = bytes }
