-- What goes through a gate once the node is to stop.
use Rattle.std.specs.Prelude.{◌≡◌, Bool, true, false, List, [], ◌∷◌, ◌++◌, Err}
use Rattle.adr_link.specs.declared.reply.LinkFault.TheVariants.{Read}
use Rattle.adr_work.specs.declared.request.Request.{Request}
use Rattle.adr_work.specs.Exchanges.{Came, Exchange}

-- a request goes through the gate once, and what came of it is told; nothing goes through where the node is to stop, and no reply comes
abbrev pub AsksUnless : Bool → List Exchange → List Exchange → Request → Came → Type 0
AsksUnless true before after request came = (after ≡ before) × (came ≡ Err Read)
AsksUnless false before after request came = after ≡ before ++ (request, came) ∷ []
