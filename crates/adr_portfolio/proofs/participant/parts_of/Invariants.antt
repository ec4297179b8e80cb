use Rattle.std.proofs.Common.{◌≡◌, take}
use Rattle.adr_portfolio.specs.Parts.{parts_of}
use Rattle.adr_portfolio.proofs.participant.parts_of.Given as goal

abbrev pub invariant-ps : goal.invariant-ps
invariant-ps l = l.parts.items ≡ parts_of (take l.p-index l.ps)
