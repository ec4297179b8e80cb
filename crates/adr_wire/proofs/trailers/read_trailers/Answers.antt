use Rattle.std.proofs.Common.{ℕ, List, sym, subst}
use Rattle.adr_wire.specs.Pieces.{Holds}
use Rattle.adr_wire.proofs.TrailerSections.{trailers_at}
use Rattle.adr_wire.proofs.trailers.read_trailers.Goals as goal

pub returns-clause-found : goal.returns-clause-found
returns-clause-found g c = λ bytes held.
    let left = g.S.Source.left c.await_front.new.source in
    let at = trailers_at left c.await_front.new.ahead.bytes bytes _ (c.in_ok-await_front.ensures.whole bytes held) c.in_ok-await_front.ensures.limit c.in_ok-await_front.ensures.found in
    let P : List ℕ → Type 0 = λ items. Holds left items at.2 in
    (at.0, at.1, at.2, at.3, subst P (sym c.skip.ensures.bytes) at.4)
