use Rattle.std.proofs.Common.{List, ℕ, sym, subst}
use Rattle.httparse.specs.Spans.{IsRequestAt}
use Rattle.adr_wire.specs.Pieces.{Holds}
use Rattle.adr_request.proofs.HeadLemmas.{head_at}
use Rattle.adr_request.proofs.head.read_head.Goals as goal

pub returns-clause-found : goal.returns-clause-found
returns-clause-found g c = λ bytes held.
    let front = c.await_front.new.front in
    let found = c.in_ok-await_front.ensures.found in
    let of = found.is_head in
    let left = g.S.Source.left c.await_front.new.source in
    let at = head_at left c.await_front.new.ahead.bytes bytes front.headers front.spans of.0 (c.in_ok-await_front.ensures.whole bytes held) c.in_ok-await_front.ensures.limit found of.1 in
    let P : List ℕ → Type 0 = λ items. Holds left items at.0 in
    let Q : List ℕ → Type 0 = λ b. IsRequestAt b front.headers front.spans of.0 in
    (at.0, (of.0, at.1, sym (c.in_ok-head.ensures.reading of.0 (subst Q (sym c.as_slice.ensures) of.1))), subst P (sym c.skip.ensures.bytes) at.2)
