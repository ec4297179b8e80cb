use Rattle.std.proofs.Common.{List, ℕ, sym, subst, inr, Err, ap, ◌∙◌}
use Rattle.std.proofs.lemmas.Result.{err_from_is_err_and}
use Rattle.httparse.specs.Spans.{IsResponseAt}
use Rattle.adr_wire.specs.Pieces.{Holds}
use Rattle.adr_link.proofs.HeadLemmas.{head_at, refused_on}
use Rattle.adr_link.proofs.reply_head.read_head.Goals as goal

pub returns-clause-found : goal.returns-clause-found
returns-clause-found g c = λ bytes held.
    let front = c.await_front.new.front in
    let found = c.in_ok-await_front.ensures.found in
    let of = found.is_head in
    let left = g.S.Source.left c.await_front.new.source in
    let at = head_at left c.await_front.new.ahead.bytes bytes front.headers front.spans of.0 (c.in_ok-await_front.ensures.whole bytes held) c.in_ok-await_front.ensures.limit found of.1 in
    let P : List ℕ → Type 0 = λ items. Holds left items at.0 in
    let Q : List ℕ → Type 0 = λ b. IsResponseAt b front.headers front.spans of.0 in
    (at.0, (of.0, at.1, sym (c.in_ok-head.ensures.reading of.0 (subst Q (sym c.as_slice.ensures) of.1))), subst P (sym c.skip.ensures.bytes) at.2)

pub returns-in_err-head-clause-refused : goal.returns-in_err-head-clause-refused
returns-in_err-head-clause-refused g c =
    let front = c.await_front.new.front in
    let found = c.in_ok-await_front.ensures.found in
    let of = found.is_head in
    let Q : List ℕ → Type 0 = λ b. IsResponseAt b front.headers front.spans of.0 in
    let exit = err_from_is_err_and c.from_residual-in_err-head.result c.from_residual-in_err-head.ensures.1 in
    refused_on _ c.from_residual-in_err-head.result c.in_err-head.field-0.0 (exit.1 ∙ ap Err exit.2) (c.in_err-head.ensures.reading of.0 (subst Q (sym c.as_slice.ensures) of.1))
    (λ f is bytes held.
    let left = g.S.Source.left c.await_front.new.source in
    let at = head_at left c.await_front.new.ahead.bytes bytes front.headers front.spans of.0 (c.in_ok-await_front.ensures.whole bytes held) c.in_ok-await_front.ensures.limit found of.1 in
    inr (of.0, at.0, at.1, sym is))
