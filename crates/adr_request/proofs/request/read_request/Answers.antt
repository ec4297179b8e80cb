use Rattle.std.proofs.Common.{List, ℕ, Ok, Err, sym, ap, subst, ◌∙◌}
use Rattle.std.proofs.lemmas.Result.{err_from_is_err_and}
use Rattle.adr_request.specs.Requests.{request_parts, refused, request}
use Rattle.adr_request.specs.Heads.{head_parts}
use Rattle.httparse.specs.Grammar.{print_request}
use Rattle.adr_wire.specs.Pieces.{Holds}
use Rattle.adr_wire.proofs.Readings.{passed_on, at_start, reader_is}
use Rattle.adr_wire.proofs.Unfinished.{came_behind}
use Rattle.adr_request.proofs.NotWhole.{no_head_is_no_request, no_body_is_no_request}
use Rattle.adr_request.proofs.request.read_request.Goals as goal

pub returns-in_err-head-clause-reading : goal.returns-in_err-head-clause-reading
returns-in_err-head-clause-reading g c =
    let exit = err_from_is_err_and c.from_residual.result c.from_residual.ensures.1 in
    passed_on request_parts _ c.from_residual.result c.in_err-head.field-0.0 (exit.1 ∙ ap Err exit.2) c.in_err-head.ensures.refused
    (λ f is bytes known. refused f (is bytes (at_start _ _ bytes known c.new-ahead.ensures.bytes)))

pub returns-in_err-body-clause-reading : goal.returns-in_err-body-clause-reading
returns-in_err-body-clause-reading g c =
    let exit = err_from_is_err_and c.from_residual-in_err-body.result c.from_residual-in_err-body.ensures.1 in
    passed_on request_parts _ c.from_residual-in_err-body.result c.in_err-body.field-0.0 (exit.1 ∙ ap Err exit.2) c.in_err-body.ensures.reading
    (λ f is bytes known.
    let head = c.in_ok-head.ensures.found bytes (at_start _ _ bytes known c.new-ahead.ensures.bytes) in
    request (head_parts c.in_ok-head.head) head.0 (Err f) head.1 (is head.0 head.2))

pub returns-clause-reading : goal.returns-clause-reading
returns-clause-reading g c = λ bytes known.
    let head = c.in_ok-head.ensures.found bytes (at_start _ _ bytes known c.new-ahead.ensures.bytes) in
    request (head_parts c.in_ok-head.head) head.0 (Ok c.in_ok-body.body.items) head.1 (c.in_ok-body.ensures.reading head.0 head.2)

pub returns-in_err-head-clause-unfinished : goal.returns-in_err-head-clause-unfinished
returns-in_err-head-clause-unfinished g c = λ is bytes held.
    let exit = err_from_is_err_and c.from_residual.result c.from_residual.ensures.1 in
    let P : List ℕ → Type 0 = λ ahead. Holds (g.S.Source.left c.args.source.now) ahead bytes in
    let failed = reader_is c.from_residual.result c.in_err-head.field-0.0 (exit.1 ∙ ap Err exit.2) is in
    let came = c.in_err-head.ensures.unfinished failed bytes (subst P (sym c.new-ahead.ensures.bytes) held) in
    (came.0, came.1, λ request. no_head_is_no_request came.0 request came.2)

pub returns-in_err-body-clause-unfinished : goal.returns-in_err-body-clause-unfinished
returns-in_err-body-clause-unfinished g c = λ is bytes held.
    let exit = err_from_is_err_and c.from_residual-in_err-body.result c.from_residual-in_err-body.ensures.1 in
    let P : List ℕ → Type 0 = λ ahead. Holds (g.S.Source.left c.args.source.now) ahead bytes in
    let head = c.in_ok-head.ensures.found bytes (subst P (sym c.new-ahead.ensures.bytes) held) in
    let failed = reader_is c.from_residual-in_err-body.result c.in_err-body.field-0.0 (exit.1 ∙ ap Err exit.2) is in
    let came = c.in_err-body.ensures.unfinished failed head.0 head.2 in (
      _,
      came_behind _ bytes (print_request head.1.0) head.0 came.0 head.1.1.reads.1 came.1,
      no_body_is_no_request bytes head.0 came.0 (head_parts c.in_ok-head.head) head.1 came.2,
    )
