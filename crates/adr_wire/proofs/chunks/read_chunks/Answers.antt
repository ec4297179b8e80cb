use Rattle.std.proofs.Common.{rules, ◌≡◌, ◌+◌, ◌<◌, ◌≤◌, ◌++◌, length, [], sym, Ok, Err, ap, ◌∙◌, arith, length-append}
use Rattle.std.proofs.lemmas.Result.{err_from_is_err_and}
use Rattle.adr_wire.proofs.Readings.{passed_on, failed_there}
use Rattle.adr_wire.proofs.Unfinished.{came_behind, no_line_is_no_body, no_trailers_is_no_body, cut_data_is_no_body, next_remains}
use Rattle.adr_wire.proofs.ChunkSteps.{at_no_line, at_no_trailers, at_large, at_bad_data, at_chunk, data_cut, data_read, whole_content}
use Rattle.httparse.specs.Grammar.{print_chunk_line}
use Rattle.adr_wire.specs.Chunks.{last}
use Rattle.adr_wire.specs.declared.end.MessageFault.TheVariants.{TooLarge}
use Rattle.adr_wire.proofs.chunks.read_chunks.Goals as goal

pub returns-in_err-size-clause-reading : goal.returns-in_err-size-clause-reading
returns-in_err-size-clause-reading g c =
    let exit = err_from_is_err_and c.from_residual.result c.from_residual.ensures.1 in
    passed_on (λ v. v.items) _ c.from_residual.result c.in_err-size.field-0.0 (exit.1 ∙ ap Err exit.2) c.in_err-size.ensures.none
    (λ f is bytes held.
    let now = c.chunks.invariant.whole bytes held in
    now.2 (Err f) (at_no_line c.args.limit _ now.0 f is.0 (is.1 now.0 now.1)))

pub returns-then-size-eq0-clause-reading : goal.returns-then-size-eq0-clause-reading
returns-then-size-eq0-clause-reading g c = λ bytes held.
    let now = c.chunks.invariant.whole bytes held in
    let line = c.in_ok-size.ensures.found now.0 now.1 in
    let trailers = c.in_ok-read_trailers.ensures.found line.1 line.4 in
    whole_content c.args.limit 0 bytes c.chunks.content.items
    (now.2 (Ok []) (last _ now.0 line.0 line.1 line.2 (sym line.3 ∙ c.if-size-eq0.true) trailers.0 trailers.1 trailers.2 trailers.3))

pub returns-in_err-read_trailers-clause-reading : goal.returns-in_err-read_trailers-clause-reading
returns-in_err-read_trailers-clause-reading g c =
    let exit = err_from_is_err_and c.from_residual-in_err-read_trailers.result c.from_residual-in_err-read_trailers.ensures.1 in
    passed_on (λ v. v.items) _ _ c.in_err-read_trailers.field-0.0 (exit.1 ∙ ap Err exit.2) c.in_err-read_trailers.ensures.none
    (λ f is bytes held.
    let now = c.chunks.invariant.whole bytes held in
    let line = c.in_ok-size.ensures.found now.0 now.1 in
    now.2 (Err f) (at_no_trailers c.args.limit _ now.0 line.0 line.1 f is.0 line.2 (sym line.3 ∙ c.if-size-eq0.true) (is.1 line.1 line.4)))

pub returns-then-size-room-clause-reading : goal.returns-then-size-room-clause-reading
returns-then-size-room-clause-reading g c = λ bytes held.
    let now = c.chunks.invariant.whole bytes held in
    let line = c.in_ok-size.ensures.found now.0 now.1 in
    now.2 (Err TooLarge) (at_large c.args.limit _ now.0 line.0 line.1 c.in_ok-size.size line.2 line.3 (omega arith))

pub returns-in_err-piece-clause-reading : goal.returns-in_err-piece-clause-reading
returns-in_err-piece-clause-reading g c =
    let exit = err_from_is_err_and c.from_residual-in_err-piece.result c.from_residual-in_err-piece.ensures.1 in
    let some : 0 < c.in_ok-size.size = omega arith in
    let fits : length c.chunks.content.items + c.in_ok-size.size ≤ c.args.limit = omega arith in
    passed_on (λ v. v.items) _ _ c.in_err-piece.field-0.0 (exit.1 ∙ ap Err exit.2) c.in_err-piece.ensures.reading
    (λ f is bytes held.
    let now = c.chunks.invariant.whole bytes held in
    let line = c.in_ok-size.ensures.found now.0 now.1 in
    now.2 (Err f) (at_bad_data c.args.limit _ now.0 line.0 line.1 c.in_ok-size.size f line.2 line.3 some fits (data_cut c.in_ok-size.size line.1 f (is line.1 line.4))))

pub returns-in_err-piece-2-clause-reading : goal.returns-in_err-piece-2-clause-reading
returns-in_err-piece-2-clause-reading g c =
    let exit = err_from_is_err_and c.from_residual-in_err-piece-2.result c.from_residual-in_err-piece-2.ensures.1 in
    let some : 0 < c.in_ok-size.size = omega arith in
    let fits : length c.chunks.content.items + c.in_ok-size.size ≤ c.args.limit = omega arith in
    passed_on (λ v. v.items) _ _ c.in_err-piece-2.field-0.0 (exit.1 ∙ ap Err exit.2) c.in_err-piece-2.ensures.reading
    (λ f is bytes held.
    let now = c.chunks.invariant.whole bytes held in
    let line = c.in_ok-size.ensures.found now.0 now.1 in
    now.2 (Err f) (at_bad_data c.args.limit _ now.0 line.0 line.1 c.in_ok-size.size f line.2 line.3 some fits
    (data_read c.in_ok-size.size line.1 c.in_ok-piece.piece.items (Err f) (c.in_ok-piece.ensures.reading line.1 line.4) is)))

pub chunks-preserved : goal.chunks-preserved
chunks-preserved g c =
    let some : 0 < c.in_ok-size.size = omega arith in
    let fits : length c.chunks.content.items + c.in_ok-size.size ≤ c.args.limit = omega arith in
    let piece = c.in_ok-piece-2.piece.items in
    let new = c.extend_from_slice.new.self.items in
    let grown : new ≡ c.chunks.content.items ++ piece = search rules in
    let long : length piece ≡ c.in_ok-size.size = c.in_ok-piece-2.ensures.long in
    let longer : length new ≡ length c.chunks.content.items + c.in_ok-size.size = ap length grown ∙ length-append c.chunks.content.items piece ∙ ap (λ n. length c.chunks.content.items + n) long in
    record {
      whole = λ bytes held.
          let now = c.chunks.invariant.whole bytes held in
          let line = c.in_ok-size.ensures.found now.0 now.1 in
          let data_is = data_read c.in_ok-size.size line.1 c.in_ok-piece.piece.items (Ok piece) (c.in_ok-piece.ensures.reading line.1 line.4) c.in_ok-piece-2.ensures.reading in (
            _,
            c.in_ok-piece.ensures.after line.1 line.4,
            at_chunk c.args.limit bytes now.0 line.0 line.1 c.chunks.content.items piece c.in_ok-size.size 0 new line.2 line.3 some fits data_is long grown longer now.2,
          );
      remains = λ bytes held.
          let now = c.chunks.invariant.remains bytes held in
          let line = c.in_ok-size.ensures.found now.1 now.3 in
          let next = next_remains c.args.limit bytes now.0 now.1 line.0 line.1 c.chunks.content.items c.in_ok-piece.piece.items new c.in_ok-size.size now.2 line.2 line.3 some fits
          (c.in_ok-piece.ensures.reading line.1 line.4) c.in_ok-piece.ensures.long longer now.4 in
          (_, _, next.0, c.in_ok-piece.ensures.after line.1 line.4, next.1);
      small = omega arith;
      limit = search rules;
      counted = search rules;
    }

-- ---- the reader failed, and what had come was no whole body

pub returns-in_err-size-clause-unfinished : goal.returns-in_err-size-clause-unfinished
returns-in_err-size-clause-unfinished g c = λ failed bytes held.
    let exit = err_from_is_err_and c.from_residual.result c.from_residual.ensures.1 in
    let now = c.chunks.invariant.remains bytes held in
    let came = c.in_err-size.ensures.unfinished (failed_there c.from_residual.result c.in_err-size.field-0.0 (exit.1 ∙ ap Err exit.2) failed) now.1 now.3 in (
      _,
      came_behind _ bytes now.0 now.1 came.0 now.2 came.1,
      λ content is. let rest = now.4 came.0 content is in no_line_is_no_body c.args.limit _ came.0 rest.0 came.2 rest.1,
    )

pub returns-in_err-read_trailers-clause-unfinished : goal.returns-in_err-read_trailers-clause-unfinished
returns-in_err-read_trailers-clause-unfinished g c = λ failed bytes held.
    let exit = err_from_is_err_and c.from_residual-in_err-read_trailers.result c.from_residual-in_err-read_trailers.ensures.1 in
    let now = c.chunks.invariant.remains bytes held in
    let line = c.in_ok-size.ensures.found now.1 now.3 in
    let came = c.in_err-read_trailers.ensures.unfinished (failed_there _ c.in_err-read_trailers.field-0.0 (exit.1 ∙ ap Err exit.2) failed) line.1 line.4 in (
      _,
      came_behind _ bytes now.0 now.1 (print_chunk_line line.0 ++ came.0) now.2 (came_behind _ now.1 (print_chunk_line line.0) line.1 came.0 line.2.reads.1 came.1),
      λ content is.
          let rest = now.4 (print_chunk_line line.0 ++ came.0) content is in
          no_trailers_is_no_body c.args.limit _ now.1 line.0 line.1 came.0 rest.0 line.2 (sym line.3 ∙ c.if-size-eq0.true) c.chunks.invariant.small came.2 rest.1,
    )

pub returns-in_err-piece-clause-unfinished : goal.returns-in_err-piece-clause-unfinished
returns-in_err-piece-clause-unfinished g c = λ failed bytes held.
    let exit = err_from_is_err_and c.from_residual-in_err-piece.result c.from_residual-in_err-piece.ensures.1 in
    let some : 0 < c.in_ok-size.size = omega arith in
    let fits : length c.chunks.content.items + c.in_ok-size.size ≤ c.args.limit = omega arith in
    let now = c.chunks.invariant.remains bytes held in
    let line = c.in_ok-size.ensures.found now.1 now.3 in
    let came = c.in_err-piece.ensures.unfinished (failed_there _ c.in_err-piece.field-0.0 (exit.1 ∙ ap Err exit.2) failed) line.1 line.4 in
    let cut = came.2 in
    let is = line.3 in (
      _,
      came_behind _ bytes now.0 now.1 (print_chunk_line line.0 ++ came.0) now.2 (came_behind _ now.1 (print_chunk_line line.0) line.1 came.0 line.2.reads.1 came.1),
      λ content whole.
          let rest = now.4 (print_chunk_line line.0 ++ came.0) content whole in
          cut_data_is_no_body c.args.limit _ now.1 line.0 line.1 came.0 rest.0 line.2 (omega (arith, is)) (omega (arith, is)) (omega (arith, is)) rest.1,
    )
