use Rattle.adr_wire.proofs.LineEnds.{no_trailers_yet}
use Rattle.adr_wire.proofs.trailers.TrailersFront.may_end.Goals as goal

pub returns : goal.returns
returns c = λ ended before. no_trailers_yet c.args.bytes.now c.args.from (c.has_empty_line.ensures ended) before
