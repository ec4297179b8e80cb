use Rattle.adr_link.proofs.HeadLemmas.{no_head_yet}
use Rattle.adr_link.proofs.reply_front.HeadFrontFront.may_end.Goals as goal

pub returns : goal.returns
returns c = λ ended before. no_head_yet c.args.bytes.now c.args.from (c.has_empty_line.ensures ended) before
