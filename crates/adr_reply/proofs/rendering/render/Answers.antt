use Rattle.std.proofs.Common.{rules}
use Rattle.adr_reply.specs.Replies.{reply_bytes}
use Rattle.adr_reply.proofs.RenderedPieces.{assembled}
use Rattle.adr_reply.proofs.rendering.render.Goals as goal

pub returns : goal.returns
unfolding reply_bytes
returns c = assembled _ _ _ _ _ _ _ _ _ _ _ _ _ _ _ _ c.new-out.ensures.items c.in_ok-put_start.ensures c.in_ok-put_line.ensures c.in_ok-put_length.ensures c.in_ok-put_extra.ensures c.in_ok-put_line-2.ensures c.in_ok-extend_from_slice.ensures.items c.in_ok-extend_from_slice-2.ensures.items (search rules) c.as_bytes.ensures.value
