use Rattle.adr_link.specs.Requests.{request_bytes}
use Rattle.adr_link.proofs.AppendedPieces.{assembled}
use Rattle.adr_link.proofs.message.request_bytes.Goals as goal

pub returns : goal.returns
unfolding request_bytes
returns c = assembled _ _ _ _ _ _ _ _ _ _ _ _ _ _ _ _ _ c.new-out.ensures.items c.in_ok-put_start.ensures c.in_ok-put_host_line.ensures c.in_ok-put_token.ensures c.in_ok-put_line.ensures c.in_ok-put_body_lines.ensures c.in_ok-put_line-2.ensures c.in_ok-extend_from_slice.ensures.items c.in_ok-put_body.ensures
