use Rattle.std.proofs.Common.{◌∙◌}
use Rattle.adr_reply.proofs.RenderedPieces.{started}
use Rattle.adr_reply.proofs.fields.put_start.Goals as goal

pub returns : goal.returns
returns c =
    started _ _ _ _ _ _ _ _ _ _ _ _ _ c.in_ok-extend_from_slice.ensures.items c.in_ok-extend_from_slice-2.ensures.items c.in_ok-extend_from_slice-3.ensures.items c.in_ok-extend_from_slice-4.ensures.items c.in_ok-extend_from_slice-5.ensures.items
    (c.as_bytes.ensures.value ∙ c.format.ensures.text) (c.as_bytes-2.ensures.value ∙ c.phrase_of.ensures)
