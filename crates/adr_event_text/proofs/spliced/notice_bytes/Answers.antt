use Rattle.std.proofs.Common.{◌++◌, List, ℕ, codes, ap, ap₂, ◌∙◌}
use Rattle.adr_event_text.specs.Pieces.{member_text, notice_text}
use Rattle.adr_event_text.proofs.spliced.notice_bytes.Goals as goal

pub returns : goal.returns
unfolding notice_text
returns c =
    let opened = c.in_ok-extend_from_slice.ensures.items ∙ ap (λ b. b ++ codes "{\"object\":") c.in_ok-bytes.ensures.items in
    let told = c.in_ok-extend_from_slice-2.ensures.items ∙ ap₂ (λ b (event : List ℕ). b ++ event) opened c.as_bytes.ensures.value in
    let kind = c.in_ok-extend_from_slice-3.ensures.items ∙ ap (λ b. b ++ codes ",\"objectType\":\"EVENT\"") told in
    let done = c.in_ok-bytes-2.ensures ∙ ap₂ (λ b word. b ++ member_text (codes ",\"operation\":") word) kind c.word.ensures in
    c.in_ok-extend_from_slice-4.ensures.items ∙ ap (λ b. b ++ codes "}") done
