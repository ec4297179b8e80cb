use Rattle.std.proofs.Common.{List, [], ◌∷◌, ◌++◌, ap, ap₂, ◌∙◌, append_assoc, append-nil}
use Rattle.json.specs.Token.{Token, string}
use Rattle.json.specs.Print.{print, print_from, quoted}
use Rattle.adr_event_text.proofs.spliced.with_member.Goals as goal

pub returns : goal.returns
unfolding print_from
returns c =
    let before = c.string.ensures.room.0 ∙ c.new-writer.ensures.before ∙ c.in_ok-extend_from_slice.ensures.items in
    let tokens = c.in_ok-string.ensures.ok ∙ ap (λ (ts : List Token). ts ++ string c.args.text.now ∷ []) c.new-writer.ensures.tokens in
    c.into_inner.ensures.items
    ∙ ap₂ (λ all ts. all ++ print ts) before tokens
    ∙ append_assoc c.args.bytes.items c.args.name.now _
    ∙ ap (λ text. c.args.bytes.items ++ (c.args.name.now ++ text)) (append-nil (quoted c.args.text.now))
