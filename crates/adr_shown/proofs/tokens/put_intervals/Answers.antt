use Rattle.std.proofs.Common.{List, [], ◌∷◌, ◌++◌, ap, ap₂, ◌∙◌}
use Rattle.json.specs.Token.{Token, begin_array, end_array}
use Rattle.adr_shown.specs.Tokens.{intervals_behind}
use Rattle.adr_shown.proofs.tokens.put_intervals.Goals as goal

pub returns-clause-has : goal.returns-clause-has
returns-clause-has c =
    let opened = c.in_ok-begin_array.ensures.ok ∙ ap (λ (ts : List Token). ts ++ begin_array ∷ []) c.in_ok-key.ensures.ok in
    let listed = c.in_ok-put_all.ensures.has.1 ∙ ap₂ intervals_behind c.as_slice.ensures opened in (
      c.in_ok-end_array.ensures.room.0 ∙ c.in_ok-put_all.ensures.has.0 ∙ c.in_ok-begin_array.ensures.room.0 ∙ c.in_ok-key.ensures.room.0,
      c.in_ok-end_array.ensures.ok ∙ ap (λ (ts : List Token). ts ++ end_array ∷ []) listed,
    )
