use Rattle.std.proofs.Common.{codes, ap, ap₂, ◌∙◌}
use Rattle.adr_shown.specs.Tokens.{text_behind, maybe_text_behind}
use Rattle.adr_shown.proofs.tokens.put_times.Goals as goal

pub returns-clause-has : goal.returns-clause-has
returns-clause-has c =
    let first = c.in_ok-put_maybe_text.ensures.has in
    let second = c.in_ok-put_maybe_text-2.ensures.has in
    let third = c.in_ok-put_text.ensures in (
      third.0 ∙ second.0 ∙ first.0,
      third.1 ∙ ap₂ (λ text ts. text_behind (codes "start") text ts) c.as_str.ensures.text (second.1 ∙ ap (maybe_text_behind (codes "randomizeStart") c.args.period.now.randomize_start) first.1),
    )
