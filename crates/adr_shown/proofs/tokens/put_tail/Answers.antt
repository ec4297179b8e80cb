use Rattle.std.proofs.Common.{codes, ap, ap₂, ◌∙◌}
use Rattle.adr_shown.specs.Tokens.{text_behind, priority_behind, targets_behind}
use Rattle.adr_shown.proofs.tokens.put_tail.Goals as goal

pub returns-clause-has : goal.returns-clause-has
returns-clause-has c =
    let e = c.args.event.now in
    let first = c.in_ok-put_text.ensures in
    let second = c.in_ok-put_priority.ensures.has in
    let third = c.in_ok-put_text-2.ensures in
    let last = c.in_ok-put_targets.ensures.has in (
      last.0 ∙ third.0 ∙ second.0 ∙ first.0,
      last.1 ∙ ap (targets_behind e.ven_name e.resource_name) (third.1 ∙ ap₂ (λ text ts. text_behind (codes "programID") text ts) c.as_str.ensures.text (second.1 ∙ ap (priority_behind e.priority) first.1)),
    )
