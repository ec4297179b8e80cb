use Rattle.std.proofs.Common.{◌≡◌, Ok, IfOk, sym, subst, ◌∙◌}
use Rattle.adr_view.specs.Reports.{report_post}
use Rattle.adr_machine.specs.Edits.{report_kept, post_decided, carried_out_on}
use Rattle.adr_queries.specs.Roles.{sight_of}
use Rattle.adr_machine.proofs.Outcomes.{told_seen}
use Rattle.adr_machine.proofs.decided.posted.Goals as goal

pub returns-clause-ok : goal.returns-clause-ok
returns-clause-ok c =
    let base = c.args.base.now in
    let after = c.report_post.new.portfolio in
    subst (λ r. IfOk r (λ comes. carried_out_on base (post_decided c.args.limits.now c.args.number c.args.role.now c.args.report.now base) ≡ Ok (comes, record base { portfolio = after }))) (sym c.of_report.ensures)
    (told_seen report_kept base after (λ sight. report_post c.args.limits.now sight c.args.number c.args.report.now c.args.base.now.mirror c.args.base.now.portfolio) (sight_of base c.args.role.now) c.in_ok-sight.sight c.report_post.result (sym c.sight_of.ensures ∙ c.in_ok-sight.was) c.report_post.ensures.ok)
