use Rattle.std.proofs.Common.{◌≡◌, Ok, IfOk, sym, subst, ◌∙◌}
use Rattle.adr_view.specs.Reports.{report_put}
use Rattle.adr_machine.specs.Edits.{report_kept, put_decided, carried_out_on}
use Rattle.adr_queries.specs.Roles.{sight_of}
use Rattle.adr_machine.proofs.Outcomes.{told_seen}
use Rattle.adr_machine.proofs.decided.put_again.Goals as goal

pub returns-clause-ok : goal.returns-clause-ok
returns-clause-ok c =
    let base = c.args.base.now in
    let after = c.report_put.new.portfolio in
    subst (λ r. IfOk r (λ comes. carried_out_on base (put_decided c.args.revision c.args.role.now c.args.id.now c.args.report.now base) ≡ Ok (comes, record base { portfolio = after }))) (sym c.of_report.ensures)
    (told_seen report_kept base after (λ sight. report_put sight c.args.revision c.args.id.now c.args.report.now c.args.base.now.mirror c.args.base.now.portfolio) (sight_of base c.args.role.now) c.in_ok-sight.sight c.report_put.result (sym c.sight_of.ensures ∙ c.in_ok-sight.was) c.report_put.ensures.ok)
