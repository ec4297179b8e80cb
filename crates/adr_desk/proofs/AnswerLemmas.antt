-- What comes of a command is answered, or refused as is listed for it.
use Rattle.std.proofs.Common.{ℕ, Contains, Option, Some, None, Result, Ok, Err, IfOk, IfErr}
use Rattle.adr_text.specs.declared.refusal.Refusal.{Refusal}
use Rattle.adr_text.specs.declared.refusal.Refusal.TheVariants.{NotFound}
use Rattle.adr_state.specs.declared.keys.ViewKey.TheVariants as key
use Rattle.adr_state.specs.declared.portfolio.Report.{Report}
use Rattle.adr_view.specs.declared.view.Content.TheVariants as content
use Rattle.adr_queries.specs.declared.answer.Object.{Object}
use Rattle.adr_machine.specs.declared.command.Command.{Command}
use Rattle.adr_machine.specs.declared.outcome.Outcome.{Outcome}
use Rattle.adr_machine.specs.Edits.{told_by, report_kept, report_gone}
use Rattle.adr_machine.specs.Listed.{listed}
use Rattle.adr_queries.specs.Shown.{object_at, told}
use Rattle.adr_touched.specs.declared.touched.Touched.{Touched}
use Rattle.adr_desk.specs.Decisions.{IsAnswered, with_touched}

-- along with what was touched
pub along_answered : {A : Type 0} (c : Command) (comes : A → Outcome) → ((x : A) → IsAnswered c (comes x)) → (touched : Touched) (r : Result A Refusal) → IfOk (told_by (with_touched touched) (told_by comes r)) (λ r. IsAnswered c r.0)
along_answered c comes each touched (Ok x) = each x
along_answered c comes each touched (Err e) = tt

-- a report that lacks stamps counts as not there
module _ (c : Command) (missing : Contains (listed c) NotFound) where
  pub told_so : (o : Option Object) → IfErr (told o) (Contains (listed c))
  told_so None = missing
  told_so (Some o) = tt

  pub kept_answered : (r : ℕ × Report) → IsAnswered c (report_kept r)
  kept_answered r before after = told_so (object_at after.1 (key.Report r.0, content.Report r.1.body))

  pub gone_answered : (r : ℕ × Report) → IsAnswered c (report_gone r)
  gone_answered r before after = told_so (object_at before (key.Report r.0, content.Report r.1.body))
