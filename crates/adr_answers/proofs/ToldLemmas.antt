-- What is told of rows is what is told of all that is kept.
use Rattle.std.proofs.Common.{◌≡◌, ℕ, Bool, true, false, cond, List, Option, Some, None, Result, Ok, Err, refl}
use Rattle.std.specs.Prelude.{not}
use Rattle.adr_text.specs.Refusals.{◌>>=◌}
use Rattle.adr_text.specs.declared.refusal.Refusal.{Refusal}
use Rattle.adr_text.specs.declared.refusal.Refusal.TheVariants.{Forbidden}
use Rattle.adr_objects.specs.declared.report.ReportBody.{ReportBody}
use Rattle.adr_state.specs.declared.base.Base.{Base}
use Rattle.adr_state.specs.declared.portfolio.Resource.{Resource}
use Rattle.adr_state.specs.declared.keys.ViewKey.TheVariants as key
use Rattle.adr_state.specs.declared.state.State.{State}
use Rattle.adr_view.specs.declared.sight.Sight.{Sight}
use Rattle.adr_view.specs.declared.view.Content.TheVariants as content
use Rattle.adr_view.specs.Sights.{sees_ven}
use Rattle.adr_queries.specs.declared.answer.Answer.{Answer}
use Rattle.adr_queries.specs.Listings.{resource_told}
use Rattle.adr_queries.specs.Shown.{object_at, told}
use Rattle.adr_answers.specs.Told.{resource_in_sight, resource_under}

-- a resource is told where it is in sight and under the ven that is named
pub resource_is : (base : Base) (ven : List ℕ) (sight : Sight) (found : Option (ℕ × Resource)) → resource_told base ven sight found ≡ (resource_in_sight sight found >>= resource_under ven base.portfolio)
resource_is base ven sight None = refl
resource_is base ven sight (Some r) = by (sees_ven sight r.1.ven)
  where
    by : (b : Bool) → ◌≡◌ {A = Result Answer Refusal} (cond (not b) (Err Forbidden) (resource_under ven base.portfolio r)) (cond (not b) (Err Forbidden) (Ok r) >>= resource_under ven base.portfolio)
    by true = refl
    by false = refl

-- ---- reports

-- a report, where it is in sight
abbrev pub report_by : State → ℕ → ReportBody → Bool → Result Answer Refusal
report_by s n body sees = cond sees (told (object_at s.stamps (key.Report n, content.Report body))) (Err Forbidden)
