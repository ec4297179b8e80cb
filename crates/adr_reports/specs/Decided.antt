-- What a call makes of the reports that the tables keep, where what is decided looks at the mirror too.
use Rattle.std.specs.Prelude.{◌≡◌, ℕ, List, Option, ◌&&◌, option_and_then, Result, Ok, Err, IfOk, if◌then◌else◌}
use Rattle.std.specs.Ordering.{nat_cmp}
use Rattle.sqlite.specs.Store.{Ghosts}
use Rattle.sqlite.specs.Held.{Held, state}
use Rattle.sqlite.specs.State.{HasCleanDisk}
use Rattle.adr_text.specs.Refusals.{◌>>=◌, or_else}
use Rattle.adr_text.specs.declared.refusal.Refusal.{Refusal}
use Rattle.adr_text.specs.declared.refusal.Refusal.TheVariants.{NotFound, Forbidden, ResourceNotOfEvent}
use Rattle.adr_objects.specs.declared.site.ReportIn.{ReportIn}
use Rattle.adr_state.specs.declared.base.Mark.{Mark}
use Rattle.adr_state.specs.declared.keys.MirrorKey.{MirrorKey}
use Rattle.adr_state.specs.declared.portfolio.Portfolio.{Portfolio}
use Rattle.adr_state.specs.declared.portfolio.Resource.{Resource}
use Rattle.adr_state.specs.declared.portfolio.Report.{Report}
use Rattle.adr_state.specs.Keys.{at}
use Rattle.adr_state.specs.Portfolios.{PortfolioChange, DropReport}
use Rattle.adr_view.specs.declared.report.Reported.{Reported}
use Rattle.adr_view.specs.declared.sight.Sight.{Sight}
use Rattle.adr_view.specs.Reports.{fits, kept_report, report_on, putting_report, sees_resource, may_report}
use Rattle.adr_db.specs.Kept.{Kept, Keeps}

-- the shown event that was found is the one that a report is on, where the report fits it: 6 where none was found, and 11 where it does not fit
abbrev pub fitting : Option Reported → ReportIn → Result Reported Refusal
fitting found report = or_else NotFound found >>= λ on. if fits on report then Ok on else Err ResourceNotOfEvent

-- the resource that a report that was found is on, where both are there
abbrev pub resource_of : Option (ℕ × Report) → Portfolio → Option Resource
resource_of found p = option_and_then (λ r. at nat_cmp r.1.body.head.resource p.resources) found

-- a report is put in the place of that of a number
abbrev pub put_again : ℕ → ℕ → ReportIn → List (MirrorKey × Mark) → Portfolio → Result ((ℕ × Report) × PortfolioChange) Refusal
put_again revision n report mirror p = report_on report mirror p >>= λ on. Ok (putting_report n (kept_report revision on report))

-- a report is put in the place of one that was found, by who sees this much
abbrev pub replaced : Sight → ℕ → Option (ℕ × Report) → ReportIn → List (MirrorKey × Mark) → Portfolio → Result ((ℕ × Report) × PortfolioChange) Refusal
replaced sight revision found report mirror p =
    if sees_resource sight (resource_of found p) && may_report sight report p then (or_else NotFound found >>= λ old. put_again revision old.0 report mirror p) else Err Forbidden

-- a report that was found goes, and is answered
abbrev pub removed : Option (ℕ × Report) → Portfolio → Result ((ℕ × Report) × PortfolioChange) Refusal
removed found p = or_else NotFound found >>= λ old. Ok (old, DropReport old.0)

module _ {S : Type 0} (g : Ghosts S) (old new : Held S) where
  -- after Ok, the answer is what is decided of what the tables kept, and they keep it still
  abbrev pub FindsOr : {A E : Type 0} → (Kept → Result A Refusal) → Result A E → Type 0
  FindsOr decide result = HasCleanDisk (state g new) → IfOk result (λ x. (kept : Kept) → Keeps kept (state g old) → (decide kept ≡ Ok x) × Keeps kept (state g new))
