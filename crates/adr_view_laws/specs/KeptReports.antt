-- Which reports stay as they are.
use Rattle.std.specs.Prelude.{◌≡◌, ℕ, List, [], ◌∷◌, ◌++◌, Some, IsSome}
use Rattle.std.specs.Ordering.{nat_cmp}
use Rattle.adr_state.specs.declared.limits.Settings.{Settings}
use Rattle.adr_state.specs.declared.portfolio.Report.{Report}
use Rattle.adr_state.specs.Keys.{at}
use Rattle.adr_state.specs.Portfolios.{reported_on}
use Rattle.adr_machine.specs.declared.command.Command.{Command}
use Rattle.adr_machine.specs.Named.{NamesReport}
use Rattle.adr_laws.specs.Entries.{reached}
use Rattle.adr_laws.specs.Reported.{reports_after}

-- after a run the resource that a report is on is there
abbrev pub HasItsResource : Settings → List (ℕ × Command) → ℕ × Report → Type 0
HasItsResource settings cs r = IsSome (at nat_cmp (reported_on r) (reached settings cs).base.portfolio.resources)

-- after any run from an empty start and one more command, a report that was there, that the command does not name, and whose resource is there still, is there as it was
abbrev pub ReportsStay : Type 0
ReportsStay = (settings : Settings) (cs : List (ℕ × Command)) (c : ℕ × Command) (n : ℕ) (report : Report) →
    at nat_cmp n (reports_after settings cs) ≡ Some report → (NamesReport c.1 n → ⊥) → HasItsResource settings (cs ++ c ∷ []) (n, report) → at nat_cmp n (reports_after settings (cs ++ c ∷ [])) ≡ Some report
