-- What every reading of an event, of a page and of a report keeps.
use Rattle.std.specs.Prelude.{◌≡◌, ◌+◌, ℕ, ℤ, List, ◌∷◌, ◌++◌, length, Option, Ok, All, IfSome, IsTrue}
use Rattle.serde_json.specs.Data.{Data}
use Rattle.adr_objects.specs.declared.kind.Kind.{Kind}
use Rattle.adr_objects.specs.declared.body.EventBody.{EventBody}
use Rattle.adr_objects.specs.declared.site.ReportIn.{ReportIn}
use Rattle.adr_objects.specs.Limits.{is_setpoint}
use Rattle.adr_schema.specs.Events.{event_in}
use Rattle.adr_schema.specs.Pages.{founds, skipped}
use Rattle.adr_schema.specs.Reports.{report_of}

-- a number has a magnitude of at most 10^12, where there is one
abbrev pub IsSmall : Option ℤ → Type 0
IsSmall number = IfSome number (λ amount. IsTrue (is_setpoint amount))

-- no two of them have one id, wherever they stand
abbrev pub HaveOwnIds : {A : Type 0} → (A → ℤ) → List A → Type 0
HaveOwnIds {A} id_of items = (before between after : List A) (x y : A) → items ≡ before ++ x ∷ (between ++ y ∷ after) → id_of x ≡ id_of y → ⊥

-- the setpoints of an event that is read are small: each has a magnitude of at most 10^12
abbrev pub SetpointsAreSmall : Type 0
SetpointsAreSmall = (d : Data) (e : EventBody) → event_in d ≡ Ok e → All (λ i. IsSmall i.setpoint) e.intervals

-- the intervals of an event that is read have ids of their own
abbrev pub IntervalsDiffer : Type 0
IntervalsDiffer = (d : Data) (e : EventBody) → event_in d ≡ Ok e → HaveOwnIds (λ i. i.id) e.intervals

-- the usage in a report that is read is small: each has a magnitude of at most 10^12
abbrev pub UsageIsSmall : Type 0
UsageIsSmall = (bytes : List ℕ) (r : ReportIn) → report_of bytes ≡ Ok r → All (λ i. IsSmall i.usage) r.intervals

-- the intervals of a report that is read have ids of their own
abbrev pub UsageIntervalsDiffer : Type 0
UsageIntervalsDiffer = (bytes : List ℕ) (r : ReportIn) → report_of bytes ≡ Ok r → HaveOwnIds (λ i. i.id) r.intervals

-- each element of a page is a version or is counted
abbrev pub PagesAddUp : Type 0
PagesAddUp = (kind : Kind) (ds : List Data) → length (founds kind ds) + skipped kind ds ≡ length ds
