-- What the laws of what is shown need.
use Rattle.std.proofs.Common.{◌≡◌, ℕ, ℤ, Bool, List, Option, Some, None, refl, ap, ◌∙◌}
use Rattle.std.specs.Prelude.{◌==◌, ◌&&◌, IsSomeAnd}
use Rattle.std.specs.Bool.{Decides}
use Rattle.std.specs.Option.{option_eq}
use Rattle.std.specs.Ordering.{int_eq}
use Rattle.std.specs.Cmp.{signed_Decides, unsigned_Decides}
use Rattle.std.specs.Str.{bytes_eq}
use Rattle.std.proofs.lemmas.Bool.Decides.{Decides-and, Decides-like}
use Rattle.std.proofs.lemmas.Option.{same_Some}
use Rattle.std.proofs.lemmas.Slice.Eq.{bytes_eq-Decides, slice_eq-Decides}
use Rattle.adr_split.specs.FairSplit.{sum_of_parts}
use Rattle.adr_split.specs.Laws.{AreWeights}
use Rattle.adr_split.proofs.FairLemmas.{fair_split_is_fair}
use Rattle.adr_objects.specs.declared.interval.Period.{Period}
use Rattle.adr_objects.specs.declared.report.UsageInterval.{UsageInterval}
use Rattle.adr_objects.specs.declared.report.ReportHead.{ReportHead}
use Rattle.adr_objects.specs.declared.report.ReportBody.{ReportBody}
use Rattle.adr_objects.specs.declared.report.RollupInterval.{RollupInterval}
use Rattle.adr_objects.specs.declared.report.Rollup.{Rollup}
use Rattle.adr_objects.specs.declared.shown.ShownInterval.{ShownInterval}
use Rattle.adr_objects.specs.declared.shown.ShownEvent.{ShownEvent}
use Rattle.adr_view.specs.declared.view.Content.TheVariants as content
use Rattle.adr_view.specs.Same.{is_same_period, is_same_interval, is_same_event, is_same_about, is_same_maker, is_same_usage, is_same_report, is_same_sum, is_same_rollup}
use Rattle.adr_view.specs.Views.{split_interval}
use Rattle.adr_view.specs.Laws.{SameContentsAreEqual, PartsSumUp}

-- ---- parts

parts_at : (weights : List ℕ) (id : ℤ) (period : Option Period) (setpoint : Option ℤ) (v : ℤ) → AreWeights weights → setpoint ≡ Some v
    → IsSomeAnd (split_interval weights (record { id = id; period = period; setpoint = setpoint })).parts (λ parts. sum_of_parts parts ≡ v)
parts_at weights id period None v are h = absurd (cc)
parts_at weights id period (Some u) v are h = let same : u ≡ v = cc in (fair_split_is_fair u weights are).sums_up ∙ same

pub parts_sum : PartsSumUp
parts_sum weights i v are h = parts_at weights i.id i.period i.setpoint v are h

-- ---- events

options_decide : {A : Type 0} (same : A → A → Bool) → ((a b : A) → Decides (same a b) (a ≡ b)) → (a b : Option A) → Decides (option_eq same a b) (a ≡ b)
options_decide same d None None = (λ h. refl, λ h. refl)
options_decide same d None (Some b) = (λ h. absurd (cc), λ h. absurd (cc))
options_decide same d (Some a) None = (λ h. absurd (cc), λ h. absurd (cc))
options_decide same d (Some a) (Some b) = (λ h. ap (λ x. Some x) ((d a b).0 h), λ h. (d a b).1 (same_Some a b h))

periods_decide : (a b : Period) → Decides (is_same_period a b) (a ≡ b)
periods_decide a b =
    Decides-like (is_same_period a b)
    (λ h. λ k. record { start = h.0.0 k; duration = h.0.1 k; randomize_start = h.1 k })
    (λ h. ((ap (λ (p : Period). p.start) h, ap (λ (p : Period). p.duration) h), ap (λ (p : Period). p.randomize_start) h))
    (Decides-and _ _ (Decides-and _ _ (bytes_eq-Decides a.start b.start) (options_decide bytes_eq bytes_eq-Decides a.duration b.duration)) (options_decide bytes_eq bytes_eq-Decides a.randomize_start b.randomize_start))

intervals_decide : (a b : ShownInterval) → Decides (is_same_interval a b) (a ≡ b)
intervals_decide a b =
    Decides-like (is_same_interval a b)
    (λ h. λ k. record { id = h.0.0 k; period = h.0.1 k; part = h.1 k })
    (λ h. ((ap (λ (i : ShownInterval). i.id) h, ap (λ (i : ShownInterval). i.period) h), ap (λ (i : ShownInterval). i.part) h))
    (Decides-and _ _ (Decides-and _ _ (signed_Decides a.id b.id) (options_decide is_same_period periods_decide a.period b.period)) (options_decide int_eq signed_Decides a.part b.part))

events_decide : (a b : ShownEvent) → Decides (is_same_event a b) (a ≡ b)
events_decide a b =
    Decides-like (is_same_event a b)
    (λ h. λ k. record { program = h.0.0.0.0 k; name = h.0.0.0.1 k; priority = h.0.0.1 k; period = h.0.1 k; intervals = h.1.0.0 k; ven_name = h.1.0.1 k; resource_name = h.1.1 k })
    (λ h. (
      (((ap (λ (e : ShownEvent). e.program) h, ap (λ (e : ShownEvent). e.name) h), ap (λ (e : ShownEvent). e.priority) h), ap (λ (e : ShownEvent). e.period) h),
      ((ap (λ (e : ShownEvent). e.intervals) h, ap (λ (e : ShownEvent). e.ven_name) h), ap (λ (e : ShownEvent). e.resource_name) h),
    ))
    (Decides-and _ _
    (Decides-and _ _
    (Decides-and _ _ (Decides-and _ _ (bytes_eq-Decides a.program b.program) (options_decide bytes_eq bytes_eq-Decides a.name b.name)) (options_decide (λ m n. m == n) unsigned_Decides a.priority b.priority))
    (options_decide is_same_period periods_decide a.period b.period))
    (Decides-and _ _ (Decides-and _ _ (slice_eq-Decides intervals_decide a.intervals b.intervals _ refl) (bytes_eq-Decides a.ven_name b.ven_name)) (bytes_eq-Decides a.resource_name b.resource_name)))

-- ---- reports and roll-ups

usages_decide : (a b : UsageInterval) → Decides (is_same_usage a b) (a ≡ b)
usages_decide a b =
    Decides-like (is_same_usage a b) (λ h. λ k. record { id = h.0 k; usage = h.1 k }) (λ h. (ap (λ (i : UsageInterval). i.id) h, ap (λ (i : UsageInterval). i.usage) h))
    (Decides-and _ _ (signed_Decides a.id b.id) (options_decide int_eq signed_Decides a.usage b.usage))

heads_decide : (a b : ReportHead) → Decides (is_same_about a b && is_same_maker a b) (a ≡ b)
heads_decide a b =
    Decides-like (is_same_about a b && is_same_maker a b)
    (λ h. λ k. record { program = h.0.0.0 k; event = h.0.0.1 k; resource = h.0.1 k; client = h.1.0.0 k; name = h.1.0.1 k; resource_name = h.1.1 k })
    (λ h. (
      ((ap (λ (r : ReportHead). r.program) h, ap (λ (r : ReportHead). r.event) h), ap (λ (r : ReportHead). r.resource) h),
      ((ap (λ (r : ReportHead). r.client) h, ap (λ (r : ReportHead). r.name) h), ap (λ (r : ReportHead). r.resource_name) h),
    ))
    (Decides-and _ _ (Decides-and _ _ (Decides-and _ _ (bytes_eq-Decides a.program b.program) (bytes_eq-Decides a.event b.event)) (unsigned_Decides a.resource b.resource))
    (Decides-and _ _ (Decides-and _ _ (bytes_eq-Decides a.client b.client) (options_decide bytes_eq bytes_eq-Decides a.name b.name)) (bytes_eq-Decides a.resource_name b.resource_name)))

reports_decide : (a b : ReportBody) → Decides (is_same_report a b) (a ≡ b)
reports_decide a b =
    Decides-like (is_same_report a b) (λ h. λ k. record { head = h.0 k; intervals = h.1 k }) (λ h. (ap (λ (r : ReportBody). r.head) h, ap (λ (r : ReportBody). r.intervals) h))
    (Decides-and _ _ (heads_decide a.head b.head) (slice_eq-Decides usages_decide a.intervals b.intervals _ refl))

sums_decide : (a b : RollupInterval) → Decides (is_same_sum a b) (a ≡ b)
sums_decide a b =
    Decides-like (is_same_sum a b) (λ h. λ k. record { id = h.0.0 k; sum = h.0.1 k; missing = h.1 k }) (λ h. ((ap (λ (i : RollupInterval). i.id) h, ap (λ (i : RollupInterval). i.sum) h), ap (λ (i : RollupInterval). i.missing) h))
    (Decides-and _ _ (Decides-and _ _ (signed_Decides a.id b.id) (signed_Decides a.sum b.sum)) (slice_eq-Decides bytes_eq-Decides a.missing b.missing _ refl))

rollups_decide : (a b : Rollup) → Decides (is_same_rollup a b) (a ≡ b)
rollups_decide a b =
    Decides-like (is_same_rollup a b) (λ h. λ k. record { program = h.0 k; intervals = h.1 k }) (λ h. (ap (λ (r : Rollup). r.program) h, ap (λ (r : Rollup). r.intervals) h))
    (Decides-and _ _ (bytes_eq-Decides a.program b.program) (slice_eq-Decides sums_decide a.intervals b.intervals _ refl))

-- ---- contents

pub contents_equal : SameContentsAreEqual
contents_equal (content.Program a) (content.Program b) = Decides-like {P = a ≡ b} (bytes_eq a b) (λ h. ap (λ x. content.Program x) h) (λ h. cc) (bytes_eq-Decides a b)
contents_equal (content.Program a) (content.Event b) = (λ h. absurd (cc), λ h. absurd (cc))
contents_equal (content.Program a) (content.Report b) = (λ h. absurd (cc), λ h. absurd (cc))
contents_equal (content.Program a) (content.Rollup b) = (λ h. absurd (cc), λ h. absurd (cc))
contents_equal (content.Event a) (content.Program b) = (λ h. absurd (cc), λ h. absurd (cc))
contents_equal (content.Event a) (content.Event b) = Decides-like {P = a ≡ b} (is_same_event a b) (λ h. ap (λ x. content.Event x) h) (λ h. cc) (events_decide a b)
contents_equal (content.Event a) (content.Report b) = (λ h. absurd (cc), λ h. absurd (cc))
contents_equal (content.Event a) (content.Rollup b) = (λ h. absurd (cc), λ h. absurd (cc))
contents_equal (content.Report a) (content.Program b) = (λ h. absurd (cc), λ h. absurd (cc))
contents_equal (content.Report a) (content.Event b) = (λ h. absurd (cc), λ h. absurd (cc))
contents_equal (content.Report a) (content.Report b) = Decides-like {P = a ≡ b} (is_same_report a b) (λ h. ap (λ x. content.Report x) h) (λ h. cc) (reports_decide a b)
contents_equal (content.Report a) (content.Rollup b) = (λ h. absurd (cc), λ h. absurd (cc))
contents_equal (content.Rollup a) (content.Program b) = (λ h. absurd (cc), λ h. absurd (cc))
contents_equal (content.Rollup a) (content.Event b) = (λ h. absurd (cc), λ h. absurd (cc))
contents_equal (content.Rollup a) (content.Report b) = (λ h. absurd (cc), λ h. absurd (cc))
contents_equal (content.Rollup a) (content.Rollup b) = Decides-like {P = a ≡ b} (is_same_rollup a b) (λ h. ap (λ x. content.Rollup x) h) (λ h. cc) (rollups_decide a b)
