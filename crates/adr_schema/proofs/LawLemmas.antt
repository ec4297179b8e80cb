-- What a reading that went well says of what it read.
use Rattle.std.proofs.Common.{◌≡◌, ℕ, suc, ◌+◌, Bool, true, false, cond, ℤ, List, [], ◌∷◌, ◌++◌, map, length, codes, Option, Some, None, Result, Ok, Err, refl, sym, ap, subst, ◌∙◌, true≢false, arith}
use Rattle.std.specs.Prelude.{All, IfSome, option_and_then, unwrap_or, count_by, is_err}
use Rattle.std.specs.List.{AllByRecursion, filter_map, cons_option}
use Rattle.std.specs.Result.{result_ok}
use Rattle.std.specs.Ordering.{int_eq}
use Rattle.std.specs.Cmp.{signed_Decides}
use Rattle.std.proofs.lemmas.Bool.{and_parts, not-true, or_right}
use Rattle.std.proofs.lemmas.Option.{same_Some}
use Rattle.std.proofs.lemmas.List.Elements.{All-from_recursion}
use Rattle.std.proofs.lemmas.List.Folds.{list_any-append}
use Rattle.std.proofs.lemmas.List.Sums.{sum_by-cons}
use Rattle.serde_json.specs.Data.{Data}
use Rattle.adr_text.specs.Refusals.{◌>>=◌}
use Rattle.adr_text.specs.Faults.{as_refusal}
use Rattle.adr_text.specs.Fields.{member_of, objects_in, value_in, whole_of, required, optional, each, whole_from, id_in, name_in, i32_in}
use Rattle.adr_text.specs.declared.number.Whole.{Whole}
use Rattle.adr_text.specs.declared.fault.Fault.{Fault}
use Rattle.adr_text.specs.declared.fault.Fault.TheVariants.{OutOfRange, Repeated, BadShape}
use Rattle.adr_objects.specs.declared.kind.Kind.{Kind}
use Rattle.adr_objects.specs.declared.interval.Interval.{Interval}
use Rattle.adr_objects.specs.declared.interval.Period.{Period}
use Rattle.adr_objects.specs.declared.body.EventBody.{EventBody}
use Rattle.adr_objects.specs.declared.body.Found.{Found}
use Rattle.adr_objects.specs.declared.report.UsageInterval.{UsageInterval}
use Rattle.adr_objects.specs.declared.site.ReportIn.{ReportIn}
use Rattle.adr_objects.specs.Limits.{is_setpoint, setpoint_at}
use Rattle.adr_objects.specs.Intervals.{has_id, differ_after, differ, apart}
use Rattle.adr_objects.specs.Fields.{text_in, priority_in, period_in, setpoint_in}
use Rattle.adr_objects.specs.ReadBack.{as_bad_shape}
use Rattle.adr_schema.specs.declared.posted.PostedInterval.{PostedInterval}
use Rattle.adr_schema.specs.declared.posted.PostedReport.{PostedReport}
use Rattle.adr_schema.specs.Bytes.{bytes_as}
use Rattle.adr_schema.specs.Events.{only_value, payloads_in, targets_in, fresh_id, interval_in, intervals_from, intervals_in, event_in}
use Rattle.adr_schema.specs.Pages.{found_in, founds, skipped}
use Rattle.adr_schema.specs.Reports.{posted_interval_in, posted_intervals_in, resource_of_report, posted_report_in, usage_at, usage_interval, usage_intervals, report_from, report_of}
use Rattle.adr_schema.proofs.Reading.{differ-same_ids}
use Rattle.adr_schema.specs.Laws.{IsSmall, HaveOwnIds}

-- ---- a chain that went well: each of its parts did

behind : {A B E P : Type 0} (r : Result A E) (f : A → Result B E) (y : B) → ((x : A) → r ≡ Ok x → f x ≡ Ok y → P) → (r >>= f) ≡ Ok y → P
behind (Ok x) f y then h = then x refl h
behind (Err e) f y then h = absurd (cc)

-- what holds of the one value holds of the other
holds_of : {A : Type 0} (P : A → Type 0) {x y : A} → ◌≡◌ {A = Result A Fault} (Ok x) (Ok y) → P x → P y
holds_of P {x = x} {y = y} same h = subst P (same_Some x y (ap result_ok same)) h

-- what holds of each value that is read holds of one that may be absent
optional_holds : {A : Type 0} (P : A → Type 0) (o : Option Data) (f : Data → Result A Fault) (r : Option A) → ((d : Data) (x : A) → f d ≡ Ok x → P x) → optional o f ≡ Ok r → IfSome r P
optional_holds P None f r h e = holds_of (λ o. IfSome o P) e tt
optional_holds P (Some d) f r h e = behind (f d) _ r (λ x was same. holds_of (λ o. IfSome o P) same (h d x was)) e

required_holds : {A : Type 0} (P : A → Type 0) (o : Option Data) (f : Data → Result A Fault) (x : A) → ((d : Data) (x : A) → f d ≡ Ok x → P x) → required o f ≡ Ok x → P x
required_holds P None f x h e = absurd (cc)
required_holds P (Some d) f x h e = h d x e

-- ---- numbers

small_at : (z s : ℤ) (b : Bool) → is_setpoint z ≡ b → cond b (Ok z) (Err OutOfRange) ≡ Ok s → is_setpoint s ≡ true
small_at z s true is h = let same : z ≡ s = cc in rw same at is
small_at z s false is h = absurd (cc)

whole_small : (w : Whole) (s : ℤ) → (whole_from w >>= setpoint_at) ≡ Ok s → is_setpoint s ≡ true
whole_small w s h = behind (whole_from w) setpoint_at s (λ z _. small_at z s _ refl) h

setpoint_small : (d : Data) (s : ℤ) → setpoint_in d ≡ Ok s → is_setpoint s ≡ true
unfolding setpoint_in
setpoint_small d s h = whole_small (whole_of d) s h

usage_small : (o : Option Whole) (u : Option ℤ) → usage_at o ≡ Ok u → IsSmall u
usage_small None u h = holds_of IsSmall h tt
usage_small (Some w) u h = behind (whole_from w >>= setpoint_at) _ u (λ s was same. holds_of IsSmall same (whole_small w s was)) h

payloads_small : (d : Data) (o : Option ℤ) → payloads_in d ≡ Ok o → IsSmall o
unfolding payloads_in
payloads_small d o h =
    behind (only_value (codes "DISPATCH_SETPOINT") d) _ o (λ value _. optional_holds (λ s. is_setpoint s ≡ true) value setpoint_in o setpoint_small) h

-- ---- an interval

carried_small : (o : Option (Option ℤ)) → IfSome o IsSmall → IsSmall (option_and_then (λ s. s) o)
carried_small None h = tt
carried_small (Some s) h = h

fresh_at : (id : ℤ) (before : List Interval) (b : Bool) (n : ℤ) → has_id (λ (i : Interval). i.id) id before ≡ b → cond b (Err Repeated) (Ok id) ≡ Ok n → has_id (λ (i : Interval). i.id) n before ≡ false
fresh_at id before true n is h = absurd (cc)
fresh_at id before false n is h = let same : id ≡ n = cc in rw same at is

pub record IsNext (before : List Interval) (i : Interval) : Type 0 where
  pub small : IsSmall i.setpoint
  pub fresh : has_id (λ i. i.id) i.id before ≡ false

next : {before : List Interval} (id : ℤ) (period : Option Period) (setpoint : Option ℤ) → IsSmall setpoint → has_id (λ (i : Interval). i.id) id before ≡ false → IsNext before (record { id = id; period = period; setpoint = setpoint })
next id period setpoint small fresh = record { small = small; fresh = fresh }

interval_next : (before : List Interval) (d : Data) (i : Interval) → interval_in before d ≡ Ok i → IsNext before i
unfolding interval_in
interval_next before d i =
    behind (fresh_id before d) _ i
    (λ id was. behind (optional (member_of (codes "intervalPeriod") d) period_in) _ i
    (λ period _. behind (optional (member_of (codes "payloads") d) payloads_in) _ i
    (λ payloads said same. holds_of (IsNext before) same
    (next id period (option_and_then (λ s. s) payloads) (carried_small payloads (optional_holds IsSmall (member_of (codes "payloads") d) payloads_in payloads payloads_small said))
    (behind (required (member_of (codes "id") d) i32_in) _ id (λ n _. fresh_at n before _ id refl) was)))))

-- ---- the intervals

pub record AreRead (before is : List Interval) : Type 0 where
  pub small : AllByRecursion (λ i. IsSmall i.setpoint) is
  pub apart : differ_after (λ i. i.id) before is ≡ true

one_before : (before : List Interval) (i : Interval) (is : List Interval) → IsNext before i → AreRead (before ++ i ∷ []) is → AreRead before (i ∷ is)
one_before before i is next later = record { small = (next.small, later.small); apart = rw (next.fresh, later.apart) refl }

none_read : (before : List Interval) → AreRead before []
none_read before = record { small = tt; apart = refl }

from_read : (before : List Interval) (ds : List Data) (is : List Interval) → intervals_from before ds ≡ Ok is → AreRead before is
from_read before [] is h = holds_of (AreRead before) h (none_read before)
from_read before (d ∷ ds) is h =
    behind (interval_in before d) _ is
    (λ i was. behind (intervals_from (before ++ i ∷ []) ds) _ is
    (λ more read same. holds_of (AreRead before) same (one_before before i more (interval_next before d i was) (from_read (before ++ i ∷ []) ds more read)))) h

all_at : (ds : List Data) (b : Bool) (is : List Interval) → cond b (intervals_from [] ds) (Err BadShape) ≡ Ok is → AreRead [] is
all_at ds true is h = from_read [] ds is h
all_at ds false is h = absurd (cc)

intervals_read : (d : Data) (is : List Interval) → intervals_in d ≡ Ok is → AreRead [] is
unfolding intervals_in
intervals_read d is h = behind (objects_in d) _ is (λ ds _. all_at ds _ is) h

or_none : (o : Option (List Interval)) → IfSome o (AreRead []) → AreRead [] (unwrap_or o [])
or_none None h = none_read []
or_none (Some is) h = h

-- ---- an event

event_read : (d : Data) (e : EventBody) → event_in d ≡ Ok e → AreRead [] e.intervals
unfolding event_in
event_read d e =
    behind (required (member_of (codes "programID") d) id_in) _ e
    (λ program _. behind (optional (member_of (codes "eventName") d) (text_in 256)) _ e
    (λ name _. behind (optional (member_of (codes "priority") d) priority_in) _ e
    (λ priority _. behind (optional (member_of (codes "intervalPeriod") d) period_in) _ e
    (λ period _. behind (optional (member_of (codes "targets") d) targets_in) _ e
    (λ targets _. behind (optional (member_of (codes "intervals") d) intervals_in) _ e
    (λ intervals was same. holds_of (λ (e : EventBody). AreRead [] e.intervals) same (or_none intervals (optional_holds (AreRead []) (member_of (codes "intervals") d) intervals_in intervals intervals_read was))))))))

pub setpoints_small : (d : Data) (e : EventBody) → event_in d ≡ Ok e → All (λ i. IsSmall i.setpoint) e.intervals
setpoints_small d e h = All-from_recursion (λ i. IsSmall i.setpoint) e.intervals (event_read d e h).small

-- ---- ids of their own

has_last : {A : Type 0} (id_of : A → ℤ) (x : A) (q : List A) → has_id id_of (id_of x) (q ++ x ∷ []) ≡ true
has_last id_of x [] = rw ((signed_Decides (id_of x) (id_of x)).1 refl) refl
has_last id_of x (y ∷ q) = or_right (int_eq (id_of y) (id_of x)) _ (has_last id_of x q)

has_still : {A : Type 0} (id_of : A → ℤ) (id : ℤ) (q rest : List A) → has_id id_of id q ≡ true → has_id id_of id (q ++ rest) ≡ true
has_still id_of id q rest h = rw (list_any-append (λ x. int_eq (id_of x) id) q rest, h) refl

apart_later : {A : Type 0} (id_of : A → ℤ) (x y : A) (q between after : List A) → has_id id_of (id_of x) q ≡ true → differ_after id_of q (between ++ y ∷ after) ≡ true → id_of x ≡ id_of y → ⊥
apart_later id_of x y q [] after seen apart same =
    true≢false (sym seen ∙ ap (λ (id : ℤ). has_id id_of id q) same ∙ not-true _ (and_parts _ _ apart).0)
apart_later id_of x y q (z ∷ between) after seen apart same =
    apart_later id_of x y (q ++ z ∷ []) between after (has_still id_of (id_of x) q (z ∷ []) seen) (and_parts _ _ apart).1 same

apart_from : {A : Type 0} (id_of : A → ℤ) (x y : A) (q before between after : List A) → differ_after id_of q (before ++ x ∷ (between ++ y ∷ after)) ≡ true → id_of x ≡ id_of y → ⊥
apart_from id_of x y q [] between after apart same =
    apart_later id_of x y (q ++ x ∷ []) between after (has_last id_of x q) (and_parts _ _ apart).1 same
apart_from id_of x y q (z ∷ before) between after apart same =
    apart_from id_of x y (q ++ z ∷ []) before between after (and_parts _ _ apart).1 same

have_own_ids : {A : Type 0} (id_of : A → ℤ) (items : List A) → differ id_of items ≡ true → HaveOwnIds id_of items
have_own_ids id_of items apart before between after x y is same = apart_from id_of x y [] before between after (rw is at apart) same

pub intervals_differ : (d : Data) (e : EventBody) → event_in d ≡ Ok e → HaveOwnIds (λ i. i.id) e.intervals
intervals_differ d e h = have_own_ids (λ i. i.id) e.intervals (event_read d e h).apart

-- ---- the intervals of a report

pub record IsStated (p : PostedInterval) (i : UsageInterval) : Type 0 where
  pub small : IsSmall i.usage
  pub id : i.id ≡ p.id

interval_stated : (p : PostedInterval) (i : UsageInterval) → usage_interval p ≡ Ok i → IsStated p i
interval_stated p i h = behind (usage_at p.usage) _ i (λ usage was same. holds_of (IsStated p) same (stated usage (usage_small p.usage usage was))) h
  where
    stated : (usage : Option ℤ) → IsSmall usage → IsStated p (record { id = p.id; usage = usage })
    stated usage small = record { small = small; id = refl }

pub record AreStated (ps : List PostedInterval) (is : List UsageInterval) : Type 0 where
  pub small : AllByRecursion (λ i. IsSmall i.usage) is
  pub ids : map (λ (i : UsageInterval). i.id) is ≡ map (λ (p : PostedInterval). p.id) ps

one_stated : (p : PostedInterval) (ps : List PostedInterval) (i : UsageInterval) (is : List UsageInterval) → IsStated p i → AreStated ps is → AreStated (p ∷ ps) (i ∷ is)
one_stated p ps i is one more = record { small = (one.small, more.small); ids = rw (one.id, more.ids) refl }

none_stated : AreStated [] []
none_stated = record { small = tt; ids = refl }

all_stated : (ps : List PostedInterval) (is : List UsageInterval) → usage_intervals ps ≡ Ok is → AreStated ps is
all_stated [] is h = holds_of (AreStated []) h none_stated
all_stated (p ∷ ps) is h =
    behind (usage_interval p) _ is
    (λ i was. behind (usage_intervals ps) _ is
    (λ more stated same. holds_of (AreStated (p ∷ ps)) same (one_stated p ps i more (interval_stated p i was) (all_stated ps more stated)))) h

apart_at : (ps qs : List PostedInterval) (b : Bool) → differ (λ i. i.id) ps ≡ b → cond b (Ok ps) (Err Repeated) ≡ Ok qs → differ (λ i. i.id) qs ≡ true
apart_at ps qs true is h = let same : ps ≡ qs = cc in rw same at is
apart_at ps qs false is h = absurd (cc)

few_apart : (ds : List Data) (b : Bool) (ps : List PostedInterval) → cond b (each posted_interval_in ds >>= apart (λ i. i.id)) (Err BadShape) ≡ Ok ps → differ (λ i. i.id) ps ≡ true
few_apart ds true ps h = behind (each posted_interval_in ds) _ ps (λ read _. apart_at read ps _ refl) h
few_apart ds false ps h = absurd (cc)

posted_apart : (d : Data) (ps : List PostedInterval) → posted_intervals_in d ≡ Ok ps → differ (λ i. i.id) ps ≡ true
unfolding posted_intervals_in
posted_apart d ps h = behind (objects_in d) _ ps (λ ds _. few_apart ds _ ps) h

-- ---- a report

posted_report_apart : (d : Data) (p : PostedReport) → posted_report_in d ≡ Ok p → differ (λ i. i.id) p.intervals ≡ true
unfolding posted_report_in
posted_report_apart d p =
    behind (required (member_of (codes "programID") d) id_in) _ p
    (λ program _. behind (required (member_of (codes "eventID") d) id_in) _ p
    (λ event _. behind (required (member_of (codes "clientName") d) name_in) _ p
    (λ client _. behind (optional (member_of (codes "reportName") d) (text_in 256)) _ p
    (λ name _. behind (resource_of_report d) _ p
    (λ resource _. behind (required (member_of (codes "resourceName") resource) name_in) _ p
    (λ resource_name _. behind (required (member_of (codes "intervals") resource) posted_intervals_in) _ p
    (λ intervals was same. holds_of (λ (p : PostedReport). differ (λ i. i.id) p.intervals ≡ true) same (required_holds (λ ps. differ (λ i. i.id) ps ≡ true) (member_of (codes "intervals") resource) posted_intervals_in intervals posted_apart was))))))))

shape_read : {A : Type 0} (r : Result A Fault) (x : A) → as_bad_shape r ≡ Ok x → r ≡ Ok x
shape_read (Ok y) x h = let same : y ≡ x = cc in rw same refl
shape_read (Err e) x h = absurd (cc)

numbers_read : {A : Type 0} (r : Result A Fault) (x : A) → as_refusal r ≡ Ok x → r ≡ Ok x
numbers_read (Ok y) x h = let same : y ≡ x = cc in rw same refl
numbers_read (Err e) x h = absurd (cc)

pub record IsReported (r : ReportIn) : Type 0 where
  pub small : AllByRecursion (λ i. IsSmall i.usage) r.intervals
  pub apart : differ (λ i. i.id) r.intervals ≡ true

abbrev with_numbers : PostedReport → List UsageInterval → ReportIn
with_numbers p is = record { program = p.program; event = p.event; client = p.client; name = p.name; resource_name = p.resource_name; intervals = is }

numbers_reported : (p : PostedReport) (r : ReportIn) → differ (λ i. i.id) p.intervals ≡ true → report_from p ≡ Ok r → IsReported r
numbers_reported p r apart h =
    behind (usage_intervals p.intervals) _ r (λ is was same. holds_of IsReported same (reported p is apart (all_stated p.intervals is was))) h
  where
    reported : (p : PostedReport) (is : List UsageInterval) → differ (λ i. i.id) p.intervals ≡ true → AreStated p.intervals is → IsReported (with_numbers p is)
    reported p is apart all = record { small = all.small; apart = differ-same_ids (λ i. i.id) (λ i. i.id) is p.intervals all.ids apart }

report_read : (bytes : List ℕ) (r : ReportIn) → report_of bytes ≡ Ok r → IsReported r
unfolding report_of
report_read bytes r h =
    behind (as_bad_shape (bytes_as posted_report_in bytes)) _ r
    (λ posted was numbers. behind (value_in bytes) posted_report_in posted
    (λ d _ shape. numbers_reported posted r (posted_report_apart d posted shape) (numbers_read (report_from posted) r numbers))
    (shape_read (bytes_as posted_report_in bytes) posted was)) h

pub usage_is_small : (bytes : List ℕ) (r : ReportIn) → report_of bytes ≡ Ok r → All (λ i. IsSmall i.usage) r.intervals
usage_is_small bytes r h = All-from_recursion (λ i. IsSmall i.usage) r.intervals (report_read bytes r h).small

pub usage_intervals_differ : (bytes : List ℕ) (r : ReportIn) → report_of bytes ≡ Ok r → HaveOwnIds (λ i. i.id) r.intervals
usage_intervals_differ bytes r h = have_own_ids (λ i. i.id) r.intervals (report_read bytes r h).apart

-- ---- pages

one_more : (r : Result Found Fault) (fs : List Found) (n m : ℕ) → length fs + n ≡ m → length (cons_option (result_ok r) fs) + (cond (is_err r) 1 0 + n) ≡ suc m
one_more (Ok f) fs n m h = omega arith
one_more (Err e) fs n m h = omega arith

adds_up : (f : Data → Result Found Fault) (ds : List Data) → length (filter_map (λ d. result_ok (f d)) ds) + count_by (λ d. is_err (f d)) ds ≡ length ds
adds_up f [] = refl
adds_up f (d ∷ ds) =
    rw (sum_by-cons (λ d. cond (is_err (f d)) 1 0) d ds)
    (one_more (f d) (filter_map (λ d. result_ok (f d)) ds) (count_by (λ d. is_err (f d)) ds) (length ds) (adds_up f ds))

pub pages_add_up : (kind : Kind) (ds : List Data) → length (founds kind ds) + skipped kind ds ≡ length ds
pages_add_up kind ds = adds_up (found_in kind) ds
