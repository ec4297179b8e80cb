-- What is written has no float, so its text is `compact_text`.
use Rattle.std.proofs.Common.{◌≡◌, ℕ, suc, Bool, true, cond, ℤ, pos, negsuc, List, [], ◌∷◌, map, codes, Option, Some, None, option_map, false, refl, arith}
use Rattle.std.proofs.lemmas.Bool.{or_from}
use Rattle.serde_json.specs.Data.{Data, string}
use Rattle.serde_json.specs.Written.{has_float}
use Rattle.adr_text.proofs.ObjectLemmas.{IsPlain, FieldIsPlain, object_of_plain, array_of_plain}
use Rattle.adr_text.specs.Objects.{array_of, whole_data}
use Rattle.adr_text.specs.Refusals.{status_of}
use Rattle.adr_text.specs.declared.refusal.Refusal.{Refusal}
use Rattle.adr_objects.specs.declared.shown.ProgramObject.{ProgramObject}
use Rattle.adr_objects.specs.declared.shown.VenObject.{VenObject}
use Rattle.adr_objects.specs.declared.shown.ResourceObject.{ResourceObject}
use Rattle.adr_objects.specs.declared.shown.ShareObject.{ShareObject}
use Rattle.adr_objects.specs.declared.shown.FrozenObject.{FrozenObject}
use Rattle.adr_objects.specs.declared.report.UsageInterval.{UsageInterval}
use Rattle.adr_objects.specs.declared.report.ReportObject.{ReportObject}
use Rattle.adr_objects.specs.declared.report.RollupInterval.{RollupInterval}
use Rattle.adr_objects.specs.declared.report.RollupObject.{RollupObject}
use Rattle.adr_objects.specs.declared.counts.OutboxCounts.{OutboxCounts}
use Rattle.adr_subscription.specs.declared.words.ObjectKind.{ObjectKind}
use Rattle.adr_subscription.specs.declared.words.ObjectKind.TheVariants.{Program, Report}
use Rattle.adr_subscription.specs.declared.words.OperationKind.{OperationKind}
use Rattle.adr_subscription.specs.declared.item.SubscriptionItem.{SubscriptionItem}
use Rattle.adr_subscription.specs.declared.target.Target.{Target}
use Rattle.adr_subscription.specs.declared.object.SubObject.{SubObject}
use Rattle.adr_subscription.specs.Words.{kind_word, operation_word}
use Rattle.adr_subscription.specs.Kept.{kind_data, kinds_data, operation_data, operations_data, target_fields, target_data, targets_data}
use Rattle.adr_written.specs.Objects.{values_fields, values_data, payloads_data, program_object_fields, program_object_data, ven_object_fields, ven_object_data, resource_object_fields, resource_object_data, share_object_fields, share_object_data, problem_fields, problem_data}
use Rattle.adr_written.specs.WrittenReports.{resource_fields, resources_data, usage_interval_fields, usage_interval_data, report_object_fields, report_object_data, sum_data, rollup_interval_fields, rollup_interval_data, rollup_object_fields, rollup_object_data}
use Rattle.adr_written.specs.WrittenSubs.{shown_item_fields, shown_item_data, sub_object_fields, sub_object_data}
use Rattle.adr_written.specs.Counts.{counts_fields, counts_data}
use Rattle.adr_written.specs.WrittenFrozen.{kept_share_fields, kept_share_data, frozen_object_fields, frozen_object_data}
use Rattle.adr_written.specs.WrittenNotices.{notice_fields, notice_data}

whole_plain : (n : ℕ) (z : ℤ) → IsPlain n (whole_data z)
whole_plain n (pos k) = record { no_float = refl; flat = omega arith }
whole_plain n (negsuc k) = record { no_float = refl; flat = omega arith }

string_plain : (n : ℕ) (s : List ℕ) → IsPlain n (string s)
string_plain n s = record { no_float = refl; flat = omega arith }

-- a value that may be absent
field_plain : {X : Type 0} (n : ℕ) (f : X → Data) → ((x : X) → IsPlain n (f x)) → (o : Option X) → FieldIsPlain n (option_map f o)
field_plain n f h None = tt
field_plain n f h (Some x) = h x

no_items_plain : (n : ℕ) → IsPlain (suc n) (array_of [])
no_items_plain n = record { no_float = refl; flat = omega arith }

one_item_plain : (n : ℕ) (d : Data) → IsPlain n d → IsPlain (suc n) (array_of (d ∷ []))
one_item_plain n d h = record { no_float = or_from _ _ h.no_float refl; flat = omega (arith, h.flat) }

two_items_plain : (n : ℕ) (d e : Data) → IsPlain n d → IsPlain n e → IsPlain (suc n) (array_of (d ∷ e ∷ []))
two_items_plain n d e h k = record { no_float = or_from _ _ h.no_float (or_from _ _ k.no_float refl); flat = omega (arith, h.flat, k.flat) }

-- ---- payloads and targets

values_plain : (n : ℕ) (type : List ℕ) (values : List Data) → IsPlain (suc n) (array_of values) → IsPlain (suc (suc n)) (values_data type values)
unfolding values_data
values_plain n type values h = object_of_plain (suc n) (values_fields type (array_of values)) (string_plain (suc n) type, (h, tt))

one_value_plain : (n : ℕ) (type : List ℕ) (value : Data) → IsPlain n value → IsPlain (suc (suc n)) (values_data type (value ∷ []))
one_value_plain n type value h = values_plain n type (value ∷ []) (one_item_plain n value h)

payloads_plain : (type : List ℕ) (o : Option ℤ) → IsPlain 3 (payloads_data type (option_map whole_data o))
payloads_plain type None = no_items_plain 2
payloads_plain type (Some z) = one_item_plain 2 _ (one_value_plain 0 type (whole_data z) (whole_plain 0 z))

-- ---- objects

program_object_plain : (p : ProgramObject) → IsPlain 1 (program_object_data p)
unfolding program_object_data
program_object_plain p = object_of_plain 0 (program_object_fields p) (string_plain 0 _, (string_plain 0 _, (string_plain 0 _, (string_plain 0 _, (string_plain 0 _, tt)))))

ven_object_plain : (v : VenObject) → IsPlain 1 (ven_object_data v)
unfolding ven_object_data
ven_object_plain v = object_of_plain 0 (ven_object_fields v) (string_plain 0 _, (string_plain 0 _, (string_plain 0 _, (string_plain 0 _, (string_plain 0 _, tt)))))

resource_object_plain : (r : ResourceObject) → IsPlain 1 (resource_object_data r)
unfolding resource_object_data
resource_object_plain r =
    object_of_plain 0 (resource_object_fields r) (string_plain 0 _, (string_plain 0 _, (string_plain 0 _, (string_plain 0 _, (string_plain 0 _, (string_plain 0 _, tt))))))

share_object_plain : (s : ShareObject) → IsPlain 1 (share_object_data s)
unfolding share_object_data
share_object_plain s = object_of_plain 0 (share_object_fields s) (string_plain 0 _, (string_plain 0 _, (whole_plain 0 (pos s.share), tt)))

kept_share_plain : (p : ℕ × ℕ) → IsPlain 1 (kept_share_data p)
unfolding kept_share_data
kept_share_plain p = object_of_plain 0 (kept_share_fields p) (string_plain 0 _, (whole_plain 0 (pos p.1), tt))

frozen_object_plain : (f : FrozenObject) → IsPlain 3 (frozen_object_data f)
unfolding frozen_object_data
frozen_object_plain f = object_of_plain 2 (frozen_object_fields f) (string_plain 2 _, (array_of_plain 1 kept_share_data kept_share_plain f.shares, tt))

problem_plain : (r : Refusal) → IsPlain 1 (problem_data r)
unfolding problem_data
problem_plain r = object_of_plain 0 (problem_fields r) (string_plain 0 _, (whole_plain 0 (pos (status_of r)), (string_plain 0 _, tt)))

-- ---- reports and roll-ups

resources_plain : (n : ℕ) (intervals : Data) (name : List ℕ) → IsPlain n intervals → IsPlain (suc (suc n)) (resources_data intervals name)
unfolding resources_data
resources_plain n intervals name h = one_item_plain (suc n) _ (object_of_plain n (resource_fields intervals name) (h, (string_plain n name, tt)))

usage_interval_plain : (i : UsageInterval) → IsPlain 4 (usage_interval_data i)
unfolding usage_interval_data
usage_interval_plain i = object_of_plain 3 (usage_interval_fields i) (whole_plain 3 i.id, (payloads_plain (codes "USAGE") i.usage, tt))

report_object_plain : (r : ReportObject) → IsPlain 8 (report_object_data r)
unfolding report_object_data
report_object_plain r =
    object_of_plain 7 (report_object_fields r) (
      string_plain 7 _,
      (
        string_plain 7 _,
        (
          string_plain 7 _,
          (
            string_plain 7 _,
            (
              string_plain 7 _,
              (string_plain 7 _, (string_plain 7 _, (field_plain 7 string (string_plain 7) r.body.head.name, (resources_plain 5 _ r.body.head.resource_name (array_of_plain 4 usage_interval_data usage_interval_plain r.body.intervals), tt)))),
            ),
          ),
        ),
      ),
    )

sum_plain : (i : RollupInterval) → IsPlain 2 (sum_data i)
sum_plain i = one_value_plain 0 (codes "USAGE") (whole_data i.sum) (whole_plain 0 i.sum)

-- the sum, and those that are missing, where some are
sum_and_missing_plain : (i : RollupInterval) (names : List (List ℕ)) (b : Bool) → IsPlain 3 (array_of (sum_data i ∷ cond b [] (values_data (codes "MISSING_RESOURCES") (map string names) ∷ [])))
sum_and_missing_plain i names true = one_item_plain 2 _ (sum_plain i)
sum_and_missing_plain i names false =
    two_items_plain 2 _ _ (sum_plain i) (values_plain 0 (codes "MISSING_RESOURCES") (map string names) (array_of_plain 0 string (string_plain 0) names))

rollup_interval_plain : (i : RollupInterval) → IsPlain 4 (rollup_interval_data i)
unfolding rollup_interval_data
rollup_interval_plain i = object_of_plain 3 (rollup_interval_fields i) (whole_plain 3 i.id, (sum_and_missing_plain i i.missing _, tt))

rollup_object_plain : (r : RollupObject) → IsPlain 8 (rollup_object_data r)
unfolding rollup_object_data
rollup_object_plain r =
    object_of_plain 7 (rollup_object_fields r)
    (string_plain 7 _, (string_plain 7 _, (string_plain 7 _, (resources_plain 5 _ (codes "AGGREGATED_REPORT") (array_of_plain 4 rollup_interval_data rollup_interval_plain r.rollup.intervals), tt))))

-- ---- subscriptions

kinds_plain : (n : ℕ) (kinds : List ObjectKind) → IsPlain (suc n) (kinds_data kinds)
kinds_plain n kinds = array_of_plain n kind_data (λ kind. string_plain n (kind_word kind)) kinds

operations_plain : (n : ℕ) (operations : List OperationKind) → IsPlain (suc n) (operations_data operations)
operations_plain n operations = array_of_plain n operation_data (λ operation. string_plain n (operation_word operation)) operations

shown_item_plain : (i : SubscriptionItem) → IsPlain 2 (shown_item_data i)
unfolding shown_item_data
shown_item_plain i = object_of_plain 1 (shown_item_fields i) (string_plain 1 i.callback_url, (kinds_plain 0 i.objects, (operations_plain 0 i.operations, tt)))

target_plain : (t : Target) → IsPlain 2 (target_data t)
unfolding target_data
target_plain t = object_of_plain 1 (target_fields t) (string_plain 1 t.kind, (array_of_plain 0 string (string_plain 0) t.values, tt))

sub_object_plain : (s : SubObject) → IsPlain 4 (sub_object_data s)
unfolding sub_object_data
sub_object_plain s =
    object_of_plain 3 (sub_object_fields s)
    (string_plain 3 _, (string_plain 3 _, (string_plain 3 _, (string_plain 3 _, (array_of_plain 2 shown_item_data shown_item_plain s.sub.items, (string_plain 3 _, (field_plain 3 string (string_plain 3) s.sub.program, (field_plain 3 targets_data (array_of_plain 2 target_data target_plain) s.sub.targets, tt))))))))

-- ---- counts and notifications

counts_plain : (c : OutboxCounts) → IsPlain 1 (counts_data c)
unfolding counts_data
counts_plain c =
    object_of_plain 0 (counts_fields c)
    (whole_plain 0 (pos c.dropped), (whole_plain 0 (pos c.given_up), (whole_plain 0 (pos c.made), (whole_plain 0 (pos c.pending), (whole_plain 0 (pos c.sent), tt)))))

notice_plain : (n : ℕ) (kind : ObjectKind) (operation : OperationKind) (about : Data) → IsPlain n about → IsPlain (suc n) (notice_data kind operation about)
unfolding notice_data
notice_plain n kind operation about h = object_of_plain n (notice_fields kind operation about) (h, (string_plain n _, (string_plain n _, tt)))

-- ---- none of them has a float

pub program_object_whole : (p : ProgramObject) → has_float (program_object_data p) ≡ false
program_object_whole p = (program_object_plain p).no_float

pub ven_object_whole : (v : VenObject) → has_float (ven_object_data v) ≡ false
ven_object_whole v = (ven_object_plain v).no_float

pub resource_object_whole : (r : ResourceObject) → has_float (resource_object_data r) ≡ false
resource_object_whole r = (resource_object_plain r).no_float

pub share_object_whole : (s : ShareObject) → has_float (share_object_data s) ≡ false
share_object_whole s = (share_object_plain s).no_float

pub frozen_object_whole : (f : FrozenObject) → has_float (frozen_object_data f) ≡ false
frozen_object_whole f = (frozen_object_plain f).no_float

pub problem_whole : (r : Refusal) → has_float (problem_data r) ≡ false
problem_whole r = (problem_plain r).no_float

pub report_object_whole : (r : ReportObject) → has_float (report_object_data r) ≡ false
report_object_whole r = (report_object_plain r).no_float

pub rollup_object_whole : (r : RollupObject) → has_float (rollup_object_data r) ≡ false
rollup_object_whole r = (rollup_object_plain r).no_float

pub sub_object_whole : (s : SubObject) → has_float (sub_object_data s) ≡ false
sub_object_whole s = (sub_object_plain s).no_float

pub counts_whole : (c : OutboxCounts) → has_float (counts_data c) ≡ false
counts_whole c = (counts_plain c).no_float

pub program_notice_whole : (operation : OperationKind) (p : ProgramObject) → has_float (notice_data Program operation (program_object_data p)) ≡ false
program_notice_whole operation p = (notice_plain 1 Program operation (program_object_data p) (program_object_plain p)).no_float

pub report_notice_whole : (operation : OperationKind) (r : ReportObject) → has_float (notice_data Report operation (report_object_data r)) ≡ false
report_notice_whole operation r = (notice_plain 8 Report operation (report_object_data r) (report_object_plain r)).no_float
