-- The text of a shown event reads back as that event.
use Rattle.std.proofs.Common.{◌≡◌, ℕ, ℤ, true, List, [], ◌∷◌, map, codes, Option, Some, None, option_map, Ok, refl, sym, ap, ◌∙◌, arith, IsTrue}
use Rattle.std.specs.Prelude.{IfSome, ⊤}
use Rattle.std.specs.Result.{result_ok}
use Rattle.std.proofs.lemmas.Option.{same_Some}
use Rattle.std.proofs.lemmas.List.Elements.{recursion_from_All}
use Rattle.serde_json.specs.Data.{Data, string}
use Rattle.serde_json.specs.Find.{get}
use Rattle.adr_text.specs.Fields.{is_i64, present}
use Rattle.adr_text.specs.Names.{is_name}
use Rattle.adr_text.specs.Objects.{array_of, whole_data}
use Rattle.adr_text.proofs.FieldLemmas.{list_of-items_of}
use Rattle.adr_text.proofs.ObjectLemmas.{get-object_of, found_after}
use Rattle.adr_objects.specs.declared.shown.ShownInterval.{ShownInterval}
use Rattle.adr_objects.specs.declared.shown.ShownEvent.{ShownEvent}
use Rattle.adr_objects.proofs.RoundTrips.{id_reads_back, i32_reads_back, optional_text, optional_period, each_reads_back, text_written}
use Rattle.adr_objects.proofs.Written.{IsWritten, read_back, string_written, array_written, object_written}
use Rattle.adr_written.specs.Objects.{values_data, payloads_data, shown_interval_fields, shown_interval_data, targets_data}
use Rattle.adr_shown.specs.ShownTexts.{shown_fields, shown_data, shown_text}
use Rattle.adr_shown.specs.ReadValues.{list_in}
use Rattle.adr_shown.specs.ReadShown.{part_in, shown_interval_in, targets_in, shown_in, shown_of}
use Rattle.adr_shown.specs.Types.{IsShownInterval, IsShown}
use Rattle.adr_shown.proofs.Fields.{optional_priority, amount_reads_back, target_reads_back, amount_written, i32_written, priority_written, maybe_period_written, values_written}

-- ---- it reads back

part_reads_back : (o : Option ℤ) → IfSome o (λ z. IsTrue (is_i64 z)) → part_in (payloads_data (codes "DISPATCH_SETPOINT") (option_map whole_data o)) ≡ Ok o
unfolding part_in
part_reads_back None h = refl
part_reads_back (Some z) h = rw (amount_reads_back (codes "DISPATCH_SETPOINT") z h) refl

payloads_present : (o : Option ℤ) → present (payloads_data (codes "DISPATCH_SETPOINT") (option_map whole_data o)) ≡ Some (payloads_data (codes "DISPATCH_SETPOINT") (option_map whole_data o))
payloads_present None = refl
payloads_present (Some z) = refl

interval_at : (name : List ℕ) (i : ShownInterval) → get name (shown_interval_data i) ≡ found_after name None (shown_interval_fields i)
unfolding shown_interval_data
interval_at name i = get-object_of name (shown_interval_fields i)

interval_reads_back : (i : ShownInterval) → IsShownInterval i → shown_interval_in (shown_interval_data i) ≡ Ok i
unfolding shown_interval_in
interval_reads_back i h =
    rw (interval_at (codes "id") i, interval_at (codes "intervalPeriod") i, interval_at (codes "payloads") i, payloads_present i.part, i32_reads_back i.id h.id, optional_period i.period h.period, part_reads_back i.part h.part) refl

intervals_read_back : (e : ShownEvent) → IsShown e → list_in shown_interval_in (array_of (map shown_interval_data e.intervals)) ≡ Ok e.intervals
intervals_read_back e h =
    rw (list_of-items_of (map shown_interval_data e.intervals), each_reads_back IsShownInterval shown_interval_data shown_interval_in interval_reads_back e.intervals (recursion_from_All IsShownInterval e.intervals h.intervals)) refl

targets_read_back : (ven resource : List ℕ) → is_name ven ≡ true → is_name resource ≡ true → targets_in (targets_data ven resource) ≡ Ok (ven, resource)
unfolding targets_in
targets_read_back ven resource h k = rw (target_reads_back (codes "VEN_NAME") ven h, target_reads_back (codes "RESOURCE_NAME") resource k) refl

shown_at : (name : List ℕ) (e : ShownEvent) → get name (shown_data e) ≡ found_after name None (shown_fields e)
unfolding shown_data
shown_at name e = get-object_of name (shown_fields e)

shown_reads_back : (e : ShownEvent) → IsShown e → shown_in (shown_data e) ≡ Ok e
unfolding shown_in
shown_reads_back e h =
    rw (shown_at (codes "programID") e, shown_at (codes "eventName") e, shown_at (codes "priority") e, shown_at (codes "intervalPeriod") e, shown_at (codes "intervals") e, shown_at (codes "targets") e, id_reads_back e.program h.program, optional_text 256 e.name h.name, optional_priority e.priority h.priority, optional_period e.period h.period, intervals_read_back e h, targets_read_back e.ven_name e.resource_name h.ven_name h.resource_name)
    refl

-- ---- it is read as it was written

part_written : (o : Option ℤ) → IfSome o (λ z. IsTrue (is_i64 z)) → IsWritten 3 (payloads_data (codes "DISPATCH_SETPOINT") (option_map whole_data o))
part_written None h = array_written 2 whole_data (λ z. IsTrue (is_i64 z)) (λ z k. amount_written 2 z k) [] tt
part_written (Some z) h =
    let value : (x : ℤ) → IsTrue (is_i64 x) → IsWritten 2 (values_data (codes "DISPATCH_SETPOINT") (whole_data x ∷ [])) = λ x k. values_written 1 (codes "DISPATCH_SETPOINT") (whole_data x ∷ []) (array_written 0 whole_data (λ y. IsTrue (is_i64 y)) (λ y l. amount_written 0 y l) (x ∷ []) (k, tt)) in
    array_written 2 (λ x. values_data (codes "DISPATCH_SETPOINT") (whole_data x ∷ [])) (λ x. IsTrue (is_i64 x)) value (z ∷ []) (h, tt)

interval_written : (i : ShownInterval) → IsShownInterval i → IsWritten 4 (shown_interval_data i)
unfolding shown_interval_data
interval_written i h = object_written 3 (shown_interval_fields i) refl (i32_written 3 i.id h.id, (maybe_period_written 2 i.period h.period, (part_written i.part h.part, tt)))

intervals_written : (e : ShownEvent) → IsShown e → IsWritten 5 (array_of (map shown_interval_data e.intervals))
intervals_written e h = array_written 4 shown_interval_data IsShownInterval interval_written e.intervals (recursion_from_All IsShownInterval e.intervals h.intervals)

-- a target, by its type and its name
abbrev target_data : List ℕ × List ℕ → Data
target_data target = values_data target.0 (string target.1 ∷ [])

target_written : (target : List ℕ × List ℕ) → IsWritten 2 (target_data target)
target_written target = values_written 1 target.0 (string target.1 ∷ []) (array_written 0 string (λ text. ⊤) (λ text k. string_written 0 text) (target.1 ∷ []) (tt, tt))

targets_written : (ven resource : List ℕ) → IsWritten 5 (targets_data ven resource)
targets_written ven resource =
    let two = array_written 2 target_data (λ target. ⊤) (λ target k. target_written target) ((codes "VEN_NAME", ven) ∷ (codes "RESOURCE_NAME", resource) ∷ []) (tt, (tt, tt)) in
    record { same = two.same; numbers = two.numbers; flat = omega (arith, two.flat); no_float = two.no_float }

event_written : (e : ShownEvent) → IsShown e → IsWritten 6 (shown_data e)
unfolding shown_data
event_written e h =
    object_written 5 (shown_fields e) refl
    (text_written 5 256 e.name h.name, (maybe_period_written 4 e.period h.period, (intervals_written e h, (string_written 5 (codes "EVENT"), (priority_written 5 e.priority h.priority, (string_written 5 e.program, (targets_written e.ven_name e.resource_name, tt)))))))

-- ---- both

pub shown_text_reads_back : (e : ShownEvent) → IsShown e → shown_of (shown_text e) ≡ Ok e
unfolding shown_of shown_text
shown_text_reads_back e h = rw (read_back 6 (shown_data e) (event_written e h) (omega arith), shown_reads_back e h) refl

pub shown_text_differs : (a b : ShownEvent) → IsShown a → IsShown b → shown_text a ≡ shown_text b → a ≡ b
shown_text_differs a b h k same = same_Some a b (ap result_ok (sym (shown_text_reads_back a h) ∙ ap shown_of same ∙ shown_text_reads_back b k))
