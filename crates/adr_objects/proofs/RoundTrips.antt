-- The canonical text of a body reads back as that body.
use Rattle.std.proofs.Common.{◌≡◌, ℕ, ◌^◌, ◌<◌, ◌≤◌, ℤ, pos, negsuc, true, false, List, [], ◌∷◌, length, map, codes, Option, Some, None, option_map, Result, Ok, refl, sym, ap, ◌∙◌, suc, arith, IsTrue}
use Rattle.std.specs.Prelude.{IfSome, option_and_then}
use Rattle.std.specs.List.{AllByRecursion}
use Rattle.std.specs.Int.Signed.{mag}
use Rattle.std.specs.Result.{result_ok}
use Rattle.std.proofs.lemmas.Bool.{lt-ltb, leb-true, le-leb}
use Rattle.std.proofs.lemmas.List.{length-map}
use Rattle.std.proofs.lemmas.Option.{same_Some}
use Rattle.std.proofs.lemmas.List.Elements.{recursion_from_All}
use Rattle.serde_json.specs.Data.{Data, string}
use Rattle.serde_json.specs.Find.{get}
use Rattle.serde_json.specs.Written.{has_float}
use Rattle.adr_text.specs.Ids.{is_id}
use Rattle.adr_text.specs.Names.{is_name}
use Rattle.adr_text.specs.Fields.{is_i32, id_in, name_in, i32_in, present, optional, each}
use Rattle.adr_text.specs.Objects.{array_of, whole_data}
use Rattle.adr_text.specs.declared.fault.Fault.{Fault}
use Rattle.adr_text.proofs.FieldLemmas.{list_of-items_of}
use Rattle.adr_text.proofs.ObjectLemmas.{get-object_of, found_after, over}
use Rattle.adr_objects.specs.declared.interval.Period.{Period}
use Rattle.adr_objects.specs.declared.interval.Interval.{Interval}
use Rattle.adr_objects.specs.declared.body.Reason.{Reason}
use Rattle.adr_objects.specs.declared.body.Reason.TheVariants.{Fraction, NotOne, Repeated, OutOfRange, BadShape}
use Rattle.adr_objects.specs.declared.body.EventBody.{EventBody}
use Rattle.adr_objects.specs.declared.body.Body.{Body}
use Rattle.adr_objects.specs.declared.body.Body.TheVariants.{Program, Event, Opaque}
use Rattle.adr_objects.specs.Limits.{is_setpoint, most_priority, most_names}
use Rattle.adr_objects.specs.Reasons.{reason_number}
use Rattle.adr_objects.specs.Fields.{text_in, priority_in, setpoint_in, period_in}
use Rattle.adr_objects.specs.Canonical.{natural_data, texts_data, period_fields, period_data, interval_fields, interval_data, event_fields, event_data, body_data, canonical_text}
use Rattle.adr_objects.specs.ReadBack.{reason_in, names_in, canonical_interval_in, canonical_intervals_in, canonical_event_in, canonical_in, canonical_of}
use Rattle.adr_objects.specs.Bodies.{IsPeriod, IsInterval, AreIntervals, AreNames, IsEvent, IsBody}
use Rattle.adr_objects.proofs.NameSets.{name_set-sorted}
use Rattle.adr_objects.proofs.Written.{IsWritten, FieldIsWritten, read_back, string_written, whole_written, array_written, object_written}

-- ---- one value reads back

pub id_reads_back : (text : List ℕ) → is_id text ≡ true → id_in (string text) ≡ Ok text
unfolding id_in
id_reads_back text h = rw h refl

pub name_reads_back : (text : List ℕ) → is_name text ≡ true → name_in (string text) ≡ Ok text
unfolding name_in
name_reads_back text h = rw h refl

pub text_reads_back : (most : ℕ) (text : List ℕ) → length text ≤ most → text_in most (string text) ≡ Ok text
unfolding text_in
text_reads_back most text h = rw (le-leb (length text) most h) refl

pub i32_reads_back : (z : ℤ) → is_i32 z ≡ true → i32_in (whole_data z) ≡ Ok z
unfolding i32_in
i32_reads_back (pos n) h = rw (lt-ltb n (2 ^ 63) (omega (arith, leb-true n 2147483647 h)), h) refl
i32_reads_back (negsuc n) h = rw h refl

setpoint_reads_back : (z : ℤ) → is_setpoint z ≡ true → setpoint_in (whole_data z) ≡ Ok z
unfolding setpoint_in
setpoint_reads_back (pos n) h = rw (lt-ltb n (2 ^ 63) (omega (arith, leb-true n 1000000000000 h)), h) refl
setpoint_reads_back (negsuc n) h = rw h refl

pub priority_reads_back : (n : ℕ) → n ≤ most_priority → priority_in (natural_data n) ≡ Ok n
unfolding priority_in
priority_reads_back n h = rw (lt-ltb n (2 ^ 63) (omega arith), le-leb n most_priority h) refl

reason_reads_back : (r : Reason) → reason_in (natural_data (reason_number r)) ≡ Ok r
unfolding reason_in
reason_reads_back Fraction = refl
reason_reads_back NotOne = refl
reason_reads_back Repeated = refl
reason_reads_back OutOfRange = refl
reason_reads_back BadShape = refl

-- what may be absent, and what is listed

pub optional_reads_back : {X : Type 0} (P : X → Type 0) (write : X → Data) (reading : Data → Result X Fault) → ((x : X) → P x → present (write x) ≡ Some (write x)) → ((x : X) → P x → reading (write x) ≡ Ok x) → (o : Option X) → IfSome o P
    → optional (option_and_then present (over (option_map write o) None)) reading ≡ Ok o
optional_reads_back P write reading there again None h = refl
optional_reads_back P write reading there again (Some x) h = rw (there x h, again x h) refl

pub each_reads_back : {X : Type 0} (P : X → Type 0) (write : X → Data) (reading : Data → Result X Fault) → ((x : X) → P x → reading (write x) ≡ Ok x) → (xs : List X) → AllByRecursion P xs → each reading (map write xs) ≡ Ok xs
each_reads_back P write reading again [] h = refl
each_reads_back P write reading again (x ∷ xs) h = rw (again x h.0, each_reads_back P write reading again xs h.1) refl

-- ---- a period

period_at : (name : List ℕ) (p : Period) → get name (period_data p) ≡ found_after name None (period_fields p)
unfolding period_data
period_at name p = get-object_of name (period_fields p)

pub optional_text : (most : ℕ) (o : Option (List ℕ)) → IfSome o (λ text. length text ≤ most) → optional (option_and_then present (over (option_map string o) None)) (text_in most) ≡ Ok o
optional_text most o h = optional_reads_back (λ text. length text ≤ most) string (text_in most) (λ x k. refl) (text_reads_back most) o h

pub period_reads_back : (p : Period) → IsPeriod p → period_in (period_data p) ≡ Ok p
unfolding period_in
period_reads_back p h =
    rw (period_at (codes "start") p, period_at (codes "duration") p, period_at (codes "randomizeStart") p, text_reads_back 64 p.start h.start, optional_text 64 p.duration h.duration, optional_text 64 p.randomize_start h.randomize_start) refl

period_present : (p : Period) → present (period_data p) ≡ Some (period_data p)
unfolding period_data
period_present p = refl

pub optional_period : (o : Option Period) → IfSome o IsPeriod → optional (option_and_then present (over (option_map period_data o) None)) period_in ≡ Ok o
optional_period o h = optional_reads_back IsPeriod period_data period_in (λ p k. period_present p) period_reads_back o h

-- ---- an interval

interval_at : (name : List ℕ) (i : Interval) → get name (interval_data i) ≡ found_after name None (interval_fields i)
unfolding interval_data
interval_at name i = get-object_of name (interval_fields i)

interval_reads_back : (i : Interval) → IsInterval i → canonical_interval_in (interval_data i) ≡ Ok i
unfolding canonical_interval_in
interval_reads_back i h =
    let setpoint = optional_reads_back (λ z. IsTrue (is_setpoint z)) whole_data setpoint_in (λ z k. refl) setpoint_reads_back i.setpoint h.setpoint in
    rw (interval_at (codes "id") i, interval_at (codes "intervalPeriod") i, interval_at (codes "setpoint") i, i32_reads_back i.id h.id, optional_period i.period h.period, setpoint) refl

intervals_read_back : (is : List Interval) → AreIntervals is → canonical_intervals_in (array_of (map interval_data is)) ≡ Ok is
intervals_read_back is h =
    let few = le-leb (length is) 1000 h.few in
    let apart = h.apart in
    rw (list_of-items_of (map interval_data is), length-map, few, each_reads_back IsInterval interval_data canonical_interval_in interval_reads_back is (recursion_from_All IsInterval is h.each), apart) refl

-- ---- names

names_read_back : (names : List (List ℕ)) → AreNames names → names_in (texts_data names) ≡ Ok names
unfolding names_in
names_read_back names h =
    let all = each_reads_back (λ name. IsTrue (is_name name)) string name_in name_reads_back names (recursion_from_All (λ name. IsTrue (is_name name)) names h.each) in
    rw (list_of-items_of (map string names), all, le-leb (length names) most_names h.few, name_set-sorted names h.ascend) refl

-- ---- an event

event_at : (name : List ℕ) (e : EventBody) → get name (event_data e) ≡ found_after name None (event_fields e)
unfolding event_data
event_at name e = get-object_of name (event_fields e)

event_reads_back : (e : EventBody) → IsEvent e → canonical_event_in (event_data e) ≡ Ok e
unfolding canonical_event_in
event_reads_back e h =
    let priority = optional_reads_back (λ n. n ≤ most_priority) natural_data priority_in (λ n k. refl) priority_reads_back e.priority h.priority in
    let names = optional_reads_back AreNames texts_data names_in (λ names k. refl) names_read_back e.resource_names h.resource_names in
    rw (event_at (codes "programID") e, event_at (codes "eventName") e, event_at (codes "priority") e, event_at (codes "intervalPeriod") e, event_at (codes "resourceNames") e, event_at (codes "intervals") e, id_reads_back e.program h.program, optional_text 256 e.name h.name, priority, optional_period e.period h.period, names, intervals_read_back e.intervals h.intervals)
    refl

event_present : (e : EventBody) → present (event_data e) ≡ Some (event_data e)
unfolding event_data
event_present e = refl

-- ---- a body

body_reads_back : (b : Body) → IsBody b → canonical_in (body_data b) ≡ Ok b
unfolding canonical_in body_data
body_reads_back (Program name) h = rw (name_reads_back name h) refl
body_reads_back (Event event) h = rw (event_present event, event_reads_back event h) refl
body_reads_back (Opaque reason) h = rw (reason_reads_back reason) refl

-- ---- what is written is read as it was written

setpoint_is_small : (z : ℤ) → is_setpoint z ≡ true → mag z < 2 ^ 62
setpoint_is_small (pos n) h = omega (arith, leb-true n 1000000000000 h)
setpoint_is_small (negsuc n) h = omega (arith, leb-true (suc n) 1000000000000 h)

i32_is_small : (z : ℤ) → is_i32 z ≡ true → mag z < 2 ^ 62
i32_is_small (pos n) h = omega (arith, leb-true n 2147483647 h)
i32_is_small (negsuc n) h = omega (arith, leb-true (suc n) 2147483648 h)

pub field_written : {X : Type 0} (n : ℕ) (P : X → Type 0) (write : X → Data) → ((x : X) → P x → IsWritten n (write x)) → (o : Option X) → IfSome o P → FieldIsWritten n (option_map write o)
field_written n P write h None k = tt
field_written n P write h (Some x) k = h x k

pub text_written : (n most : ℕ) (o : Option (List ℕ)) → IfSome o (λ text. length text ≤ most) → FieldIsWritten n (option_map string o)
text_written n most o h = field_written n (λ text. length text ≤ most) string (λ text k. string_written n text) o h

pub period_written : (n : ℕ) (p : Period) → IsPeriod p → IsWritten (suc n) (period_data p)
unfolding period_data
period_written n p h = object_written n (period_fields p) refl (text_written n 64 p.duration h.duration, (text_written n 64 p.randomize_start h.randomize_start, (string_written n p.start, tt)))

interval_written : (i : Interval) → IsInterval i → IsWritten 2 (interval_data i)
unfolding interval_data
interval_written i h =
    object_written 1 (interval_fields i) refl (whole_written 1 i.id (i32_is_small i.id h.id), (field_written 1 IsPeriod period_data (period_written 0) i.period h.period, (field_written 1 (λ z. IsTrue (is_setpoint z)) whole_data (λ z k. whole_written 1 z (setpoint_is_small z k)) i.setpoint h.setpoint, tt)))

names_written : (names : List (List ℕ)) → AreNames names → IsWritten 3 (texts_data names)
names_written names h = array_written 2 string (λ name. IsTrue (is_name name)) (λ name k. string_written 2 name) names (recursion_from_All (λ name. IsTrue (is_name name)) names h.each)

intervals_written : (is : List Interval) → AreIntervals is → IsWritten 3 (array_of (map interval_data is))
intervals_written is h = array_written 2 interval_data IsInterval interval_written is (recursion_from_All IsInterval is h.each)

event_written : (e : EventBody) → IsEvent e → IsWritten 4 (event_data e)
unfolding event_data
event_written e h =
    object_written 3 (event_fields e) refl
    (text_written 3 256 e.name h.name, (field_written 3 IsPeriod period_data (period_written 2) e.period h.period, (intervals_written e.intervals h.intervals, (field_written 3 (λ n. n ≤ most_priority) natural_data (λ n k. whole_written 3 (pos n) (omega arith)) e.priority h.priority, (string_written 3 e.program, (field_written 3 AreNames texts_data names_written e.resource_names h.resource_names, tt))))))

reason_written : (r : Reason) → IsWritten 4 (natural_data (reason_number r))
reason_written Fraction = whole_written 4 (pos 1) (omega arith)
reason_written NotOne = whole_written 4 (pos 2) (omega arith)
reason_written Repeated = whole_written 4 (pos 3) (omega arith)
reason_written OutOfRange = whole_written 4 (pos 4) (omega arith)
reason_written BadShape = whole_written 4 (pos 5) (omega arith)

body_written : (b : Body) → IsBody b → IsWritten 5 (body_data b)
unfolding body_data
body_written (Program name) h = object_written 4 ((codes "program", Some (string name)) ∷ []) refl (string_written 4 name, tt)
body_written (Event event) h = object_written 4 ((codes "event", Some (event_data event)) ∷ []) refl (event_written event h, tt)
body_written (Opaque reason) h = object_written 4 ((codes "opaque", Some (natural_data (reason_number reason))) ∷ []) refl (reason_written reason, tt)

pub body_whole : (b : Body) → IsBody b → has_float (body_data b) ≡ false
body_whole b h = (body_written b h).no_float

pub canonical_reads_back : (b : Body) → IsBody b → canonical_of (canonical_text b) ≡ Ok b
unfolding canonical_of canonical_text
canonical_reads_back b h = rw (read_back 5 (body_data b) (body_written b h) (omega arith), body_reads_back b h) refl

pub canonical_differs : (a b : Body) → IsBody a → IsBody b → canonical_text a ≡ canonical_text b → a ≡ b
canonical_differs a b h k same = same_Some a b (ap result_ok (sym (canonical_reads_back a h) ∙ ap canonical_of same ∙ canonical_reads_back b k))
