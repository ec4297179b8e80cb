-- The text of a roll-up reads back as the id of its upstream event and the roll-up.
use Rattle.std.proofs.Common.{◌≡◌, ℕ, suc, ℤ, true, false, List, [], ◌∷◌, map, codes, None, Some, Ok, refl, sym, ap, ◌∙◌, subst, arith, IsTrue, length}
use Rattle.std.proofs.lemmas.Bool.{ne_eqb}
use Rattle.std.specs.List.{AllByRecursion}
use Rattle.std.specs.Result.{result_ok}
use Rattle.std.proofs.lemmas.Option.{same_Some}
use Rattle.std.proofs.lemmas.List.Elements.{recursion_from_All}
use Rattle.serde_json.specs.Data.{Data, string}
use Rattle.serde_json.specs.Find.{get}
use Rattle.serde_json.specs.Written.{has_float}
use Rattle.adr_text.specs.Fields.{is_i64, present}
use Rattle.adr_text.specs.Ids.{is_id}
use Rattle.adr_text.specs.Names.{is_name}
use Rattle.adr_text.specs.Fields.{name_in}
use Rattle.adr_text.specs.Objects.{object_of, array_of, whole_data}
use Rattle.adr_text.proofs.FieldLemmas.{list_of-items_of}
use Rattle.adr_text.proofs.ObjectLemmas.{get-object_of, found_after}
use Rattle.adr_objects.specs.declared.report.RollupInterval.{RollupInterval}
use Rattle.adr_objects.specs.declared.report.Rollup.{Rollup}
use Rattle.adr_objects.proofs.RoundTrips.{id_reads_back, name_reads_back, i32_reads_back, each_reads_back}
use Rattle.adr_objects.proofs.Written.{IsWritten, read_back, string_written, array_written, object_written}
use Rattle.adr_written.specs.Objects.{values_data}
use Rattle.adr_written.specs.WrittenReports.{resource_fields, resources_data, missing_data, rollup_interval_fields, rollup_interval_data, rollup_resources}
use Rattle.adr_shown.specs.RollupTexts.{rollup_fields, rollup_data, kept_rollup_text}
use Rattle.adr_shown.specs.ReadValues.{list_in}
use Rattle.adr_shown.specs.ReadRollups.{missing_in, sum_in, rollup_interval_in, resources_in, rollup_in, kept_rollup_of}
use Rattle.adr_shown.specs.Types.{IsRollupInterval, IsRollup}
use Rattle.adr_shown.proofs.Fields.{values_read_back, amount_reads_back, amount_written, i32_written, values_written}

-- ---- it reads back

missing_reads_back : (names : List (List ℕ)) → AllByRecursion (λ name. IsTrue (is_name name)) names → missing_in (values_data (codes "MISSING_RESOURCES") (map string names)) ≡ Ok names
unfolding missing_in
missing_reads_back names h =
    rw (values_read_back (codes "MISSING_RESOURCES") (map string names), each_reads_back (λ name. IsTrue (is_name name)) string name_in name_reads_back names h) refl

-- the payloads of a sum and of the names of those that are missing
abbrev sum_payloads : ℤ → List (List ℕ) → List Data
sum_payloads sum names = values_data (codes "USAGE") (whole_data sum ∷ []) ∷ missing_data names

-- where some are missing, they are told
missing_some : (name : List ℕ) (names : List (List ℕ)) → missing_data (name ∷ names) ≡ values_data (codes "MISSING_RESOURCES") (map string (name ∷ names)) ∷ []
missing_some name names = rw (ne_eqb (suc (length names)) 0 (λ e. omega arith)) refl

sum_reads_back : (sum : ℤ) (names : List (List ℕ)) → is_i64 sum ≡ true → AllByRecursion (λ name. IsTrue (is_name name)) names → sum_in (array_of (sum_payloads sum names)) ≡ Ok (sum, names)
unfolding sum_in
sum_reads_back sum [] h k = rw (amount_reads_back (codes "USAGE") sum h) refl
sum_reads_back sum (name ∷ names) h k =
    rw (missing_some name names, amount_reads_back (codes "USAGE") sum h, missing_reads_back (name ∷ names) k) refl

interval_at : (name : List ℕ) (i : RollupInterval) → get name (rollup_interval_data i) ≡ found_after name None (rollup_interval_fields i)
unfolding rollup_interval_data
interval_at name i = get-object_of name (rollup_interval_fields i)

interval_reads_back : (i : RollupInterval) → IsRollupInterval i → rollup_interval_in (rollup_interval_data i) ≡ Ok i
unfolding rollup_interval_in
interval_reads_back i h =
    let names = recursion_from_All (λ name. IsTrue (is_name name)) i.missing h.missing in
    rw (interval_at (codes "id") i, interval_at (codes "payloads") i, i32_reads_back i.id h.id, sum_reads_back i.sum i.missing h.sum names) refl

intervals_read_back : (r : Rollup) → IsRollup r → list_in rollup_interval_in (array_of (map rollup_interval_data r.intervals)) ≡ Ok r.intervals
intervals_read_back r h =
    rw (list_of-items_of (map rollup_interval_data r.intervals), each_reads_back IsRollupInterval rollup_interval_data rollup_interval_in interval_reads_back r.intervals (recursion_from_All IsRollupInterval r.intervals h.intervals)) refl

resources_read_back : (r : Rollup) → IsRollup r → resources_in (rollup_resources r) ≡ Ok r.intervals
unfolding resources_in resources_data
resources_read_back r h = rw (intervals_read_back r h) refl

resources_present : (r : Rollup) → present (rollup_resources r) ≡ Some (rollup_resources r)
unfolding resources_data
resources_present r = refl

rollup_at : (name id : List ℕ) (r : Rollup) → get name (rollup_data id r) ≡ found_after name None (rollup_fields id r)
unfolding rollup_data
rollup_at name id r = get-object_of name (rollup_fields id r)

rollup_reads_back : (id : List ℕ) (r : Rollup) → is_id id ≡ true → IsRollup r → rollup_in (rollup_data id r) ≡ Ok (id, r)
unfolding rollup_in
rollup_reads_back id r h k =
    rw (rollup_at (codes "eventID") id r, rollup_at (codes "programID") id r, rollup_at (codes "resources") id r, resources_present r, id_reads_back id h, id_reads_back r.program k.program, resources_read_back r k) refl

-- ---- it is read as it was written

-- a payload, by its type and its values
abbrev payload_data : List ℕ × List Data → Data
payload_data payload = values_data payload.0 payload.1

abbrev PayloadIsWritten : List ℕ × List Data → Type 0
PayloadIsWritten payload = IsWritten 1 (array_of payload.1)

payload_written : (payload : List ℕ × List Data) → PayloadIsWritten payload → IsWritten 2 (payload_data payload)
payload_written payload h = values_written 1 payload.0 payload.1 h

amount_alone : (z : ℤ) → is_i64 z ≡ true → IsWritten 1 (array_of (whole_data z ∷ []))
amount_alone z h = array_written 0 whole_data (λ x. IsTrue (is_i64 x)) (λ x k. amount_written 0 x k) (z ∷ []) (h, tt)

names_written : (names : List (List ℕ)) → AllByRecursion (λ name. IsTrue (is_name name)) names → IsWritten 1 (array_of (map string names))
names_written names h = array_written 0 string (λ name. IsTrue (is_name name)) (λ name k. string_written 0 name) names h

sum_written : (sum : ℤ) (names : List (List ℕ)) → is_i64 sum ≡ true → AllByRecursion (λ name. IsTrue (is_name name)) names → IsWritten 3 (array_of (sum_payloads sum names))
sum_written sum [] h k = array_written 2 payload_data PayloadIsWritten payload_written ((codes "USAGE", whole_data sum ∷ []) ∷ []) (amount_alone sum h, tt)
sum_written sum (name ∷ names) h k =
    let two = array_written 2 payload_data PayloadIsWritten payload_written ((codes "USAGE", whole_data sum ∷ []) ∷ (codes "MISSING_RESOURCES", map string (name ∷ names)) ∷ []) (amount_alone sum h, (names_written (name ∷ names) k, tt)) in
    subst (λ (ds : List Data). IsWritten 3 (array_of (values_data (codes "USAGE") (whole_data sum ∷ []) ∷ ds))) (sym (missing_some name names)) two

interval_written : (i : RollupInterval) → IsRollupInterval i → IsWritten 4 (rollup_interval_data i)
unfolding rollup_interval_data
interval_written i h =
    let names = recursion_from_All (λ name. IsTrue (is_name name)) i.missing h.missing in
    object_written 3 (rollup_interval_fields i) refl (i32_written 3 i.id h.id, (sum_written i.sum i.missing h.sum names, tt))

-- a resource, by its intervals and its name
abbrev resource_data : Data × List ℕ → Data
resource_data resource = object_of (resource_fields resource.0 resource.1)

resource_written : (resource : Data × List ℕ) → IsWritten 5 resource.0 → IsWritten 6 (resource_data resource)
resource_written resource h = object_written 5 (resource_fields resource.0 resource.1) refl (h, (string_written 5 resource.1, tt))

resources_written : (r : Rollup) → IsRollup r → IsWritten 7 (rollup_resources r)
unfolding resources_data
resources_written r h =
    let intervals : IsWritten 5 (array_of (map rollup_interval_data r.intervals)) = array_written 4 rollup_interval_data IsRollupInterval interval_written r.intervals (recursion_from_All IsRollupInterval r.intervals h.intervals) in
    array_written 6 resource_data (λ resource. IsWritten 5 resource.0) resource_written ((array_of (map rollup_interval_data r.intervals), codes "AGGREGATED_REPORT") ∷ []) (intervals, tt)

rollup_written : (id : List ℕ) (r : Rollup) → IsRollup r → IsWritten 8 (rollup_data id r)
unfolding rollup_data
rollup_written id r h = object_written 7 (rollup_fields id r) refl (string_written 7 id, (string_written 7 r.program, (resources_written r h, tt)))

-- ---- both

pub rollup_whole : (id : List ℕ) (r : Rollup) → IsRollup r → has_float (rollup_data id r) ≡ false
rollup_whole id r h = (rollup_written id r h).no_float

pub rollup_text_reads_back : (id : List ℕ) (r : Rollup) → IsTrue (is_id id) → IsRollup r → kept_rollup_of (kept_rollup_text id r) ≡ Ok (id, r)
unfolding kept_rollup_of kept_rollup_text
rollup_text_reads_back id r h k = rw (read_back 8 (rollup_data id r) (rollup_written id r k) (omega arith), rollup_reads_back id r h k) refl

pub rollup_text_differs : (id other : List ℕ) (a b : Rollup) → IsTrue (is_id id) → IsTrue (is_id other) → IsRollup a → IsRollup b → kept_rollup_text id a ≡ kept_rollup_text other b → (id ≡ other) × (a ≡ b)
rollup_text_differs id other a b h l k m same =
    let one : (id, a) ≡ (other, b) = same_Some (id, a) (other, b) (ap result_ok (sym (rollup_text_reads_back id a h k) ∙ ap kept_rollup_of same ∙ rollup_text_reads_back other b l m)) in
    (ap (λ (p : List ℕ × Rollup). p.0) one, ap (λ (p : List ℕ × Rollup). p.1) one)
