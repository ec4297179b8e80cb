-- What the text of a shown event says: the event that it was written for.
use Rattle.std.specs.Prelude.{ℕ, ℤ, List, [], ◌∷◌, codes, Option, Some, None, Result, Ok, Err}
use Rattle.serde_json.specs.Data.{Data}
use Rattle.adr_text.specs.Refusals.{◌>>=◌}
use Rattle.adr_text.specs.Fields.{member_of, items_in, required, optional, id_in, i32_in}
use Rattle.adr_text.specs.declared.fault.Fault.{Fault}
use Rattle.adr_text.specs.declared.fault.Fault.TheVariants.{BadShape}
use Rattle.adr_text.specs.declared.refusal.Refusal.{Refusal}
use Rattle.adr_objects.specs.declared.shown.ShownInterval.{ShownInterval}
use Rattle.adr_objects.specs.declared.shown.ShownEvent.{ShownEvent}
use Rattle.adr_objects.specs.Fields.{text_in, priority_in, period_in}
use Rattle.adr_objects.specs.ReadBack.{value_of_text, as_bad_shape}
use Rattle.adr_shown.specs.ReadValues.{amount_in, target_in, list_in}

-- the part that the payloads of an interval say: none where there is no payload, else that of the only one
abbrev pub part_from : List Data → Result (Option ℤ) Fault
part_from [] = Ok None
part_from (d ∷ []) = amount_in (codes "DISPATCH_SETPOINT") d >>= λ z. Ok (Some z)
part_from (d ∷ e ∷ ds) = Err BadShape

-- the resource's part in an interval, where its payloads have one
unfoldable pub part_in : Data → Result (Option ℤ) Fault
part_in d = items_in d >>= part_from

-- an interval with the resource's part, where it has one
unfoldable pub shown_interval_in : Data → Result ShownInterval Fault
shown_interval_in d = do
  id ← required (member_of (codes "id") d) i32_in
  period ← optional (member_of (codes "intervalPeriod") d) period_in
  part ← required (member_of (codes "payloads") d) part_in
  Ok (record { id = id; period = period; part = part })

-- the ven's name and the resource's, of exactly two targets
abbrev pub names_from : List Data → Result (List ℕ × List ℕ) Fault
names_from [] = Err BadShape
names_from (d ∷ []) = Err BadShape
names_from (ven ∷ resource ∷ []) = target_in (codes "VEN_NAME") ven >>= λ v. target_in (codes "RESOURCE_NAME") resource >>= λ r. Ok (v, r)
names_from (d ∷ e ∷ f ∷ ds) = Err BadShape

-- whose event it is: the ven's name, then the resource's
unfoldable pub targets_in : Data → Result (List ℕ × List ℕ) Fault
targets_in d = items_in d >>= names_from

-- what a resource is shown of an event, or the first fault; `objectType` says no more, and is not read
unfoldable pub shown_in : Data → Result ShownEvent Fault
shown_in d = do
  program ← required (member_of (codes "programID") d) id_in
  name ← optional (member_of (codes "eventName") d) (text_in 256)
  priority ← optional (member_of (codes "priority") d) priority_in
  period ← optional (member_of (codes "intervalPeriod") d) period_in
  intervals ← required (member_of (codes "intervals") d) (list_in shown_interval_in)
  names ← required (member_of (codes "targets") d) targets_in
  Ok (record { program = program; name = name; priority = priority; period = period; intervals = intervals; ven_name = names.0; resource_name = names.1 })

-- the shown event that a text is
abbrev pub shown_of_text : List ℕ → Result ShownEvent Fault
shown_of_text text = value_of_text text >>= shown_in

-- the shown event whose text it is, and 14 for a text that is read as none
unfoldable pub shown_of : List ℕ → Result ShownEvent Refusal
shown_of text = as_bad_shape (shown_of_text text)
