-- What the text of a roll-up says: the upstream event's id and the roll-up that it was written for.
use Rattle.std.specs.Prelude.{ℕ, ℤ, List, [], ◌∷◌, codes, Result, Ok, Err}
use Rattle.serde_json.specs.Data.{Data}
use Rattle.adr_text.specs.Refusals.{◌>>=◌}
use Rattle.adr_text.specs.Fields.{member_of, items_in, required, each, id_in, name_in, i32_in}
use Rattle.adr_text.specs.declared.fault.Fault.{Fault}
use Rattle.adr_text.specs.declared.fault.Fault.TheVariants.{BadShape}
use Rattle.adr_text.specs.declared.refusal.Refusal.{Refusal}
use Rattle.adr_objects.specs.declared.report.RollupInterval.{RollupInterval}
use Rattle.adr_objects.specs.declared.report.Rollup.{Rollup}
use Rattle.adr_objects.specs.ReadBack.{value_of_text, as_bad_shape}
use Rattle.adr_shown.specs.ReadValues.{values_in, lone, amount_in, list_in}

-- the names of those that are missing
unfoldable pub missing_in : Data → Result (List (List ℕ)) Fault
missing_in d = values_in (codes "MISSING_RESOURCES") d >>= each name_in

-- the sum, and the names of those that are missing: none where the sum is the only payload
abbrev pub sum_from : List Data → Result (ℤ × List (List ℕ)) Fault
sum_from [] = Err BadShape
sum_from (sum ∷ []) = amount_in (codes "USAGE") sum >>= λ z. Ok (z, [])
sum_from (sum ∷ missing ∷ []) = amount_in (codes "USAGE") sum >>= λ z. missing_in missing >>= λ names. Ok (z, names)
sum_from (d ∷ e ∷ f ∷ ds) = Err BadShape

-- the sum that the payloads of an interval say, and the names of those that are missing
unfoldable pub sum_in : Data → Result (ℤ × List (List ℕ)) Fault
sum_in d = items_in d >>= sum_from

-- an interval of a roll-up
unfoldable pub rollup_interval_in : Data → Result RollupInterval Fault
rollup_interval_in d = do
  id ← required (member_of (codes "id") d) i32_in
  sum ← required (member_of (codes "payloads") d) sum_in
  Ok (record { id = id; sum = sum.0; missing = sum.1 })

-- the intervals of the one resource, which stands for all; its name says no more, and is not read
unfoldable pub resources_in : Data → Result (List RollupInterval) Fault
resources_in d = items_in d >>= lone >>= λ resource. required (member_of (codes "intervals") resource) (list_in rollup_interval_in)

-- the id of an upstream event and its roll-up, or the first fault
unfoldable pub rollup_in : Data → Result (List ℕ × Rollup) Fault
rollup_in d = do
  id ← required (member_of (codes "eventID") d) id_in
  program ← required (member_of (codes "programID") d) id_in
  intervals ← required (member_of (codes "resources") d) resources_in
  Ok (id, record { program = program; intervals = intervals })

-- the upstream event's id and the roll-up that a text is
abbrev pub rollup_of_text : List ℕ → Result (List ℕ × Rollup) Fault
rollup_of_text text = value_of_text text >>= rollup_in

-- the upstream event's id and the roll-up whose text it is, and 14 for a text that is read as none
unfoldable pub kept_rollup_of : List ℕ → Result (List ℕ × Rollup) Refusal
kept_rollup_of text = as_bad_shape (rollup_of_text text)
