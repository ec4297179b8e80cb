-- Lists of which no two elements have one id, where it is said how an element gives its id.
use Rattle.std.specs.Prelude.{List, [], ◌∷◌, ◌++◌, Bool, true, not, ◌&&◌, ℤ, Result, Ok, Err, if◌then◌else◌}
use Rattle.std.specs.Ordering.{int_eq}
use Rattle.std.specs.List.{list_any}
use Rattle.adr_text.specs.declared.fault.Fault.{Fault}
use Rattle.adr_text.specs.declared.fault.Fault.TheVariants.{Repeated}

-- one of them has the id
abbrev pub has_id : {A : Type 0} → (A → ℤ) → ℤ → List A → Bool
has_id id_of id items = list_any (λ x. int_eq (id_of x) id) items

-- each has an id that none before it has
abbrev pub differ_after : {A : Type 0} → (A → ℤ) → List A → List A → Bool
differ_after id_of before [] = true
differ_after id_of before (x ∷ xs) = not (has_id id_of (id_of x) before) && differ_after id_of (before ++ x ∷ []) xs

-- no two of them have one id
abbrev pub differ : {A : Type 0} → (A → ℤ) → List A → Bool
differ id_of items = differ_after id_of [] items

-- all of them, of which no two have one id, else the fault of a repeated id
abbrev pub apart : {A : Type 0} → (A → ℤ) → List A → Result (List A) Fault
apart id_of items = if differ id_of items then Ok items else Err Repeated
