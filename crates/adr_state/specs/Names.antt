-- What is tested of the name of a ven or of a resource, and of the room for one more.
use Rattle.std.specs.Prelude.{ℕ, nat_le, ◌==◌, ◌&&◌, Bool, not, List, length, Result, Ok, Err, bytes_eq, if◌then◌else◌}
use Rattle.std.specs.List.{list_any}
use Rattle.adr_text.specs.declared.refusal.Refusal.{Refusal}
use Rattle.adr_text.specs.declared.refusal.Refusal.TheVariants.{Conflict, LimitReached}
use Rattle.adr_state.specs.declared.portfolio.Ven.{Ven}
use Rattle.adr_state.specs.declared.portfolio.Resource.{Resource}

-- the name of a ven, by which it is tested whether a name is taken
abbrev pub ven_name : Ven → List ℕ
ven_name ven = ven.name

-- the name of a resource, by which it is tested whether a name is taken
abbrev pub resource_name : Resource → List ℕ
resource_name resource = resource.name

-- whether one of them has the name
abbrev pub is_taken : {V : Type 0} → (V → List ℕ) → List ℕ → List (ℕ × V) → Bool
is_taken name_of name rows = list_any (λ r. bytes_eq (name_of r.1) name) rows

-- whether another than that of the number has it
abbrev pub is_taken_by_another : {V : Type 0} → (V → List ℕ) → ℕ → List ℕ → List (ℕ × V) → Bool
is_taken_by_another name_of n name rows = list_any (λ r. not (r.0 == n) && bytes_eq (name_of r.1) name) rows

-- whether there are as many as may be
abbrev pub is_full : {V : Type 0} → ℕ → List V → Bool
is_full limit rows = nat_le limit (length rows)

-- what is made where its name is free and there is room for it, else 7 and then 10
abbrev pub if_new : {A : Type 0} → Bool → Bool → A → Result A Refusal
if_new taken full made = if taken then Err Conflict else (if full then Err LimitReached else Ok made)

-- what is made where its name is free, else 7
abbrev pub if_free : {A : Type 0} → Bool → A → Result A Refusal
if_free taken made = if taken then Err Conflict else Ok made
