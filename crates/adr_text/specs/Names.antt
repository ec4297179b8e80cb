-- Which texts are names.
use Rattle.std.specs.Prelude.{ℕ, List, length, Bool, ◌&&◌, nat_le, Result, Ok, Err, if◌then◌else◌}
use Rattle.adr_text.specs.declared.refusal.Refusal.{Refusal}
use Rattle.adr_text.specs.declared.refusal.Refusal.TheVariants.{BadShape}

abbrev pub max_name : ℕ
max_name = 128

-- any text of 1 to 128 bytes
abbrev pub is_name : List ℕ → Bool
is_name text = nat_le 1 (length text) && nat_le (length text) max_name

-- the name, or its refusal
abbrev pub name_of : List ℕ → Result (List ℕ) Refusal
name_of text = if is_name text then Ok text else Err BadShape
