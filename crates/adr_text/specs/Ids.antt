-- Which texts are object ids.
use Rattle.std.specs.Prelude.{ℕ, List, length, Bool, ◌&&◌, ◌||◌, ◌==◌, nat_le, Result, Ok, Err, if◌then◌else◌}
use Rattle.std.specs.List.{list_all}
use Rattle.std.specs.Char.{is_ascii_alphanumeric}
use Rattle.adr_text.specs.declared.refusal.Refusal.{Refusal}
use Rattle.adr_text.specs.declared.refusal.Refusal.TheVariants.{BadShape}

-- a letter, a digit, '-' or '_'
abbrev pub is_id_byte : ℕ → Bool
is_id_byte b = is_ascii_alphanumeric b || b == 45 || b == 95

abbrev pub max_id : ℕ
max_id = 128

-- 1 to 128 letters, digits, '-' and '_'
abbrev pub is_id : List ℕ → Bool
is_id text = nat_le 1 (length text) && nat_le (length text) max_id && list_all is_id_byte text

-- the id, or its refusal
abbrev pub id_of : List ℕ → Result (List ℕ) Refusal
id_of text = if is_id text then Ok text else Err BadShape
