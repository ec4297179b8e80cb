-- Which texts are bearer tokens.
use Rattle.std.specs.Prelude.{ℕ, List, length, Bool, ◌&&◌, nat_le, Result, Ok, Err, if◌then◌else◌}
use Rattle.std.specs.List.{list_all}
use Rattle.serde_json.specs.Data.{Data}
use Rattle.adr_text.specs.Refusals.{◌>>=◌}
use Rattle.adr_text.specs.Fields.{text_of}
use Rattle.adr_text.specs.declared.fault.Fault.{Fault}
use Rattle.adr_text.specs.declared.fault.Fault.TheVariants.{BadShape}

-- from '!' to '~'
abbrev pub is_token_byte : ℕ → Bool
is_token_byte b = nat_le 33 b && nat_le b 126

abbrev pub max_token : ℕ
max_token = 1024

-- 1 to 1,024 characters from '!' to '~'
abbrev pub is_token : List ℕ → Bool
is_token text = nat_le 1 (length text) && nat_le (length text) max_token && list_all is_token_byte text

-- the token, or its fault
abbrev pub token_of : List ℕ → Result (List ℕ) Fault
token_of text = if is_token text then Ok text else Err BadShape

-- a text of 1 to 1,024 characters from '!' to '~', else the wrong shape
unfoldable pub token_in : Data → Result (List ℕ) Fault
token_in d = text_of d >>= token_of
