-- Where a body ends, as the fields of its head say.
use Rattle.std.specs.Prelude.{ℕ, Bool, ◌&&◌, List, [], ◌∷◌, length, reverse, nat_lt, nat_le, if◌then◌else◌, codes, Result, Ok, Err}
use Rattle.std.specs.List.{list_all}
use Rattle.std.specs.Char.{is_ascii_digit}
use Rattle.std.specs.Str.Parse.{digits_value}
use Rattle.adr_wire.specs.declared.end.MessageFault.{MessageFault}
use Rattle.adr_wire.specs.declared.end.MessageFault.TheVariants.{Malformed, TooLarge, NoCoding}
use Rattle.adr_wire.specs.declared.extent.Extent.{Extent}
use Rattle.adr_wire.specs.declared.extent.Extent.TheVariants.{Unsaid, Length, Chunked}
use Rattle.adr_wire.specs.Fields.{values}
use Rattle.adr_wire.specs.Codings.{codings, is_chunked}

-- digits, and at least one
abbrev pub is_number : List ℕ → Bool
is_number text = nat_lt 0 (length text) && list_all is_ascii_digit text

-- the length that plain digits write, malformed where the text is none, and too large above the limit
abbrev pub length_in : ℕ → List ℕ → Result Extent MessageFault
length_in limit text =
    if is_number text then (if nat_le (digits_value 10 text) limit then Ok (Length (digits_value 10 text)) else Err TooLarge)
    else Err Malformed

-- none besides
abbrev pub alone : List (List ℕ) → Result Extent MessageFault
alone [] = Ok Chunked
alone (c ∷ others) = Err NoCoding

abbrev pub last_first : List (List ℕ) → Result Extent MessageFault
last_first [] = Err Malformed
last_first (last ∷ others) = if is_chunked last then alone others else Err Malformed

-- what codings say: malformed where there is none or the last isn't `chunked`, not known where others stand before it
abbrev pub coding_in : List (List ℕ) → Result Extent MessageFault
coding_in codings = last_first (reverse codings)

-- where a body ends, by the values of Content-Length and those of Transfer-Encoding: unsaid with neither, after a
-- length, or after the last chunk; at most one length, and no coding beside it, else malformed
abbrev pub extent_by : ℕ → List (List ℕ) → List (List ℕ) → Result Extent MessageFault
extent_by limit [] [] = Ok Unsaid
extent_by limit (text ∷ []) [] = length_in limit text
extent_by limit [] (value ∷ others) = coding_in (codings (value ∷ others))
extent_by limit _ _ = Err Malformed

-- where a body ends, by the fields of a head, whatever the case of their names
unfoldable pub extent_in : ℕ → List (List ℕ × List ℕ) → Result Extent MessageFault
extent_in limit fields = extent_by limit (values (codes "content-length") fields) (values (codes "transfer-encoding") fields)
