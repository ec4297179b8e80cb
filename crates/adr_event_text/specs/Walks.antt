-- How far a member of a JSON object goes: to the comma or the closing bracket that stands outside of strings and of inner brackets.
use Rattle.std.specs.Prelude.{ℕ, zero, suc, List, [], ◌∷◌, ◌==◌, ◌||◌, if◌then◌else◌, Option, Some, None, option_map, unwrap_or}
use Rattle.adr_event_text.specs.declared.walk.Place.{Place}
use Rattle.adr_event_text.specs.declared.walk.Place.TheVariants.{Outside, Inside, Escaped}

-- how deep in brackets
abbrev pub depth_of : Place → ℕ
depth_of (Outside depth) = depth
depth_of (Inside depth) = depth
depth_of (Escaped depth) = depth

-- behind a closing bracket, unless it is none of an inner one
abbrev pub closed : ℕ → Option Place
closed zero = None
closed (suc depth) = Some (Outside depth)

-- behind a comma, unless it ends the member
abbrev pub parted : ℕ → Option Place
parted zero = None
parted (suc depth) = Some (Outside (suc depth))

-- where a byte leads from outside of strings
abbrev pub outside_at : ℕ → ℕ → Option Place
outside_at depth byte =
    if byte == 34 then Some (Inside depth)
    else if (byte == 91) || (byte == 123) then Some (Outside (suc depth))
    else if (byte == 93) || (byte == 125) then closed depth
    else if byte == 44 then parted depth
    else Some (Outside depth)

-- where a byte leads, unless the member ends before it
abbrev pub onward : Place → ℕ → Option Place
onward (Outside depth) byte = outside_at depth byte
onward (Inside depth) byte =
    if byte == 34 then Some (Outside depth)
    else if byte == 92 then Some (Escaped depth)
    else Some (Inside depth)
onward (Escaped depth) byte = Some (Inside depth)

-- how many bytes stand before the end of the member
abbrev pub bytes_on : Place → List ℕ → ℕ
bytes_on place [] = 0
bytes_on place (byte ∷ bytes) = unwrap_or (option_map (λ next. suc (bytes_on next bytes)) (onward place byte)) 0

-- how many bytes the member has that a text begins with
unfoldable pub member_len : List ℕ → ℕ
member_len text = bytes_on (Outside 0) text
