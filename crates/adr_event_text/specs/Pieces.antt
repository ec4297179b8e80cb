-- The pieces of the text that is kept of a shown event, and the event's text of them.
use Rattle.std.specs.Prelude.{ℕ, suc, ◌+◌, List, ◌++◌, Bool, codes, length, take, drop, nat_lt, if◌then◌else◌}
use Rattle.std.specs.Str.{bytes_eq}
use Rattle.json.specs.Print.{quoted}
use Rattle.adr_text.specs.Moments.{moment_text}
use Rattle.adr_subscription.specs.declared.words.OperationKind.{OperationKind}
use Rattle.adr_subscription.specs.Words.{operation_word}
use Rattle.adr_objects.specs.declared.shown.Stamps.{Stamps}
use Rattle.adr_written.specs.Ids.{shown_id}
use Rattle.adr_event_text.specs.Walks.{member_len}

-- a text begins with the member of that name, which has its quotes and its colon
abbrev pub begins : List ℕ → List ℕ → Bool
begins name text = bytes_eq (take (length name) text) name

-- how many bytes the first member and the comma behind it have, where it has that name; else none
abbrev pub named_len : List ℕ → List ℕ → ℕ
named_len name text =
    if begins name text then (if nat_lt (member_len text) (length text) then suc (member_len text) else member_len text)
    else 0

-- the members of an object's text, with the bracket behind them
abbrev pub members_of : List ℕ → List ℕ
members_of kept = drop 1 kept

abbrev pub name_len : List ℕ → ℕ
name_len kept = named_len (codes "\"eventName\":") (members_of kept)

-- the member `eventName` and the comma behind it, where there is one
unfoldable pub name_of : List ℕ → List ℕ
name_of kept = take (name_len kept) (members_of kept)

-- the members behind that
abbrev pub unnamed : List ℕ → List ℕ
unnamed kept = drop (name_len kept) (members_of kept)

-- how many bytes `intervalPeriod`, where it is there, and `intervals` have
abbrev pub middle_len : List ℕ → ℕ
middle_len text = named_len (codes "\"intervalPeriod\":") text + member_len (drop (named_len (codes "\"intervalPeriod\":") text) text)

unfoldable pub middle_of : List ℕ → List ℕ
middle_of kept = take (middle_len (unnamed kept)) (unnamed kept)

-- the comma and the members behind those, with the bracket
unfoldable pub tail_of : List ℕ → List ℕ
tail_of kept = drop (middle_len (unnamed kept)) (unnamed kept)

-- a member of a text
abbrev pub member_text : List ℕ → List ℕ → List ℕ
member_text name text = name ++ quoted text

-- when it appeared, its id and when it last changed, each in its place between the pieces
unfoldable pub spliced : List ℕ → List ℕ → List ℕ → List ℕ → List ℕ
spliced created id modified kept =
    ((((((member_text (codes "{\"createdDateTime\":") created ++ codes ",") ++ name_of kept) ++ member_text (codes "\"id\":") id) ++ codes ",") ++ middle_of kept) ++ member_text (codes ",\"modificationDateTime\":") modified) ++ tail_of kept

-- the text of a shown event, of the one that is kept of it, with its id and its stamps
abbrev pub told_text : ℕ → List ℕ → Stamps → List ℕ → List ℕ
told_text resource event stamps kept = spliced (moment_text stamps.created) (shown_id resource event) (moment_text stamps.modified) kept

-- the text of what was done to an event of that text
unfoldable pub notice_text : OperationKind → List ℕ → List ℕ
notice_text operation event =
    (((codes "{\"object\":" ++ event) ++ codes ",\"objectType\":\"EVENT\"") ++ member_text (codes ",\"operation\":") (operation_word operation)) ++ codes "}"
