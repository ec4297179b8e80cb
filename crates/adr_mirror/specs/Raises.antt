-- What marks make of the mirror, one after another, and what is kept after them.
use Rattle.std.specs.Prelude.{◌≡◌, ℕ, ◌+◌, Bool, true, false, ◌&&◌, nat_lt, List, length, Option, None, Some, if◌then◌else◌}
use Rattle.std.specs.Option.{option_map_or}
use Rattle.std.specs.BTreeSet.{insert_key}
use Rattle.std.specs.declared.cmp.Ordering.TheVariants.{Less}
use Rattle.sqlite.specs.Tree.{IsAscending}
use Rattle.adr_objects.specs.declared.body.Found.{Found}
use Rattle.adr_state.specs.declared.base.Mark.{Mark}
use Rattle.adr_state.specs.declared.keys.MirrorKey.{MirrorKey}
use Rattle.adr_state.specs.Keys.{mirror_cmp, at}
use Rattle.adr_state.specs.Marks.{is_below}
use Rattle.adr_state.specs.Mirror.{raised, joined}
use Rattle.adr_state.specs.Scans.{has_key, keys_found}
use Rattle.adr_db.specs.Kept.{Kept}
use Rattle.adr_mirror.specs.declared.raise.Rise.{Rise}
use Rattle.adr_mirror.specs.declared.raise.Rise.TheVariants.{Same, Higher, First}
use Rattle.adr_mirror.specs.declared.risen.Risen.{Risen}

-- ---- which marks rise

-- what a mark makes of what is known of its key: the first mark, a higher one, or neither
abbrev pub rise_of : Option Mark → Mark → Rise
rise_of None mark = First
rise_of (Some known) mark = if is_below (Some known) mark then Higher else Same

-- a mark raises its key: as the first one, or as a higher one
abbrev pub is_raised : Rise → Bool
is_raised Same = false
is_raised Higher = true
is_raised First = true

-- how many keys it adds
abbrev pub added_by : Rise → ℕ
added_by Same = 0
added_by Higher = 0
added_by First = 1

-- whether the mark of a key is above the one that it had
abbrev pub rises : List (MirrorKey × Mark) → List (MirrorKey × Mark) → MirrorKey → Bool
rises before after key = option_map_or (λ mark. is_below (at mirror_cmp key before) mark) (at mirror_cmp key after) false

-- the keys whose mark rose, in the order of the keys, each once
pub record HaveRisen (before after : List (MirrorKey × Mark)) (keys : List MirrorKey) : Type 0 where
  pub ordered : IsAscending (λ j k. mirror_cmp j k ≡ Less) keys
  pub each : (key : MirrorKey) → has_key keys key ≡ rises before after key

-- those, and how many keys there are now that were not there
pub record HasRisen (before after : List (MirrorKey × Mark)) (risen : Risen) : Type 0 where
  pub keys : HaveRisen before after risen.keys
  pub added : length before + risen.added ≡ length after

-- with what a mark made of its key
abbrev pub noted : Risen → MirrorKey → Rise → Risen
noted risen key Same = risen
noted risen key Higher = record risen { keys = insert_key mirror_cmp risen.keys key }
noted risen key First = record { keys = insert_key mirror_cmp risen.keys key; added = risen.added + 1 }

-- keys were added, and they are more than the limit then
abbrev pub are_beyond : ℕ → ℕ → ℕ → Bool
are_beyond limit keys added = nat_lt 0 added && nat_lt limit (keys + added)

-- ---- what is kept then

-- what is kept with the mark of a key raised: it keeps the greater of its own and the one that comes
abbrev pub with_raised : MirrorKey × Mark → Kept → Kept
with_raised e kept = record kept { mirror = raised kept.mirror e }

-- what is kept with marks joined to the mirror, one after another
abbrev pub with_joined : List (MirrorKey × Mark) → Kept → Kept
with_joined evidence kept = record kept { mirror = joined kept.mirror evidence }

-- what is kept with the keys of what was found among those that were polled
abbrev pub with_keys_polled : List Found → Kept → Kept
with_keys_polled founds kept = record kept { polled = keys_found kept.polled founds }

-- keys that were polled are noted, where a scan is open for it
abbrev pub with_polled_if : Bool → List Found → Kept → Kept
with_polled_if is_noted founds kept = if is_noted then with_keys_polled founds kept else kept
