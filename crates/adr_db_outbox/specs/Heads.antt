-- What `head` names, and how it is set right where an entry came or went.
use Rattle.std.specs.Prelude.{ℕ, ◌==◌, false, if◌then◌else◌, List, Option, None, Some}
use Rattle.std.specs.BTreeMap.{insert_entry, is_at}
use Rattle.std.specs.Map.{remove_entry}
use Rattle.std.specs.Option.{option_map, option_map_or}
use Rattle.std.specs.Ordering.{nat_cmp}
use Rattle.adr_delivery.specs.Entries.{destination}
use Rattle.adr_state.specs.Keys.{at}
use Rattle.adr_db.specs.Kept.{Kept, heads_of}

-- the destination of the entry of a number, where one waits
abbrev pub destination_at : ℕ → Kept → Option ℕ
destination_at n kept = option_map (λ entry. destination entry.addressee) (at nat_cmp n kept.entries)

-- the number of the first entry that goes to a destination, where one does
abbrev pub first_at : ℕ → Kept → Option ℕ
first_at dest kept = at nat_cmp dest (heads_of kept.entries)

-- where a destination has this number, or none
abbrev pub with_head : ℕ → Option ℕ → List (ℕ × ℕ) → List (ℕ × ℕ)
with_head dest None heads = remove_entry (is_at (nat_cmp dest)) heads
with_head dest (Some n) heads = insert_entry nat_cmp heads dest n

-- where a destination has the number that follows from the entries
abbrev pub set_right : ℕ → Kept → List (ℕ × ℕ) → List (ℕ × ℕ)
set_right dest kept heads = with_head dest (first_at dest kept) heads

-- so, where there is such a destination
abbrev pub set_right_where : Option ℕ → Kept → List (ℕ × ℕ) → List (ℕ × ℕ)
set_right_where None kept heads = heads
set_right_where (Some dest) kept heads = set_right dest kept heads

-- where an entry takes the place of one that went elsewhere, or of none: nothing else that `head` names depends on it
abbrev pub set_right_both : Option ℕ → ℕ → Kept → List (ℕ × ℕ) → List (ℕ × ℕ)
set_right_both left reached kept heads = if option_map_or (λ dest. dest == reached) left false then heads else set_right reached kept (set_right_where left kept heads)
