-- Which entry leaves next.
use Rattle.std.specs.Prelude.{ℕ, Bool, not, ◌&&◌, List, [], ◌∷◌, Option, Some, None, if◌then◌else◌}
use Rattle.std.specs.List.{list_any}
use Rattle.std.specs.BTreeMap.{is_at}
use Rattle.std.specs.BTreeSet.{insert_key}
use Rattle.std.specs.Ordering.{nat_cmp}
use Rattle.adr_delivery.specs.declared.entry.Entry.{Entry}
use Rattle.adr_delivery.specs.Deliveries.{may_leave}
use Rattle.adr_delivery.specs.Entries.{destination}

-- whether it may leave, and goes to none of the destinations of those before it
abbrev pub may_be_next : List ℕ → ℕ → Entry → Bool
may_be_next seen now e = may_leave now e.delivery && not (list_any (is_at (nat_cmp (destination e.addressee))) seen)

-- the first of them that may leave, where those before it went to the destinations that were seen
abbrev pub next_after : List ℕ → ℕ → List (ℕ × Entry) → Option (ℕ × Entry)
next_after seen now [] = None
next_after seen now (r ∷ rs) = if may_be_next seen now r.1 then Some r else next_after (insert_key nat_cmp seen (destination r.1.addressee)) now rs

-- the first entry that may leave, of those before which none of their destination waits
abbrev pub next_entry : ℕ → List (ℕ × Entry) → Option (ℕ × Entry)
next_entry now entries = next_after [] now entries
