use Rattle.std.proofs.Common.{◌≡◌, map}
use Rattle.adr_state.specs.Keys.{view_cmp, with_rows, map_of}
use Rattle.adr_view.specs.Changes.{stamps_for}
use Rattle.adr_view.proofs.changes.restamped.Given as goal

-- the stamps so far, and those of the keys that are left
abbrev pub invariant-loop-key : goal.invariant-loop-key
invariant-loop-key l =
    with_rows view_cmp l.next (map (stamps_for l.stamps l.before l.now) l.key-iterator) ≡ map_of view_cmp (map (stamps_for l.stamps l.before l.now) l.after)
