-- The orders of the keys, and what a map has at a key.
use Rattle.std.specs.Prelude.{ℕ, List, [], Option, fold}
use Rattle.std.specs.declared.cmp.Ordering.{Ordering}
use Rattle.std.specs.declared.cmp.Ordering.TheVariants.{Less, Equal, Greater}
use Rattle.std.specs.Ordering.{nat_cmp, ordering_then}
use Rattle.std.specs.Cmp.Lexicographic.{slice_cmp}
use Rattle.std.specs.Map.{lookup}
use Rattle.std.specs.BTreeMap.{is_at, insert_entry}
use Rattle.adr_objects.specs.declared.kind.Kind.{Kind}
use Rattle.adr_objects.specs.declared.kind.Kind.TheVariants as kind
use Rattle.adr_state.specs.declared.keys.MirrorKey.{MirrorKey}
use Rattle.adr_state.specs.declared.keys.ShareKey.{ShareKey}
use Rattle.adr_state.specs.declared.keys.FrozenKey.{FrozenKey}
use Rattle.adr_state.specs.declared.keys.ViewKey.{ViewKey}
use Rattle.adr_state.specs.declared.keys.ViewKey.TheVariants.{Program, Event, Report, Rollup}

-- programs before events
abbrev pub kind_cmp : Kind → Kind → Ordering
kind_cmp kind.Program kind.Program = Equal
kind_cmp kind.Program kind.Event = Less
kind_cmp kind.Event kind.Program = Greater
kind_cmp kind.Event kind.Event = Equal

-- ids are compared byte by byte
abbrev pub id_cmp : List ℕ → List ℕ → Ordering
id_cmp = slice_cmp nat_cmp

-- upstream keys: programs before events, and then by id
abbrev pub mirror_cmp : MirrorKey → MirrorKey → Ordering
mirror_cmp a b = ordering_then (kind_cmp a.kind b.kind) (id_cmp a.id b.id)

-- shares by the id of the program, and then by the number of the resource
abbrev pub share_cmp : ShareKey → ShareKey → Ordering
share_cmp a b = ordering_then (id_cmp a.program b.program) (nat_cmp a.resource b.resource)

-- frozen shares by the id of the event, and then by the number of the resource
abbrev pub frozen_cmp : FrozenKey → FrozenKey → Ordering
frozen_cmp a b = ordering_then (id_cmp a.event b.event) (nat_cmp a.resource b.resource)

-- where a key stands by what is shown at it: programs, then events, reports and roll-ups
abbrev pub place_of : ViewKey → ℕ
place_of (Program id) = 0
place_of (Event id resource) = 1
place_of (Report n) = 2
place_of (Rollup id) = 3

-- programs by upstream id, then events by upstream id and by resource number, reports by number, and roll-ups by upstream id
abbrev pub view_cmp : ViewKey → ViewKey → Ordering
view_cmp (Program a) (Program b) = id_cmp a b
view_cmp (Event a m) (Event b n) = ordering_then (id_cmp a b) (nat_cmp m n)
view_cmp (Report m) (Report n) = nat_cmp m n
view_cmp (Rollup a) (Rollup b) = id_cmp a b
view_cmp a b = nat_cmp (place_of a) (place_of b)

-- what a map has at a key
abbrev pub at : {K V : Type 0} → (K → K → Ordering) → K → List (K × V) → Option V
at cmp key rows = lookup (is_at (cmp key)) rows

-- a map with more rows, each put in its place
abbrev pub with_rows : {K V : Type 0} → (K → K → Ordering) → List (K × V) → List (K × V) → List (K × V)
with_rows cmp m rows = fold (λ m r. insert_entry cmp m r.0 r.1) m rows

-- the map that rows make
abbrev pub map_of : {K V : Type 0} → (K → K → Ordering) → List (K × V) → List (K × V)
map_of cmp rows = with_rows cmp [] rows
