-- An honest upstream: what it wrote of its objects, one after another, and what it has in the end.
use Rattle.std.specs.Prelude.{◌≡◌, ◌<◌, ◌++◌, true, List, filter, Some}
use Rattle.std.specs.List.{AllPairs}
use Rattle.adr_state.specs.declared.base.Mark.{Mark}
use Rattle.adr_state.specs.declared.base.Mark.TheVariants.{Live, Dead}
use Rattle.adr_state.specs.declared.keys.MirrorKey.{MirrorKey}
use Rattle.adr_state.specs.Keys.{mirror_cmp, at, map_of}
use Rattle.adr_state.specs.Scans.{is_live}

-- ---- what it wrote: the key of each version with its moment and its body, as this node reads that, and the key of each deletion, in the order in which they came

-- what may come of a key after one thing: after a version one of a later moment, or the deletion; and after the deletion nothing
abbrev pub MayFollow : Mark → Mark → Type 0
MayFollow (Live m a) (Live n b) = m < n
MayFollow (Live m a) Dead = Unit {0}
MayFollow Dead mark = ⊥

-- an honest upstream: each later version of a key has a later moment, and a deleted key never returns
abbrev pub IsHonest : List (MirrorKey × Mark) → Type 0
IsHonest written = AllPairs (λ earlier later. earlier.0 ≡ later.0 → MayFollow earlier.1 later.1) written

-- it only wrote more since
abbrev pub IsBeginningOf : List (MirrorKey × Mark) → List (MirrorKey × Mark) → Type 0
IsBeginningOf written later = (more : List (MirrorKey × Mark)) × (later ≡ written ++ more)

-- ---- what it has in the end

-- each key with what was written of it last
abbrev pub latest : List (MirrorKey × Mark) → List (MirrorKey × Mark)
latest written = map_of mirror_cmp written

-- that was written of its key last
abbrev pub IsLatest : List (MirrorKey × Mark) → MirrorKey × Mark → Type 0
IsLatest written e = at mirror_cmp e.0 (latest written) ≡ Some e.1

-- the live part of rows: the keys that are not deleted, each with its version
abbrev pub live_part : List (MirrorKey × Mark) → List (MirrorKey × Mark)
live_part rows = filter (λ r. is_live r.1) rows

-- the present version of an object that is there
abbrev pub IsPresent : List (MirrorKey × Mark) → MirrorKey × Mark → Type 0
IsPresent written e = IsLatest written e × (is_live e.1 ≡ true)
