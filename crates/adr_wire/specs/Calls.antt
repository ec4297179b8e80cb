-- Calls of a source or a sink, and what is written.
use Rattle.std.specs.Prelude.{◌≡◌, ℕ, ◌+◌, true, List, take, Option}
use Rattle.std.specs.Io.KnownBytes.{Appends}
use Rattle.adr_text.specs.Calls.{Calls}

-- no call failed
abbrev pub NoneFails : Calls → Calls → Type 0
NoneFails old new = new.failed ≡ old.failed

-- the last call failed, and no other
abbrev pub LastFails : Calls → Calls → Type 0
LastFails old new = (new.failed ≡ old.failed + 1) × (new.has_failed ≡ true)

-- as many calls were made as may be, and none failed
abbrev pub RunsOut : ℕ → Calls → Calls → Type 0
RunsOut most old new = (new.made ≡ old.made + most) × NoneFails old new

-- a part of the bytes was written, from their front
pub record WritesPart (old new : Option (List ℕ)) (bytes : List ℕ) : Type 0 where
  pub part : ℕ
  pub written : Appends old new (take part bytes)
