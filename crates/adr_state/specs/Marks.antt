-- What is known of an upstream key, and the order of that.
use Rattle.std.specs.Prelude.{ℕ, nat_lt, ◌==◌, Bool, true, false, ◌||◌, ◌&&◌, List, Option, None, Some}
use Rattle.std.specs.Ordering.{nat_cmp, is_lt}
use Rattle.std.specs.Cmp.Lexicographic.{slice_cmp}
use Rattle.adr_objects.specs.Canonical.{canonical_text}
use Rattle.adr_objects.specs.declared.body.Body.{Body}
use Rattle.adr_state.specs.declared.base.Mark.{Mark}
use Rattle.adr_state.specs.declared.base.Mark.TheVariants.{Live, Dead}

-- texts are compared byte by byte
abbrev pub is_text_below : List ℕ → List ℕ → Bool
is_text_below a b = is_lt (slice_cmp nat_cmp a b)

-- of two versions the one of the later moment is the greater, and of one moment that with the greater canonical text
abbrev pub is_version_below : ℕ → Body → ℕ → Body → Bool
is_version_below m a n b = nat_lt m n || (m == n && is_text_below (canonical_text a) (canonical_text b))

-- whether what is known is less than a mark: nothing known is less than any, a version is less than one of a later
-- moment or, of one moment, with a greater canonical text, every version is less than a deletion, and a deletion is
-- less than none
abbrev pub is_below : Option Mark → Mark → Bool
is_below None mark = true
is_below (Some Dead) mark = false
is_below (Some (Live m a)) Dead = true
is_below (Some (Live m a)) (Live n b) = is_version_below m a n b
