-- Laws of the definitions: what they keep, whatever they are given.
use Rattle.std.specs.Prelude.{◌≡◌, ◌⊎◌, ℕ, true, false, List, Option, None, Some}
use Rattle.std.specs.List.{Contains}
use Rattle.std.specs.declared.cmp.Ordering.{Ordering}
use Rattle.adr_objects.specs.Canonical.{canonical_text}
use Rattle.adr_objects.specs.declared.body.Body.{Body}
use Rattle.adr_state.specs.declared.base.Mark.{Mark}
use Rattle.adr_state.specs.declared.base.Mark.TheVariants.{Live, Dead}
use Rattle.adr_state.specs.declared.keys.MirrorKey.{MirrorKey}
use Rattle.adr_state.specs.Keys.{mirror_cmp, at}
use Rattle.adr_state.specs.Marks.{is_below}
use Rattle.adr_state.specs.Mirror.{joined}

-- two marks that say the same: both are deletions, or versions of one moment and one canonical text
abbrev pub SayTheSame : Mark → Mark → Type 0
SayTheSame Dead Dead = Unit {0}
SayTheSame Dead (Live n b) = ⊥
SayTheSame (Live m a) Dead = ⊥
SayTheSame (Live m a) (Live n b) = (m ≡ n) × (canonical_text a ≡ canonical_text b)

-- the order of what is known: nothing known is least and a deletion greatest, no mark is below itself, an order is kept over a third mark, and of two marks one is below the other unless they say the same
pub record MarksAreOrdered : Type 0 where
  pub nothing_is_least : (m : Mark) → is_below None m ≡ true
  pub deletion_is_greatest : (m : Mark) → is_below (Some Dead) m ≡ false
  pub versions_are_below_it : (n : ℕ) (b : Body) → is_below (Some (Live n b)) Dead ≡ true
  pub never_below_itself : (m : Mark) → is_below (Some m) m ≡ false
  pub never_both_ways : (m n : Mark) → is_below (Some m) n ≡ true → is_below (Some n) m ≡ false
  pub kept_over_a_third : (k : Option Mark) (m n : Mark) → is_below k m ≡ true → is_below (Some m) n ≡ true → is_below k n ≡ true
  pub below_unless_same : (m n : Mark) → is_below (Some m) n ≡ false → is_below (Some n) m ≡ false → SayTheSame m n

-- what is known after is what was known before, or above it
abbrev pub IsRaised : Option Mark → Option Mark → Type 0
IsRaised before None = before ≡ None
IsRaised before (Some after) = (before ≡ Some after) ⊎ (is_below before after ≡ true)

-- whatever evidence comes to a mirror, each key then has the greatest of the mark that it had and those that came for it: it keeps its mark or has one above it, none that came is above it, and it is one of them
pub record IsJoined (mirror evidence : List (MirrorKey × Mark)) : Type 0 where
  pub only_raises : (key : MirrorKey) → IsRaised (at mirror_cmp key mirror) (at mirror_cmp key (joined mirror evidence))
  pub reaches_each : (key : MirrorKey) (mark : Mark) → Contains evidence (key, mark) → is_below (at mirror_cmp key (joined mirror evidence)) mark ≡ false
  pub is_one_of_them : (key : MirrorKey) (mark : Mark) → at mirror_cmp key (joined mirror evidence) ≡ Some mark → (at mirror_cmp key mirror ≡ Some mark) ⊎ Contains evidence (key, mark)

-- whatever evidence comes to whatever mirror, each key then has the greatest of the mark that it had and those that
-- came for it
abbrev pub JoinsAreGreatest : Type 0
JoinsAreGreatest = (mirror evidence : List (MirrorKey × Mark)) → IsJoined mirror evidence

-- the one order compares as the other does
abbrev pub IsSameOrder : {K : Type 0} → (K → K → Ordering) → (K → K → Ordering) → Type 0
IsSameOrder {K = K} one other = (a b : K) → one a b ≡ other a b
