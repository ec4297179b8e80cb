-- Keys that stand at one place in their order are one, and the upstream key that a key of the view was made of.
use Rattle.std.proofs.Common.{◌≡◌, ◌<◌, Less, refl, sym, ap, ap₂, ◌∙◌, arith}
use Rattle.adr_view.proofs.Common.{CmpEqualImpliesEq, exact_unsigned, exact_bytes, exact_pairs, nat_cmp, id_cmp, mirror_cmp, share_cmp, view_cmp}
use Rattle.adr_objects.specs.declared.kind.Kind.TheVariants as kind
use Rattle.adr_state.specs.declared.keys.MirrorKey.{MirrorKey}
use Rattle.adr_state.specs.declared.keys.ViewKey.{ViewKey}
use Rattle.adr_state.specs.declared.keys.ViewKey.TheVariants as key
use Rattle.adr_state.specs.Keys.{frozen_cmp, kind_cmp, place_of}
use Rattle.adr_view.specs.Rollups.{event_key}

pub share_exact : CmpEqualImpliesEq share_cmp
share_exact a b h =
    let same : (a.program, a.resource) ≡ (b.program, b.resource) = exact_pairs id_cmp nat_cmp exact_bytes exact_unsigned (a.program, a.resource) (b.program, b.resource) h in
    λ j. record { program = (same j).0; resource = (same j).1 }

pub frozen_exact : CmpEqualImpliesEq frozen_cmp
frozen_exact a b h =
    let same : (a.event, a.resource) ≡ (b.event, b.resource) = exact_pairs id_cmp nat_cmp exact_bytes exact_unsigned (a.event, a.resource) (b.event, b.resource) h in
    λ j. record { event = (same j).0; resource = (same j).1 }

kind_exact : CmpEqualImpliesEq kind_cmp
kind_exact kind.Program kind.Program h = refl
kind_exact kind.Program kind.Event h = absurd (cc)
kind_exact kind.Event kind.Program h = absurd (cc)
kind_exact kind.Event kind.Event h = refl

pub mirror_exact : CmpEqualImpliesEq mirror_cmp
mirror_exact a b h =
    let same : (a.kind, a.id) ≡ (b.kind, b.id) = exact_pairs kind_cmp id_cmp kind_exact exact_bytes (a.kind, a.id) (b.kind, b.id) h in
    λ j. record { kind = (same j).0; id = (same j).1 }

pub view_exact : CmpEqualImpliesEq view_cmp
view_exact (key.Program a) (key.Program b) h = ap (λ id. key.Program id) (exact_bytes a b h)
view_exact (key.Program a) (key.Event b n) h = absurd (cc)
view_exact (key.Program a) (key.Report n) h = absurd (cc)
view_exact (key.Program a) (key.Rollup b) h = absurd (cc)
view_exact (key.Event a m) (key.Program b) h = absurd (cc)
view_exact (key.Event a m) (key.Event b n) h =
    let same : (a, m) ≡ (b, n) = exact_pairs id_cmp nat_cmp exact_bytes exact_unsigned (a, m) (b, n) h in
    λ j. key.Event (same j).0 (same j).1
view_exact (key.Event a m) (key.Report n) h = absurd (cc)
view_exact (key.Event a m) (key.Rollup b) h = absurd (cc)
view_exact (key.Report m) (key.Program b) h = absurd (cc)
view_exact (key.Report m) (key.Event b n) h = absurd (cc)
view_exact (key.Report m) (key.Report n) h = ap (λ n. key.Report n) (exact_unsigned m n h)
view_exact (key.Report m) (key.Rollup b) h = absurd (cc)
view_exact (key.Rollup a) (key.Program b) h = absurd (cc)
view_exact (key.Rollup a) (key.Event b n) h = absurd (cc)
view_exact (key.Rollup a) (key.Report n) h = absurd (cc)
view_exact (key.Rollup a) (key.Rollup b) h = ap (λ id. key.Rollup id) (exact_bytes a b h)

-- keys of kinds that stand apart stand so
pub apart : (a b : ViewKey) → place_of a < place_of b → view_cmp a b ≡ Less
apart (key.Program a) (key.Program b) less = absurd (omega (arith, less))
apart (key.Program a) (key.Event b n) less = refl
apart (key.Program a) (key.Report n) less = refl
apart (key.Program a) (key.Rollup b) less = refl
apart (key.Event a m) (key.Program b) less = absurd (omega (arith, less))
apart (key.Event a m) (key.Event b n) less = absurd (omega (arith, less))
apart (key.Event a m) (key.Report n) less = refl
apart (key.Event a m) (key.Rollup b) less = refl
apart (key.Report m) (key.Program b) less = absurd (omega (arith, less))
apart (key.Report m) (key.Event b n) less = absurd (omega (arith, less))
apart (key.Report m) (key.Report n) less = absurd (omega (arith, less))
apart (key.Report m) (key.Rollup b) less = refl
apart (key.Rollup a) (key.Program b) less = absurd (omega (arith, less))
apart (key.Rollup a) (key.Event b n) less = absurd (omega (arith, less))
apart (key.Rollup a) (key.Report n) less = absurd (omega (arith, less))
apart (key.Rollup a) (key.Rollup b) less = absurd (omega (arith, less))

-- the key of a program or of an event is made of that upstream key
abbrev pub IsMadeOf : ViewKey → MirrorKey → Type 0
IsMadeOf (key.Program id) k = k ≡ record { kind = kind.Program; id = id }
IsMadeOf (key.Event id resource) k = k ≡ event_key id
IsMadeOf _ k = ⊥

-- and that of a roll-up of its event's
abbrev pub IsRolledUpOf : ViewKey → MirrorKey → Type 0
IsRolledUpOf (key.Rollup id) k = k ≡ event_key id
IsRolledUpOf _ k = ⊥

-- two keys are made of two that stand so
from_made : {j k i l : MirrorKey} → j ≡ i → k ≡ l → mirror_cmp j k ≡ Less → mirror_cmp i l ≡ Less
from_made one other less = sym (ap₂ mirror_cmp one other) ∙ less

-- keys of programs and events stand as those that they were made of
pub stand_alike : (j k : MirrorKey) (l m : ViewKey) → IsMadeOf l j → IsMadeOf m k → mirror_cmp j k ≡ Less → view_cmp l m ≡ Less
stand_alike j k (key.Program a) (key.Program b) one other less = from_made one other less
stand_alike j k (key.Program a) (key.Event b n) one other less = refl
stand_alike j k (key.Event a m) (key.Program b) one other less = let no : mirror_cmp (event_key a) (record { kind = kind.Program; id = b }) ≡ Less = from_made one other less in absurd (cc)
stand_alike j k (key.Event a m) (key.Event b n) one other less = rw (from_made one other less) refl
stand_alike j k (key.Program a) (key.Report n) one other less = absurd other
stand_alike j k (key.Program a) (key.Rollup b) one other less = absurd other
stand_alike j k (key.Event a m) (key.Report n) one other less = absurd other
stand_alike j k (key.Event a m) (key.Rollup b) one other less = absurd other
stand_alike j k (key.Report m) y one other less = absurd one
stand_alike j k (key.Rollup a) y one other less = absurd one

-- and those of roll-ups as those of their events
pub roll_up_alike : (j k : MirrorKey) (l m : ViewKey) → IsRolledUpOf l j → IsRolledUpOf m k → mirror_cmp j k ≡ Less → view_cmp l m ≡ Less
roll_up_alike j k (key.Rollup a) (key.Rollup b) one other less = from_made one other less
roll_up_alike j k (key.Rollup a) (key.Program b) one other less = absurd other
roll_up_alike j k (key.Rollup a) (key.Event b n) one other less = absurd other
roll_up_alike j k (key.Rollup a) (key.Report n) one other less = absurd other
roll_up_alike j k (key.Program a) y one other less = absurd one
roll_up_alike j k (key.Event a m) y one other less = absurd one
roll_up_alike j k (key.Report m) y one other less = absurd one
