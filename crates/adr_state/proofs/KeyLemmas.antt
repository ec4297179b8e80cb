-- The order of the mirror's keys that the code has is the one of the definitions.
use Rattle.std.proofs.Common.{◌≡◌, refl}
use Rattle.std.specs.Ordering.{ordering_then}
use Rattle.adr_objects.specs.declared.kind.Kind.{Kind}
use Rattle.adr_objects.specs.declared.kind.Kind.TheVariants.{Program, Event}
use Rattle.adr_objects.specs.contracts.kind.KindOrd.TheImpl as kind
use Rattle.adr_state.specs.contracts.keys.MirrorKeyOrd.TheImpl as key
use Rattle.adr_state.specs.contracts.keys.ViewKeyOrd.TheImpl as view
use Rattle.adr_state.specs.declared.keys.ViewKey.{ViewKey}
use Rattle.adr_state.specs.declared.keys.ViewKey.TheVariants as shown
use Rattle.adr_state.specs.Keys.{kind_cmp, id_cmp, mirror_cmp, view_cmp}

kinds_same : (a b : Kind) → kind.cmp-value.it a b ≡ kind_cmp a b
kinds_same Program Program = refl
kinds_same Program Event = refl
kinds_same Event Program = refl
kinds_same Event Event = refl

pub mirror_order : key.cmp-value.it ≡ mirror_cmp
mirror_order = λ k. λ a b. ordering_then (kinds_same a.kind b.kind k) (id_cmp a.id b.id)

views_same : (a b : ViewKey) → view.cmp-value.it a b ≡ view_cmp a b
views_same (shown.Program a) (shown.Program b) = refl
views_same (shown.Program a) (shown.Event b n) = refl
views_same (shown.Program a) (shown.Report n) = refl
views_same (shown.Program a) (shown.Rollup b) = refl
views_same (shown.Event a m) (shown.Program b) = refl
views_same (shown.Event a m) (shown.Event b n) = refl
views_same (shown.Event a m) (shown.Report n) = refl
views_same (shown.Event a m) (shown.Rollup b) = refl
views_same (shown.Report m) (shown.Program b) = refl
views_same (shown.Report m) (shown.Event b n) = refl
views_same (shown.Report m) (shown.Report n) = refl
views_same (shown.Report m) (shown.Rollup b) = refl
views_same (shown.Rollup a) (shown.Program b) = refl
views_same (shown.Rollup a) (shown.Event b n) = refl
views_same (shown.Rollup a) (shown.Report n) = refl
views_same (shown.Rollup a) (shown.Rollup b) = refl

-- and so is that of the view's keys
pub view_order : view.cmp-value.it ≡ view_cmp
view_order = λ k. λ a b. views_same a b k
