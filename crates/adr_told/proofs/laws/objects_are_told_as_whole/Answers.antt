use Rattle.adr_kept_view.specs.Objects.{as_object}
use Rattle.adr_told.specs.Told.{object_entries}
use Rattle.adr_told.proofs.Objects.{object_as_whole}
use Rattle.adr_told.proofs.Trails.{trail_as_whole}
use Rattle.adr_told.proofs.laws.objects_are_told_as_whole.Goals as goal

pub returns : goal.returns
returns c client subs owner before stamps after now olds rows beside last end es many stands_before stands up keeps stood untouched trail =
    trail_as_whole as_object (object_entries subs) client subs owner before stamps after now stands
    (λ old rows beside later cs so keeps untouched refreshed. object_as_whole client subs owner before stamps after now old rows beside later cs stands_before stands keeps so untouched refreshed)
    olds rows beside last end es many up stood keeps untouched trail
