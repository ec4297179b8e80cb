use Rattle.adr_objects.proofs.NameSets.{name_set-push}
use Rattle.adr_objects.proofs.name_set.NameSet.of.Goals as goal

pub loop-name-preserved : goal.loop-name-preserved
loop-name-preserved c =
    let pushed = name_set-push c.loop-name.yielded c.loop-name.set c.in-Some.name c.loop-name.invariant.so_far c.loop-name.invariant.few in
    rw c.in_ok-insert.ensures.ok (record { so_far = pushed.so_far; few = pushed.few })
