use Rattle.std.proofs.Common.{◌∙◌, sym}
use Rattle.adr_routes.proofs.PlaceTable.{none_yet, one_put, free_at}
use Rattle.adr_routes.proofs.routes.router_of.Goals as goal

pub loop-place-init : goal.loop-place-init
loop-place-init c = c.new-router.ensures ∙ sym none_yet

pub insert_place-requires : goal.insert_place-requires
insert_place-requires c = free_at c.args.places.now c.loop-place.place-index _ _ c.loop-place-test.true c.requires c.loop-place.invariant

pub loop-place-preserved : goal.loop-place-preserved
loop-place-preserved c = one_put c.args.places.now c.loop-place.place-index _ _ _ c.loop-place-test.true c.loop-place.invariant c.in_ok-insert_place.ensures
