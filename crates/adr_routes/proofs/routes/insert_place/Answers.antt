use Rattle.adr_routes.proofs.PlaceTable.{free_refusal}
use Rattle.adr_routes.proofs.routes.insert_place.Goals as goal
use Rattle.adr_routes.proofs.routes.insert_place.Goals.{in-OutOfMemory, in_default-matches}

pub prove-unreachable-requires : goal.prove-unreachable-requires
prove-unreachable-requires c =
    let is = free_refusal _ _ _ _ _ _ _ c.text_of.ensures c.requires c.in-Err.is c.insert.ensures in
    elim c.match-matches.branch [
      | in-OutOfMemory w ↦ (let yes = w.matches-is in absurd cc)
      | in_default-matches w ↦ w.in_default-matches.not-OutOfMemory is
    ]
