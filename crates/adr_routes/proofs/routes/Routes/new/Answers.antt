use Rattle.adr_routes.proofs.PlaceTable.{table_free}
use Rattle.adr_routes.proofs.routes.Routes.new.Goals as goal

pub router_of-requires : goal.router_of-requires
router_of-requires c = table_free
