-- Rows that rise stand in order.
use Rattle.adr_db.proofs.Common.{Base, State, mirror_cmp, nat_cmp}
use Rattle.adr_db.proofs.Rises.{keys_in_order, mirror_rises, resources_rise, reports_rise}
use Rattle.adr_db.specs.Bases.{Beside, kept_beside, HoldsBeside}
use Rattle.adr_view.specs.Laws.{StandsInOrder}

-- the base that tables hold has its rows in order
pub held_in_order : (beside : Beside) (base : Base) (s : State) → HoldsBeside beside base s → StandsInOrder base
held_in_order beside base s held = record {
  upstream_keys = keys_in_order mirror_cmp base.mirror (mirror_rises (kept_beside beside base) s held);
  resources = keys_in_order nat_cmp base.portfolio.resources (resources_rise (kept_beside beside base) s held);
  reports = keys_in_order nat_cmp base.portfolio.reports (reports_rise (kept_beside beside base) s held);
}
