use Rattle.std.proofs.Common.{[], Some, true, refl, ap}
use Rattle.adr_state.specs.BaseChanges.{SetScan}
use Rattle.adr_db.specs.declared.meta.Meta.{Meta}
use Rattle.adr_db.specs.Bases.{kept_beside}
use Rattle.adr_db.proofs.Results.{ok_from}
use Rattle.adr_mirror.proofs.scan.scan_begin.Goals as goal

pub returns-clause-makes : goal.returns-clause-makes
returns-clause-makes g c clean =
    ok_from c.clear_polled.result (λ x leaves beside base was same. record {
      change = SetScan (Some []);
      decided = refl;
      holds = leaves (kept_beside beside base) was;
      counted = ap (λ (m : Meta). let after : Meta = record m { scan = true } in after) same;
      right = tt;
    }) (c.clear_polled.ensures.leaves clean)
