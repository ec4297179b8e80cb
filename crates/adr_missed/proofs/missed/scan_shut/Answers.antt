use Rattle.std.proofs.Common.{None, false, ap}
use Rattle.adr_db.proofs.Common.{SetScan}
use Rattle.adr_db.specs.declared.meta.Meta.{Meta}
use Rattle.adr_db.specs.Bases.{kept_beside}
use Rattle.adr_missed.proofs.Closing.{scan_closes, closing_is}
use Rattle.adr_missed.proofs.missed.scan_shut.Goals as goal

pub returns-clause-shuts : goal.returns-clause-shuts
returns-clause-shuts g c clean beside base was same told =
    let closes = scan_closes base c.args.keys told in
    record {
      change = SetScan None;
      decided = closing_is base c.args.keys closes;
      holds = c.in_ok-clear_polled.ensures.leaves clean (kept_beside beside base) was;
      counted = ap (λ (m : Meta). let after : Meta = record m { scan = false } in after) same;
      right = closes;
    }
