use Rattle.std.proofs.Common.{rules, ◌≤◌}
use Rattle.adr_laws.proofs.TallyLemmas.{entries_counted}
use Rattle.adr_laws.proofs.laws.entries_are_counted.Goals as goal

pub returns : goal.returns
returns c = let fits = c.well_formed in let bounded : c.args.limits.serial ≤ 9_000_000_000_000_000 = search rules in entries_counted c.args.limits bounded
