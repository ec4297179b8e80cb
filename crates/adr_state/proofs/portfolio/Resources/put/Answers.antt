use Rattle.std.proofs.Common.{◌<◌, length}
use Rattle.std.specs.Ordering.{nat_cmp}
use Rattle.adr_state.specs.Weights.{most_resources}
use Rattle.adr_state.proofs.MapLemmas.{put_within}
use Rattle.adr_state.proofs.portfolio.Resources.put.Goals as goal

pub invariant_of-self : goal.invariant_of-self
invariant_of-self c =
    let room : length c.self.inside.rows < most_resources = rw c.self.view_is c.requires in
    put_within nat_cmp c.put.result c.self.inside.rows c.put.new.self c.args.number c.args.resource most_resources room c.put.ensures.ok c.put.ensures.err
