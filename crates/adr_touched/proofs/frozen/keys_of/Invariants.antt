use Rattle.std.proofs.Common.{◌≡◌, map}
use Rattle.adr_view.specs.Rollups.{event_key}
use Rattle.adr_touched.proofs.frozen.keys_of.Given as goal

-- those so far
abbrev pub invariant-shares : goal.invariant-shares
invariant-shares l = l.keys ≡ map (λ share. event_key share.event) l.yielded
