use Rattle.std.proofs.Common.{◌≡◌, drop, map}
use Rattle.serde_json.specs.View.{view}
use Rattle.adr_config.specs.Grants.{limits_said}
use Rattle.adr_config.proofs.limits.limits_said.Given as goal

abbrev pub invariant-loop-i : goal.invariant-loop-i
invariant-loop-i l = limits_said (view l.value) (map (λ name. name.now) (drop l.i l.names)) l.limits ≡ limits_said (view l.value) (map (λ name. name.now) l.names) l.initial.limits
