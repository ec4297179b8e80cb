use Rattle.std.proofs.Common.{◌≡◌, drop}
use Rattle.adr_state.specs.Scans.{keys_found}
use Rattle.adr_state.proofs.polled.insert_each.Given as goal

-- the keys so far, and those that are left
abbrev pub invariant-loop-found : goal.invariant-loop-found
invariant-loop-found l = keys_found l.polled (drop l.found-index l.founds) ≡ keys_found l.fn.polled l.founds
