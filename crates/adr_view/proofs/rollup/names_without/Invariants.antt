use Rattle.std.proofs.Common.{◌≡◌, fold, drop}
use Rattle.std.specs.BTreeSet.{insert_key}
use Rattle.adr_state.specs.Keys.{id_cmp}
use Rattle.adr_view.specs.Rollups.{lacking, missing_at}
use Rattle.adr_view.proofs.rollup.names_without.Given as goal

-- the names so far, with those that are left
abbrev pub invariant-loop-r : goal.invariant-loop-r
invariant-loop-r l = fold (λ names r. insert_key id_cmp names r.name) l.names.keys (lacking l.id (drop l.r-index l.rs)) ≡ missing_at l.id l.rs
