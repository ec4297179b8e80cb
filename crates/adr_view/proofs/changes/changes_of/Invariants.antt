use Rattle.std.proofs.Common.{◌≡◌, ◌++◌}
use Rattle.std.specs.List.{filter_map}
use Rattle.adr_state.specs.Keys.{view_cmp, at}
use Rattle.adr_view.specs.Changes.{changes, change_by}
use Rattle.adr_view.proofs.changes.changes_of.Given as goal

-- the changes so far, and those at the keys that are left
abbrev pub invariant-loop-key : goal.invariant-loop-key
invariant-loop-key l = l.all.items ++ filter_map (λ key. change_by key (at view_cmp key l.before) (at view_cmp key l.after)) l.key-iterator ≡ changes l.before l.after
