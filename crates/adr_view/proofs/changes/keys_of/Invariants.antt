use Rattle.std.proofs.Common.{◌≡◌, [], fold}
use Rattle.std.specs.BTreeSet.{insert_key}
use Rattle.adr_state.specs.Keys.{view_cmp}
use Rattle.adr_view.specs.Changes.{both_keys}
use Rattle.adr_view.proofs.changes.keys_of.Given as goal

-- the keys so far, and those that are left
abbrev pub invariant-loop-key : goal.invariant-loop-key
invariant-loop-key l = fold (λ keys r. insert_key view_cmp keys r.0) l.keys.keys l.key-iterator ≡ both_keys l.before []

abbrev pub invariant-loop-key-2 : goal.invariant-loop-key-2
invariant-loop-key-2 l = fold (λ keys r. insert_key view_cmp keys r.0) l.keys.keys l.key-iterator ≡ both_keys l.before l.after
