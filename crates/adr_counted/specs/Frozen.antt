-- What freezing an event makes of a portfolio, and of the numbers of the node.
use Rattle.std.specs.Prelude.{◌≡◌, ◌+◌, ℕ, false, List, map}
use Rattle.std.specs.List.Sorted.{IsStrictlySortedBy}
use Rattle.std.specs.Map.{keys_of}
use Rattle.std.specs.BTreeMap.{insert_entry}
use Rattle.std.specs.Ordering.{nat_cmp}
use Rattle.adr_state.specs.declared.portfolio.Portfolio.{Portfolio}
use Rattle.adr_state.specs.Frozen.{is_frozen, frozen_row, with_pairs}
use Rattle.adr_state.specs.Keys.{id_cmp, frozen_cmp, with_rows}
use Rattle.adr_db.specs.declared.meta.Meta.{Meta}

-- an event is not frozen yet, and pairs for it stand in the order of their numbers, each once
abbrev pub CanBeFrozen : List ℕ → List (ℕ × ℕ) → Portfolio → Type 0
CanBeFrozen id pairs p = (is_frozen p id ≡ false) × IsStrictlySortedBy nat_cmp (keys_of pairs)

-- pairs are kept for an event, beside what is kept
abbrev pub with_pairs_put : List ℕ → List (ℕ × ℕ) → Portfolio → Portfolio
with_pairs_put id pairs p = record p { frozen_shares = with_rows frozen_cmp p.frozen_shares (map (frozen_row id) pairs) }

-- an event is one of those that are frozen, and these pairs are what is kept for it
abbrev pub frozen_now : List ℕ → List (ℕ × ℕ) → Portfolio → Portfolio
frozen_now id pairs p = record p { frozen = insert_entry id_cmp p.frozen id tt; frozen_shares = with_pairs id pairs p.frozen_shares }

-- numbers of the node say so many frozen shares less and so many more, and else the same
pub record IsRecounted (gone come : ℕ) (before after : Meta) : Type 0 where
  pub others : after ≡ record before { frozen = after.frozen }
  pub frozen : after.frozen + gone ≡ before.frozen + come
