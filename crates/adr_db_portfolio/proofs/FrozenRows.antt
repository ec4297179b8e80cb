-- Frozen events and frozen shares, as they are found and read back.
use Rattle.std.proofs.Common.{◌≡◌, ℕ, List, ◌∷◌, map, filter, not, refl, sym, ap, ap₂, subst, ◌∙◌, Ok}
use Rattle.adr_db.proofs.Common.{AllZip, Null, filter-map, cells, has_key, State, Executes, passes, text_passes}
use Rattle.adr_sql.proofs.Selections.{equalities, passes_is}
use Rattle.adr_sql.proofs.Removals.{remove_at_runs}
use Rattle.adr_state.specs.declared.keys.FrozenKey.{FrozenKey}
use Rattle.adr_state.specs.Frozen.{is_of_event}
use Rattle.adr_sql.specs.Contents.{Holds, with_table}
use Rattle.adr_db.specs.Tables.{schema}
use Rattle.adr_db.specs.Rows.{event_key_row, frozen_share_row}
use Rattle.adr_db.specs.Admitted.{ReadsFrozenShare}
use Rattle.adr_db.specs.Kept.{Kept, Keeps, contents_of, with_portfolio}
use Rattle.adr_db.proofs.Rows.{number_kept, frozen_key_kept}
use Rattle.adr_db.proofs.Tables.{frozen_share, frozen_share_keyed, frozen_share_childless}
use Rattle.adr_db.proofs.Maps.{frozen_share_map}
use Rattle.adr_db.proofs.KeptMaps.{read_back}
use Rattle.adr_db_portfolio.specs.Frozen.{without_frozen_shares}
use Rattle.adr_db_portfolio.specs.declared.frozen_share.TheConstants.{CLEAR}
use Rattle.adr_db_portfolio.proofs.FrozenStatements.{clears}

-- whether a frozen share is kept for an event, as a statement tests it
pub tests_event : (event : List ℕ) (s : FrozenKey × ℕ) → passes (event_key_row event) (equalities 0 1) (Null ∷ frozen_share_row s) ≡ is_of_event event s
tests_event event s = text_passes 0 event s.0.event (frozen_share_row s) refl

pub shares_read : (es read : List (FrozenKey × ℕ)) → AllZip ReadsFrozenShare (map (λ e. cells 0 3 (frozen_share_row e)) es) read → read ≡ es
shares_read es read h = read_back ReadsFrozenShare (λ e. cells 0 3 (frozen_share_row e)) read es (λ x y has same. ap₂ (λ (k : FrozenKey) (v : ℕ). (k, v)) (frozen_key_kept x.0 y.0 same.0) (number_kept x.1 y.1 same.1)) h

-- the shares that are kept for other events are left
others_left : (event : List ℕ) (es : List (FrozenKey × ℕ)) → filter (λ row. not (has_key 1 (event_key_row event) row)) (map frozen_share_row es) ≡ map frozen_share_row (filter (λ s. not (is_of_event event s)) es)
others_left event es =
    filter-map (λ row. not (has_key 1 (event_key_row event) row)) frozen_share_row es
    ∙ ap (λ (p : FrozenKey × ℕ → _). map frozen_share_row (filter (λ s. not (p s)) es)) (λ i s. (sym (passes_is 1 (event_key_row event) (Null ∷ frozen_share_row s) refl) ∙ tests_event event s) i)

pub shares_removed : (event : List ℕ) (old new : State) (count : ℕ) → Executes CLEAR.now (event_key_row event) old new (Ok count) → (kept : Kept) → Keeps kept old → Keeps (with_portfolio (without_frozen_shares event) kept) new
shares_removed event old new count h kept was = record {
  rows = subst (λ rows. Holds schema (with_table (contents_of kept) frozen_share_map.rows.at rows) new) (others_left event kept.portfolio.frozen_shares)
      (remove_at_runs schema frozen_share_map.rows.at 1 frozen_share frozen_share_keyed.place frozen_share_childless CLEAR.now (event_key_row event) clears refl old new count (contents_of kept) h was.rows);
  marks = was.marks;
  subs = was.subs;
}
