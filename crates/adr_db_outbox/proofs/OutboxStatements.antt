-- The statements on the table `outbox`.
use Rattle.std.proofs.Common.{◌≡◌, ℕ, None, Some, Result, List, [], ◌∷◌, codes, refl, subst}
use Rattle.sqlite.specs.Values.{or_null}
use Rattle.sqlite.specs.declared.types.Value.{Value}
use Rattle.adr_db.proofs.Common.{Null, Text, Row, Ghosts, Held, state, lit, col, understood, everything, Runs, AreValues}
use Rattle.adr_sql.proofs.KeyedMaps.{upsert_entry_runs, remove_entry_runs}
use Rattle.adr_delivery.specs.declared.addressee.Addressee.{Addressee}
use Rattle.adr_delivery.specs.declared.addressee.Addressee.TheVariants.{Utility, Subscriber}
use Rattle.adr_delivery.specs.declared.entry.Entry.{Entry}
use Rattle.adr_db_outbox.specs.declared.outbox.TheConstants.{PUT, REMOVE, READ_ONE}
use Rattle.adr_delivery.specs.Entries.{destination, event_of}
use Rattle.adr_delivery.specs.Jobs.{token_for}
use Rattle.adr_db.specs.Rows.{number, number_row, operation_number, address_of, delivery_columns, entry_row}
use Rattle.adr_db.specs.Kept.{contents_with_heads, with_waiting, without_waiting}
use Rattle.adr_db.specs.Calls.{ChangesHeads}
use Rattle.adr_db.proofs.Calls.{run_changes_heads}
use Rattle.adr_db.proofs.Tables.{outbox, outbox_childless}
use Rattle.adr_db.proofs.Maps.{outbox_map}
use Rattle.adr_db.proofs.KeptMaps.{HasTextsOn}

abbrev pub columns : List (List ℕ)
columns =
    codes "id"
    ∷ codes "dest"
    ∷ codes "event"
    ∷ codes "operation"
    ∷ codes "url"
    ∷ codes "token"
    ∷ codes "body"
    ∷ codes "failed"
    ∷ codes "leases"
    ∷ codes "leased"
    ∷ codes "until"
    ∷ codes "due"
    ∷ []

-- an event and a token may be NULL
fit : (e : ℕ × Entry) → AreValues outbox (entry_row e)
fit e = by e.1.addressee
  where
    by : (a : Addressee) → AreValues outbox (entry_row (e.0, record e.1 { addressee = a }))
    by (Utility event) = record { fits = refl; full = refl; width = refl }
    by (Subscriber subscription address None) = record { fits = refl; full = refl; width = refl }
    by (Subscriber subscription address (Some token)) = record { fits = refl; full = refl; width = refl }

pub texts : HasTextsOn outbox_map.rows PUT.now REMOVE.now READ_ONE.now
unfolding understood everything
texts = record {
  puts = λ e. record {
    terms = lit Null ∷ col 0 0 ∷ col 0 1 ∷ col 0 2 ∷ col 0 3 ∷ col 0 4 ∷ col 0 5 ∷ col 0 6 ∷ col 0 7 ∷ col 0 8 ∷ col 0 9 ∷ col 0 10 ∷ col 0 11 ∷ [];
    met = 12;
    sets = col 0 14 ∷ col 0 15 ∷ col 0 16 ∷ col 0 17 ∷ col 0 18 ∷ col 0 19 ∷ col 0 20 ∷ col 0 21 ∷ col 0 22 ∷ col 0 23 ∷ col 0 24 ∷ col 0 25 ∷ [];
    command = refl;
    alone = (refl, refl);
    given = refl;
    meets = λ id next r. refl;
    writes = λ id next r. refl;
  };
  fit = fit;
  removes = record { command = refl; alone = (refl, refl); flat = refl; joins = refl };
  reads_one = record { names = columns; command = refl; alone = (refl, refl); unlisted = refl; from = refl; order = refl; ungrouped = refl; undistinct = refl; joins = refl; sorts = refl; shows = refl };
}

-- ---- the values of a row

-- a row of an entry with other cells in the place of its event and of its token
abbrev row_with : ℕ × Entry → Value → Value → Row
row_with e event token = number e.0 ∷ number (destination e.1.addressee) ∷ event ∷ number (operation_number e.1.operation) ∷ Text (address_of e.1.addressee) ∷ token ∷ Text e.1.body ∷ delivery_columns e.1.delivery

-- where they are those, it is the row of the entry
pub with_cells : (P : Row → Type 0) (e : ℕ × Entry) (event token : Value) → event ≡ or_null Text (event_of e.1.addressee) → token ≡ or_null Text (token_for e.1.addressee) → P (row_with e event token) → P (entry_row e)
with_cells P e event token event_is token_is p = subst (λ token. P (row_with e (or_null Text (event_of e.1.addressee)) token)) token_is (subst (λ event. P (row_with e event token)) event_is p)

-- ---- what they write, whatever `head` names

module _ {S E : Type 0} (g : Ghosts S) (old new : Held S) where
  pub row_put : (e : ℕ × Entry) (r : Result Unit E) → Runs g old new PUT.now (entry_row e) r → ChangesHeads g old new (with_waiting e.0 e.1) (λ kept heads. heads) r
  row_put e r =
      run_changes_heads g old new PUT.now (entry_row e) (with_waiting e.0 e.1) (λ kept heads. heads) r (λ count h kept heads was.
      upsert_entry_runs outbox_map.rows (contents_with_heads heads kept) kept.entries refl PUT.now (entry_row e) (state g old) (state g new) e.0 e.1 (texts.puts e) (texts.fit e) count h was)

  pub row_removed : (n : ℕ) (r : Result Unit E) → Runs g old new REMOVE.now (number_row n) r → ChangesHeads g old new (without_waiting n) (λ kept heads. heads) r
  row_removed n r =
      run_changes_heads g old new REMOVE.now (number_row n) (without_waiting n) (λ kept heads. heads) r (λ count h kept heads was.
      remove_entry_runs outbox_map.rows (contents_with_heads heads kept) kept.entries refl REMOVE.now (state g old) (state g new) n refl outbox_childless texts.removes count h was)
