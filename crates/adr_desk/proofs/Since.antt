-- From what the tables store to what was stored, and back.
use Rattle.std.proofs.Common.{List, [], ◌∷◌, map, subst}
use Rattle.sqlite_catalog.specs.Listing.{IsSound}
use Rattle.sqlite.specs.Table.{Table}
use Rattle.sqlite.specs.Tree.{Trees}
use Rattle.sqlite.specs.State as sql
use Rattle.adr_state.specs.declared.state.State.{State}
use Rattle.adr_sql.specs.Contents.{Contents, StoresEach}
use Rattle.adr_db.specs.Tables.{schema}
use Rattle.adr_db.specs.Kept.{contents_of}
use Rattle.adr_held.specs.Held.{kept_of, HoldsState}
use Rattle.adr_desk.specs.Since.{stored_in, StoredEach, WasHeld}

stored_then : (ts : List Table) (trees : Trees) (all : Contents) → StoresEach ts trees all → StoredEach ts (map (λ t. trees t.tree) ts) all
stored_then [] trees [] h = tt
stored_then [] trees (rows ∷ all) h = absurd h
stored_then (t ∷ ts) trees [] h = absurd h
stored_then (t ∷ ts) trees (rows ∷ all) h = (h.0, stored_then ts trees all h.1)

stored_now : (ts : List Table) (trees : Trees) (all : Contents) → StoredEach ts (map (λ t. trees t.tree) ts) all → StoresEach ts trees all
stored_now [] trees [] h = tt
stored_now [] trees (rows ∷ all) h = absurd h
stored_now (t ∷ ts) trees [] h = absurd h
stored_now (t ∷ ts) trees (rows ∷ all) h = (h.0, stored_now ts trees all h.1)

pub was_held : (held : State) (s : sql.State) → HoldsState held s → WasHeld held (stored_in s)
was_held held s h = record {
  has = h.keeps.rows.has;
  each = stored_then schema.tables s.now.trees (contents_of (kept_of held)) h.keeps.rows.each;
  marks = h.keeps.marks;
  subs = h.keeps.subs;
  reads = h.reads;
  right = h.right;
}

-- trees that list the schema and obey it
pub is_held : (held : State) (s : sql.State) → IsSound s.now.schema s.now.trees → WasHeld held (stored_in s) → HoldsState held s
is_held held s sound was = record {
  keeps = record { rows = record { has = was.has; sound = subst (λ x. IsSound x s.now.trees) was.has sound; each = stored_now schema.tables s.now.trees (contents_of (kept_of held)) was.each }; marks = was.marks; subs = was.subs };
  reads = was.reads;
  right = was.right;
}
