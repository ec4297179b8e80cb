-- All rows of a query, gathered as they are lent.
use Rattle.std.specs.Prelude.{ℕ, List, []}
use Rattle.std.specs.BTreeMap.{insert_entry}
use Rattle.std.specs.List.{AllZip}
use Rattle.sqlite.specs.Order.{Row}
use Rattle.sqlite.specs.Store.{Ghosts}
use Rattle.sqlite.specs.Held.{Held, state}
use Rattle.sqlite.specs.State.{IsUnchanged, Shown, State}
use Rattle.adr_state.specs.Keys.{id_cmp}
use Rattle.adr_db.specs.Kept.{Kept}
use Rattle.adr_db.specs.declared.outbox.RemoteRow.{RemoteRow}
use Rattle.adr_lent.specs.Lent.{HasLent}
use Rattle.adr_lent.specs.Selections.{Selects}

-- of a query at its start all rows are lent, and what they read as is so
abbrev pub LendsAll : {S T : Type 0} → Ghosts S → (Row → T → Type 0) → Held S → Held S → (List T → Type 0) → Type 0
LendsAll {S} {T} g Reads old now IsSo =
    (sql : List ℕ) (params : Row) (before : Held S) → HasLent g sql params before old []
    → (lent : List Row) × (seen : List T) × AllZip Reads lent seen × Shown sql params (state g before) (state g now) lent × IsUnchanged (state g before) (state g now) × IsSo seen

-- a query that selects these rows of what is kept was run, and each row that it showed reads as so
abbrev pub ReadsEach : {S T : Type 0} → Ghosts S → (Kept → List Row) → (Row → T → Type 0) → Held S → State → Type 0
ReadsEach {S} {T} g selection Reads old new =
    (sql : List ℕ) × (params : Row) × Selects g sql params selection old × (lent : List Row) × (seen : List T) × AllZip Reads lent seen × Shown sql params (state g old) new lent × IsUnchanged (state g old) new

-- the utility's id of one more report, by its upstream event
abbrev pub with_remote : List (List ℕ × List ℕ) → RemoteRow → List (List ℕ × List ℕ)
with_remote remotes row = insert_entry id_cmp remotes row.event row.id
