use Rattle.std.proofs.Common.{◌≡◌, ℕ, List, [], fold}
use Rattle.std.specs.List.{AllZip}
use Rattle.sqlite.specs.Order.{Row}
use Rattle.sqlite.specs.Held.{Held, state}
use Rattle.sqlite.specs.State.{HasCleanDisk}
use Rattle.adr_lent.specs.Lent.{HasLent, Stands}
use Rattle.adr_lent_image.proofs.gathering.gather_all.Given as goal

abbrev pub invariant-rows : goal.invariant-rows
invariant-rows g l =
    let old = l.fn.rows.conn.now in
    let now = l.rows.conn.now in
    record {
      same_reference : l.rows.conn.ghost_name ≡ l.fn.rows.conn.ghost_name;
      stands : Stands g.S.Store old now;
      lent : HasCleanDisk (state g.S.Store now) → (sql : List ℕ) (params : Row) (before : Held g.row.S.Denot) → HasLent g.S.Store sql params before old []
          → (lent : List Row) × (seen : List g.row.T.Denot) × HasLent g.S.Store sql params before now lent × AllZip g.T.FromRow.reads lent seen × (l.found ≡ fold g.G.Gathering.after l.fn.start seen);
    }
