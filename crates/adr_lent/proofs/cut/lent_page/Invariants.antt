use Rattle.std.proofs.Common.{◌≡◌, ◌≤◌, ℕ, List, [], filter, length}
use Rattle.std.specs.List.{AllZip}
use Rattle.sqlite.specs.Order.{Row}
use Rattle.sqlite.specs.Held.{Held, state}
use Rattle.sqlite.specs.State.{HasCleanDisk}
use Rattle.adr_lent.specs.Lent.{HasLent, Stands}
use Rattle.adr_lent.specs.Pages.{IsCut, IsNeeded}
use Rattle.adr_lent.proofs.cut.lent_page.Given as goal

abbrev pub invariant-rows : goal.invariant-rows
invariant-rows g l =
    let old = l.fn.rows.conn.now in
    let now = l.rows.conn.now in
    let wanted = g.W.Wanting.wanted l.wanting in
    record {
      same_reference : l.rows.conn.ghost_name ≡ l.fn.rows.conn.ghost_name;
      stands : Stands g.S.Store old now;
      most : length l.found.items ≤ l.page.limit;
      lent : HasCleanDisk (state g.S.Store now) → (sql : List ℕ) (params : Row) (before : Held g.row.S.Denot) → HasLent g.S.Store sql params before old []
          → (lent : List Row) × (seen : List g.row.T.Denot) × HasLent g.S.Store sql params before now lent × AllZip g.T.FromRow.reads lent seen × IsCut l.page.skip (filter wanted seen) l.found.items l.left × IsNeeded wanted l.page seen;
    }
