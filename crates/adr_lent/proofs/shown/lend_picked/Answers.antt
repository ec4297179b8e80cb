use Rattle.std.proofs.Common.{List, ℕ, IfOk, refl, subst, sym}
use Rattle.sqlite.specs.Order.{Row}
use Rattle.sqlite_value.specs.Value.{owned}
use Rattle.adr_lent.specs.Lent.{Begins}
use Rattle.adr_lent.specs.Texts.{IsQueryText}
use Rattle.adr_lent.specs.Picks.{picked_row}
use Rattle.adr_lent.proofs.Streams.{stands_itself}
use Rattle.adr_lent.proofs.Queries.{picked_query, picked_selected, cells_bound}
use Rattle.adr_lent.proofs.shown.lend_picked.Goals as goal

pub returns-in-Err : goal.returns-in-Err
returns-in-Err g c = ((refl, λ w. tt, stands_itself g.S.Store c.args.conn.now), record { refused = tt; same_reference = tt; begun = tt; selects = picked_selected g.S.Store c.args.picked.now c.args.part c.args.conn.now })

pub lend-requires : goal.lend-requires
lend-requires g c = subst IsQueryText (sym c.text_for.ensures) (picked_query c.args.picked.now)

pub returns : goal.returns
returns g c =
    let picked = c.args.picked.now in
    let begins = λ (sql : List ℕ) (params : Row). IfOk c.lend.result (λ rows. Begins g.S.Store sql params c.args.conn.now rows.conn.now) in
    let cells = cells_bound picked c.args.part (owned c.in-Ok.key) (owned c.limit_cell.result) (owned c.skip_cell.result) c.in-Ok.ensures c.limit_cell.ensures c.skip_cell.ensures in (
      (refl, c.lend.follows.holds, c.lend.follows.holds-at-none),
      record {
        refused = tt;
        same_reference = c.lend.ensures.same_reference;
        begun = subst (λ sql. begins sql (picked_row picked c.args.part)) c.text_for.ensures (subst (begins c.text_for.result.now) cells c.lend.ensures.begun);
        selects = picked_selected g.S.Store picked c.args.part c.args.conn.now;
      },
    )
