use Rattle.std.proofs.Common.{◌≡◌, ◌≤◌, ℕ, List, ◌++◌, filter, length, drop, Ok}
use Rattle.adr_db.proofs.Common.{state, HasCleanDisk, Refusal, LeavesLent}
use Rattle.adr_db.specs.Kept.{Kept, Keeps}
use Rattle.adr_lent.specs.Pages.{IsCut}
use Rattle.adr_site_pages.specs.ByNumbers.{entries_at}
use Rattle.adr_site_pages.proofs.by_number.page_at.Given as goal

-- what was read so far, behind which the others come, and what the tables keep
abbrev pub invariant-numbers : goal.invariant-numbers
invariant-numbers g l =
    let found_at = g.T.ByNumber.kept_at in
    let wanted = g.W.Wanting.wanted l.wanting in
    record {
      lent : LeavesLent g.S.Store l.fn.tx.conn l.tx.conn {T = Unit {0}} {E = Refusal} (Ok tt);
      most : length l.found.items ≤ l.page.limit;
      cut : HasCleanDisk (state g.S.Store l.tx.conn.now) → (kept : Kept) → Keeps kept (state g.S.Store l.fn.tx.conn.now)
          → ((seen : List (ℕ × g.row.T.Denot)) × IsCut l.page.skip (filter wanted seen) l.found.items l.left × (seen ++ entries_at found_at (drop l.number-index l.numbers) kept ≡ entries_at found_at l.numbers kept)) × Keeps kept (state g.S.Store l.tx.conn.now);
    }
