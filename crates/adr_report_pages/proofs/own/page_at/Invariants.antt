use Rattle.std.proofs.Common.{◌≡◌, ◌≤◌, List, ◌++◌, length, Ok}
use Rattle.std.specs.List.{filter_map}
use Rattle.adr_db.proofs.Common.{state, HasCleanDisk, Refusal, LeavesLent}
use Rattle.adr_db.specs.Kept.{Kept, Keeps}
use Rattle.adr_lent.specs.Pages.{IsCut}
use Rattle.adr_report_pages.specs.Columns.{Entry, entry_at, wanted_among}
use Rattle.adr_report_pages.proofs.own.page_at.Given as goal

-- what was read so far, behind which the others come, and what the tables keep
abbrev pub invariant-loop-number : goal.invariant-loop-number
invariant-loop-number g l = record {
  lent : LeavesLent g.S.Store l.fn.tx.conn l.tx.conn {T = Unit {0}} {E = Refusal} (Ok tt);
  most : length l.found.items ≤ l.page.limit;
  cut : HasCleanDisk (state g.S.Store l.tx.conn.now) → (kept : Kept) → Keeps kept (state g.S.Store l.fn.tx.conn.now)
      → ((seen : List Entry) × IsCut l.page.skip (wanted_among l.filter seen) l.found.items l.left × (seen ++ filter_map (λ e. entry_at e.0 kept) l.number-iterator ≡ filter_map (λ e. entry_at e.0 kept) l.numbers)) × Keeps kept (state g.S.Store l.tx.conn.now);
}
