use Rattle.std.proofs.Common.{List, map, drop, Ok, IsTrue}
use Rattle.sqlite.specs.Table.{Table}
use Rattle.adr_sql.proofs.Common.{state, HasCleanDisk, Error}
use Rattle.sqlite.specs.Schema.{Schema}
use Rattle.adr_sql.specs.Contents.{Contents, Holds}
use Rattle.adr_sql.specs.Creations.{Makes, IsUnderWay}
use Rattle.adr_sql.specs.Calls.{LeavesLent}
use Rattle.adr_sql.proofs.Creations.{HaveRun}
use Rattle.adr_sql.proofs.create.create_tables.Given as goal

abbrev pub invariant-texts : goal.invariant-texts
invariant-texts g l = record {
  lent : LeavesLent g.S.Store l.fn.tx.conn l.tx.conn {T = Unit {0}} {E = Error} (Ok tt);
  made : HasCleanDisk (state g.S.Store l.tx.conn.now) → (schema : Schema) (all : Contents) (tables : List Table) → Makes schema (map (λ t. t.now) l.texts) tables
      → Holds schema all (state g.S.Store l.fn.tx.conn.now) → IsUnderWay schema all tables (map (λ t. t.now) (drop l.text-index l.texts)) (state g.S.Store l.tx.conn.now);
  ran : HasCleanDisk (state g.S.Store l.tx.conn.now) → IsTrue (state g.S.Store l.fn.tx.conn.now).in_transaction
      → HaveRun g.S.Store (map (λ t. t.now) l.texts) (map (λ t. t.now) (drop l.text-index l.texts)) l.fn.tx.conn.now l.tx.conn.now;
}
