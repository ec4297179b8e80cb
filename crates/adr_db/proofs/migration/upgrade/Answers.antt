use Rattle.std.proofs.Common.{◌≡◌, inl, inr, List, [], ◌∷◌, Ok, Err, Result, OnOk, arith, subst}
use Rattle.adr_text.specs.declared.refusal.Refusal.TheVariants.{BadFile}
use Rattle.adr_db.proofs.Common.{state, HasCleanDisk, Refusal, Row, Contents, Holds, rows_of_table}
use Rattle.adr_db.specs.declared.version.Version.{Version}
use Rattle.adr_db.specs.declared.version.Version.TheVariants.{First, Second}
use Rattle.adr_db.specs.Kept.{Kept, Keeps, contents_of}
use Rattle.adr_db.specs.FirstVersion.{first_row, first_contents, KeepsFirst}
use Rattle.adr_db.specs.Rows.{meta_row}
use Rattle.adr_db.specs.Versions.{SayVersion, SayKnown, KeepsInEither, number_of, schema_of_version}
use Rattle.adr_db.proofs.Results.{on_then, handed_on}
use Rattle.adr_db.proofs.FirstVersion.{not_first, not_today}
use Rattle.adr_db.proofs.migration.upgrade.Goals as goal

any_then : {P : Type 0} (r : Result Unit Refusal) → P → OnOk r P
any_then (Ok u) h = h
any_then (Err e) h = tt

-- rows that say a version say it under each name of it
said_as : (rows : List Row) (one other : Version) → one ≡ other → SayVersion (number_of one) rows → SayVersion (number_of other) rows
said_as rows one other is = subst (λ (v : Version). SayVersion (number_of v) rows) is

pub returns-in-First-clause-upgraded : goal.returns-in-First-clause-upgraded
returns-in-First-clause-upgraded g c clean =
    let mid = state g.S.Store c.kept_version.new.tx.conn.now in
    let new = state g.S.Store c.migrate.new.tx.conn.now in
    let early : HasCleanDisk mid = omega (arith, c.migrate.ensures.lent.stays.crash.clean) in
    on_then c.migrate.result (λ (migrated : (kept : Kept) → KeepsFirst kept mid → Keeps kept new) (kept : Kept) (was : KeepsInEither kept (state g.S.Store c.args.tx.now.conn.now)). elim was [
      | inl today ↦ absurd (not_first kept.meta (said_as (meta_row kept.meta ∷ []) _ First c.in-First.is (c.in_ok-kept_version.ensures.known early Second (contents_of kept) today.rows).0))
      | inr first ↦ migrated kept (record { rows = (c.in_ok-kept_version.ensures.known early First (first_contents kept) first.rows).1; marks = first.marks; subs = first.subs; unfrozen = first.unfrozen })
    ]) (c.migrate.ensures.migrated clean)

pub returns-in-Second-clause-upgraded : goal.returns-in-Second-clause-upgraded
returns-in-Second-clause-upgraded g c clean kept was = elim was [
  | inl today ↦ record { rows = (c.in_ok-kept_version.ensures.known clean Second (contents_of kept) today.rows).1; marks = today.marks; subs = today.subs }
  | inr first ↦ absurd (not_today kept.meta (said_as (first_row kept.meta ∷ []) _ Second c.in-Second.is (c.in_ok-kept_version.ensures.known clean First (first_contents kept) first.rows).0))
]

pub returns-in-First-clause-known : goal.returns-in-First-clause-known
returns-in-First-clause-known g c clean =
    let early : HasCleanDisk (state g.S.Store c.kept_version.new.tx.conn.now) = omega (arith, c.migrate.ensures.lent.stays.crash.clean) in
    any_then c.migrate.result (λ of all was. inl (said_as (rows_of_table all 0) _ First c.in-First.is (c.in_ok-kept_version.ensures.known early of all was).0))

pub returns-in-Second-clause-known : goal.returns-in-Second-clause-known
returns-in-Second-clause-known g c clean of all was = inr (said_as (rows_of_table all 0) _ Second c.in-Second.is (c.in_ok-kept_version.ensures.known clean of all was).0)

pub returns-in_err-kept_version-clause-unknown : goal.returns-in_err-kept_version-clause-unknown
returns-in_err-kept_version-clause-unknown g c clean =
    let old = state g.S.Store c.args.tx.now.conn.now in
    handed_on (λ (refusal : Refusal). refusal ≡ BadFile → (of : Version) (all : Contents) → Holds (schema_of_version of) all old → ¬ SayKnown (rows_of_table all 0)) c.from_residual.result _ c.from_residual.ensures.1 (c.in_err-kept_version.ensures.unknown clean)
