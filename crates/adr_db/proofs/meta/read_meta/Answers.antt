use Rattle.std.proofs.Common.{◌≡◌, List, [], ◌∷◌, take, Ok, subst}
use Rattle.adr_db.proofs.Common.{AllZip, Row, Refusal, cells}
use Rattle.adr_db.specs.declared.meta.Meta.{Meta}
use Rattle.adr_db.specs.Rows.{meta_row}
use Rattle.adr_db.proofs.Rows.{meta_kept}
use Rattle.adr_db.proofs.Calls.{shows, shown_finds}
use Rattle.adr_db.proofs.MetaStatements.{reads, meta_read}
use Rattle.adr_db.proofs.meta.read_meta.Goals as goal

pub returns-in-Some-clause-finds : goal.returns-in-Some-clause-finds
returns-in-Some-clause-finds g c =
    let old = c.args.tx.now.conn.now in
    let new = c.rows_of.new.tx.conn.now in
    let IsFirst : List Row → Meta → Type 0 = λ rows meta. AllZip (λ row meta. meta_row meta ≡ cells 0 16 row) (take 1 rows) (meta ∷ []) in
    shown_finds g.S.Store old new _ [] {T = Meta} {E = Refusal} IsFirst (λ kept meta. meta ≡ kept.meta) (Ok c.in-Some.meta) reads.alone
    (λ meta rows kept shown was first. meta_kept meta kept.meta (subst (λ rows. IsFirst rows meta) (meta_read _ _ rows kept shown was) first).0)
    (shows g.S.Store old new _ [] {T = Meta} {E = Refusal} IsFirst (Ok c.in-Some.meta) _ c.in_ok-rows.ensures.answers (rw (c.deref.ensures.value, c.in-Some.is) at c.in_ok-meta.ensures.read))
