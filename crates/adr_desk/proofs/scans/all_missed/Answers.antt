use Rattle.std.proofs.Common.{[], ◌∷◌, refl, arith}
use Rattle.adr_db.proofs.Common.{state, HasCleanDisk, NoScan}
use Rattle.std.proofs.lemmas.Result.{IfErr-weaker}
use Rattle.adr_held.specs.Held.{beside_of, kept_of}
use Rattle.adr_db.proofs.Results.{ok_then}
use Rattle.adr_lent.proofs.Streams.{clean_before}
use Rattle.adr_desk.proofs.DecisionLemmas.{numbers_read}
use Rattle.adr_desk.proofs.DroppedLemmas.{both_of}
use Rattle.adr_desk.proofs.ListedLemmas.{Listed, either_listed}
use Rattle.adr_desk.proofs.Transactions.{held_now, kept_on}
use Rattle.adr_desk.proofs.scans.all_missed.Goals as goal

pub returns-clause-tells : goal.returns-clause-tells
returns-clause-tells g c clean =
    let first = state g.S.Store c.args.conn.now in
    let then = state g.S.Store c.numbers.new.conn in
    let last = state g.S.Store c.keys_of.new.conn in
    let clean_then : HasCleanDisk then = clean_before then last _ c.keys_of.ensures.dropped.crash clean in
    let opened = c.keys_of.ensures.was_open clean in
    ok_then c.keys_of.result (λ keys both held was.
    let found = c.in_ok-meta.ensures.finds clean_then (kept_of held) was.keeps in
    let still = held_now held first then (c.numbers.ensures.dropped.same clean_then both.0).0 was in
    let told = both.1 (beside_of held) held.base still.keeps (numbers_read held _ found) in
    (told.0, kept_on held then last told.1 still)) (both_of _ _ c.keys_of.result opened (c.keys_of.ensures.tells clean))

pub returns-clause-refuses : goal.returns-clause-refuses
returns-clause-refuses g c clean =
    let then = state g.S.Store c.numbers.new.conn in
    let clean_then : HasCleanDisk then = clean_before then (state g.S.Store c.keys_of.new.conn) _ c.keys_of.ensures.dropped.crash clean in
    IfErr-weaker c.keys_of.result _ _ (λ e refused held was. refused held.base (numbers_read held _ (c.in_ok-meta.ensures.finds clean_then (kept_of held) was.keeps))) c.keys_of.ensures.refuses

pub returns-clause-listed : goal.returns-clause-listed
returns-clause-listed g c = IfErr-weaker c.keys_of.result _ (Listed (NoScan ∷ [])) (either_listed (NoScan ∷ []) NoScan (0, omega arith, refl)) c.keys_of.ensures.refused
