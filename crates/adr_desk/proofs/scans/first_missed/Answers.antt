use Rattle.std.proofs.Common.{IsTrue, [], ◌∷◌, Some, Ok, refl, sym, ap, subst, ◌∙◌, arith}
use Rattle.adr_db.proofs.Common.{state, HasCleanDisk, IsRefusalOf, NoScan}
use Rattle.adr_text.specs.Refusals.{◌>>=◌}
use Rattle.adr_held.specs.Held.{beside_of, kept_of}
use Rattle.adr_db.proofs.Results.{handed_on, then_refused}
use Rattle.adr_queries.specs.declared.answer.Answer.TheVariants as answer
use Rattle.adr_queries.specs.Replies.{reply}
use Rattle.adr_lent.proofs.Streams.{clean_before}
use Rattle.adr_missed.specs.Missed.{missed}
use Rattle.adr_desk.proofs.DecisionLemmas.{numbers_read}
use Rattle.adr_desk.proofs.ListedLemmas.{Listed, either_listed}
use Rattle.adr_desk.proofs.ReplyLemmas.{missed_told}
use Rattle.adr_desk.proofs.Transactions.{held_now}
use Rattle.adr_desk.proofs.scans.first_missed.Goals as goal

pub returns-in_err-keys_of-clause-refuses : goal.returns-in_err-keys_of-clause-refuses
unfolding reply
returns-in_err-keys_of-clause-refuses g c clean =
    let then = state g.S.Store c.numbers.new.conn in
    let clean_then : HasCleanDisk then = clean_before then (state g.S.Store c.keys_of.new.conn) _ c.keys_of.ensures.dropped.crash clean in
    let e = c.in_err-keys_of.field-0.0 in
    handed_on _ c.from_residual-in_err-keys_of.result e c.from_residual-in_err-keys_of.ensures.1 (λ held was.
    let found = c.in_ok-meta.ensures.finds clean_then (kept_of held) was.keeps in
    subst (IsRefusalOf e) (sym (missed_told c.args.limit held.base)) (then_refused e (missed (Some c.args.limit) held.base) _ (c.in_err-keys_of.ensures.refuses held.base (numbers_read held _ found))))

pub returns-in_err-keys_of-clause-listed : goal.returns-in_err-keys_of-clause-listed
returns-in_err-keys_of-clause-listed g c =
    let e = c.in_err-keys_of.field-0.0 in
    handed_on (Listed (NoScan ∷ [])) c.from_residual-in_err-keys_of.result e c.from_residual-in_err-keys_of.ensures.1 (either_listed (NoScan ∷ []) NoScan (0, omega arith, refl) e c.in_err-keys_of.ensures.refused)

pub returns-clause-tells : goal.returns-clause-tells
unfolding reply
returns-clause-tells g c clean held was =
    let first = state g.S.Store c.args.conn.now in
    let then = state g.S.Store c.numbers.new.conn in
    let clean_then : HasCleanDisk then = clean_before then (state g.S.Store c.keys_of.new.conn) _ c.keys_of.ensures.dropped.crash clean in
    let opened : IsTrue then.is_open = c.in_ok-keys_of.ensures.was_open clean in
    let found = c.in_ok-meta.ensures.finds clean_then (kept_of held) was.keeps in
    let still = held_now held first then (c.numbers.ensures.dropped.same clean_then opened).0 was in
    let told = c.in_ok-keys_of.ensures.tells clean (beside_of held) held.base still.keeps (numbers_read held _ found) in
    missed_told c.args.limit held.base ∙ ap (λ r. r >>= λ keys. Ok (answer.Probes keys)) told.0
