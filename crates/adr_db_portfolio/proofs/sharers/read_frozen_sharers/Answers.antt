use Rattle.std.proofs.Common.{◌≡◌, inl, inr, List, Result, Ok, ◌∙◌, subst}
use Rattle.std.proofs.lemmas.Result.{IfErr-weaker}
use Rattle.adr_db.proofs.Common.{AllZip, Participant, Refusal, cells}
use Rattle.adr_db.specs.Rows.{participant_row}
use Rattle.adr_db.specs.Sharing.{frozen_sharers}
use Rattle.adr_db.specs.Admitted.{IsParticipant, ReadsParticipant}
use Rattle.adr_db.proofs.Rows.{participant_kept}
use Rattle.adr_db.proofs.Calls.{shown_finds}
use Rattle.adr_db.proofs.KeptMaps.{read_back}
use Rattle.adr_db.proofs.Results.{handed_on, ok_then}
use Rattle.adr_db.proofs.Unread.{unread_weaker, many_unread}
use Rattle.adr_db_portfolio.proofs.Sharing.{reads_frozen, frozen_read}
use Rattle.adr_db_portfolio.proofs.sharers.read_frozen_sharers.Goals as goal

pub returns-clause-finds : goal.returns-clause-finds
returns-clause-finds g c clean =
    let event = c.args.event.now in
    let read : Result (List Participant) Refusal = Ok c.in_ok-sharers.sharers in
    let shows = rw (c.to_sql.ensures, c.as_str.ensures.text) at c.in_ok-sharers.ensures.shows in
    let found = shown_finds g.S.Store c.args.tx.now.conn.now c.all_of.new.tx.conn.now _ _ (AllZip (λ row p. participant_row p ≡ cells 0 4 row)) (λ kept all. all ≡ frozen_sharers event kept) read reads_frozen.alone (λ all rows kept shown was read.
    read_back (λ row p. participant_row p ≡ cells 0 4 row) participant_row all (frozen_sharers event kept) (λ p q has same. participant_kept p q same) (subst (λ rows. AllZip (λ row p. participant_row p ≡ cells 0 4 row) rows all) (frozen_read event _ _ rows kept shown was) read)) shows clean in
    ok_then c.within.result (λ all is kept was. let of_these = found kept was in (is ∙ of_these.0, of_these.1)) c.within.ensures.same

pub returns-in_err-sharers-clause-fails : goal.returns-in_err-sharers-clause-fails
returns-in_err-sharers-clause-fails g c clean =
    let fails = rw (c.to_sql.ensures, c.as_str.ensures.text) at c.in_err-sharers.ensures.fails in
    handed_on _ c.from_residual.result _ c.from_residual.ensures.1 (elim (fails clean) [
      | inl beyond ↦ inl beyond
      | inr (inl error) ↦ inr (inl error)
      | inr (inr shown) ↦ inr (inr (shown.0, shown.1, unread_weaker _ _ (AllZip ReadsParticipant) shown.0 c.in_err-sharers.field-0.0 (λ ps are. are.1) shown.2))
    ])

pub returns-clause-fails : goal.returns-clause-fails
returns-clause-fails g c clean =
    let shows = rw (c.to_sql.ensures, c.as_str.ensures.text) at c.in_ok-sharers.ensures.shows in
    let shown = shows clean in
    IfErr-weaker c.within.result _ _ (λ e why. inr (inr (shown.0, shown.1, many_unread IsParticipant ReadsParticipant 10_000 shown.0 c.in_ok-sharers.sharers e shown.2 (inr why)))) c.within.ensures.beyond
