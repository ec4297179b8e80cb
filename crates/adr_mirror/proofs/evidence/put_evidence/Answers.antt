use Rattle.std.proofs.Common.{◌≡◌, ◌&&◌, Bool, sym, ap, subst, ◌∙◌, arith}
use Rattle.std.specs.Prelude.{is_some}
use Rattle.adr_db.proofs.Common.{state, HasCleanDisk, LimitReached, evidence_of, joined, JoinMarks, evidence, scan_with}
use Rattle.adr_db.specs.declared.meta.Meta.{Meta}
use Rattle.adr_db.specs.Kept.{Keeps}
use Rattle.adr_db.specs.Bases.{kept_beside}
use Rattle.adr_db.proofs.Results.{handed_on, own_refuses}
use Rattle.adr_mirror.specs.Raises.{HaveRisen, are_beyond, with_polled_if}
use Rattle.adr_mirror.proofs.Keeping.{is_taken, is_refused, counted_is, kept_after, still_open}
use Rattle.adr_mirror.proofs.evidence.put_evidence.Goals as goal

-- more keys than the limit are refused
pub returns-in_err-count_keys-clause-refuses : goal.returns-in_err-count_keys-clause-refuses
returns-in_err-count_keys-clause-refuses g c clean =
    let founds = c.args.founds.now in
    let e = c.in_err-count_keys.field-0.0 in
    handed_on _ c.from_residual-in_err-count_keys.result e c.from_residual-in_err-count_keys.ensures.1 (λ beside base was same.
    let turned = c.in_ok-risen.ensures.turns clean (kept_beside beside base) was in
    let beyond = c.in_err-count_keys.ensures.beyond in
    let keys = ap (λ (m : Meta). are_beyond c.args.limits.now.keys m.keys c.in_ok-risen.risen.added) (sym same) ∙ beyond.1 in
    let set = is_refused c.args.limits.now base (evidence_of founds) (scan_with base.scan founds c.args.polled) c.in_ok-risen.risen.added turned.0.added keys in
    own_refuses e LimitReached (evidence c.args.limits.now founds c.args.polled base) beyond.0 set set)

pub returns-clause-makes : goal.returns-clause-makes
returns-clause-makes g c clean beside base was same =
    let joining : HasCleanDisk (state g.S.Store c.join.new.tx.conn.now) = omega (arith, c.poll.ensures.lent.stays.crash.clean) in
    let founds = c.args.founds.now in
    let mirror = joined base.mirror (evidence_of founds) in
    let scan = scan_with base.scan founds c.args.polled in
    let added = c.in_ok-risen.risen.added in
    let turned = c.in_ok-risen.ensures.turns joining (kept_beside beside base) was in
    let counted = c.in_ok-count_keys.ensures.within in
    let keys = ap (λ (m : Meta). are_beyond c.args.limits.now.keys m.keys added) (sym same) ∙ counted.1 in
    let left = c.in_ok-poll.ensures.leaves clean (kept_beside beside (record base { mirror = mirror })) turned.1 in
    let noted : c.is_noted.result ≡ (c.args.polled && is_some base.scan) = c.is_noted.ensures ∙ ap (λ (m : Meta). c.args.polled && m.scan) counted.0 ∙ ap (λ (m : Meta). c.args.polled && m.scan) same in
    let new = state g.S.Store c.poll.new.tx.conn.now in
    record {
      change = JoinMarks (evidence_of founds) scan;
      decided = is_taken c.args.limits.now base (evidence_of founds) scan added turned.0.added keys;
      holds = subst (λ kept. Keeps kept new) (ap (λ (b : Bool). with_polled_if b founds (kept_beside beside (record base { mirror = mirror }))) noted ∙ kept_after beside base base.scan founds c.args.polled mirror) left;
      counted = counted_is base mirror scan added c.args.meta.now _ same counted.0 turned.0.added (still_open base.scan founds c.args.polled);
      right = subst (HaveRisen base.mirror mirror) (sym c.in_ok-list.ensures) turned.0.keys;
    }
