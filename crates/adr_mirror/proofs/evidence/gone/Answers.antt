use Rattle.std.proofs.Common.{◌≡◌, ◌+◌, length, cond, [], ◌∷◌, refl, sym, ap, subst, ◌∙◌}
use Rattle.adr_db.proofs.Common.{state, LimitReached, Dead, MirrorKey, raised, JoinMarks, gone}
use Rattle.adr_db.specs.declared.meta.Meta.{Meta}
use Rattle.adr_db.specs.Bases.{kept_beside}
use Rattle.adr_db.proofs.Results.{handed_on, own_refuses}
use Rattle.adr_db.proofs.Rises.{mirror_rises}
use Rattle.adr_mirror.specs.Raises.{HaveRisen, are_beyond}
use Rattle.adr_mirror.proofs.Rising.{one_risen}
use Rattle.adr_mirror.proofs.Keeping.{is_taken, is_refused, counted_is}
use Rattle.adr_mirror.proofs.evidence.gone.Goals as goal

-- more keys than the limit are refused
pub returns-in_err-count_keys-clause-refuses : goal.returns-in_err-count_keys-clause-refuses
returns-in_err-count_keys-clause-refuses g c clean =
    let key : MirrorKey = record { kind = c.args.kind; id = c.args.id.now } in
    let e = c.in_err-count_keys.field-0.0 in
    handed_on _ c.from_residual-in_err-count_keys.result e c.from_residual-in_err-count_keys.ensures.1 (λ beside base was same.
    let turned = (rw c.in_ok-key.ensures at c.in_ok-rise.ensures.turns) clean (kept_beside beside base) was in
    let risen = one_risen base.mirror (key, Dead) (mirror_rises (kept_beside beside base) (state g.S.Store c.args.tx.now.conn.now) was) c.in_ok-rise.rise turned.0 in
    let added = subst (λ n. length base.mirror + n ≡ length (raised base.mirror (key, Dead))) (sym c.added.ensures) risen.added in
    let beyond = c.in_err-count_keys.ensures.beyond in
    let keys = ap (λ (m : Meta). are_beyond c.args.limits.now.keys m.keys c.added.result) (sym same) ∙ beyond.1 in
    let set = is_refused c.args.limits.now base ((key, Dead) ∷ []) base.scan c.added.result added keys in
    own_refuses e LimitReached (gone c.args.limits.now key base) beyond.0 set set)

pub returns-clause-makes : goal.returns-clause-makes
returns-clause-makes g c clean beside base was same =
    let key : MirrorKey = record { kind = c.args.kind; id = c.args.id.now } in
    let mirror = raised base.mirror (key, Dead) in
    let turned = (rw c.in_ok-key.ensures at c.in_ok-rise.ensures.turns) clean (kept_beside beside base) was in
    let risen = one_risen base.mirror (key, Dead) (mirror_rises (kept_beside beside base) (state g.S.Store c.args.tx.now.conn.now) was) c.in_ok-rise.rise turned.0 in
    let added = subst (λ n. length base.mirror + n ≡ length mirror) (sym c.added.ensures) risen.added in
    let counted = c.in_ok-count_keys.ensures.within in
    let keys = ap (λ (m : Meta). are_beyond c.args.limits.now.keys m.keys c.added.result) (sym same) ∙ counted.1 in
    record {
      change = JoinMarks ((key, Dead) ∷ []) base.scan;
      decided = is_taken c.args.limits.now base ((key, Dead) ∷ []) base.scan c.added.result added keys;
      holds = turned.1;
      counted = counted_is base mirror base.scan c.added.result c.args.meta.now _ same counted.0 added refl;
      right = subst (λ b. HaveRisen base.mirror mirror (cond b (key ∷ []) [])) (sym c.is_raised.ensures) risen.keys;
    }
