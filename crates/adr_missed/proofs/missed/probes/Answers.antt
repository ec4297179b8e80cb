use Rattle.std.proofs.Common.{Err, sym, ap, ◌∙◌}
use Rattle.adr_db.specs.declared.meta.Meta.{Meta}
use Rattle.adr_db.specs.Bases.{kept_beside}
use Rattle.adr_db.proofs.Results.{handed_on, ok_then, refused_so, passed, stopped}
use Rattle.adr_missed.proofs.Closing.{none_open, missed_open}
use Rattle.adr_missed.proofs.missed.probes.Goals as goal

pub returns-in_err-unless-clause-refuses : goal.returns-in_err-unless-clause-refuses
returns-in_err-unless-clause-refuses g c =
    let e = c.in_err-unless.field-0.0 in
    let shut = stopped _ _ e (sym c.unless.ensures.gives ∙ c.in_err-unless.was) in
    handed_on _ c.from_residual.result e c.from_residual.ensures.1 (λ base same. refused_so e _ (none_open c.args.limit base (ap (λ (m : Meta). m.scan) (sym same) ∙ shut.0) ∙ ap Err (sym shut.1)))

pub returns-clause-tells : goal.returns-clause-tells
returns-clause-tells g c clean =
    let still = passed _ _ _ (sym c.unless.ensures.gives ∙ c.in_ok-unless.was) in
    ok_then c.unseen_keys.result (λ keys finds beside base was same.
    let unseen = finds (kept_beside beside base) was in
    (missed_open c.args.limit base keys (ap (λ (m : Meta). m.scan) (sym same) ∙ still) unseen.0, unseen.1)) (c.unseen_keys.ensures.finds clean)
