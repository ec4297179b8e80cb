use Rattle.std.proofs.Common.{◌∙◌, ap}
use Rattle.adr_state.specs.declared.state.State.{State}
use Rattle.adr_db.proofs.Common.{state}
use Rattle.adr_db.specs.declared.meta.Meta.{Meta}
use Rattle.adr_db.specs.Images.{base_of, outbox_of}
use Rattle.adr_lent.proofs.Streams.{clean_before}
use Rattle.adr_lent_image.proofs.image.image_of.Goals as goal

pub returns-clause-finds : goal.returns-clause-finds
returns-clause-finds g c clean kept was =
    let stamps_clean = clean_before (state g.S.Store c.lent_stamps.new.conn) (state g.S.Store c.lent_outbox.new.conn) _ c.lent_outbox.ensures.stands.crash clean in
    let base_clean = clean_before (state g.S.Store c.lent_base.new.conn) (state g.S.Store c.lent_stamps.new.conn) _ c.lent_stamps.ensures.stands.crash stamps_clean in
    let meta_clean = clean_before (state g.S.Store c.lent_meta.new.conn) (state g.S.Store c.lent_base.new.conn) _ c.lent_base.ensures.stands.crash base_clean in
    let meta = c.in_ok-meta.ensures.finds meta_clean kept was in
    let base = c.in_ok-base.ensures.finds base_clean kept meta.1 in
    let stamps = c.in_ok-stamps.ensures.finds stamps_clean kept base.1 in
    let outbox = c.in_ok-outbox.ensures.finds clean kept stamps.1 in
    let same_base = base.0 ∙ ap (λ (m : Meta). base_of m kept) meta.0 in
    let same_outbox = outbox.0 ∙ ap (λ (m : Meta). outbox_of m kept) meta.0 in
    (λ i. let image : State = record { base = same_base i; stamps = stamps.0 i; outbox = same_outbox i } in image, outbox.1)
