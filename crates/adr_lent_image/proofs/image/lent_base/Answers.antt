use Rattle.std.proofs.Common.{◌∙◌, None, Some, List, ap, cond}
use Rattle.adr_db.proofs.Common.{Base, MirrorKey, state}
use Rattle.adr_lent.proofs.Streams.{clean_before}
use Rattle.adr_lent_image.proofs.image.lent_base.Goals as goal

pub returns-clause-finds : goal.returns-clause-finds
returns-clause-finds g c clean kept was =
    let polled_clean = clean_before (state g.S.Store c.lent_polled.new.conn) (state g.S.Store c.lent_portfolio.new.conn) _ c.lent_portfolio.ensures.stands.crash clean in
    let mirror_clean = clean_before (state g.S.Store c.lent_marks.new.conn) (state g.S.Store c.lent_polled.new.conn) _ c.lent_polled.ensures.stands.crash polled_clean in
    let mirror = c.in_ok-mirror.ensures.finds mirror_clean kept was in
    let polled = c.in_ok-polled.ensures.finds polled_clean kept mirror.1 in
    let portfolio = c.in_ok-portfolio.ensures.finds clean kept polled.1 in
    let scan = c.scan_with.ensures ∙ ap (λ (keys : List MirrorKey). cond c.args.meta.now.scan (Some keys) None) polled.0 in
    (λ i. let base : Base = record { mirror = mirror.0 i; scan = scan i; portfolio = portfolio.0 i; serial = c.args.meta.now.serial } in base, portfolio.1)
