use Rattle.std.proofs.Common.{Ok, arith}
use Rattle.adr_db.specs.Images.{image_kept}
use Rattle.adr_state.specs.Vens.{ven_at}
use Rattle.adr_queries.specs.declared.answer.Answer.TheVariants as answer
use Rattle.adr_queries.specs.Listings.{page_of, resources_of, resources_told}
use Rattle.adr_site_pages.specs.Sites.{ven_in_sight}
use Rattle.adr_answers.proofs.Behind.{refused_first, finds_then, refuses_then}
use Rattle.adr_site_pages.proofs.SiteLemmas.{resources_are}
use Rattle.adr_site_pages.proofs.answers.resources_seen.Goals as goal

pub returns-in_err-number-clause-refuses : goal.returns-in_err-number-clause-refuses
returns-in_err-number-clause-refuses g c =
    let ven = c.args.ven.now in
    let page = c.args.page in
    refused_first g.S.Store c.args.tx.now.conn.now c.read_ven_in_sight.new.tx.conn.now c.read_ven_in_sight.new.tx.conn.now (λ kept. resources_told (image_kept kept).base page c.args.sight (ven_at ven kept.portfolio))
    (λ kept. ven_in_sight c.args.sight (ven_at ven kept.portfolio)) (λ kept n. Ok (answer.List (page_of page (resources_of (image_kept kept).base n)))) (λ kept was. resources_are (image_kept kept).base page c.args.sight (ven_at ven kept.portfolio))
    c.from_residual.result c.in_err-number.field-0.0 c.from_residual.ensures.1 c.in_err-number.ensures.refuses

pub returns-clause-finds : goal.returns-clause-finds
returns-clause-finds g c =
    let ven = c.args.ven.now in
    let page = c.args.page in
    finds_then g.S.Store c.args.tx.now.conn.now c.read_ven_in_sight.new.tx.conn.now c.resources_listed.new.tx.conn.now (λ kept. resources_told (image_kept kept).base page c.args.sight (ven_at ven kept.portfolio))
    (λ kept. ven_in_sight c.args.sight (ven_at ven kept.portfolio)) (λ kept n. Ok (answer.List (page_of page (resources_of (image_kept kept).base n)))) (λ kept was. resources_are (image_kept kept).base page c.args.sight (ven_at ven kept.portfolio))
    (λ clean. omega (arith, clean, c.resources_listed.ensures.lent.stays.crash.clean)) c.in_ok-number.number c.in_ok-number.ensures.finds c.resources_listed.result c.resources_listed.ensures.finds

pub returns-clause-refuses : goal.returns-clause-refuses
returns-clause-refuses g c =
    let ven = c.args.ven.now in
    let page = c.args.page in
    refuses_then g.S.Store c.args.tx.now.conn.now c.read_ven_in_sight.new.tx.conn.now c.resources_listed.new.tx.conn.now (λ kept. resources_told (image_kept kept).base page c.args.sight (ven_at ven kept.portfolio))
    (λ kept. ven_in_sight c.args.sight (ven_at ven kept.portfolio)) (λ kept n. Ok (answer.List (page_of page (resources_of (image_kept kept).base n)))) (λ kept was. resources_are (image_kept kept).base page c.args.sight (ven_at ven kept.portfolio))
    (λ clean. omega (arith, clean, c.resources_listed.ensures.lent.stays.crash.clean)) c.in_ok-number.number c.in_ok-number.ensures.finds c.resources_listed.result c.resources_listed.ensures.refuses
