use Rattle.std.proofs.Common.{List, ◌++◌, ◌∙◌, append-nil, arith, ap, subst, sym, Ok}
use Rattle.std.specs.Prelude.{option_to_list}
use Rattle.std.specs.List.{filter_map}
use Rattle.std.proofs.lemmas.List.Elements.{filter-append}
use Rattle.adr_db.proofs.Common.{state, HasCleanDisk, lent_then}
use Rattle.adr_lent.specs.Pages.{IsCut}
use Rattle.adr_lent.proofs.Cuts.{page_whole, page_begun}
use Rattle.adr_report_pages.specs.Columns.{Entry, entry_at, wants_columns, wanted_among}
use Rattle.adr_report_pages.proofs.OwnLemmas.{one_before}
use Rattle.adr_report_pages.proofs.own.page_at.Goals as goal

pub returns-then-len-page-clause-finds : goal.returns-then-len-page-clause-finds
returns-then-len-page-clause-finds g c clean kept was =
    let it = c.loop-number.invariant.cut clean kept was in
    let f = c.args.filter.now in
    let page = c.args.page in
    (c.from_vec.ensures ∙ page_begun (λ e. wants_columns f e.1) page.limit page.skip c.loop-number.left it.0.0 c.loop-number.found.items it.0.1 c.loop-number.invariant.most _ _ it.0.2 (omega arith), it.1)

pub returns-clause-finds : goal.returns-clause-finds
returns-clause-finds g c clean kept was =
    let it = c.loop-number.invariant.cut clean kept was in
    let f = c.args.filter.now in
    let page = c.args.page in
    let seen = it.0.0 in
    let whole = sym (append-nil seen) ∙ ap (λ ns. seen ++ filter_map (λ e. entry_at e.0 kept) ns) (sym c.in-None.ensures.steps.0) ∙ it.0.2 in
    (c.from_vec-2.ensures ∙ page_whole (λ e. wants_columns f e.1) page.limit page.skip c.loop-number.left seen c.loop-number.found.items it.0.1 c.loop-number.invariant.most _ whole, it.1)

pub loop-number-preserved : goal.loop-number-preserved
loop-number-preserved g c = record {
  lent =
      let one = c.in_ok-offer_at.ensures.lent in
      lent_then g.S.Store _ _ _ _ (Ok tt) c.loop-number.invariant.lent (record { same = one.same; stays = record { crash = one.stays.crash; commit = one.stays.commit; inside = one.stays.inside } });
  most = let grown = rw c.in_ok-offer_at.was at c.offer_at.ensures.most in omega arith;
  cut = λ clean kept was.
      let early : HasCleanDisk (state g.S.Store c.loop-number.tx.conn.now) = omega (arith, c.offer_at.ensures.lent.stays.crash.clean) in
      let f = c.args.filter.now in
      let it = c.loop-number.invariant.cut early kept was in
      let seen = it.0.0 in
      let one = (rw c.in_ok-offer_at.was at c.offer_at.ensures.cuts) clean kept it.1 in
      let found = entry_at c.in-Some.number.now kept in
      let cut = one.0 c.args.page.skip (wanted_among f seen) it.0.1 in (
        (
          seen ++ option_to_list found,
          subst (λ (es : List Entry). IsCut c.args.page.skip es c.offer_at.new.found.items c.offer_at.new.left) (sym (filter-append (λ (e : Entry). wants_columns f e.1) seen (option_to_list found))) cut,
          one_before seen found (filter_map (λ e. entry_at e.0 kept) c.next.new.self) ∙ ap (λ ns. seen ++ filter_map (λ e. entry_at e.0 kept) ns) (sym c.in-Some.ensures.steps) ∙ it.0.2,
        ),
        one.1,
      );
}
