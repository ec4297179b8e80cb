use Rattle.std.proofs.Common.{◌++◌, ◌∙◌, append-nil, arith, ap, filter, sym, Ok}
use Rattle.std.specs.Prelude.{option_to_list}
use Rattle.std.proofs.lemmas.List.{drop_all}
use Rattle.adr_db.proofs.Common.{state, HasCleanDisk, lent_then}
use Rattle.adr_lent.proofs.Cuts.{page_whole, page_begun}
use Rattle.adr_site_pages.specs.ByNumbers.{entries_at, entry_at}
use Rattle.adr_site_pages.proofs.NumberLemmas.{cut_more, one_read}
use Rattle.adr_site_pages.proofs.by_number.page_at.Goals as goal

pub returns-then-len-page-clause-finds : goal.returns-then-len-page-clause-finds
returns-then-len-page-clause-finds g c clean kept was =
    let it = c.numbers.invariant.cut clean kept was in
    let wanted = g.W.Wanting.wanted c.args.wanting.now in
    let page = c.args.page in
    (c.from_vec.ensures ∙ page_begun wanted page.limit page.skip c.numbers.left it.0.0 c.numbers.found.items it.0.1 c.numbers.invariant.most _ _ it.0.2 (omega arith), it.1)

pub returns-clause-finds : goal.returns-clause-finds
returns-clause-finds g c clean kept was =
    let it = c.numbers.invariant.cut clean kept was in
    let wanted = g.W.Wanting.wanted c.args.wanting.now in
    let page = c.args.page in
    let seen = it.0.0 in
    let none = drop_all c.numbers.number-index c.args.numbers.now (omega (arith, c.numbers-test.false)) in
    let whole = sym (append-nil seen) ∙ ap (λ ns. seen ++ entries_at g.T.ByNumber.kept_at ns kept) (sym none) ∙ it.0.2 in
    (c.from_vec-2.ensures ∙ page_whole wanted page.limit page.skip c.numbers.left seen c.numbers.found.items it.0.1 c.numbers.invariant.most _ whole, it.1)

pub numbers-preserved : goal.numbers-preserved
numbers-preserved g c = record {
  lent =
      let one = c.in_ok-offer_at.ensures.lent in
      lent_then g.S.Store _ _ _ _ (Ok tt) c.numbers.invariant.lent (record { same = one.same; stays = record { crash = one.stays.crash; commit = one.stays.commit; inside = one.stays.inside } });
  most = let grown = rw c.in_ok-offer_at.was at c.offer_at.ensures.most in omega arith;
  cut = λ clean kept was.
      let early : HasCleanDisk (state g.S.Store c.numbers.tx.conn.now) = omega (arith, c.offer_at.ensures.lent.stays.crash.clean) in
      let wanted = g.W.Wanting.wanted c.args.wanting.now in
      let found_at = g.T.ByNumber.kept_at in
      let it = c.numbers.invariant.cut early kept was in
      let seen = it.0.0 in
      let one = (rw c.in_ok-offer_at.was at c.offer_at.ensures.cuts) clean kept it.1 in
      let number = c.number-item.result in
      let more = option_to_list (entry_at found_at number kept) in
      let cut = one.0 c.args.page.skip (filter wanted seen) it.0.1 in (
        (
          seen ++ more,
          cut_more wanted seen more c.offer_at.new.found.items c.args.page.skip c.offer_at.new.left cut,
          one_read found_at kept c.args.numbers.now c.numbers.number-index number seen (entries_at found_at c.args.numbers.now kept) c.numbers-test.true c.number-item.is it.0.2,
        ),
        one.1,
      );
}
