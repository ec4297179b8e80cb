use Rattle.std.proofs.Common.{List, Option, append-nil, subst, sym}
use Rattle.std.specs.Prelude.{option_map, option_to_list}
use Rattle.adr_lent.specs.Pages.{IsCut}
use Rattle.adr_site_pages.specs.ByNumbers.{CutsOn}
use Rattle.adr_site_pages.proofs.by_number.offer_at.Goals as goal

pub returns-in_default-clause-cuts : goal.returns-in_default-clause-cuts
returns-in_default-clause-cuts g c clean kept was =
    let wanted = g.W.Wanting.wanted c.args.wanting.now in
    let none = (rw (c.in_ok-value.was, c.in_default.is) at (c.read_at.ensures.finds clean)) kept was in (
      subst (λ (o : Option _). CutsOn wanted (option_to_list (option_map (λ value. (c.args.number, value)) o)) c.args.found.now.items c.args.left.now c.args.found.now.items c.args.left.now) none.0
          (λ skip so_far cut. subst (λ (es : List _). IsCut skip es c.args.found.now.items c.args.left.now) (sym (append-nil so_far)) cut),
      none.1,
    )

pub returns-clause-cuts : goal.returns-clause-cuts
returns-clause-cuts g c clean kept was =
    let wanted = g.W.Wanting.wanted c.args.wanting.now in
    let some = (rw (c.in_ok-value.was, c.in-Some.is) at (c.read_at.ensures.finds clean)) kept was in (
      subst (λ (o : Option _). CutsOn wanted (option_to_list (option_map (λ value. (c.args.number, value)) o)) c.args.found.now.items c.args.left.now c.offer.new.found.items c.offer.new.left) some.0
          (rw c.in_ok-offer.was at c.offer.ensures.cut),
      some.1,
    )
