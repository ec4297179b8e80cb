use Rattle.std.proofs.Common.{List, Option, append-nil, subst, sym}
use Rattle.std.specs.Prelude.{option_map, option_to_list}
use Rattle.adr_db.specs.declared.report_columns.ReportColumns.{ReportColumns}
use Rattle.adr_lent.specs.Pages.{IsCut}
use Rattle.adr_report_pages.specs.Columns.{Entry}
use Rattle.adr_report_pages.specs.Cuts.{CutsOn}
use Rattle.adr_report_pages.proofs.own.offer_at.Goals as goal

pub returns-in_default-clause-cuts : goal.returns-in_default-clause-cuts
returns-in_default-clause-cuts g c clean kept was =
    let none = (rw (c.in_ok-columns.was, c.in_default.is) at (c.read_columns.ensures.finds clean)) kept was in (
      subst (λ (o : Option ReportColumns). CutsOn c.args.filter.now (option_to_list (option_map (λ columns. (c.args.number, columns)) o)) c.args.found.now.items c.args.left.now c.args.found.now.items c.args.left.now) none.0
          (λ skip so_far cut. subst (λ (es : List Entry). IsCut skip es c.args.found.now.items c.args.left.now) (sym (append-nil so_far)) cut),
      none.1,
    )

pub returns-clause-cuts : goal.returns-clause-cuts
returns-clause-cuts g c clean kept was =
    let some = (rw (c.in_ok-columns.was, c.in-Some.is) at (c.read_columns.ensures.finds clean)) kept was in (
      subst (λ (o : Option ReportColumns). CutsOn c.args.filter.now (option_to_list (option_map (λ columns. (c.args.number, columns)) o)) c.args.found.now.items c.args.left.now c.offer.new.found.items c.offer.new.left) some.0
          (rw c.in_ok-offer.was at c.offer.ensures.cut),
      some.1,
    )
