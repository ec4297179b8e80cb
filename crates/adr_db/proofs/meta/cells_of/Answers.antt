use Rattle.std.proofs.Common.{◌≡◌, List, [], ◌∷◌, refl, ap, ap₂, ◌∙◌}
use Rattle.sqlite_value.specs.declared.value.Value.{Value}
use Rattle.sqlite.specs.Values.{bound_value}
use Rattle.adr_db.specs.Rows.{number}
use Rattle.adr_db.proofs.meta.cells_of.Goals as goal

no_cells : ◌≡◌ {A = List Value} [] []
no_cells = refl

pub returns-clause-cells : goal.returns-clause-cells
returns-clause-cells c =
    ap₂ ◌∷◌ (ap bound_value (c.in_ok-number.ensures.value ∙ ap number c.get.ensures.value)) (ap₂ ◌∷◌ (ap bound_value c.to_sql.ensures) (ap₂ ◌∷◌ (ap bound_value (c.in_ok-number-2.ensures.value ∙ ap number c.get-2.ensures.value)) (ap₂ ◌∷◌ (ap bound_value (c.in_ok-number-3.ensures.value ∙ ap number c.get-3.ensures.value)) (ap₂ ◌∷◌ (ap bound_value (c.in_ok-number-4.ensures.value ∙ ap number c.get-4.ensures.value)) (ap₂ ◌∷◌ (ap bound_value (c.in_ok-number-5.ensures.value ∙ ap number c.get-5.ensures.value)) (ap₂ ◌∷◌ (ap bound_value c.in_ok-number-6.ensures.value) (ap₂ ◌∷◌ (ap bound_value c.in_ok-number-7.ensures.value) (ap₂ ◌∷◌ (ap bound_value c.in_ok-number-8.ensures.value) (ap₂ ◌∷◌ (ap bound_value c.in_ok-number-9.ensures.value) (ap₂ ◌∷◌ (ap bound_value c.in_ok-number-10.ensures.value) (ap₂ ◌∷◌ (ap bound_value c.in_ok-number-11.ensures.value) (ap₂ ◌∷◌ (ap bound_value c.in_ok-number-12.ensures.value) (ap₂ ◌∷◌ (ap bound_value c.in_ok-number-13.ensures.value) no_cells)))))))))))))
