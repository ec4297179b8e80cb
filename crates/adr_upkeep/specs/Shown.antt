-- What is shown of an event in a base.
use Rattle.std.specs.Prelude.{◌≡◌, ℕ, List, filter}
use Rattle.adr_state.specs.declared.base.Base.{Base}
use Rattle.adr_state.specs.declared.keys.ViewKey.{ViewKey}
use Rattle.adr_view.specs.declared.view.Content.{Content}
use Rattle.adr_view.specs.Laws.{is_key_of}
use Rattle.adr_view.specs.Views.{shown_of, view}

-- the rows that the view makes of the event's mark, which are all that stand in the view at keys of it, in its order
pub record IsShown (id : List ℕ) (base : Base) (rows : List (ViewKey × Content)) : Type 0 where
  pub made_of_its_mark : rows ≡ shown_of base id
  pub all_of_the_view : rows ≡ filter (λ r. is_key_of id r.0) (view base)
