-- What is shown before or after a command.
use Rattle.std.specs.Prelude.{List}
use Rattle.adr_objects.specs.declared.shown.Stamps.{Stamps}
use Rattle.adr_state.specs.declared.base.Base.{Base}
use Rattle.adr_state.specs.declared.keys.ViewKey.{ViewKey}
use Rattle.adr_view.specs.declared.view.Content.{Content}

-- a base, all that is shown of it, and the stamps of that
pub record Side : Type 0 where
  pub base : Base
  pub view : List (ViewKey × Content)
  pub stamps : List (ViewKey × Stamps)
