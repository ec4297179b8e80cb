-- Where all that is shown stays, nothing changed.
use Rattle.std.proofs.Common.{◌≡◌, List, [], ◌∷◌, Option, Some, None, refl}
use Rattle.std.specs.List.{filter_map}
use Rattle.adr_state.specs.declared.keys.ViewKey.{ViewKey}
use Rattle.adr_state.specs.Keys.{view_cmp, at}
use Rattle.adr_view.specs.declared.view.Content.{Content}
use Rattle.adr_view.specs.Changes.{change_by, both_keys, changes}
use Rattle.adr_view.proofs.LawLemmas.{contents_equal}

stays : (k : ViewKey) (o : Option Content) → change_by k o o ≡ None
stays k None = refl
stays k (Some c) = rw ((contents_equal c c).1 refl) refl

none_of : (keys : List ViewKey) (v : List (ViewKey × Content)) → filter_map (λ key. change_by key (at view_cmp key v) (at view_cmp key v)) keys ≡ []
none_of [] v = refl
none_of (k ∷ keys) v = rw (stays k (at view_cmp k v)) (none_of keys v)

pub nothing_changes : (v : List (ViewKey × Content)) → changes v v ≡ []
unfolding changes
nothing_changes v = none_of (both_keys v v) v
