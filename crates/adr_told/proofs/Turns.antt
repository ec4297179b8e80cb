-- The changes of the whole views are told source by source.
use Rattle.std.proofs.Common.{◌≡◌, List, [], ◌∷◌, ◌++◌, refl, ap, ◌∙◌}
use Rattle.std.specs.List.{flat_map}
use Rattle.std.proofs.lemmas.List.Concat.{flat_map-append}
use Rattle.adr_view.specs.Changes.{changes}
use Rattle.adr_refresh.specs.Sources.{rows_of}
use Rattle.adr_refresh.proofs.TurnLemmas.{changes_in_their_turn}
use Rattle.adr_notices.specs.Made.{entries_of_change, entries_made}
use Rattle.adr_told.specs.Laws.{WholeIsToldInTurn, side_before, side_after}

flat_of_flat : {A B C : Type 0} (f : B → List C) (g : A → List B) (xs : List A) → flat_map f (flat_map g xs) ≡ flat_map (λ x. flat_map f (g x)) xs
flat_of_flat f g [] = refl
flat_of_flat f g (x ∷ xs) = flat_map-append f (g x) (flat_map g xs) ∙ ap (λ rest. flat_map f (g x) ++ rest) (flat_of_flat f g xs)

pub told_in_turn : WholeIsToldInTurn
told_in_turn client subs before stamps after now ss stands_before stands up stay =
    ap (entries_made client subs (side_before before stamps) (side_after before stamps after now)) (changes_in_their_turn before after ss stands_before stands up stay)
    ∙ flat_of_flat (entries_of_change client subs (side_before before stamps) (side_after before stamps after now)) (λ s. changes (rows_of before s) (rows_of after s)) ss
