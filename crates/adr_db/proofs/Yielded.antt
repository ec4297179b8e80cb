-- What a loop over a list has yielded at its end.
use Rattle.std.proofs.Common.{◌≡◌, List, length, Option, None, sym, ◌∙◌}
use Rattle.std.specs.declared.vec.IntoIter.{IntoIter}
use Rattle.std.specs.Iterator.{Yields}
use Rattle.std.specs.Vec.Iter.{into_iter_items, into_iter_len, into_iter_steps}
use Rattle.std.proofs.lemmas.Iterator.Adapters.{YieldsList-from_vec}
use Rattle.std.proofs.lemmas.Iterator.Consumers.{YieldsList-end}
use Rattle.std.proofs.lemmas.List.{map-id}

-- a loop over a list that came to its end went over the whole list
pub each_yielded : {A Z : Type 0} (s t u : IntoIter A Z) {r : Option A} (xs ys : List A) → into_iter_items s ≡ xs → into_iter_len s ≡ length xs → Yields (into_iter_steps {X = A} {Z = Z}) s ys t → r ≡ None → into_iter_steps t r u → ys ≡ xs
each_yielded s t u xs ys items len yields none last = sym (map-id ys) ∙ (YieldsList-end (YieldsList-from_vec {s = s} xs items len) ys t yields _ u none last).0
