-- The polled keys, as the set that they make.
use Rattle.std.proofs.Common.{◌≡◌, [], map, fold, sym, ap, ◌∙◌}
use Rattle.adr_db.proofs.Common.{insert_key, State, MirrorKey, mirror_cmp, insert_key_is, fold_keys, keys_back}
use Rattle.adr_db.specs.Kept.{Kept, Keeps, with_polled}
use Rattle.adr_db.proofs.KeptMaps.{with_put, again}
use Rattle.adr_db.proofs.Maps.{polled_map}

pub polled_again : (kept : Kept) (s : State) → Keeps kept s → fold (insert_key mirror_cmp) [] kept.polled ≡ kept.polled
polled_again kept s was = sym (keys_back _) ∙ ap (map (λ (e : MirrorKey × Unit {0}). e.0)) (sym (fold_keys mirror_cmp [] kept.polled) ∙ again polled_map kept s was) ∙ keys_back kept.polled

-- to put a key is to insert it
pub with_key : (key : MirrorKey) → with_put polled_map key tt ≡ with_polled key
with_key key = λ i kept. record kept { polled = (ap (map (λ (e : MirrorKey × Unit {0}). e.0)) (insert_key_is mirror_cmp key kept.polled) ∙ keys_back (insert_key mirror_cmp kept.polled key)) i }
