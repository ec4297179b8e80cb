-- The live part of rows, and the keys that a scan missed.
use Rattle.std.proofs.Common.{◌≡◌, true, false, List, Some, refl, sym, ◌∙◌}
use Rattle.std.proofs.lemmas.Map.Entries.{option_filter, lookup-filter-values}
use Rattle.adr_refresh.proofs.MapLemmas.{same_maps}
use Rattle.adr_catch_up.proofs.Common.{Contains, Contains-from_lookup, InOrder, IsDistinct-from_sorted, Mark, MirrorKey, at, eq_by_cmp_equiv, has_key, in_filter, in_map, in_order_filtered, is_live, is_probe, key_order, keys_of, mirror_cmp, mirror_exact, probes, tells_apart}
use Rattle.adr_catch_up.specs.Upstream.{live_part}

-- what the live part has at a key
pub at_live : (key : MirrorKey) (rows : List (MirrorKey × Mark)) → InOrder mirror_cmp rows → at mirror_cmp key (live_part rows) ≡ option_filter is_live (at mirror_cmp key rows)
at_live key rows ordered = lookup-filter-values (eq_by_cmp_equiv key_order) is_live key rows (IsDistinct-from_sorted mirror_cmp (keys_of rows) ordered)

-- live parts that have the same at each key are one
pub same_live : (one other : List (MirrorKey × Mark)) → InOrder mirror_cmp one → InOrder mirror_cmp other → ((key : MirrorKey) → option_filter is_live (at mirror_cmp key one) ≡ option_filter is_live (at mirror_cmp key other)) → live_part one ≡ live_part other
same_live one other up rises same =
    same_maps key_order mirror_exact (live_part one) (live_part other) (in_order_filtered mirror_cmp (λ r. is_live r.1) one up) (in_order_filtered mirror_cmp (λ r. is_live r.1) other rises)
    (λ key. at_live key one up ∙ same key ∙ sym (at_live key other rises))

-- what is found is a row
pub row_of : (key : MirrorKey) (mark : Mark) (rows : List (MirrorKey × Mark)) → at mirror_cmp key rows ≡ Some mark → Contains rows (key, mark)
row_of = Contains-from_lookup (tells_apart mirror_exact)

-- a live key that was not polled is probed
pub is_probed : (key : MirrorKey) (mark : Mark) (mirror : List (MirrorKey × Mark)) (polled : List MirrorKey) → at mirror_cmp key mirror ≡ Some mark → is_live mark ≡ true → has_key polled key ≡ false → Contains (probes mirror polled) key
is_probed key mark mirror polled found live missed =
    in_map (λ (r : MirrorKey × Mark). r.0) _ (key, mark) (in_filter (is_probe polled) mirror (key, mark) (rw (live, missed) refl) (row_of key mark mirror found))
