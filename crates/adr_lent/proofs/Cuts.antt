-- A page is what is found once enough is found, or once there is no more.
use Rattle.std.proofs.Common.{◌≡◌, ℕ, zero, suc, ◌-◌, ◌≤◌, Bool, true, List, [], ◌∷◌, ◌++◌, length, map, filter, take, drop, Option, Some, None, refl, sym, ap, ◌∙◌, arith}
use Rattle.std.specs.Prelude.{is_some}
use Rattle.std.specs.List.{All, filter_map, cons_option}
use Rattle.std.proofs.lemmas.List.{take_at, take_all, take-map, drop-map}
use Rattle.std.proofs.lemmas.List.Elements.{All-head, All-tail, filter-append}
use Rattle.adr_lent.specs.Pages.{IsCut}

drop_both : {X : Type 0} (n : ℕ) (xs ys : List X) → drop n (xs ++ ys) ≡ drop n xs ++ drop (n - length xs) ys
drop_both zero xs ys = let none : 0 ≡ 0 - length xs = omega arith in ap (λ k. xs ++ drop k ys) none
drop_both (suc n) [] ys = let same : suc n ≡ suc n - 0 = omega arith in ap (λ k. drop k ys) same
drop_both (suc n) (x ∷ xs) ys = let less : n - length xs ≡ suc n - suc (length xs) = omega arith in drop_both n xs ys ∙ ap (λ k. drop n xs ++ drop k ys) less

module _ {X : Type 0} (p : X → Bool) where
  -- one more is lent
  pub wanted_more : (seen : List X) (x : X) → filter p seen ++ filter p (x ∷ []) ≡ filter p (seen ++ x ∷ [])
  wanted_more seen x = sym (filter-append p seen (x ∷ []))

  module _ (limit skip left : ℕ) (seen found : List X) (cut : IsCut skip (filter p seen) found left) (most : length found ≤ limit) where
    -- no more is to come
    pub page_whole : (all : List X) → seen ≡ all → found ≡ take limit (drop skip (filter p all))
    page_whole all is = sym (take_all limit found most) ∙ ap (take limit) (cut.found_is ∙ ap (λ l. drop skip (filter p l)) is)

    -- enough is found
    pub page_begun : (rest all : List X) → seen ++ rest ≡ all → limit ≤ length found → found ≡ take limit (drop skip (filter p all))
    page_begun rest all is enough =
        let more = filter p rest in
        let wanted : filter p all ≡ filter p seen ++ more = ap (filter p) (sym is) ∙ filter-append p seen rest in
        let parts : drop skip (filter p all) ≡ found ++ drop (skip - length (filter p seen)) more = ap (drop skip) wanted ∙ drop_both skip (filter p seen) more ∙ ap (λ l. l ++ drop (skip - length (filter p seen)) more) (sym cut.found_is) in
        sym (take_at found _ limit (omega arith)) ∙ ap (take limit) (sym parts)

-- ---- what is made of a page

somes_back : {A : Type 0} (xs : List A) → filter_map (λ (o : Option A). o) (map Some xs) ≡ xs
somes_back [] = refl
somes_back (x ∷ xs) = ap (λ ys. x ∷ ys) (somes_back xs)

-- where something is made of each, what is made of a part is that part of what is made of all
module _ {A B : Type 0} (g : A → Option B) where
  abbrev pub Makes : A → Type 0
  Makes x = is_some (g x) ≡ true

  each_made : (xs : List A) → All Makes xs → map Some (filter_map g xs) ≡ map g xs
  each_made [] all = refl
  each_made (x ∷ xs) all = by (g x) (All-head Makes x xs all) (each_made xs (All-tail Makes x xs all))
    where
      by : (o : Option B) → is_some o ≡ true → map Some (filter_map g xs) ≡ map g xs → map Some (cons_option o (filter_map g xs)) ≡ o ∷ map g xs
      by None is rest = absurd cc
      by (Some y) is rest = ap (λ (os : List (Option B)). Some y ∷ os) rest

  pub part_made : (skip limit : ℕ) (xs : List A) (ys : List B) → All Makes xs → map Some ys ≡ map g (take limit (drop skip xs)) → take limit (drop skip (filter_map g xs)) ≡ ys
  part_made skip limit xs ys all are =
      sym (somes_back (take limit (drop skip (filter_map g xs))))
      ∙ ap (filter_map (λ (o : Option B). o)) (sym (take-map Some limit (drop skip (filter_map g xs))) ∙ ap (take limit) (sym (drop-map Some skip (filter_map g xs)) ∙ ap (drop skip) (each_made xs all) ∙ drop-map g skip xs) ∙ take-map g limit (drop skip xs) ∙ sym are)
      ∙ somes_back ys
