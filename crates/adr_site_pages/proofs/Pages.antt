-- From the rows that are lent to the page of what is kept, where each of what is kept reads as itself alone.
use Rattle.std.proofs.Common.{◌≡◌, ◌⊎◌, inl, inr, ℕ, ◌≤◌, Bool, List, [], ◌∷◌, ◌++◌, length, map, filter, drop, take, refl, ap₂, subst}
use Rattle.adr_db.proofs.Common.{AllZip, Row, Ghosts, Has, Held, state, Shown}
use Rattle.adr_queries.specs.declared.query.Page.{Page}
use Rattle.adr_db.specs.Kept.{Kept, Keeps}
use Rattle.adr_db.proofs.KeptMaps.{read_back}
use Rattle.adr_lent.specs.Lent.{HasLent}
use Rattle.adr_lent.specs.Selections.{Selects}
use Rattle.adr_lent.specs.Pages.{IsCut, IsNeeded, LendsPage}
use Rattle.adr_lent.proofs.Cuts.{page_whole, page_begun}
use Rattle.adr_lent.proofs.Pages.{keeps_now}

module _ {X : Type 0} (Reads : Row → X → Type 0) (row_of : X → Row) where
  -- the row of each of these reads as that alone
  abbrev pub ReadBack : List X → Type 0
  ReadBack all = (x e : X) → Has all e → Reads (row_of e) x → x ≡ e

  -- rows that begin those of values are read as the first of them
  first_read : (lent rest : List Row) (seen all : List X) → ReadBack all → AllZip Reads lent seen → lent ++ rest ≡ map row_of all → seen ++ drop (length seen) all ≡ all
  first_read [] rest [] all back reads is = refl
  first_read [] rest (x ∷ seen) all back reads is = absurd reads
  first_read (row ∷ lent) rest [] all back reads is = absurd reads
  first_read (row ∷ lent) rest (x ∷ seen) [] back reads is = absurd cc
  first_read (row ∷ lent) rest (x ∷ seen) (e ∷ all) back reads is =
      let here : row ≡ row_of e = cc in
      let others : lent ++ rest ≡ map row_of all = cc in
      ap₂ ◌∷◌ (back x e (inl refl) (subst (λ r. Reads r x) here reads.0)) (first_read lent rest seen all (λ y d has. back y d (inr has)) reads.1 others)

  module _ {S : Type 0} (g : Ghosts S) (wanted : X → Bool) (page : Page) (values : Kept → List X) (old begun now : Held S) (found : List X) {sql : List ℕ} {params : Row} where
    -- the page of the rows of what is kept is the page of what is kept
    pub paged_among : ((kept : Kept) → Keeps kept (state g old) → ReadBack (values kept)) → HasLent g sql params old begun [] → Selects g sql params (λ kept. map row_of (values kept)) old → LendsPage g Reads wanted page begun now found
        → (kept : Kept) → Keeps kept (state g old) → (found ≡ take page.limit (drop page.skip (filter wanted (values kept)))) × Keeps kept (state g now)
    paged_among back first selects lends kept was =
        let it = lends sql params old first in
        (made it.0 it.1 it.2 it.3 it.4 it.5 it.7, keeps_now kept (state g old) (state g now) it.6.0.now_is was)
      where
        made : (lent : List Row) (seen : List X) (left : ℕ) → AllZip Reads lent seen → IsCut page.skip (filter wanted seen) found left → length found ≤ page.limit
            → Shown sql params (state g old) (state g now) lent ⊎ (HasLent g sql params old now lent × (page.limit ≤ length found) × IsNeeded wanted page seen) → found ≡ take page.limit (drop page.skip (filter wanted (values kept)))
        made lent seen left reads cut most (inl all) =
            let same : seen ≡ values kept = read_back Reads row_of seen (values kept) (back kept was) (subst (λ rows. AllZip Reads rows seen) (selects.whole kept was now lent all) reads) in
            page_whole wanted page.limit page.skip left seen found cut most (values kept) same
        made lent seen left reads cut most (inr full) =
            let it = selects.begins kept was now lent full.0 in
            page_begun wanted page.limit page.skip left seen found cut most (drop (length seen) (values kept)) (values kept) (first_read lent it.0 seen (values kept) (back kept was) reads it.1) full.1
