-- From the rows that are lent to the first of what is kept.
use Rattle.std.proofs.Common.{◌≡◌, ◌⊎◌, inl, inr, ℕ, Option, Some, List, [], length, map, subst, ◌∙◌}
use Rattle.adr_db.proofs.Common.{AllZip, Row, Ghosts, Held, state, Shown, MirrorKey, probes}
use Rattle.adr_db.specs.Kept.{Kept, Keeps, at_most}
use Rattle.adr_db.specs.Rows.{key_row}
use Rattle.adr_db.specs.Admitted.{ReadsKey}
use Rattle.adr_db.proofs.KeptMaps.{read_back}
use Rattle.adr_db.proofs.Rows.{key_kept}
use Rattle.adr_lent.specs.Lent.{HasLent}
use Rattle.adr_lent.specs.Selections.{Selects}
use Rattle.adr_lent.proofs.Pages.{keeps_now}
use Rattle.adr_missed.specs.Taken.{IsAtMost, LendsFirst}
use Rattle.adr_missed.specs.Unseen.{unseen_rows}
use Rattle.adr_missed.proofs.Limits.{all_taken, first_taken, at_most-map}

module _ {S : Type 0} (g : Ghosts S) (limit : Option ℕ) (old now : Held S) {sql : List ℕ} {params : Row} (selection : Kept → List Row) (selects : Selects g sql params selection old) (kept : Kept) (was : Keeps kept (state g old)) where
  -- the rows that are lent are the first of those that are selected
  lent_are : (lent : List Row) → IsAtMost limit (length lent) → Shown sql params (state g old) (state g now) lent ⊎ (HasLent g sql params old now lent × (limit ≡ Some (length lent))) → lent ≡ at_most limit (selection kept)
  lent_are lent most (inl all) = all_taken limit lent (selection kept) (selects.whole kept was now lent all) most
  lent_are lent most (inr full) = let it = selects.begins kept was now lent full.0 in first_taken limit lent it.0 (selection kept) it.1 full.1

-- rows of keys are read as those
keys_read : (rows : List Row) (keys these : List MirrorKey) → rows ≡ map key_row these → AllZip ReadsKey rows keys → keys ≡ these
keys_read rows keys these are read = read_back ReadsKey key_row keys these (λ j k has same. key_kept j k same) (subst (λ rows. AllZip ReadsKey rows keys) are read)

module _ {S : Type 0} (g : Ghosts S) (limit : Option ℕ) (old begun now : Held S) (keys : List MirrorKey) {sql : List ℕ} {params : Row} where
  pub keys_taken : HasLent g sql params old begun [] → Selects g sql params unseen_rows old → LendsFirst g ReadsKey limit begun now keys
      → (kept : Kept) → Keeps kept (state g old) → (keys ≡ at_most limit (probes kept.mirror kept.polled)) × Keeps kept (state g now)
  keys_taken first selects lends kept was =
      let it = lends sql params old first in
      let unseen = probes kept.mirror kept.polled in
      let rows : it.0 ≡ map key_row (at_most limit unseen) = lent_are g limit old now unseen_rows selects kept was it.0 it.2 it.4 ∙ at_most-map key_row limit unseen in
      (keys_read it.0 keys (at_most limit unseen) rows it.1, keeps_now kept (state g old) (state g now) it.3.0.now_is was)
