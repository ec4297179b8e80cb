-- From all the rows that are lent to what is kept.
use Rattle.std.proofs.Common.{◌≡◌, ℕ, List, [], Result, Ok, Err, IfOk, OnOk, IsTrue, subst}
use Rattle.std.specs.Prelude.{⊤}
use Rattle.adr_db.proofs.Common.{AllZip, Row, Ghosts, Held, state, State, HasCleanDisk, Refusal}
use Rattle.sqlite.specs.State.{Survives}
use Rattle.adr_db.specs.Kept.{Kept, Keeps}
use Rattle.adr_db.proofs.KeptMaps.{AreTexts}
use Rattle.adr_db.proofs.Results.{ok_then}
use Rattle.adr_lent.specs.Lent.{HasLent}
use Rattle.adr_lent.specs.Selections.{Selects}
use Rattle.adr_lent.proofs.Pages.{keeps_now}
use Rattle.adr_lent.proofs.Streams.{clean_before, once_dropped}
use Rattle.adr_lent_image.specs.Gathered.{LendsAll, ReadsEach}

-- the query was begun over what there was
module _ {S T : Type 0} (g : Ghosts S) (old begun now : Held S) (r : Result T Refusal) {sql : List ℕ} {params : Row}
    (first : HasCleanDisk (state g begun) → HasLent g sql params old begun []) (kept_on : Survives (state g begun) (state g now) (λ _. ⊥)) (late : HasCleanDisk (state g now)) where
  begins : HasLent g sql params old begun []
  begins = first (clean_before (state g begun) (state g now) _ kept_on late)

  -- the store was open
  pub was_open : OnOk r (IsTrue (state g old).is_open)
  was_open = by r
    where
      by : (r : Result T Refusal) → OnOk r (IsTrue (state g old).is_open)
      by (Ok x) = begins.same.0.was_open
      by (Err e) = tt

  -- where the rows that are selected read as these values alone
  module _ {X : Type 0} (Reads : Row → X → Type 0) {selection : Kept → List Row} (values : Kept → List X) (back : (kept : Kept) → AreTexts kept → (seen : List X) → AllZip Reads (selection kept) seen → seen ≡ values kept) where
    -- what they make is made of what is kept, and that stays once the rows are dropped
    pub finds : (Makes : T → List X → Type 0) (IsRight : Kept → T → Type 0) → ((found : T) (kept : Kept) → Keeps kept (state g old) → Makes found (values kept) → IsRight kept found) → Selects g sql params selection old
        → IfOk r (λ found. LendsAll g Reads begun now (Makes found)) → (left : State) → state g now ≡ left → IfOk r (λ found. (kept : Kept) → Keeps kept (state g old) → IsRight kept found × Keeps kept left)
    finds Makes IsRight right selects lends left stays =
        once_dropped (λ (s : State). IfOk r (λ found. (kept : Kept) → Keeps kept (state g old) → IsRight kept found × Keeps kept s)) (state g now) left
        (ok_then r (λ found all kept was.
        let it = all sql params old begins in
        let same : it.1 ≡ values kept = back kept (was.marks, was.subs) it.1 (subst (λ rows. AllZip Reads rows it.1) (selects.whole kept was now it.0 it.3) it.2) in
        (right found kept was (subst (Makes found) same it.5), keeps_now kept (state g old) (state g now) it.4.0.now_is was)) lends)
        stays

  -- each row that the query showed was read, and the rows are dropped
  pub reads_each : {X : Type 0} (Reads : Row → X → Type 0) {selection : Kept → List Row} → Selects g sql params selection old → OnOk r (LendsAll g Reads begun now (λ seen. ⊤)) → (left : State) → state g now ≡ left → OnOk r (ReadsEach g selection Reads old left)
  reads_each Reads {selection} selects lends left stays =
      once_dropped (λ (s : State). OnOk r (ReadsEach g selection Reads old s)) (state g now) left (by r lends) stays
    where
      by : (r : Result T Refusal) → OnOk r (LendsAll g Reads begun now (λ seen. ⊤)) → OnOk r (ReadsEach g selection Reads old (state g now))
      by (Ok x) all = let it = all sql params old begins in (sql, params, selects, it.0, it.1, it.2, it.3, it.4)
      by (Err e) all = tt
