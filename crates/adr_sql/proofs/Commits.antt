-- A transaction from its begin to its commit or its drop.
use Rattle.std.proofs.Common.{◌≡◌, inl, inr, false, true, Ok, Err, Result, IfErr, OnOk, IsTrue, [], arith, refl, sym, subst, ◌∙◌}
use Rattle.adr_sql.proofs.Common.{both_ways, Trees, Ghosts, Held, state, State, HasCleanDisk, KeepsCounts, Shows, IsRolledBack, KeepsCommit, Survives, Error, survives_begin}
use Rattle.sqlite.specs.Steps.{FailsToCommit}
use Rattle.sqlite.proofs.StateLemmas.{survives_then}
use Rattle.adr_sql.specs.Calls.{Stays, Commits}

-- a commit that fails is rolled back
failed : (last end : State) (e : Error) → IsTrue last.in_transaction → FailsToCommit last end e → IsRolledBack last end
failed last end e inside (inl h) = h.3
failed last end e inside (inr ended) = absurd (let out = ended.1 in both_ways _ out inside)

-- what is rolled back leaves the last commit
uncommitted : (begun last end : State) → KeepsCommit begun last → IsRolledBack last end → IsTrue end.is_open → (end.now ≡ begun.committed) × (end.committed ≡ begun.committed)
uncommitted begun last end kept back is_open =
    let undone = back.undone is_open in
    let same = kept.committed (back.was_open is_open) in
    (undone.0 ∙ same, undone.1 ∙ same)

module _ {S : Type 0} (g : Ghosts S) (old last end : Held S) where
  abbrev begun : Held S
  begun = record old { in_transaction = true }

  -- the calls went well, and then the commit went well or not
  pub committed : {A F T : Type 0} (x : A) (r : Result T Error) (IsDone : State → Type 0) (IsLeft : Trees → Type 0)
      → Stays g begun last {T = A} {E = F} (Ok x)
      → (HasCleanDisk (state g last) → IsDone (state g last))
      → ((a b : State) → b.now ≡ a.now → IsDone a → IsDone b)
      → ((s : State) → IsDone s → IsLeft s.now.trees)
      → end.in_transaction ≡ false
      → (HasCleanDisk (state g end) → OnOk r (IsTrue (state g last).in_transaction × Shows (state g last) (state g end) (state g last).now (state g last).now false × KeepsCounts (state g last) (state g end) × ((state g end).marks ≡ [])))
      → (HasCleanDisk (state g end) → IfErr r (FailsToCommit (state g last) (state g end)))
      → Survives (state g last) (state g end) (λ db. db ≡ (state g last).now.trees)
      → Commits g old end IsDone IsLeft r
  committed x r IsDone IsLeft stays made moves leaves over ok err survives = by r ok err
    where
      early : HasCleanDisk (state g end) → HasCleanDisk (state g last)
      early clean = omega (arith, survives.clean)

      kept : HasCleanDisk (state g end) → KeepsCommit (state g begun) (state g last)
      kept clean = stays.commit (early clean) refl

      crash : Survives (state g old) (state g end) IsLeft
      crash = survives_then (state g old) (state g last) (state g end) _ _ IsLeft (λ _ db none. absurd none)
          (λ late db is. subst IsLeft (sym is) (leaves (state g last) (made (early late)))) (survives_begin g old (state g last) _ stays.crash) survives

      by : {T : Type 0} (r : Result T Error)
          → (HasCleanDisk (state g end) → OnOk r (IsTrue (state g last).in_transaction × Shows (state g last) (state g end) (state g last).now (state g last).now false × KeepsCounts (state g last) (state g end) × ((state g end).marks ≡ [])))
          → (HasCleanDisk (state g end) → IfErr r (FailsToCommit (state g last) (state g end))) → Commits g old end IsDone IsLeft r
      by (Ok y) ok err = record {
        done = λ clean. let shows = (ok clean).1 in (moves (state g last) (state g end) shows.now_is (made (early clean)), shows.committed_is ∙ sym shows.now_is);
        is_open = λ clean. (ok clean).1.is_open;
        was_open = λ clean is_open. (kept clean).was_open ((ok clean).1.was_open);
        undone = λ clean is_open. tt;
        over = over;
        crash = crash;
      }
      by (Err e) ok err =
          let back : HasCleanDisk (state g end) → IsRolledBack (state g last) (state g end) = λ clean. failed (state g last) (state g end) e (stays.inside (early clean) refl) (err clean) in record {
            done = λ clean. tt;
            is_open = λ clean. tt;
            was_open = λ clean is_open. (kept clean).was_open ((back clean).was_open is_open);
            undone = λ clean is_open. uncommitted (state g begun) (state g last) (state g end) (kept clean) (back clean) is_open;
            over = over;
            crash = crash;
          }

  -- a call failed, and the transaction was dropped
  pub dropped : {A F T E : Type 0} (q : Result A F) (e : E) (IsDone : State → Type 0) (IsLeft : Trees → Type 0)
      → Stays g begun last q
      → end.in_transaction ≡ false
      → (HasCleanDisk (state g end) → IsRolledBack (state g last) (state g end))
      → Survives (state g last) (state g end) (λ _. ⊥)
      → Commits g old end {T = T} {E = E} IsDone IsLeft (Err e)
  dropped q e IsDone IsLeft stays over back survives = record {
    done = λ clean. tt;
    is_open = λ clean. tt;
    was_open = λ clean is_open. (kept clean).was_open ((back clean).was_open is_open);
    undone = λ clean is_open. uncommitted (state g begun) (state g last) (state g end) (kept clean) (back clean) is_open;
    over = over;
    crash = survives_then (state g old) (state g last) (state g end) _ _ IsLeft (λ _ db none. absurd none) (λ _ db none. absurd none) (survives_begin g old (state g last) _ stays.crash) survives;
  }
    where
      kept : HasCleanDisk (state g end) → KeepsCommit (state g begun) (state g last)
      kept clean = stays.commit (omega (arith, survives.clean)) refl
