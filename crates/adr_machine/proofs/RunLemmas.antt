-- One step more of a run.
use Rattle.std.proofs.Common.{◌≡◌, List, [], ◌∷◌, ◌++◌, Result, Ok, Err, IfOk, IfErr, OnErr, refl, sym, ap, subst, ◌∙◌}
use Rattle.adr_text.specs.Refusals.{IsRefusalOf}
use Rattle.adr_text.specs.declared.refusal.Refusal.{Refusal}
use Rattle.adr_text.specs.declared.refusal.Refusal.TheVariants.{OutOfMemory, Store}
use Rattle.adr_machine.specs.Runs.{told, state_after, IsTaken, IsRun}

-- as a desk answers a step
pub is_taken : {A S : Type 0} (s : S) (taken : Result (A × S) Refusal) (r : Result A Refusal) (t : S) → IfOk r (λ a. taken ≡ Ok (a, t)) → IfErr r (λ e. IsRefusalOf e taken) → OnErr r (t ≡ s) → IsTaken s taken r t
is_taken s taken (Ok a) t ok refused same = (sym (ap told ok), sym (ap (state_after s) ok))
is_taken s taken (Err OutOfMemory) t ok refused same = same
is_taken s taken (Err Store) t ok refused same = same
is_taken s taken (Err e) t ok refused same = (sym (ap told refused), same ∙ sym (ap (state_after s) refused))

-- one step more, behind those that came first
pub IsRun-push : {A C S : Type 0} (step : S → C → Result (A × S) Refusal) (s : S) (cs : List C) (rs : List (Result A Refusal)) (t : S) (c : C) (r : Result A Refusal) (u : S)
    → IsRun step s cs rs t → IsTaken t (step t c) r u → IsRun step s (cs ++ c ∷ []) (rs ++ r ∷ []) u
IsRun-push step s [] [] t c r u run taken = (u, subst (λ v. IsTaken v (step v c) r u) run taken, refl)
IsRun-push step s [] (q ∷ rs) t c r u run taken = absurd run
IsRun-push step s (d ∷ cs) [] t c r u run taken = absurd run
IsRun-push step s (d ∷ cs) (q ∷ rs) t c r u run taken = (run.0, run.1, IsRun-push step run.0 cs rs t c r u run.2 taken)
