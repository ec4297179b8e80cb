-- The commands whose answers stand, and where they lead.
use Rattle.std.proofs.Common.{◌≡◌, Bool, true, false, cond, List, [], ◌∷◌, ◌++◌, map, filter, Result, refl, ap, ap₂, ◌∙◌}
use Rattle.std.specs.Prelude.{MatchBool}
use Rattle.adr_laws.proofs.Common.{zip, Refusal, told, state_after, stands, step_at, IsTaken, IsRun}
use Rattle.adr_laws.specs.Standing.{answers_of, state_of, standing}
use Rattle.adr_laws.specs.Laws.{IsOfTheStepsThatStand, RunsAreOfTheStepsThatStand}

-- the commands whose answers stand, with these
abbrev pairs : {A C : Type 0} → List C → List (Result A Refusal) → List (C × Result A Refusal)
pairs cs rs = filter (λ p. stands p.1) (zip cs rs)

module _ {A C S : Type 0} (step : S → C → Result (A × S) Refusal) where
  pub state_of-push : (s : S) (cs : List C) (c : C) → state_of step s (cs ++ c ∷ []) ≡ state_after (state_of step s cs) (step (state_of step s cs) c)
  state_of-push s [] c = refl
  state_of-push s (d ∷ cs) c = state_of-push (state_after s (step s d)) cs c

  -- more commands, after those that came first
  pub state_of-append : (s : S) (cs more : List C) → state_of step s (cs ++ more) ≡ state_of step (state_of step s cs) more
  state_of-append s [] more = refl
  state_of-append s (c ∷ cs) more = state_of-append (state_after s (step s c)) cs more

  -- what each step keeps, a run keeps
  pub run_keeps : (P : S → Type 0) → ((s : S) (c : C) → P s → P (state_after s (step s c))) → (s : S) (cs : List C) → P s → P (state_of step s cs)
  run_keeps P keeps s [] h = h
  run_keeps P keeps s (c ∷ cs) h = run_keeps P keeps (state_after s (step s c)) cs (keeps s c h)

  -- ---- a run over a desk

  -- one step, and then the others
  first_then : (s u t : S) (c : C) (cs : List C) (r : Result A Refusal) (rs : List (Result A Refusal)) → IsTaken s (step s c) r u → IsOfTheStepsThatStand step u cs rs t → IsOfTheStepsThatStand step s (c ∷ cs) (r ∷ rs) t
  first_then s u t c cs r rs taken others = let it = by (stands r) taken in record { answers = it.0; state = it.1 }
    where
      by : (b : Bool) → MatchBool b ((r ≡ told (step s c)) × (u ≡ state_after s (step s c))) (u ≡ s)
          → (cond b (r ∷ filter stands rs) (filter stands rs) ≡ answers_of step s (map (λ (p : C × Result A Refusal). p.0) (cond b ((c, r) ∷ pairs cs rs) (pairs cs rs)))) × (t ≡ state_of step s (map (λ (p : C × Result A Refusal). p.0) (cond b ((c, r) ∷ pairs cs rs) (pairs cs rs))))
      by true is = (ap₂ ◌∷◌ is.0 (others.answers ∙ ap (λ v. answers_of step v (standing cs rs)) is.1), others.state ∙ ap (λ v. state_of step v (standing cs rs)) is.1)
      by false is = (others.answers ∙ ap (λ v. answers_of step v (standing cs rs)) is, others.state ∙ ap (λ v. state_of step v (standing cs rs)) is)

  of_the_steps : (s t : S) (cs : List C) (rs : List (Result A Refusal)) → IsRun step s cs rs t → IsOfTheStepsThatStand step s cs rs t
  of_the_steps s t [] [] run = record { answers = refl; state = run }
  of_the_steps s t [] (r ∷ rs) run = absurd run
  of_the_steps s t (c ∷ cs) [] run = absurd run
  of_the_steps s t (c ∷ cs) (r ∷ rs) run = first_then s run.0 t c cs r rs run.1 (of_the_steps run.0 t cs rs run.2)

pub runs_of_the_steps : RunsAreOfTheStepsThatStand
runs_of_the_steps settings s t cs rs run = of_the_steps (step_at settings) s t cs rs run
