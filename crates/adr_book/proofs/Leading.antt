-- A trail with one command more, and the run of the machine along a trail.
use Rattle.std.proofs.Common.{◌≡◌, ◌≢◌, ℕ, ◌+◌, ◌<◌, length, drop, get_or, List, [], ◌∷◌, ◌++◌, map, None, Some, Result, Ok, Err, ap, ap₂, refl, sym, subst, ◌∙◌}
use Rattle.std.specs.List.{fold}
use Rattle.std.proofs.lemmas.List.{append-nil, at_drop_more}
use Rattle.std.proofs.lemmas.List.Sums.{fold_push}
use Rattle.std.proofs.lemmas.Option.{none-some}
use Rattle.adr_text.specs.Refusals.{IsRefusalOf}
use Rattle.adr_text.specs.declared.refusal.Refusal.{Refusal}
use Rattle.adr_text.specs.declared.refusal.Refusal.TheVariants.{OutOfMemory, Store}
use Rattle.adr_state.specs.declared.state.State.{State}
use Rattle.adr_state.specs.declared.limits.Settings.{Settings}
use Rattle.adr_queries.specs.declared.answer.Answer.{Answer}
use Rattle.adr_queries.specs.Listed.{IsListed}
use Rattle.adr_machine.specs.declared.command.Command.{Command}
use Rattle.adr_machine.specs.Runs.{IsTaken, IsRun, step_at}
use Rattle.adr_book.specs.Trail.{left_by, after, led, answer_then, answers_along, LeadsTo}

pub led_more : (settings settings' : Settings) (base s t : State) (trail trail' : List (ℕ × Command)) (c : ℕ × Command) (a : Answer)
    → settings' ≡ settings → led settings base trail ≡ Some s → step_at settings s c ≡ Ok (a, t) → trail' ≡ trail ++ c ∷ []
    → led settings' base trail' ≡ Some t
led_more settings settings' base s t trail trail' c a same was ok more =
    ap (λ l. led l base trail') same ∙ ap (led settings base) more
    ∙ fold_push (after settings) (Some base) trail c
    ∙ ap (λ o. after settings o c) was ∙ ap left_by ok

module _ (settings : Settings) where
  -- behind a refusal there is no state
  pub none_stays : (cs : List (ℕ × Command)) → fold (after settings) None cs ≡ None
  none_stays [] = refl
  none_stays (c ∷ cs) = none_stays cs

  leads_first : (base s : State) (c : ℕ × Command) (cs : List (ℕ × Command)) (r : Result (Answer × State) Refusal)
      → step_at settings base c ≡ r → fold (after settings) (left_by r) cs ≡ Some s → ((t : State) → led settings t cs ≡ Some s → LeadsTo settings t cs s)
      → LeadsTo settings base (c ∷ cs) s
  leads_first base s c cs (Ok (a, t)) is leads rest =
      subst (λ r. IsRun (step_at settings) base (c ∷ cs) (map Ok (answer_then r (λ u. answers_along settings u cs))) s) (sym is)
      (t, subst (λ r. IsTaken base r (Ok a) t) (sym is) (refl, refl), rest t leads)
  leads_first base s c cs (Err e) is leads rest = absurd (none-some s (sym (none_stays cs) ∙ leads))

  pub leads_to : (base s : State) (trail : List (ℕ × Command)) → led settings base trail ≡ Some s → LeadsTo settings base trail s
  leads_to base s [] leads = cc
  leads_to base s (c ∷ cs) leads = leads_first base s c cs (step_at settings base c) refl leads (λ t. leads_to t s cs)

-- ---- the answers to what is left of a trail

-- what a desk that keeps all in memory refuses, but for want of memory, the machine refuses
pub leaves_none : (these : List Refusal) (e : Refusal) (r : Result (Answer × State) Refusal) → e ≢ OutOfMemory → IsListed ⊥ these e → IsRefusalOf e r → left_by r ≡ None
leaves_none these OutOfMemory r other is of = absurd (other refl)
leaves_none these Store r other is of = absurd is
leaves_none these e r other is of = ap left_by of

untold : (r : Result (Answer × State) Refusal) (rest : State → List Answer) → left_by r ≡ None → answer_then r rest ≡ []
untold (Ok (a, t)) rest none = absurd (none-some t (sym none))
untold (Err e) rest none = refl

-- there are none where the machine refuses the command that stands first there
pub answers_end : (settings : Settings) (s : State) (trail : List (ℕ × Command)) (i : ℕ) (c : ℕ × Command) (done : List Answer) → i < length trail → c ≡ get_or trail i c → left_by (step_at settings s c) ≡ None
    → done ++ answers_along settings s (drop i trail) ≡ done
answers_end settings s trail i c done within at none =
    let left = drop (i + 1) trail in
    let first = at_drop_more (answers_along settings s) trail i c within ∙ ap (λ (d : ℕ × Command). answers_along settings s (d ∷ left)) (sym at) in
    ap (λ (rest : List Answer). done ++ rest) (first ∙ untold (step_at settings s c) (λ t. answers_along settings t left) none) ∙ append-nil done

-- a trail from the same base leads to the same
pub led_moved : (settings : Settings) (base base' s : State) (trail trail' : List (ℕ × Command)) → base' ≡ base → trail' ≡ trail → led settings base trail ≡ Some s → led settings base' trail' ≡ Some s
led_moved settings base base' s trail trail' same_base same leads = ap₂ (led settings) same_base same ∙ leads
