-- Receipts stay true: what a step tells has its place behind all that came before, and each place stays.
use Rattle.std.proofs.Common.{◌≡◌, ℕ, zero, suc, ◌+◌, ◌-◌, List, [], ◌∷◌, ◌++◌, length, slice_get, Some, option_map, Result, Ok, Err, ap, refl, sym, subst, ◌∙◌, arith}
use Rattle.std.specs.List.{fold}
use Rattle.std.proofs.lemmas.Option.{none-some}
use Rattle.adr_text.specs.declared.refusal.Refusal.{Refusal}
use Rattle.adr_state.specs.declared.state.State.{State}
use Rattle.adr_state.specs.declared.limits.Settings.{Settings}
use Rattle.adr_queries.specs.declared.answer.Answer.{Answer}
use Rattle.adr_machine.specs.declared.command.Command.{Command}
use Rattle.adr_machine.specs.Runs.{step_at}
use Rattle.adr_book.specs.declared.kept.Receipt.{Receipt}
use Rattle.adr_book.specs.Trail.{left_by, after, led, answer_then, answers_along}
use Rattle.adr_book.specs.Receipts.{HasPlace}
use Rattle.adr_book.proofs.Leading.{none_stays}

-- ---- elements of a list with more behind it

module _ {X Y : Type 0} (v : X → Y) where
  told_before : (xs ys : List X) (k : ℕ) (y : Y) → option_map v (slice_get xs k) ≡ Some y → option_map v (slice_get (xs ++ ys) k) ≡ Some y
  told_before [] ys k y is = absurd (none-some y is)
  told_before (x ∷ xs) ys zero y is = is
  told_before (x ∷ xs) ys (suc k) y is = told_before xs ys k y is

get_before : {X : Type 0} (xs ys : List X) (k : ℕ) (x : X) → slice_get xs k ≡ Some x → slice_get (xs ++ ys) k ≡ Some x
get_before [] ys k x is = absurd (none-some x is)
get_before (y ∷ xs) ys zero x is = is
get_before (y ∷ xs) ys (suc k) x is = get_before xs ys k x is

get_pushed : {X : Type 0} (xs : List X) (x : X) → slice_get (xs ++ x ∷ []) (length xs) ≡ Some x
get_pushed [] x = refl
get_pushed (y ∷ xs) x = get_pushed xs x

-- ---- answers along a trail that leads somewhere

module _ (settings : Settings) where
  count_first : (base s : State) (c : ℕ × Command) (cs : List (ℕ × Command)) (r : Result (Answer × State) Refusal)
      → fold (after settings) (left_by r) cs ≡ Some s → ((t : State) → led settings t cs ≡ Some s → length (answers_along settings t cs) ≡ length cs)
      → length (answer_then r (λ t. answers_along settings t cs)) ≡ suc (length cs)
  count_first base s c cs (Ok (a, t)) leads rest = ap suc (rest t leads)
  count_first base s c cs (Err e) leads rest = absurd (none-some s (sym (none_stays settings cs) ∙ leads))

  -- each command has an answer
  answers_count : (base s : State) (trail : List (ℕ × Command)) → led settings base trail ≡ Some s → length (answers_along settings base trail) ≡ length trail
  answers_count base s [] leads = refl
  answers_count base s (c ∷ cs) leads = count_first base s c cs (step_at settings base c) leads (λ t. answers_count t s cs)

  module _ (s t : State) (c : ℕ × Command) (a : Answer) (taken : step_at settings s c ≡ Ok (a, t)) where
    more_first : (d : ℕ × Command) (ds : List (ℕ × Command)) (r : Result (Answer × State) Refusal)
        → fold (after settings) (left_by r) ds ≡ Some s → ((u : State) → led settings u ds ≡ Some s → answers_along settings u (ds ++ c ∷ []) ≡ answers_along settings u ds ++ a ∷ [])
        → answer_then r (λ u. answers_along settings u (ds ++ c ∷ [])) ≡ answer_then r (λ u. answers_along settings u ds) ++ a ∷ []
    more_first d ds (Ok (b, u)) leads rest = ap (λ bs. b ∷ bs) (rest u leads)
    more_first d ds (Err e) leads rest = absurd (none-some s (sym (none_stays settings ds) ∙ leads))

    -- one command more has its answer behind the others
    answers_more : (base : State) (trail : List (ℕ × Command)) → led settings base trail ≡ Some s → answers_along settings base (trail ++ c ∷ []) ≡ answers_along settings base trail ++ a ∷ []
    answers_more base [] leads = let same : base ≡ s = cc in ap (λ (u : State). answer_then (step_at settings u c) (λ v. [])) same ∙ ap (λ (r : Result (Answer × State) Refusal). answer_then r (λ v. [])) taken
    answers_more base (d ∷ ds) leads = more_first d ds (step_at settings base d) leads (λ u. answers_more u ds)

-- ---- places

-- a trail with one command more, and the answers along it
module _ (since : ℕ) (trail : List (ℕ × Command)) (answers : List Answer) (c : ℕ × Command) (a : Answer) where
  place_stays : (r : Receipt) → HasPlace since trail answers r → HasPlace since (trail ++ c ∷ []) (answers ++ a ∷ []) r
  place_stays r place past =
      (told_before (λ d. d.1) trail (c ∷ []) (r.turn - since - 1) r.command (place past).0, get_before answers (a ∷ []) (r.turn - since - 1) r.answer (place past).1)

  place_found : (r : Receipt) → length answers ≡ length trail → r.turn ≡ since + length trail + 1 → r.command ≡ c.1 → r.answer ≡ a → HasPlace since (trail ++ c ∷ []) (answers ++ a ∷ []) r
  place_found r count turn command answer past =
      let k : r.turn - since - 1 ≡ length trail = omega (arith, turn) in
      let j : r.turn - since - 1 ≡ length answers = omega (arith, turn, count) in (
        ap (λ k. option_map (λ d. d.1) (slice_get (trail ++ c ∷ []) k)) k ∙ ap (option_map (λ d. d.1)) (get_pushed trail c) ∙ ap Some (sym command),
        ap (slice_get (answers ++ a ∷ [])) j ∙ get_pushed answers a ∙ ap Some (sym answer),
      )

-- a step from s to t, which puts its command behind the trail
module _ (settings settings' : Settings) (base s t : State) (since : ℕ) (trail trail' : List (ℕ × Command)) (c : ℕ × Command) (a : Answer)
    (same : settings' ≡ settings) (was : led settings base trail ≡ Some s) (taken : step_at settings s c ≡ Ok (a, t)) (more : trail' ≡ trail ++ c ∷ []) where
  abbrev answers : List Answer
  answers = answers_along settings base trail

  answers_then : answers_along settings' base trail' ≡ answers ++ a ∷ []
  answers_then = ap (λ l. answers_along l base trail') same ∙ ap (answers_along settings base) more ∙ answers_more settings s t c a taken base trail was

  left : (r : Receipt) → HasPlace since (trail ++ c ∷ []) (answers ++ a ∷ []) r → HasPlace since trail' (answers_along settings' base trail') r
  left r place = subst (λ l. HasPlace since l (answers_along settings' base trail') r) (sym more) (subst (λ told. HasPlace since (trail ++ c ∷ []) told r) (sym answers_then) place)

  pub step_places : (r : Receipt) → r.turn ≡ since + length trail + 1 → r.command ≡ c.1 → r.answer ≡ a → HasPlace since trail' (answers_along settings' base trail') r
  step_places r turn command answer = left r (place_found since trail answers c a r (answers_count settings base s trail was) turn command answer)

  pub step_confirms : (r : Receipt) → HasPlace since trail answers r → HasPlace since trail' (answers_along settings' base trail') r
  step_confirms r place = left r (place_stays since trail answers c a r place)

-- a place by another base and turn that are the same
pub place_moved : (settings : Settings) (base base' : State) (since since' : ℕ) (trail : List (ℕ × Command)) (r : Receipt)
    → base' ≡ base → since' ≡ since → HasPlace since trail (answers_along settings base trail) r → HasPlace since' trail (answers_along settings base' trail) r
place_moved settings base base' since since' trail r same_base same_since place =
    subst (λ (n : ℕ). HasPlace n trail (answers_along settings base' trail) r) (sym same_since)
    (subst (λ (b : State). HasPlace since trail (answers_along settings b trail) r) (sym same_base) place)
