-- That a quiet scan is one.
use Rattle.std.proofs.Common.{◌≡◌, ℕ, false, ◌⊎◌, inl, List, [], ◌∷◌, Result, Ok, Err, refl, sym, subst, arith}
use Rattle.std.proofs.lemmas.List.Kept.{AllPairs-cons}
use Rattle.adr_view.specs.Views.{view}
use Rattle.adr_view.specs.Changes.{changes, restamped}
use Rattle.adr_machine.specs.Edits.{edit}
use Rattle.adr_catch_up.proofs.Common.{All, All-cons, All-nil, AllPairs, Contains, Answer, Command, Dead, Mark, MirrorKey, Refusal, Settings, State, accepted_evidence, accepted_in, empty, evidence_in, state_after, step_at}
use Rattle.adr_state.specs.Mirror.{key_of}
use Rattle.adr_catch_up.specs.Upstream.{IsBeginningOf, IsHonest, IsPresent}
use Rattle.adr_catch_up.specs.QuietScans.{AnswersProbe, AreHonest, Given, IsLiveIn, IsProbed, IsQuiet, all_given, commands, is_scan_end, known_at_end, opening, page_in, shown_by_pages, missed, reached, refused, with_begin, with_end}
use Rattle.adr_catch_up.specs.Examples.{deletion, given, is_gone, keeping, notice, page, quiet_scan, summer, version, winter}
use Rattle.adr_catch_up.specs.Laws.{AndItCatchesUp}
use Rattle.adr_catch_up.proofs.CatchUpLemmas.{catches_up}
use Rattle.adr_catch_up.proofs.WrittenLemmas.{Follows, head_of}

-- ---- lists of one or two

pub one : {A : Type 0} (P : A → Type 0) (x : A) → P x → All P (x ∷ [])
one P x h = All-cons P x [] h (All-nil P)

pub two : {A : Type 0} (P : A → Type 0) (x y : A) → P x → P y → All P (x ∷ y ∷ [])
two P x y h g = All-cons P x (y ∷ []) h (one P y g)

pub second_of : {A : Type 0} (x y : A) (ys : List A) → Contains (x ∷ y ∷ ys) y
second_of x y ys = (1, omega arith, refl)

pub third_of : {A : Type 0} (x y z : A) (zs : List A) → Contains (x ∷ y ∷ z ∷ zs) z
third_of x y z zs = (2, omega arith, refl)

no_pairs : {A : Type 0} (R : A → A → Type 0) → AllPairs R []
no_pairs R i j d l m = absurd (omega (arith, m))

pub alone : {A : Type 0} (R : A → A → Type 0) (x : A) → AllPairs R (x ∷ [])
alone R x = AllPairs-cons R x [] (All-nil (R x)) (no_pairs R)

pub a_pair : {A : Type 0} (R : A → A → Type 0) (x y : A) → R x y → AllPairs R (x ∷ y ∷ [])
a_pair R x y h = AllPairs-cons R x (y ∷ []) (one (R x) y h) (alone R y)

-- ---- what a run needs for its evidence to be honest, and its refused commands to be none

-- what is told is honest
abbrev pub ToldHonest : List Given → Type 0
ToldHonest [] = Unit {0}
ToldHonest (g ∷ gs) = All (Contains g.written) (evidence_in g.command.1) × ToldHonest gs

pub told_honest : (settings : Settings) (s : State) (gs : List Given) → ToldHonest gs → AreHonest settings s gs
told_honest settings s [] told = tt
told_honest settings s (g ∷ gs) told = (by (step_at settings s g.command), told_honest settings (state_after s (step_at settings s g.command)) gs told.1)
  where
    by : (r : Result (Answer × State) Refusal) → All (Contains g.written) (accepted_in r g.command.1)
    by (Ok taken) = told.0
    by (Err refusal) = All-nil (Contains g.written)

-- ---- the quiet scan

honest : IsHonest quiet_scan.written
honest = AllPairs-cons Follows (version summer) (version winter ∷ deletion winter ∷ []) (two (Follows (version summer)) (version winter) (deletion winter) (λ same. omega arith) (λ same. tt)) (a_pair Follows (version winter) (deletion winter) (λ same. tt))

all_honest : AreHonest (keeping 10) empty (all_given quiet_scan)
all_honest =
    let written : List (MirrorKey × Mark) = version summer ∷ version winter ∷ deletion winter ∷ [] in
    told_honest (keeping 10) empty (all_given quiet_scan) (
      one (Contains (version summer ∷ version winter ∷ [])) (version winter) (second_of (version summer) (version winter) []),
      (All-nil (Contains written), (one (Contains written) (version summer) (head_of (version summer) (version winter ∷ deletion winter ∷ [])), (All-nil (Contains written), (one (Contains written) (deletion winter) (third_of (version summer) (version winter) (deletion winter) []), tt)))),
    )

missed_is : missed (keeping 10) quiet_scan ≡ key_of winter ∷ []
unfolding edit view changes restamped
missed_is = refl

told_then : accepted_evidence (keeping 10) (reached (keeping 10) (with_end quiet_scan)) (commands quiet_scan.probing) ≡ deletion winter ∷ []
unfolding edit view changes restamped
told_then = refl

none_refused : refused (keeping 10) (reached (keeping 10) (with_begin quiet_scan)) (commands quiet_scan.polling) ≡ []
unfolding edit view changes restamped
none_refused = refl

none_refused_then : refused (keeping 10) (reached (keeping 10) (with_end quiet_scan)) (commands quiet_scan.probing) ≡ []
unfolding edit view changes restamped
none_refused_then = refl

-- what is given in it: the notification, the page, and what answers the probe
abbrev notified : Given
notified = given (version summer ∷ version winter ∷ []) 3 (notice winter)

abbrev polled : Given
polled = given quiet_scan.written 5 (page (summer ∷ []))

abbrev answered : Given
answered = given quiet_scan.written 7 (is_gone winter)

abbrev settings : Settings
settings = keeping 10

pub scan_is_quiet : IsQuiet settings quiet_scan
scan_is_quiet = record {
  upstream_is_honest = honest;
  upstream_only_wrote_more = one (λ g. IsBeginningOf g.written quiet_scan.written) notified (deletion winter ∷ [], refl);
  evidence_is_honest = all_honest;
  upstream_is_still = All-cons (λ g. g.written ≡ quiet_scan.written) (opening quiet_scan) (polled ∷ answered ∷ []) refl (two (λ g. g.written ≡ quiet_scan.written) polled answered refl refl);
  ends_once = one (λ g. is_scan_end g.command.1 ≡ false) polled refl;
  pages_show_present_versions = one (λ g. All (IsPresent g.written) (page_in g.command.1)) polled (one (IsPresent quiet_scan.written) (version summer) (refl, refl));
  each_is_shown_or_live = one (λ r. Contains (shown_by_pages quiet_scan.polling) r ⊎ IsLiveIn (known_at_end settings quiet_scan) r.0) (version summer) (inl (head_of (version summer) []));
  each_missed_is_probed = subst (All (IsProbed quiet_scan)) (sym missed_is) (one (IsProbed quiet_scan) (key_of winter) (Dead, refl, head_of (deletion winter) []));
  no_other_is_accepted = subst (All (AnswersProbe settings quiet_scan)) (sym told_then) (one (AnswersProbe settings quiet_scan) (deletion winter) (subst (λ keys. Contains keys (key_of winter)) (sym missed_is) (head_of (key_of winter) []), refl));
  no_page_is_refused = subst (All (λ c. page_in c.1 ≡ [])) (sym none_refused) (All-nil (λ c. page_in c.1 ≡ []));
  no_answer_is_refused = let answers : ℕ × Command → Type 0 = λ c. All (λ e. AnswersProbe settings quiet_scan e → ⊥) (evidence_in c.1) in subst (All answers) (sym none_refused_then) (All-nil answers);
}

pub it_catches_up : AndItCatchesUp
it_catches_up = catches_up settings quiet_scan scan_is_quiet
