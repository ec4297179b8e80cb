-- For each premise a run of which all the others hold, and which does not catch up.
use Rattle.std.proofs.Common.{◌≡◌, ◌≢◌, ℕ, false, ◌⊎◌, inl, inr, List, [], ◌∷◌, refl, sym, ap, ◌∙◌, arith}
use Rattle.std.proofs.lemmas.List.Kept.{AllPairs-cons}
use Rattle.adr_objects.specs.declared.body.Found.{Found}
use Rattle.adr_state.specs.Mirror.{key_of, mark_of}
use Rattle.adr_view.specs.Views.{view}
use Rattle.adr_view.specs.Changes.{changes, restamped}
use Rattle.adr_machine.specs.declared.command.Command.TheVariants.{Evidence, ScanEnd}
use Rattle.adr_machine.specs.Edits.{edit}
use Rattle.adr_catch_up.proofs.Common.{All, All-cons, All-nil, Command, Contains, Dead, Live, Mark, MirrorKey, Settings, empty, evidence_in}
use Rattle.adr_catch_up.specs.Upstream.{IsBeginningOf, IsHonest, IsPresent, latest, live_part}
use Rattle.adr_catch_up.specs.QuietScans.{AnswersProbe, Given, IsLiveIn, IsProbed, IsQuiet, Scanned, all_given, is_scan_end, known_at_end, opening, page_in, shown_by_pages, reached}
use Rattle.adr_catch_up.specs.Examples.{deletion, given, keeping, late_summer, notice, page, summer, version, winter}
use Rattle.adr_catch_up.specs.Needed.{AreThePremises, IsNeeded, Premise, Says, run_without, UpstreamIsHonest, UpstreamOnlyWroteMore, EvidenceIsHonest, UpstreamIsStill, EndsOnce, PagesShowPresentVersions, EachIsShownOrLive, EachMissedIsProbed, NoOtherIsAccepted, NoPageIsRefused, NoAnswerIsRefused}
use Rattle.adr_catch_up.specs.Laws.{EachPremiseIsNeeded}
use Rattle.adr_catch_up.proofs.WrittenLemmas.{Follows, head_of}
use Rattle.adr_catch_up.proofs.ExampleLemmas.{ToldHonest, a_pair, alone, one, second_of, third_of, told_honest, two}

abbrev node : Settings
node = keeping 1

-- ---- the premises

pub the_premises : AreThePremises
the_premises = record { each_is_one = each; they_are_all = together }
  where
    each : (settings : Settings) (run : Scanned) → IsQuiet settings run → (p : Premise) → Says settings run p
    each settings run quiet UpstreamIsHonest = quiet.upstream_is_honest
    each settings run quiet UpstreamOnlyWroteMore = quiet.upstream_only_wrote_more
    each settings run quiet EvidenceIsHonest = quiet.evidence_is_honest
    each settings run quiet UpstreamIsStill = quiet.upstream_is_still
    each settings run quiet EndsOnce = quiet.ends_once
    each settings run quiet PagesShowPresentVersions = quiet.pages_show_present_versions
    each settings run quiet EachIsShownOrLive = quiet.each_is_shown_or_live
    each settings run quiet EachMissedIsProbed = quiet.each_missed_is_probed
    each settings run quiet NoOtherIsAccepted = quiet.no_other_is_accepted
    each settings run quiet NoPageIsRefused = quiet.no_page_is_refused
    each settings run quiet NoAnswerIsRefused = quiet.no_answer_is_refused

    together : (settings : Settings) (run : Scanned) → ((p : Premise) → Says settings run p) → IsQuiet settings run
    together settings run says = record {
      upstream_is_honest = says UpstreamIsHonest;
      upstream_only_wrote_more = says UpstreamOnlyWroteMore;
      evidence_is_honest = says EvidenceIsHonest;
      upstream_is_still = says UpstreamIsStill;
      ends_once = says EndsOnce;
      pages_show_present_versions = says PagesShowPresentVersions;
      each_is_shown_or_live = says EachIsShownOrLive;
      each_missed_is_probed = says EachMissedIsProbed;
      no_other_is_accepted = says NoOtherIsAccepted;
      no_page_is_refused = says NoPageIsRefused;
      no_answer_is_refused = says NoAnswerIsRefused;
    }

-- each holds, or is the one that is left out
record AllBut (p : Premise) (run : Scanned) : Type 0 where
  honest : Says node run UpstreamIsHonest ⊎ (UpstreamIsHonest ≡ p)
  more : Says node run UpstreamOnlyWroteMore ⊎ (UpstreamOnlyWroteMore ≡ p)
  told : ToldHonest (all_given run) ⊎ (EvidenceIsHonest ≡ p)
  still : Says node run UpstreamIsStill ⊎ (UpstreamIsStill ≡ p)
  once : Says node run EndsOnce ⊎ (EndsOnce ≡ p)
  present : Says node run PagesShowPresentVersions ⊎ (PagesShowPresentVersions ≡ p)
  shown : Says node run EachIsShownOrLive ⊎ (EachIsShownOrLive ≡ p)
  probed : Says node run EachMissedIsProbed ⊎ (EachMissedIsProbed ≡ p)
  no_other : Says node run NoOtherIsAccepted ⊎ (NoOtherIsAccepted ≡ p)
  pages : Says node run NoPageIsRefused ⊎ (NoPageIsRefused ≡ p)
  answers : Says node run NoAnswerIsRefused ⊎ (NoAnswerIsRefused ≡ p)

unless : {A B : Type 0} → A ⊎ B → (B → ⊥) → A
unless (inl a) other = a
unless (inr b) other = absurd (other b)

others : (p : Premise) (run : Scanned) → AllBut p run → (other : Premise) → other ≢ p → Says node run other
others p run but UpstreamIsHonest apart = unless but.honest apart
others p run but UpstreamOnlyWroteMore apart = unless but.more apart
others p run but EvidenceIsHonest apart = told_honest node empty (all_given run) (unless but.told apart)
others p run but UpstreamIsStill apart = unless but.still apart
others p run but EndsOnce apart = unless but.once apart
others p run but PagesShowPresentVersions apart = unless but.present apart
others p run but EachIsShownOrLive apart = unless but.shown apart
others p run but EachMissedIsProbed apart = unless but.probed apart
others p run but NoOtherIsAccepted apart = unless but.no_other apart
others p run but NoPageIsRefused apart = unless but.pages apart
others p run but NoAnswerIsRefused apart = unless but.answers apart

-- the moment of the first row's version tells live parts apart
first_moment : List (MirrorKey × Mark) → ℕ
first_moment [] = 0
first_moment ((key, Live n b) ∷ rows) = n
first_moment ((key, Dead) ∷ rows) = 0

module _ (p : Premise) where
  abbrev run : Scanned
  run = run_without p

  needed : AllBut p run → (m n : ℕ) → first_moment (live_part (reached node (all_given run)).base.mirror) ≡ m → first_moment (live_part (latest run.written)) ≡ n → m ≢ n → IsNeeded p
  needed but m n is other apart = record { others_hold = others p run but; falls_behind = λ same. apart (sym is ∙ ap first_moment same ∙ other) }

  -- what the premises say of each
  abbrev Grew : Given → Type 0
  Grew g = IsBeginningOf g.written run.written

  abbrev Still : Given → Type 0
  Still g = g.written ≡ run.written

  abbrev ShowsPresent : Given → Type 0
  ShowsPresent g = All (IsPresent g.written) (page_in g.command.1)

  still_with : (g : Given) → run.begun_with ≡ run.written → g.written ≡ run.written → All Still (opening run ∷ g ∷ [])
  still_with g = two Still (opening run) g

  abbrev GoesOn : Given → Type 0
  GoesOn g = is_scan_end g.command.1 ≡ false

  abbrev IsSeen : MirrorKey × Mark → Type 0
  IsSeen r = Contains (shown_by_pages run.polling) r ⊎ IsLiveIn (known_at_end node run) r.0

  abbrev ShowsNone : ℕ × Command → Type 0
  ShowsNone c = page_in c.1 ≡ []

  abbrev AnswersNone : ℕ × Command → Type 0
  AnswersNone c = All (λ e. AnswersProbe node run e → ⊥) (evidence_in c.1)

  none_told : (w : List (MirrorKey × Mark)) → All (Contains w) []
  none_told w = All-nil (Contains w)

  -- where nothing is probed and nothing refused
  none_probed : All (IsProbed run) []
  none_probed = All-nil (IsProbed run)

  none_accepted : All (AnswersProbe node run) []
  none_accepted = All-nil (AnswersProbe node run)

  none_shown : All ShowsNone []
  none_shown = All-nil ShowsNone

  none_answered : All AnswersNone []
  none_answered = All-nil AnswersNone

-- ---- what is told

only : (f : Found) → All (Contains (version f ∷ [])) (version f ∷ [])
only f = one (Contains (version f ∷ [])) (version f) (head_of (version f) [])

first : (e : MirrorKey × Mark) (es : List (MirrorKey × Mark)) → All (Contains (e ∷ es)) (e ∷ [])
first e es = one (Contains (e ∷ es)) e (head_of e es)

second : (x y : MirrorKey × Mark) → All (Contains (x ∷ y ∷ [])) (y ∷ [])
second x y = one (Contains (x ∷ y ∷ [])) y (second_of x y [])

-- what was deleted, and what was written again
deleted : IsHonest (version summer ∷ deletion summer ∷ [])
deleted = a_pair Follows (version summer) (deletion summer) (λ same. tt)

changed : IsHonest (version summer ∷ version late_summer ∷ [])
changed = a_pair Follows (version summer) (version late_summer) (λ same. omega arith)

brought_more : IsHonest (version summer ∷ version late_summer ∷ version winter ∷ deletion winter ∷ [])
brought_more =
    let later : List (MirrorKey × Mark) = version late_summer ∷ version winter ∷ deletion winter ∷ [] in
    AllPairs-cons Follows (version summer) later (All-cons (Follows (version summer)) (version late_summer) (version winter ∷ deletion winter ∷ []) (λ same. omega arith) (two (Follows (version summer)) (version winter) (deletion winter) (λ same. omega arith) (λ same. tt)))
    (AllPairs-cons Follows (version late_summer) (version winter ∷ deletion winter ∷ []) (two (Follows (version late_summer)) (version winter) (deletion winter) (λ same. omega arith) (λ same. tt)) (a_pair Follows (version winter) (deletion winter) (λ same. tt)))

-- ---- each

without_upstream_is_honest : IsNeeded UpstreamIsHonest
unfolding edit view changes restamped first_moment
without_upstream_is_honest =
    let p = UpstreamIsHonest in
    let written : List (MirrorKey × Mark) = version late_summer ∷ version summer ∷ [] in
    let before : Given = given (version late_summer ∷ []) 3 (notice late_summer) in
    let shown : Given = given written 5 (page (summer ∷ [])) in
    needed p (record {
      honest = inr refl;
      more = inl (one (Grew p) before (version summer ∷ [], refl));
      told = inl (only late_summer, (none_told p written, (second (version late_summer) (version summer), (none_told p written, tt))));
      still = inl (still_with p shown refl refl);
      once = inl (one (GoesOn p) shown refl);
      present = inl (one (ShowsPresent p) shown (one (IsPresent written) (version summer) (refl, refl)));
      shown = inl (one (IsSeen p) (version summer) (inl (head_of (version summer) [])));
      probed = inl (none_probed p);
      no_other = inl (none_accepted p);
      pages = inl (none_shown p);
      answers = inl (none_answered p);
    }) 2 1 refl refl (λ same. omega (arith, same))

without_upstream_only_wrote_more : IsNeeded UpstreamOnlyWroteMore
unfolding edit view changes restamped first_moment
without_upstream_only_wrote_more =
    let p = UpstreamOnlyWroteMore in
    let written : List (MirrorKey × Mark) = version summer ∷ [] in
    let shown : Given = given written 5 (page (summer ∷ [])) in
    needed p (record {
      honest = inl (alone Follows (version summer));
      more = inr refl;
      told = inl (only late_summer, (none_told p written, (only summer, (none_told p written, tt))));
      still = inl (still_with p shown refl refl);
      once = inl (one (GoesOn p) shown refl);
      present = inl (one (ShowsPresent p) shown (one (IsPresent written) (version summer) (refl, refl)));
      shown = inl (one (IsSeen p) (version summer) (inl (head_of (version summer) [])));
      probed = inl (none_probed p);
      no_other = inl (none_accepted p);
      pages = inl (none_shown p);
      answers = inl (none_answered p);
    }) 2 1 refl refl (λ same. omega (arith, same))

without_evidence_is_honest : IsNeeded EvidenceIsHonest
unfolding edit view changes restamped first_moment
without_evidence_is_honest =
    let p = EvidenceIsHonest in
    let written : List (MirrorKey × Mark) = version summer ∷ [] in
    let before : Given = given written 3 (notice late_summer) in
    let shown : Given = given written 5 (page (summer ∷ [])) in
    needed p (record {
      honest = inl (alone Follows (version summer));
      more = inl (one (Grew p) before ([], refl));
      told = inr refl;
      still = inl (still_with p shown refl refl);
      once = inl (one (GoesOn p) shown refl);
      present = inl (one (ShowsPresent p) shown (one (IsPresent written) (version summer) (refl, refl)));
      shown = inl (one (IsSeen p) (version summer) (inl (head_of (version summer) [])));
      probed = inl (none_probed p);
      no_other = inl (none_accepted p);
      pages = inl (none_shown p);
      answers = inl (none_answered p);
    }) 2 1 refl refl (λ same. omega (arith, same))

without_upstream_is_still : IsNeeded UpstreamIsStill
unfolding edit view changes restamped first_moment
without_upstream_is_still =
    let p = UpstreamIsStill in
    let written : List (MirrorKey × Mark) = version summer ∷ [] in
    let shown : Given = given written 5 (page (summer ∷ [])) in
    needed p (record {
      honest = inl changed;
      more = inl (All-nil (Grew p));
      told = inl (none_told p written, (only summer, (none_told p (version summer ∷ version late_summer ∷ []), tt)));
      still = inr refl;
      once = inl (one (GoesOn p) shown refl);
      present = inl (one (ShowsPresent p) shown (one (IsPresent written) (version summer) (refl, refl)));
      shown = inl (one (IsSeen p) (version late_summer) (inr (mark_of summer, refl, refl)));
      probed = inl (none_probed p);
      no_other = inl (none_accepted p);
      pages = inl (none_shown p);
      answers = inl (none_answered p);
    }) 1 2 refl refl (λ same. omega (arith, same))

without_ends_once : IsNeeded EndsOnce
unfolding edit view changes restamped first_moment
without_ends_once =
    let p = EndsOnce in
    let written : List (MirrorKey × Mark) = version summer ∷ deletion summer ∷ [] in
    let before : Given = given (version summer ∷ []) 3 (notice summer) in
    let ended : Given = given written 5 ScanEnd in
    needed p (record {
      honest = inl deleted;
      more = inl (one (Grew p) before (deletion summer ∷ [], refl));
      told = inl (only summer, (none_told p written, (none_told p written, (none_told p written, tt))));
      still = inl (still_with p ended refl refl);
      once = inr refl;
      present = inl (one (ShowsPresent p) ended (All-nil (IsPresent written)));
      shown = inl (All-nil (IsSeen p));
      probed = inl (none_probed p);
      no_other = inl (none_accepted p);
      pages = inl (none_shown p);
      answers = inl (none_answered p);
    }) 1 0 refl refl (λ same. omega (arith, same))

without_pages_show_present_versions : IsNeeded PagesShowPresentVersions
unfolding edit view changes restamped first_moment
without_pages_show_present_versions =
    let p = PagesShowPresentVersions in
    let written : List (MirrorKey × Mark) = version summer ∷ version late_summer ∷ [] in
    let shown : Given = given written 5 (page (summer ∷ [])) in
    needed p (record {
      honest = inl changed;
      more = inl (All-nil (Grew p));
      told = inl (none_told p written, (first (version summer) (version late_summer ∷ []), (none_told p written, tt)));
      still = inl (still_with p shown refl refl);
      once = inl (one (GoesOn p) shown refl);
      present = inr refl;
      shown = inl (one (IsSeen p) (version late_summer) (inr (mark_of summer, refl, refl)));
      probed = inl (none_probed p);
      no_other = inl (none_accepted p);
      pages = inl (none_shown p);
      answers = inl (none_answered p);
    }) 1 2 refl refl (λ same. omega (arith, same))

without_each_is_shown_or_live : IsNeeded EachIsShownOrLive
unfolding edit view changes restamped first_moment
without_each_is_shown_or_live =
    let p = EachIsShownOrLive in
    let written : List (MirrorKey × Mark) = version summer ∷ [] in
    needed p (record {
      honest = inl (alone Follows (version summer));
      more = inl (All-nil (Grew p));
      told = inl (none_told p written, (none_told p written, tt));
      still = inl (one (Still p) (opening (run p)) refl);
      once = inl (All-nil (GoesOn p));
      present = inl (All-nil (ShowsPresent p));
      shown = inr refl;
      probed = inl (none_probed p);
      no_other = inl (none_accepted p);
      pages = inl (none_shown p);
      answers = inl (none_answered p);
    }) 0 1 refl refl (λ same. omega (arith, same))

without_each_missed_is_probed : IsNeeded EachMissedIsProbed
unfolding edit view changes restamped first_moment
without_each_missed_is_probed =
    let p = EachMissedIsProbed in
    let written : List (MirrorKey × Mark) = version summer ∷ deletion summer ∷ [] in
    let before : Given = given (version summer ∷ []) 3 (notice summer) in
    needed p (record {
      honest = inl deleted;
      more = inl (one (Grew p) before (deletion summer ∷ [], refl));
      told = inl (only summer, (none_told p written, (none_told p written, tt)));
      still = inl (one (Still p) (opening (run p)) refl);
      once = inl (All-nil (GoesOn p));
      present = inl (All-nil (ShowsPresent p));
      shown = inl (All-nil (IsSeen p));
      probed = inr refl;
      no_other = inl (none_accepted p);
      pages = inl (none_shown p);
      answers = inl (none_answered p);
    }) 1 0 refl refl (λ same. omega (arith, same))

without_no_other_is_accepted : IsNeeded NoOtherIsAccepted
unfolding edit view changes restamped first_moment
without_no_other_is_accepted =
    let p = NoOtherIsAccepted in
    let written : List (MirrorKey × Mark) = version summer ∷ deletion summer ∷ [] in
    let late : Given = given written 7 (notice summer) in
    needed p (record {
      honest = inl deleted;
      more = inl (All-nil (Grew p));
      told = inl (none_told p written, (none_told p written, (first (version summer) (deletion summer ∷ []), tt)));
      still = inl (still_with p late refl refl);
      once = inl (All-nil (GoesOn p));
      present = inl (All-nil (ShowsPresent p));
      shown = inl (All-nil (IsSeen p));
      probed = inl (none_probed p);
      no_other = inr refl;
      pages = inl (none_shown p);
      answers = inl (none_answered p);
    }) 1 0 refl refl (λ same. omega (arith, same))

without_no_page_is_refused : IsNeeded NoPageIsRefused
unfolding edit view changes restamped first_moment
without_no_page_is_refused =
    let p = NoPageIsRefused in
    let written : List (MirrorKey × Mark) = version summer ∷ version winter ∷ [] in
    let shown : Given = given written 5 (page (summer ∷ winter ∷ [])) in
    needed p (record {
      honest = inl (a_pair Follows (version summer) (version winter) (λ same. omega arith));
      more = inl (All-nil (Grew p));
      told = inl (none_told p written, (two (Contains written) (version summer) (version winter) (head_of (version summer) (version winter ∷ [])) (second_of (version summer) (version winter) []), (none_told p written, tt)));
      still = inl (still_with p shown refl refl);
      once = inl (one (GoesOn p) shown refl);
      present = inl (one (ShowsPresent p) shown (two (IsPresent written) (version summer) (version winter) (refl, refl) (refl, refl)));
      shown = inl (two (IsSeen p) (version summer) (version winter) (inl (head_of (version summer) (version winter ∷ []))) (inl (second_of (version summer) (version winter) [])));
      probed = inl (none_probed p);
      no_other = inl (none_accepted p);
      pages = inr refl;
      answers = inl (none_answered p);
    }) 0 1 refl refl (λ same. omega (arith, same))

without_no_answer_is_refused : IsNeeded NoAnswerIsRefused
unfolding edit view changes restamped first_moment
without_no_answer_is_refused =
    let p = NoAnswerIsRefused in
    let written : List (MirrorKey × Mark) = version summer ∷ version late_summer ∷ version winter ∷ deletion winter ∷ [] in
    let before : Given = given (version summer ∷ []) 3 (notice summer) in
    let answered : Given = given written 7 (Evidence (late_summer ∷ winter ∷ []) false) in
    needed p (record {
      honest = inl brought_more;
      more = inl (one (Grew p) before (version late_summer ∷ version winter ∷ deletion winter ∷ [], refl));
      told = inl (only summer, (none_told p written, (none_told p written, (two (Contains written) (version late_summer) (version winter) (second_of (version summer) (version late_summer) (version winter ∷ deletion winter ∷ [])) (third_of (version summer) (version late_summer) (version winter) (deletion winter ∷ [])), tt))));
      still = inl (still_with p answered refl refl);
      once = inl (All-nil (GoesOn p));
      present = inl (All-nil (ShowsPresent p));
      shown = inl (one (IsSeen p) (version late_summer) (inr (mark_of summer, refl, refl)));
      probed = inl (one (IsProbed (run p)) (key_of summer) (mark_of late_summer, refl, head_of (version late_summer) (version winter ∷ [])));
      no_other = inl (none_accepted p);
      pages = inl (none_shown p);
      answers = inr refl;
    }) 1 2 refl refl (λ same. omega (arith, same))

pub each_is_needed : EachPremiseIsNeeded
each_is_needed UpstreamIsHonest = without_upstream_is_honest
each_is_needed UpstreamOnlyWroteMore = without_upstream_only_wrote_more
each_is_needed EvidenceIsHonest = without_evidence_is_honest
each_is_needed UpstreamIsStill = without_upstream_is_still
each_is_needed EndsOnce = without_ends_once
each_is_needed PagesShowPresentVersions = without_pages_show_present_versions
each_is_needed EachIsShownOrLive = without_each_is_shown_or_live
each_is_needed EachMissedIsProbed = without_each_missed_is_probed
each_is_needed NoOtherIsAccepted = without_no_other_is_accepted
each_is_needed NoPageIsRefused = without_no_page_is_refused
each_is_needed NoAnswerIsRefused = without_no_answer_is_refused
