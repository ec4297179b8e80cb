-- Why a quiet scan catches up: of each key that is present, and of each that is deleted but was live, what was written last is among all accepted evidence; and that is the greatest.
use Rattle.std.proofs.Common.{◌≡◌, ℕ, Bool, true, false, ◌⊎◌, inl, inr, List, [], ◌∷◌, ◌++◌, Option, Some, None, Result, Ok, Err, refl, sym, ap, subst, ◌∙◌}
use Rattle.std.proofs.lemmas.List.{append-nil}
use Rattle.std.proofs.lemmas.Map.Entries.{option_filter}
use Rattle.adr_objects.specs.declared.body.Body.{Body}
use Rattle.adr_laws.proofs.MirrorLemmas.{mirror_greatest, mirror_in_order}
use Rattle.adr_queries.specs.declared.answer.Answer.TheVariants.{Probes}
use Rattle.adr_machine.specs.declared.command.Command.TheVariants.{Evidence, ScanEnd}
use Rattle.adr_catch_up.proofs.Common.{All, All-append, All-cons, All-contains, All-nil, Answer, Command, Contains, Contains-append_left, Contains-append_right, Dead, IsGreatestOf, Live, Mark, MirrorKey, Refusal, Settings, State, accepted_evidence, accepted_in, at, each_there, empty, evidence_in, from_flat, from_map, has_key, in_filter, in_flat, in_map, in_order_rows, is_below, is_live, key_order, keys_of, mirror_cmp, none_sorted, probes, same_Some, step_at, told, true≢false}
use Rattle.adr_catch_up.specs.Upstream.{IsBeginningOf, IsLatest, IsPresent, latest, live_part}
use Rattle.adr_catch_up.specs.QuietScans.{AnswersProbe, Given, IsLiveIn, IsProbed, IsQuiet, Scanned, all_given, closing, commands, is_scan_end, keys_in, known_at_end, opening, page_in, shown_by_pages, missed, reached, refused, told_by, with_begin, up_to_end, with_end}
use Rattle.adr_catch_up.specs.Laws.{CatchUp, ScanEndsAreAnswered}
use Rattle.adr_catch_up.proofs.RowLemmas.{is_probed, row_of, same_live}
use Rattle.adr_catch_up.proofs.RunLemmas.{accepted_or_refused, in_either_part, in_first_part, in_second_part, reached-append, was_written}
use Rattle.adr_catch_up.proofs.ScanLemmas.{GoesOn, IsNoted, begin_opens, end_answers, in_set, stays_noted}
use Rattle.adr_catch_up.proofs.WrittenLemmas.{head_of, last_is_known, none_in, written_is_followed}

-- what a page tells is evidence
page_tells : (c : Command) (e : MirrorKey × Mark) → Contains (page_in c) e → Contains (evidence_in c) e
page_tells (Evidence founds true) e there = there
page_tells c e there = absurd (none_in e there)

-- a `ScanEnd` tells nothing
end_tells_none : (r : Result (Answer × State) Refusal) → accepted_in r ScanEnd ++ [] ≡ []
end_tells_none (Ok taken) = refl
end_tells_none (Err refusal) = refl

-- a version is no deletion
not_deleted : (n : ℕ) (b : Body) → Some (Live n b) ≡ Some Dead → ⊥
not_deleted n b is = true≢false (ap is_live (same_Some (Live n b) Dead is))

-- ---- the end of a scan

abbrev IsPaged : Scanned → MirrorKey → Type 0
IsPaged run key = Contains (keys_of (shown_by_pages run.polling)) key

module _ (settings : Settings) (run : Scanned) (once : All (λ g. is_scan_end g.command.1 ≡ false) run.polling) where
  go_on : All (GoesOn (IsPaged run)) run.polling
  go_on = each_there (GoesOn (IsPaged run)) run.polling (λ g there. (
    All-contains (λ g. is_scan_end g.command.1 ≡ false) run.polling g once there,
    each_there (λ e. IsPaged run e.0) (page_in g.command.1) (λ e here. in_map (λ (e : MirrorKey × Mark). e.0) (shown_by_pages run.polling) e (in_flat (λ (g : Given). page_in g.command.1) run.polling g e there here)),
  ))

  opened : IsNoted (IsPaged run) (reached settings (with_begin run)).base.scan
  opened = subst (λ (s : State). IsNoted (IsPaged run) s.base.scan) (sym (reached-append settings run.before (opening run ∷ []))) ([], begin_opens settings (reached settings run.before) run.begins, All-nil (IsPaged run))

  -- when the scan ends it is open, and has keys that pages showed alone
  noted : IsNoted (IsPaged run) (reached settings (up_to_end run)).base.scan
  noted = subst (λ (s : State). IsNoted (IsPaged run) s.base.scan) (sym (reached-append settings (with_begin run) run.polling)) (stays_noted (IsPaged run) settings (reached settings (with_begin run)) run.polling opened go_on)

  end_told : told (step_at settings (reached settings (up_to_end run)) (closing run).command) ≡ Ok (Probes (probes (known_at_end settings run) noted.0))
  end_told = end_answers settings (reached settings (up_to_end run)) run.ends noted.0 noted.1

  missed_is : missed settings run ≡ probes (known_at_end settings run) noted.0
  missed_is = ap keys_in end_told

  -- a live key was shown by a page, or is answered
  paged_or_missed : (key : MirrorKey) → IsLiveIn (known_at_end settings run) key → IsPaged run key ⊎ Contains (missed settings run) key
  paged_or_missed key live = by (has_key noted.0 key) refl
    where
      by : (b : Bool) → has_key noted.0 key ≡ b → IsPaged run key ⊎ Contains (missed settings run) key
      by true is = inl (All-contains (IsPaged run) noted.0 key noted.2 (in_set key noted.0 is))
      by false is = inr (subst (λ keys. Contains keys key) (sym missed_is) (is_probed key live.0 (known_at_end settings run) noted.0 live.1 live.2 is))

pub scans_end : ScanEndsAreAnswered
scans_end settings run once = record {
  answered = end_told settings run once ∙ ap (λ keys. Ok (Probes keys)) (sym (missed_is settings run once));
  all_of_them = paged_or_missed settings run once;
}

-- ---- a quiet scan

module _ (settings : Settings) (run : Scanned) (quiet : IsQuiet settings run) where
  -- ---- what was accepted

  abbrev all : List (MirrorKey × Mark)
  all = accepted_evidence settings empty (commands (all_given run))

  abbrev Grew : Given → Type 0
  Grew g = IsBeginningOf g.written run.written

  grew_none : (g : Given) → g.written ≡ run.written → Grew g
  grew_none g same = ([], sym same ∙ sym (append-nil g.written))

  still : (g : Given) → Contains (opening run ∷ run.polling ++ run.probing) g → g.written ≡ run.written
  still g = All-contains (λ g. g.written ≡ run.written) (opening run ∷ run.polling ++ run.probing) g quiet.upstream_is_still

  still_polling : (g : Given) → Contains run.polling g → g.written ≡ run.written
  still_polling g there = still g (Contains-append_right (opening run ∷ []) (run.polling ++ run.probing) g (Contains-append_left run.polling run.probing g there))

  still_probing : (g : Given) → Contains run.probing g → g.written ≡ run.written
  still_probing g there = still g (Contains-append_right (opening run ∷ run.polling) run.probing g there)

  grew : (gs : List Given) → ((g : Given) → Contains gs g → g.written ≡ run.written) → All Grew gs
  grew gs same = each_there Grew gs (λ g there. grew_none g (same g there))

  one_grew : (g : Given) → g.written ≡ run.written → All Grew (g ∷ [])
  one_grew g same = All-cons Grew g [] (grew_none g same) (All-nil Grew)

  all_grew : All Grew (all_given run)
  all_grew =
      let begun = All-append Grew run.before (opening run ∷ []) quiet.upstream_only_wrote_more (one_grew (opening run) (still (opening run) (head_of (opening run) (run.polling ++ run.probing)))) in
      let polled = All-append Grew (with_begin run) run.polling begun (grew run.polling still_polling) in
      let ended = All-append Grew (up_to_end run) (closing run ∷ []) polled (one_grew (closing run) refl) in
      All-append Grew (with_end run) run.probing ended (grew run.probing still_probing)

  -- all of it was written
  all_written : (e : MirrorKey × Mark) → Contains all e → Contains run.written e
  all_written = was_written settings run.written empty (all_given run) quiet.evidence_is_honest all_grew

  up_to_end_accepted : (e : MirrorKey × Mark) → Contains (accepted_evidence settings empty (commands (up_to_end run))) e → Contains all e
  up_to_end_accepted e there = in_first_part settings (with_end run) run.probing e (in_first_part settings (up_to_end run) (closing run ∷ []) e there)

  -- ---- pages

  page_accepted : (e : MirrorKey × Mark) → Contains (shown_by_pages run.polling) e → Contains all e
  page_accepted e there = by (accepted_or_refused settings page_in page_tells e start run.polling there)
    where
      start : State
      start = reached settings (with_begin run)

      by : Contains (accepted_evidence settings start (commands run.polling)) e ⊎ ((c : ℕ × Command) × Contains (refused settings start (commands run.polling)) c × Contains (page_in c.1) e) → Contains all e
      by (inl taken) = up_to_end_accepted e (in_second_part settings (with_begin run) run.polling e taken)
      by (inr not) = absurd (none_in e (subst (λ es. Contains es e) (All-contains (λ c. page_in c.1 ≡ []) (refused settings start (commands run.polling)) not.0 quiet.no_page_is_refused not.1) not.2))

  -- what was written last of a key was accepted
  abbrev IsCaughtUp : MirrorKey → Type 0
  IsCaughtUp key = (last : Mark) × IsLatest run.written (key, last) × Contains all (key, last)

  -- what pages show is present
  shown_present : (e : MirrorKey × Mark) → Contains (shown_by_pages run.polling) e → IsPresent run.written e
  shown_present e there =
      let shown = from_flat (λ (g : Given). page_in g.command.1) run.polling e there in
      let present : All (IsPresent shown.0.written) (page_in shown.0.command.1) = All-contains (λ g. All (IsPresent g.written) (page_in g.command.1)) run.polling shown.0 quiet.pages_show_present_versions shown.1 in
      subst (λ written. IsPresent written e) (still_polling shown.0 shown.1) (All-contains (IsPresent shown.0.written) (page_in shown.0.command.1) e present shown.2)

  polled_caught_up : (key : MirrorKey) → IsPaged run key → IsCaughtUp key
  polled_caught_up key paged =
      let row = from_map (λ (e : MirrorKey × Mark). e.0) (shown_by_pages run.polling) key paged in
      let shown : Contains (shown_by_pages run.polling) (key, row.0.1) = subst (λ (k : MirrorKey). Contains (shown_by_pages run.polling) (k, row.0.1)) (sym row.2) row.1 in
      let present : IsPresent run.written (key, row.0.1) = shown_present (key, row.0.1) shown in
      (row.0.1, present.0, page_accepted (key, row.0.1) shown)

  -- ---- probes

  answer_accepted : (e : MirrorKey × Mark) → AnswersProbe settings run e → Contains (told_by run.probing) e → Contains all e
  answer_accepted e answers there = by (accepted_or_refused settings evidence_in (λ c e told. told) e start run.probing there)
    where
      start : State
      start = reached settings (with_end run)

      by : Contains (accepted_evidence settings start (commands run.probing)) e ⊎ ((c : ℕ × Command) × Contains (refused settings start (commands run.probing)) c × Contains (evidence_in c.1) e) → Contains all e
      by (inl taken) = in_second_part settings (with_end run) run.probing e taken
      by (inr not) =
          let none : All (λ e. AnswersProbe settings run e → ⊥) (evidence_in not.0.1) = All-contains (λ c. All (λ e. AnswersProbe settings run e → ⊥) (evidence_in c.1)) (refused settings start (commands run.probing)) not.0 quiet.no_answer_is_refused not.1 in
          absurd (All-contains (λ e. AnswersProbe settings run e → ⊥) (evidence_in not.0.1) e none not.2 answers)

  probed_caught_up : (key : MirrorKey) → Contains (missed settings run) key → IsCaughtUp key
  probed_caught_up key there =
      let answer : IsProbed run key = All-contains (IsProbed run) (missed settings run) key quiet.each_missed_is_probed there in
      (answer.0, answer.1, answer_accepted (key, answer.0) (there, answer.1) answer.2)

  -- ---- each key

  -- one that is live when the scan ends: it was polled, or is probed
  live_caught_up : (key : MirrorKey) → IsLiveIn (known_at_end settings run) key → IsCaughtUp key
  live_caught_up key live = by (paged_or_missed settings run quiet.ends_once key live)
    where
      by : IsPaged run key ⊎ Contains (missed settings run) key → IsCaughtUp key
      by (inl paged) = polled_caught_up key paged
      by (inr answered) = probed_caught_up key answered

  came_last : (key : MirrorKey) (last : Mark) → IsLatest run.written (key, last) → IsCaughtUp key → Contains all (key, last)
  came_last key last is caught = subst (λ m. Contains all (key, m)) (same_Some caught.0 last (sym caught.1 ∙ is)) caught.2

  -- one that is present
  present_came : (key : MirrorKey) (last : Mark) → IsLatest run.written (key, last) → is_live last ≡ true → Contains all (key, last)
  present_came key last is live = by (All-contains IsShownOrLive (live_part (latest run.written)) (key, last) quiet.each_is_shown_or_live (in_filter (λ (r : MirrorKey × Mark). is_live r.1) (latest run.written) (key, last) live (row_of key last (latest run.written) is)))
    where
      IsShownOrLive : MirrorKey × Mark → Type 0
      IsShownOrLive r = Contains (shown_by_pages run.polling) r ⊎ IsLiveIn (known_at_end settings run) r.0

      by : Contains (shown_by_pages run.polling) (key, last) ⊎ IsLiveIn (known_at_end settings run) key → Contains all (key, last)
      by (inl shown) = page_accepted (key, last) shown
      by (inr live) = came_last key last is (live_caught_up key live)

  -- one that is deleted, where a version of it was accepted: none comes after the scan's end, so it was known by then, as deleted or live
  deleted_came : (key : MirrorKey) (n : ℕ) (b : Body) → IsLatest run.written (key, Dead) → Contains all (key, Live n b) → Contains all (key, Dead)
  deleted_came key n b is came = by (in_either_part settings (with_end run) run.probing (key, Live n b) came)
    where
      first : List (MirrorKey × Mark)
      first = accepted_evidence settings empty (commands (up_to_end run))

      known : IsGreatestOf first key (at mirror_cmp key (known_at_end settings run))
      known = mirror_greatest settings (commands (up_to_end run)) key

      by_known : Contains first (key, Live n b) → (o : Option Mark) → at mirror_cmp key (known_at_end settings run) ≡ o → Contains all (key, Dead)
      by_known there None none = absurd (true≢false (sym (ap (λ k. is_below k (Live n b)) none) ∙ known.none_is_above (Live n b) there))
      by_known there (Some Dead) dead = up_to_end_accepted (key, Dead) (known.is_one_of_them Dead dead)
      by_known there (Some (Live m a)) live = came_last key Dead is (live_caught_up key (Live m a, live, refl))

      by_end : Contains first (key, Live n b) ⊎ Contains (accepted_evidence settings (reached settings (up_to_end run)) (commands (closing run ∷ []))) (key, Live n b) → Contains all (key, Dead)
      by_end (inl there) = by_known there (at mirror_cmp key (known_at_end settings run)) refl
      by_end (inr there) = absurd (none_in (key, Live n b) (subst (λ es. Contains es (key, Live n b)) (end_tells_none (step_at settings (reached settings (up_to_end run)) (closing run).command)) there))

      by : Contains (accepted_evidence settings empty (commands (with_end run))) (key, Live n b) ⊎ Contains (accepted_evidence settings (reached settings (with_end run)) (commands run.probing)) (key, Live n b) → Contains all (key, Dead)
      by (inl there) = by_end (in_either_part settings (up_to_end run) (closing run ∷ []) (key, Live n b) there)
      by (inr after) =
          let answers : AnswersProbe settings run (key, Live n b) = All-contains (AnswersProbe settings run) (accepted_evidence settings (reached settings (with_end run)) (commands run.probing)) (key, Live n b) quiet.no_other_is_accepted after in
          absurd (not_deleted n b (sym answers.1 ∙ is))

  -- ---- what is known

  abbrev mirror : List (MirrorKey × Mark)
  mirror = (reached settings (all_given run)).base.mirror

  greatest : (key : MirrorKey) → IsGreatestOf all key (at mirror_cmp key mirror)
  greatest key = mirror_greatest settings (commands (all_given run)) key

  known_last : (key : MirrorKey) (last : Mark) → IsLatest run.written (key, last) → Contains all (key, last) → at mirror_cmp key mirror ≡ Some last
  known_last key last = last_is_known run.written all key (at mirror_cmp key mirror) last quiet.upstream_is_honest all_written (greatest key)

  -- what is live at a key is what the upstream has there
  live_alike : (key : MirrorKey) → option_filter is_live (at mirror_cmp key mirror) ≡ option_filter is_live (at mirror_cmp key (latest run.written))
  live_alike key = by (at mirror_cmp key (latest run.written)) refl
    where
      nothing : at mirror_cmp key (latest run.written) ≡ None → (o : Option Mark) → at mirror_cmp key mirror ≡ o → option_filter is_live o ≡ None
      nothing none None is = refl
      nothing none (Some mark) is =
          let last = written_is_followed key run.written mark quiet.upstream_is_honest (all_written (key, mark) ((greatest key).is_one_of_them mark is)) in
          let no : None ≡ Some last.0 = sym none ∙ last.1 in
          absurd (cc)

      deleted : IsLatest run.written (key, Dead) → (o : Option Mark) → at mirror_cmp key mirror ≡ o → option_filter is_live o ≡ None
      deleted gone None is = refl
      deleted gone (Some Dead) is = refl
      deleted gone (Some (Live n b)) is = absurd (not_deleted n b (sym is ∙ known_last key Dead gone (deleted_came key n b gone ((greatest key).is_one_of_them (Live n b) is))))

      by : (o : Option Mark) → at mirror_cmp key (latest run.written) ≡ o → option_filter is_live (at mirror_cmp key mirror) ≡ option_filter is_live o
      by None is = nothing is (at mirror_cmp key mirror) refl
      by (Some Dead) is = deleted is (at mirror_cmp key mirror) refl
      by (Some (Live m a)) is = ap (option_filter is_live) (known_last key (Live m a) is (present_came key (Live m a) is refl))

  caught_up : live_part mirror ≡ live_part (latest run.written)
  caught_up = same_live mirror (latest run.written) (mirror_in_order settings (commands (all_given run))) (in_order_rows key_order [] run.written (none_sorted mirror_cmp)) live_alike

pub catches_up : CatchUp
catches_up = caught_up
