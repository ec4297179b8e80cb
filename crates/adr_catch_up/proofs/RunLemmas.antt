-- Evidence of a run in parts, and what is told but not accepted.
use Rattle.std.proofs.Common.{◌≡◌, ℕ, ◌⊎◌, inl, inr, List, [], ◌∷◌, ◌++◌, Result, Ok, Err, refl, sym, ap, subst, ◌∙◌, append_assoc}
use Rattle.adr_catch_up.proofs.Common.{All, All-contains, All-head, All-tail, Answer, Command, Contains, Contains-append_cases, Contains-append_left, Contains-append_right, Mark, MirrorKey, Refusal, Settings, State, accepted_evidence, accepted_in, empty, evidence_in, flat_map, map-append, state_after, state_of, step_at}
use Rattle.adr_laws.proofs.RunLemmas.{state_of-append}
use Rattle.adr_catch_up.specs.QuietScans.{AreHonest, Given, commands, reached, refused, refused_in}
use Rattle.adr_catch_up.specs.Upstream.{IsBeginningOf}
use Rattle.adr_catch_up.proofs.WrittenLemmas.{head_of, none_in}

module _ (settings : Settings) where
  accepted-append : (s : State) (cs ds : List (ℕ × Command)) → accepted_evidence settings s (cs ++ ds) ≡ accepted_evidence settings s cs ++ accepted_evidence settings (state_of (step_at settings) s cs) ds
  accepted-append s [] ds = refl
  accepted-append s (c ∷ cs) ds =
      let then = state_after s (step_at settings s c) in
      ap (λ es. accepted_in (step_at settings s c) c.1 ++ es) (accepted-append then cs ds)
      ∙ sym (append_assoc (accepted_in (step_at settings s c) c.1) (accepted_evidence settings then cs) (accepted_evidence settings (state_of (step_at settings) then cs) ds))

  -- what a run accepts, and where it leads, in two parts
  pub reached-append : (gs hs : List Given) → reached settings (gs ++ hs) ≡ state_of (step_at settings) (reached settings gs) (commands hs)
  reached-append gs hs = ap (state_of (step_at settings) empty) (map-append (λ (g : Given). g.command) gs hs) ∙ state_of-append (step_at settings) empty (commands gs) (commands hs)

  pub accepted_in_parts : (gs hs : List Given) → accepted_evidence settings empty (commands (gs ++ hs)) ≡ accepted_evidence settings empty (commands gs) ++ accepted_evidence settings (reached settings gs) (commands hs)
  accepted_in_parts gs hs = ap (accepted_evidence settings empty) (map-append (λ (g : Given). g.command) gs hs) ∙ accepted-append empty (commands gs) (commands hs)

  module _ (gs hs : List Given) (e : MirrorKey × Mark) where
    pub in_first_part : Contains (accepted_evidence settings empty (commands gs)) e → Contains (accepted_evidence settings empty (commands (gs ++ hs))) e
    in_first_part there = subst (λ es. Contains es e) (sym (accepted_in_parts gs hs)) (Contains-append_left (accepted_evidence settings empty (commands gs)) (accepted_evidence settings (reached settings gs) (commands hs)) e there)

    pub in_second_part : Contains (accepted_evidence settings (reached settings gs) (commands hs)) e → Contains (accepted_evidence settings empty (commands (gs ++ hs))) e
    in_second_part there = subst (λ es. Contains es e) (sym (accepted_in_parts gs hs)) (Contains-append_right (accepted_evidence settings empty (commands gs)) (accepted_evidence settings (reached settings gs) (commands hs)) e there)

    pub in_either_part : Contains (accepted_evidence settings empty (commands (gs ++ hs))) e → Contains (accepted_evidence settings empty (commands gs)) e ⊎ Contains (accepted_evidence settings (reached settings gs) (commands hs)) e
    in_either_part there = Contains-append_cases (accepted_evidence settings empty (commands gs)) (accepted_evidence settings (reached settings gs) (commands hs)) e (subst (λ es. Contains es e) (accepted_in_parts gs hs) there)

  -- all accepted evidence is of what the upstream wrote by the end, where it only wrote more
  pub was_written : (written : List (MirrorKey × Mark)) (s : State) (gs : List Given) → AreHonest settings s gs → All (λ g. IsBeginningOf g.written written) gs → (e : MirrorKey × Mark) → Contains (accepted_evidence settings s (commands gs)) e → Contains written e
  was_written written s [] honest grew e there = absurd (none_in e there)
  was_written written s (g ∷ gs) honest grew e there =
      let then = state_after s (step_at settings s g.command) in
      by (was_written written then gs honest.1 (All-tail (λ g. IsBeginningOf g.written written) g gs grew) e) (Contains-append_cases (accepted_in (step_at settings s g.command) g.command.1) (accepted_evidence settings then (commands gs)) e there)
    where
      began : IsBeginningOf g.written written
      began = All-head (λ g. IsBeginningOf g.written written) g gs grew

      by : {B : Type 0} → (B → Contains written e) → Contains (accepted_in (step_at settings s g.command) g.command.1) e ⊎ B → Contains written e
      by further (inl now) = subst (λ w. Contains w e) (sym began.1) (Contains-append_left g.written began.0 e (All-contains (Contains g.written) (accepted_in (step_at settings s g.command) g.command.1) e honest.0 now))
      by further (inr later) = further later

  -- what a part of what commands tell has was accepted, or told by one that was refused
  module _ (part : Command → List (MirrorKey × Mark)) (is_part : (c : Command) (e : MirrorKey × Mark) → Contains (part c) e → Contains (evidence_in c) e) (e : MirrorKey × Mark) where
    abbrev IsRefused : State → List (ℕ × Command) → Type 0
    IsRefused s cs = (c : ℕ × Command) × Contains (refused settings s cs) c × Contains (part c.1) e

    pub accepted_or_refused : (s : State) (gs : List Given) → Contains (flat_map (λ g. part g.command.1) gs) e → Contains (accepted_evidence settings s (commands gs)) e ⊎ IsRefused s (commands gs)
    accepted_or_refused s [] there = absurd (none_in e there)
    accepted_or_refused s (g ∷ gs) there = by (accepted_or_refused (state_after s (step_at settings s g.command)) gs) (Contains-append_cases (part g.command.1) (flat_map (λ g. part g.command.1) gs) e there)
      where
        then : State
        then = state_after s (step_at settings s g.command)

        first : (r : Result (Answer × State) Refusal) (es : List (MirrorKey × Mark)) (cs : List (ℕ × Command)) → Contains (part g.command.1) e
            → Contains (accepted_in r g.command.1 ++ es) e ⊎ ((c : ℕ × Command) × Contains (refused_in r g.command ++ cs) c × Contains (part c.1) e)
        first (Ok taken) es cs here = inl (Contains-append_left (evidence_in g.command.1) es e (is_part g.command.1 e here))
        first (Err refusal) es cs here = inr (g.command, head_of g.command cs, here)

        others : Contains (accepted_evidence settings then (commands gs)) e ⊎ IsRefused then (commands gs) → Contains (accepted_evidence settings s (commands (g ∷ gs))) e ⊎ IsRefused s (commands (g ∷ gs))
        others (inl taken) = inl (Contains-append_right (accepted_in (step_at settings s g.command) g.command.1) (accepted_evidence settings then (commands gs)) e taken)
        others (inr not) = inr (not.0, Contains-append_right (refused_in (step_at settings s g.command) g.command) (refused settings then (commands gs)) not.0 not.1, not.2)

        by : (Contains (flat_map (λ g. part g.command.1) gs) e → Contains (accepted_evidence settings then (commands gs)) e ⊎ IsRefused then (commands gs)) → Contains (part g.command.1) e ⊎ Contains (flat_map (λ g. part g.command.1) gs) e
            → Contains (accepted_evidence settings s (commands (g ∷ gs))) e ⊎ IsRefused s (commands (g ∷ gs))
        by further (inl here) = first (step_at settings s g.command) (accepted_evidence settings then (commands gs)) (refused settings then (commands gs)) here
        by further (inr later) = others (further later)
