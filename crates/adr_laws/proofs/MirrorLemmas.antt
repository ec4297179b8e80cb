-- The mirror after a run is the join of all accepted evidence.
use Rattle.std.proofs.Common.{◌≡◌, ℕ, ◌⊎◌, inl, inr, List, [], ◌∷◌, Some, None, refl, sym, ap, subst, ◌∙◌}
use Rattle.adr_laws.proofs.Common.{Contains, cond_both, insert_entry, Base, Settings, State, mirror_cmp, at, BaseChange, JoinMarks, SetScan, ChangePortfolio, changed, empty, Command, state_after, step_at}
use Rattle.std.proofs.lemmas.List.Sums.{fold-append}
use Rattle.adr_state.specs.declared.base.Mark.{Mark}
use Rattle.adr_state.specs.declared.keys.MirrorKey.{MirrorKey}
use Rattle.adr_state.specs.Marks.{is_below}
use Rattle.adr_state.specs.Mirror.{raised, joined}
use Rattle.adr_state.specs.Laws.{IsJoined}
use Rattle.adr_state.proofs.LawLemmas.{joins_greatest, key_order}
use Rattle.adr_laws.specs.Standing.{state_of}
use Rattle.adr_laws.specs.Laws.{evidence_in, accepted_in, accepted_evidence, MirrorIsGreatest}
use Rattle.adr_laws.proofs.Decisions.{marks_in, after_step, of_delivery}
use Rattle.adr_view.proofs.OrderLemmas.{InOrder, none_sorted, in_order_put}

-- each kind of change joins the mirror with what it tells
change_joins : (change : BaseChange) (base : Base) → (changed change base).mirror ≡ joined base.mirror (marks_in change)
change_joins (JoinMarks marks scan) base = refl
change_joins (SetScan scan) base = refl
change_joins (ChangePortfolio change) base = refl

-- and so does each step with what its command tells, where it was accepted
step_joins : (settings : Settings) (s : State) (c : ℕ × Command) → (state_after s (step_at settings s c)).base.mirror ≡ joined s.base.mirror (accepted_in (step_at settings s c) c.1)
step_joins settings s c =
    after_step settings s c (λ r. (state_after s r).base.mirror ≡ joined s.base.mirror (accepted_in r c.1)) (λ refusal. refl)
    (λ a o is done. ap (joined s.base.mirror) (sym (of_delivery (λ command. evidence_in command ≡ []) refl (λ entry lease remote. refl) (λ entry lease forget. refl) c.1 is))) (λ d a is. change_joins d.change s.base ∙ ap (joined s.base.mirror) is.fits.tells)

-- the mirror after a run is the one before, joined with all accepted evidence
run_joins : (settings : Settings) (s : State) (cs : List (ℕ × Command)) → (state_of (step_at settings) s cs).base.mirror ≡ joined s.base.mirror (accepted_evidence settings s cs)
run_joins settings s [] = refl
run_joins settings s (c ∷ cs) =
    run_joins settings (state_after s (step_at settings s c)) cs
    ∙ ap (λ m. joined m (accepted_evidence settings (state_after s (step_at settings s c)) cs)) (step_joins settings s c)
    ∙ sym (fold-append raised s.base.mirror (accepted_in (step_at settings s c) c.1) (accepted_evidence settings (state_after s (step_at settings s c)) cs))

-- nothing is known of a key before
one_came : (mark : Mark) (B : Type 0) → (None ≡ Some mark) ⊎ B → B
one_came mark B (inl h) = absurd (cc)
one_came mark B (inr h) = h

pub mirror_greatest : MirrorIsGreatest
mirror_greatest settings cs key =
    let all = accepted_evidence settings empty cs in
    let whole : at mirror_cmp key (state_of (step_at settings) empty cs).base.mirror ≡ at mirror_cmp key (joined [] all) = ap (at mirror_cmp key) (run_joins settings empty cs) in
    let join : IsJoined [] all = joins_greatest [] all in
    record {
      none_is_above = λ mark came. ap (λ known. is_below known mark) whole ∙ join.reaches_each key mark came;
      is_one_of_them = λ mark known. one_came mark (Contains all (key, mark)) (join.is_one_of_them key mark (sym whole ∙ known));
    }

-- ---- the order of its keys

joined_in_order : (mirror evidence : List (MirrorKey × Mark)) → InOrder mirror_cmp mirror → InOrder mirror_cmp (joined mirror evidence)
joined_in_order mirror [] h = h
joined_in_order mirror (e ∷ es) h =
    joined_in_order (raised mirror e) es (cond_both (is_below (at mirror_cmp e.0 mirror) e.1) (insert_entry mirror_cmp mirror e.0 e.1) mirror (InOrder mirror_cmp) (λ above. in_order_put key_order e.0 e.1 mirror h) (λ level. h))

pub mirror_in_order : (settings : Settings) (cs : List (ℕ × Command)) → InOrder mirror_cmp (state_of (step_at settings) empty cs).base.mirror
mirror_in_order settings cs = subst (InOrder mirror_cmp) (sym (run_joins settings empty cs)) (joined_in_order [] (accepted_evidence settings empty cs) (none_sorted mirror_cmp))
