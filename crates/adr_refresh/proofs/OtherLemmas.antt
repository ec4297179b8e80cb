-- What a change leaves of the sources that it does not touch: evidence, scans and edits.
use Rattle.std.proofs.Common.{◌≡◌, ℕ, Bool, true, false, cond, List, [], ◌∷◌, Option, Some, None, refl, sym, ap, subst, ◌∙◌}
use Rattle.std.specs.Prelude.{option_and_then}
use Rattle.adr_objects.specs.declared.kind.Kind.{Kind}
use Rattle.adr_objects.specs.declared.kind.Kind.TheVariants as kind
use Rattle.adr_state.specs.declared.base.Mark.{Mark}
use Rattle.adr_state.specs.declared.keys.MirrorKey.{MirrorKey}
use Rattle.adr_state.specs.BaseChanges.{JoinMarks, SetScan, ChangePortfolio, changed}
use Rattle.adr_state.specs.Marks.{is_below}
use Rattle.adr_state.specs.Mirror.{raised, joined}
use Rattle.adr_view.specs.Rollups.{event_key, event_body, rollup_of}
use Rattle.adr_view.specs.Views.{rows_known, rolled_up}
use Rattle.adr_refresh.specs.Sources.{Source, Upstream, Reported, RolledUp, rows_of}
use Rattle.adr_refresh.specs.Touched.{rises, rising, sources_by, sources_at, touched}
use Rattle.adr_refresh.specs.Laws.{OthersAreShownAsBefore}
use Rattle.adr_refresh.proofs.Common.{Base, Contains, at, at-insert_entry, cons_option, equal_from_is, in_flat, insert_entry, is_eq, key_order, mirror_cmp, mirror_exact}
use Rattle.adr_refresh.proofs.ListLemmas.{behind_first, false_unless, the_first}
use Rattle.adr_refresh.proofs.StayLemmas.{known_stay}
use Rattle.adr_refresh.proofs.EditLemmas.{edits_leave_others}

-- ---- marks that do not rise

module _ (before : List (MirrorKey × Mark)) (key : MirrorKey) where
  -- a mark of another key, or one that is not above what is known, leaves what is known of a key
  one_stays : (mirror : List (MirrorKey × Mark)) (e : MirrorKey × Mark) → at mirror_cmp key before ≡ at mirror_cmp key mirror → (key ≡ e.0 → is_below (at mirror_cmp key before) e.1 ≡ false) → at mirror_cmp key before ≡ at mirror_cmp key (raised mirror e)
  one_stays mirror e same level = by (is_below (at mirror_cmp e.0 mirror) e.1) refl
    where
      by : (b : Bool) → is_below (at mirror_cmp e.0 mirror) e.1 ≡ b → at mirror_cmp key before ≡ at mirror_cmp key (cond b (insert_entry mirror_cmp mirror e.0 e.1) mirror)
      by false is = same
      by true is = same ∙ sym (at-insert_entry key_order key e.0 e.1 mirror ∙ rw other refl)
        where
          other : is_eq (mirror_cmp key e.0) ≡ false
          other = false_unless (is_eq (mirror_cmp key e.0)) (λ tied.
              let one : key ≡ e.0 = mirror_exact key e.0 (equal_from_is _ tied) in
              let no : true ≡ false = sym is ∙ ap (λ (k : MirrorKey). is_below (at mirror_cmp k mirror) e.1) (sym one) ∙ ap (λ (known : Option Mark). is_below known e.1) (sym same) ∙ level one in
              cc)

  rest_free : (o : Option MirrorKey) (ks : List MirrorKey) → (Contains (cons_option o ks) key → ⊥) → Contains ks key → ⊥
  rest_free None ks free there = free there
  rest_free (Some k) ks free there = free (behind_first k ks key there)

  not_first : (e : MirrorKey × Mark) (ks : List MirrorKey) → (Contains (cons_option (rises before e) ks) key → ⊥) → key ≡ e.0 → is_below (at mirror_cmp key before) e.1 ≡ false
  not_first e ks free one = false_unless (is_below (at mirror_cmp key before) e.1) (λ above.
      let here : is_below (at mirror_cmp e.0 before) e.1 ≡ true = ap (λ (k : MirrorKey). is_below (at mirror_cmp k before) e.1) (sym one) ∙ above in
      let it : rises before e ≡ Some e.0 = ap (λ (b : Bool). cond b (Some e.0) None) here in
      let first : Contains (e.0 ∷ ks) key = subst (λ (k : MirrorKey). Contains (k ∷ ks) key) one (the_first key ks) in
      free (subst (λ (o : Option MirrorKey). Contains (cons_option o ks) key) (sym it) first))

  level_stays : (mirror marks : List (MirrorKey × Mark)) → at mirror_cmp key before ≡ at mirror_cmp key mirror → (Contains (rising before marks) key → ⊥) → at mirror_cmp key before ≡ at mirror_cmp key (joined mirror marks)
  level_stays mirror [] same free = same
  level_stays mirror (e ∷ marks) same free =
      level_stays (raised mirror e) marks (one_stays mirror e same (not_first e (rising before marks) free)) (rest_free (rises before e) (rising before marks) free)

-- ---- evidence

module _ (base : Base) (marks : List (MirrorKey × Mark)) (scan : Option (List MirrorKey)) where
  abbrev after : Base
  after = changed (JoinMarks marks scan) base

  its_source : (which : Kind) (id : List ℕ) → Contains (sources_by which id) (Upstream (record { kind = which; id = id }))
  its_source kind.Program id = the_first (Upstream (record { kind = kind.Program; id = id })) []
  its_source kind.Event id = the_first (Upstream (event_key id)) (RolledUp id ∷ [])

  marks_leave_others : (s : Source) → (Contains (touched (JoinMarks marks scan) base) s → ⊥) → rows_of base s ≡ rows_of after s
  marks_leave_others (Upstream k) free =
      known_stay base after k.kind k.id (at mirror_cmp k base.mirror) (λ of_event event is. refl)
      ∙ ap (λ known. rows_known after k known) (level_stays base.mirror k base.mirror marks refl (λ there. free (in_flat sources_at (rising base.mirror marks) k (Upstream k) there (its_source k.kind k.id))))
  marks_leave_others (Reported n) free = refl
  marks_leave_others (RolledUp id) free =
      ap (λ (known : Option Mark). rolled_up id (option_and_then (rollup_of base.portfolio id) (event_body known)))
      (level_stays base.mirror (event_key id) base.mirror marks refl (λ there. free (in_flat sources_at (rising base.mirror marks) (event_key id) (RolledUp id) there (behind_first (Upstream (event_key id)) (RolledUp id ∷ []) (RolledUp id) (the_first (RolledUp id) [])))))

-- ---- any change

pub others_as_before : OthersAreShownAsBefore
others_as_before (JoinMarks marks scan) base s free = marks_leave_others base marks scan s free
others_as_before (SetScan scan) base s free = scans_show_nothing s
  where
    scans_show_nothing : (s : Source) → rows_of base s ≡ rows_of (changed (SetScan scan) base) s
    scans_show_nothing (Upstream k) = known_stay base (changed (SetScan scan) base) k.kind k.id (at mirror_cmp k base.mirror) (λ of_event event is. refl)
    scans_show_nothing (Reported n) = refl
    scans_show_nothing (RolledUp id) = refl
others_as_before (ChangePortfolio c) base s free = edits_leave_others c base s free
