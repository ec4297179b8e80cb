-- What the view has at the keys of reports and of roll-ups.
use Rattle.std.proofs.Common.{◌≡◌, ℕ, List, ◌++◌, Option, Some, None, refl, sym, ap, subst, ◌∙◌, arith}
use Rattle.std.specs.Prelude.{IsSome, is_some, option_map, option_and_then}
use Rattle.std.proofs.lemmas.List.Elements.{Contains-append_left, Contains-append_right}
use Rattle.std.proofs.lemmas.Map.Views.{lookup-from_Contains}
use Rattle.adr_view.proofs.Common.{All-contains, Contains, Contains-from_lookup, IsDistinct-from_sorted, at, eq_by_cmp_equiv, exact_unsigned, false≢true, keys_of, mirror_cmp, nat_cmp, nat_cmp_total, tells_apart, view_cmp, Base}
use Rattle.adr_objects.specs.declared.body.EventBody.{EventBody}
use Rattle.adr_objects.specs.declared.report.Rollup.{Rollup}
use Rattle.adr_state.specs.declared.base.Mark.{Mark}
use Rattle.adr_state.specs.declared.keys.MirrorKey.{MirrorKey}
use Rattle.adr_state.specs.declared.keys.ViewKey.{ViewKey}
use Rattle.adr_state.specs.declared.keys.ViewKey.TheVariants as key
use Rattle.adr_state.specs.declared.portfolio.Report.{Report}
use Rattle.adr_state.proofs.LawLemmas.{key_order}
use Rattle.adr_view.specs.declared.view.Content.{Content}
use Rattle.adr_view.specs.declared.view.Content.TheVariants as content
use Rattle.adr_view.specs.Laws.{StandsInOrder, ReportsAndRollupsAreShown}
use Rattle.adr_view.specs.Rollups.{event_key, event_body, rollup_of, rollup_at}
use Rattle.adr_view.specs.Views.{report_row, rolled_up, event_of, rollup_rows, rows_shown, view}
use Rattle.adr_view.proofs.KeyLemmas.{view_exact, mirror_exact}
use Rattle.adr_view.proofs.ListLemmas.{in_map, in_flat}
use Rattle.adr_view.proofs.ShownLemmas.{view_total, shown_in_order, view_made, shown_first, then_reports, then_rollups, event_rolled_up}
use Rattle.adr_view.proofs.ViewLemmas.{each_by_mark, each_rollup, each_shown, from_view}

module _ (base : Base) (stands : StandsInOrder base) where
  -- what is among the rows stands at its key
  stands_at : (k : ViewKey) (c : Content) → Contains (rows_shown base) (k, c) → at view_cmp k (view base) ≡ Some c
  stands_at k c there = lookup-from_Contains (eq_by_cmp_equiv view_total) k c (view base) (IsDistinct-from_sorted view_cmp (keys_of (view base)) (shown_in_order base)) (subst (λ rows. Contains rows (k, c)) (sym (view_made base stands)) there)

  -- where nothing is among them at a key, nothing stands there
  nothing_at : (k : ViewKey) → ((c : Content) → Contains (rows_shown base) (k, c) → ⊥) → at view_cmp k (view base) ≡ None
  nothing_at k none = by (at view_cmp k (view base)) refl
    where
      by : (o : Option Content) → at view_cmp k (view base) ≡ o → o ≡ None
      by None is = refl
      by (Some c) is = absurd (none c (from_view base (k, c) (Contains-from_lookup (tells_apart view_exact) k c (view base) is)))

  -- ---- reports

  module _ (n : ℕ) where
    abbrev IsReported : ViewKey × Content → Type 0
    IsReported r = r.0 ≡ key.Report n → IsSome (at nat_cmp n base.portfolio.reports)

    found_at : (r : ℕ × Report) → Contains base.portfolio.reports r → at nat_cmp r.0 base.portfolio.reports ≡ Some r.1
    found_at r there = lookup-from_Contains (eq_by_cmp_equiv nat_cmp_total) r.0 r.1 base.portfolio.reports (IsDistinct-from_sorted nat_cmp (keys_of base.portfolio.reports) stands.reports) there

    reported : (c : Content) → Contains (rows_shown base) (key.Report n, c) → IsSome (at nat_cmp n base.portfolio.reports)
    reported c there =
        All-contains IsReported (rows_shown base) (key.Report n, c)
        (each_shown base IsReported (λ e in_mirror. each_by_mark base (λ k. IsReported) (λ id name is. absurd (cc)) (λ id event splits p is. absurd (cc)) e)
        (λ r known is. let same : r.0 ≡ n = cc in subst (λ m. IsSome (at nat_cmp m base.portfolio.reports)) same (ap is_some (found_at r known)))
        (λ e in_mirror. each_rollup base IsReported e (λ event rollup one made is. absurd (cc)))) there refl

    reports_shown : at view_cmp (key.Report n) (view base) ≡ option_map (λ r. content.Report r.body) (at nat_cmp n base.portfolio.reports)
    reports_shown = by (at nat_cmp n base.portfolio.reports) refl
      where
        by : (o : Option Report) → at nat_cmp n base.portfolio.reports ≡ o → at view_cmp (key.Report n) (view base) ≡ option_map (λ r. content.Report r.body) o
        by None is = nothing_at (key.Report n) (λ c there. absurd (false≢true (subst IsSome is (reported c there))))
        by (Some r) is =
            let row = in_map report_row base.portfolio.reports (n, r) (Contains-from_lookup (tells_apart exact_unsigned) n r base.portfolio.reports is) in
            stands_at (key.Report n) (content.Report r.body)
            (Contains-append_left (shown_first base ++ then_reports base) (then_rollups base) (key.Report n, content.Report r.body) (Contains-append_right (shown_first base) (then_reports base) (key.Report n, content.Report r.body) row))

  -- ---- roll-ups

  module _ (id : List ℕ) where
    abbrev of_mark : Option Mark → Option Rollup
    of_mark mark = option_and_then (rollup_of base.portfolio id) (event_body mark)

    abbrev IsRolledUp : ViewKey × Content → Type 0
    IsRolledUp r = r.0 ≡ key.Rollup id → IsSome (rollup_at base.mirror base.portfolio id)

    -- the roll-up of a mark that is known of an event
    rolled : (e : MirrorKey × Mark) → Contains base.mirror e → e.0 ≡ event_key id → rollup_at base.mirror base.portfolio id ≡ of_mark (Some e.1)
    rolled e there own =
        let found : at mirror_cmp e.0 base.mirror ≡ Some e.1 = lookup-from_Contains (eq_by_cmp_equiv key_order) e.0 e.1 base.mirror (IsDistinct-from_sorted mirror_cmp (keys_of base.mirror) stands.upstream_keys) there in
        ap of_mark (ap (λ k. at mirror_cmp k base.mirror) (sym own) ∙ found)

    rolled_up_there : (c : Content) → Contains (rows_shown base) (key.Rollup id, c) → IsSome (rollup_at base.mirror base.portfolio id)
    rolled_up_there c there =
        All-contains IsRolledUp (rows_shown base) (key.Rollup id, c)
        (each_shown base IsRolledUp (λ e in_mirror. each_by_mark base (λ k. IsRolledUp) (λ id name is. absurd (cc)) (λ id event splits p is. absurd (cc)) e) (λ r known is. absurd (cc))
        (λ e in_mirror. each_rollup base IsRolledUp e (by_event e in_mirror))) there refl
      where
        by_event : (e : MirrorKey × Mark) → Contains base.mirror e → (event : EventBody) (rollup : Rollup) → event_of e.0.kind e.1 ≡ Some event → rollup_of base.portfolio e.0.id event ≡ Some rollup → key.Rollup e.0.id ≡ key.Rollup id
            → IsSome (rollup_at base.mirror base.portfolio id)
        by_event e in_mirror event rollup one made is =
            let same : e.0.id ≡ id = cc in
            let own : e.0 ≡ event_key e.0.id = event_rolled_up e event one in
            let its : event_body (Some e.1) ≡ Some event = ap (λ k. event_of k e.1) (ap (λ k. k.kind) (sym own)) ∙ one in
            ap is_some (rolled e in_mirror (own ∙ ap event_key same) ∙ ap (option_and_then (rollup_of base.portfolio id)) its ∙ ap (λ i. rollup_of base.portfolio i event) (sym same) ∙ made)

    rollups_shown : at view_cmp (key.Rollup id) (view base) ≡ option_map (λ rollup. content.Rollup rollup) (rollup_at base.mirror base.portfolio id)
    rollups_shown = by (rollup_at base.mirror base.portfolio id) refl
      where
        among : (rollup : Rollup) (mark : Option Mark) → at mirror_cmp (event_key id) base.mirror ≡ mark → of_mark mark ≡ Some rollup → Contains (then_rollups base) (key.Rollup id, content.Rollup rollup)
        among rollup None known is = absurd (cc)
        among rollup (Some mark) known is =
            in_flat (rollup_rows base) base.mirror (event_key id, mark) (key.Rollup id, content.Rollup rollup) (Contains-from_lookup (tells_apart mirror_exact) (event_key id) mark base.mirror known)
            (subst (λ o. Contains (rolled_up id o) (key.Rollup id, content.Rollup rollup)) (sym is) (0, omega arith, refl))

        by : (o : Option Rollup) → rollup_at base.mirror base.portfolio id ≡ o → at view_cmp (key.Rollup id) (view base) ≡ option_map (λ rollup. content.Rollup rollup) o
        by None is = nothing_at (key.Rollup id) (λ c there. absurd (false≢true (subst IsSome is (rolled_up_there c there))))
        by (Some rollup) is =
            stands_at (key.Rollup id) (content.Rollup rollup)
            (Contains-append_right (shown_first base ++ then_reports base) (then_rollups base) (key.Rollup id, content.Rollup rollup) (among rollup (at mirror_cmp (event_key id) base.mirror) refl is))

pub others_shown : ReportsAndRollupsAreShown
others_shown base stands = record { reports = reports_shown base stands; rollups = rollups_shown base stands }
