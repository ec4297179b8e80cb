-- Where nothing else is shown behind an edit, all is committed with no visit.
use Rattle.std.proofs.Common.{◌≡◌, ℕ, [], ⊎_elim, refl, sym, ap, ◌∙◌}
use Rattle.adr_state.specs.declared.base.Base.{Base}
use Rattle.adr_state.specs.declared.limits.Settings.{Settings}
use Rattle.adr_view.specs.Laws.{StandsInOrder}
use Rattle.adr_view.specs.Views.{view}
use Rattle.adr_refresh.specs.Laws.{HasAllThatDiffer}
use Rattle.adr_refresh.specs.Maps.{rows_at}
use Rattle.adr_refresh.specs.Refresh.{kept_view}
use Rattle.adr_refresh.specs.Sources.{Source, source_cmp, is_of, rows_of}
use Rattle.adr_refresh.proofs.Common.{IsStrictlySortedBy, at, cases_Bool, in_order_filtered, shown_in_order, view_cmp, view_exact, view_total}
use Rattle.adr_refresh.proofs.MapLemmas.{at-rows_at, same_maps}
use Rattle.adr_refresh.proofs.SourceLemmas.{its_source, rows_in_order, rows_own}
use Rattle.adr_refresh.proofs.ViewLemmas.{view_of_sources}
use Rattle.adr_db.specs.declared.meta.Meta.{Meta}
use Rattle.adr_db.specs.Bases.{Beside}
use Rattle.adr_kept_base.proofs.OwnerLemmas.{as_it_changes}
use Rattle.adr_touched.specs.declared.touched.Touched.{Touched}
use Rattle.adr_told.specs.Commits.{IsAsComputed}
use Rattle.adr_told.proofs.Commits.{as_computed}
use Rattle.adr_commit.specs.Commits.{IsEdited}

-- what is shown of a source are the rows of the view at its keys
pub rows_in_view : (base : Base) → StandsInOrder base → (s : Source) → rows_at (is_of s) (view base) ≡ rows_of base s
rows_in_view base stands s =
    same_maps view_total view_exact (rows_at (is_of s) (view base)) (rows_of base s) (in_order_filtered view_cmp (λ r. is_of s r.0) (view base) (shown_in_order base)) (rows_in_order base stands s) (λ q.
    at-rows_at view_total view_exact q (is_of s) (view base)
    ∙ ⊎_elim
    (λ is. rw is (view_of_sources base stands q ∙ ap (λ (t : Source). at view_cmp q (rows_of base t)) (its_source s q is)))
    (λ other. rw other (sym (rows_own base s q other)))
    (cases_Bool (is_of s q)))

-- of the last number that was drawn nothing is shown
same_view : (base : Base) (serial : ℕ) → view (record base { serial = serial }) ≡ view base
unfolding view
same_view base serial = refl

pub same_rows : (base : Base) (serial : ℕ) → StandsInOrder base → (s : Source) → rows_of (record base { serial = serial }) s ≡ rows_of base s
same_rows base serial stands s =
    sym (rows_in_view (record base { serial = serial }) (record { upstream_keys = stands.upstream_keys; resources = stands.resources; reports = stands.reports }) s)
    ∙ ap (rows_at (is_of s)) (same_view base serial)
    ∙ rows_in_view base stands s

none_differ : (before after : Base) → StandsInOrder before → StandsInOrder after → view after ≡ view before → HasAllThatDiffer before after []
none_differ before after stood stands same s out = sym (rows_in_view before stood s) ∙ ap (rows_at (is_of s)) (sym same) ∙ rows_in_view after stands s

none_sorted : IsStrictlySortedBy source_cmp []
unfolding IsStrictlySortedBy
none_sorted = tt

pub untouched : (settings : Settings) (before after : Base) (beside : Beside) (now : ℕ) (numbers : Meta) (touched : Touched) → IsEdited before after beside numbers touched → StandsInOrder after → view after ≡ view before
    → IsAsComputed settings.client after.portfolio.subs before after now beside beside [] 0
untouched settings before after beside now numbers touched it stands same =
    as_computed settings.client after.portfolio.subs before after now [] (kept_view before) beside beside [] 0 it.stood stands it.vens none_sorted (none_differ before after it.stood stands same) it.keeps (record {
      counted = refl;
      entries = refl;
      kept = refl;
      stamped = refl;
      alone = refl;
      keeps = (as_it_changes beside before after it.stood it.vens it.keeps).0;
    })
