-- Stamps tell when something appeared, and when it was last changed.
use Rattle.std.proofs.Common.{◌≡◌, ℕ, Option, Some, None, refl, sym, ap, ◌∙◌}
use Rattle.std.specs.Prelude.{is_some, IfOk}
use Rattle.std.proofs.lemmas.Option.{same_Some}
use Rattle.adr_objects.specs.declared.shown.Stamps.{Stamps}
use Rattle.adr_state.specs.declared.keys.ViewKey.{ViewKey}
use Rattle.adr_view.specs.declared.view.Content.{Content}
use Rattle.adr_view.specs.Changes.{restamped, stamps_by}
use Rattle.adr_view.specs.Same.{is_same_content}
use Rattle.adr_view.specs.Views.{view}
use Rattle.adr_view.proofs.LawLemmas.{contents_equal}
use Rattle.adr_view.proofs.ShownLemmas.{shown_in_order}
use Rattle.adr_refresh.proofs.ChangeLemmas.{at-restamped, same_itself, stamp_at}
use Rattle.adr_laws.proofs.Common.{Base, State, at, false_from_ne_true, false≢true, view_cmp}
use Rattle.adr_laws.proofs.Decisions.{after_step, base_after, next_by, state_by}
use Rattle.adr_laws.proofs.StampLemmas.{same_view}
use Rattle.adr_view_laws.specs.ToldStamps.{StampsAreTold, StampsTell}

module _ (s : State) (now : ℕ) (k : ViewKey) (shown : Content) where
  -- ---- an edit

  module _ (base : Base) (is : at view_cmp k (view base) ≡ Some shown) where
    -- the stamps then, by what was shown there and what its stamps were
    by_both : (old : Option Content) (had : Option Stamps) → at view_cmp k (view s.base) ≡ old → at view_cmp k s.stamps ≡ had → at view_cmp k (restamped s.stamps (view s.base) (view base) now) ≡ Some (stamps_by old had now shown)
    by_both old had was stood = at-restamped k s.stamps (view s.base) (view base) now (shown_in_order base) ∙ (λ i. stamp_at (was i) (is i) now (stood i))

    edit_tells : (after : State) → after.stamps ≡ restamped s.stamps (view s.base) (view base) now → StampsTell now s after k shown
    edit_tells after same = record {
      appears = λ none. its ∙ by_both None (at view_cmp k s.stamps) none refl;
      differs = λ old stamps was stood differ. its ∙ by_both (Some old) (Some stamps) was stood ∙ rw (false_from_ne_true (is_same_content old shown) (λ alike. differ ((contents_equal old shown).0 alike))) refl;
      stays = λ stamps was stood. its ∙ by_both (Some shown) (Some stamps) was stood ∙ rw (same_itself shown) refl;
    }
      where
        its : at view_cmp k after.stamps ≡ at view_cmp k (restamped s.stamps (view s.base) (view base) now)
        its = ap (at view_cmp k) same

  -- ---- a command about an entry

  quiet_tells : (after : State) → after.stamps ≡ s.stamps → at view_cmp k (view s.base) ≡ Some shown → StampsTell now s after k shown
  quiet_tells after same is = record {
    appears = λ none. absurd (false≢true (ap is_some (sym none ∙ is)));
    differs = λ old stamps was stood differ. absurd (differ (same_Some old shown (sym was ∙ is)));
    stays = λ stamps was stood. ap (at view_cmp k) same ∙ stood;
  }

pub stamps_told : StampsAreTold
stamps_told settings s c = after_step settings s c (λ r. IfOk r (λ taken. (k : ViewKey) (shown : Content) → at view_cmp k (view taken.1.base) ≡ Some shown → StampsTell c.0 s taken.1 k shown)) (λ refusal. tt)
    (λ a o is done k shown found. quiet_tells s c.0 k shown (record s { outbox = o }) refl found)
    (λ d a is k shown found.
    let base : Base = base_after s.base c.1 d in
    edit_tells s c.0 k shown base (ap (at view_cmp k) (sym (same_view base (next_by settings s c d).1)) ∙ found) (state_by settings s c d) refl)
