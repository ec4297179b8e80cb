-- What a command touched is visited one kind behind the other, as one visit of all its sources.
use Rattle.std.proofs.Common.{◌≡◌, ◌+◌, ℕ, List, [], ◌++◌, map, inl, refl, ◌∙◌}
use Rattle.std.specs.List.{All, Contains}
use Rattle.std.proofs.lemmas.List.Elements.{All-contains, Contains-append_left, Contains-append_right}
use Rattle.sqlite.specs.State.{State}
use Rattle.adr_subscription.specs.declared.kept_sub.Sub.{Sub}
use Rattle.adr_delivery.specs.declared.entry.Entry.{Entry}
use Rattle.adr_state.specs.declared.base.Base.{Base}
use Rattle.adr_state.specs.declared.keys.ViewKey.{ViewKey}
use Rattle.adr_state.specs.declared.limits.Settings.{Settings}
use Rattle.adr_view.specs.declared.view.Content.{Content}
use Rattle.adr_view.specs.Laws.{StandsInOrder}
use Rattle.adr_refresh.specs.Refresh.{kept_view}
use Rattle.adr_refresh.specs.Sources.{Source, source_cmp}
use Rattle.adr_refresh.proofs.Common.{IsStrictlySortedBy, each_there}
use Rattle.adr_db.specs.declared.meta.Meta.{Meta}
use Rattle.adr_db.specs.Bases.{Beside, kept_beside, HoldsBeside}
use Rattle.adr_db.specs.Images.{outbox_of}
use Rattle.adr_kept_view.specs.KeptViews.{KeepsView}
use Rattle.adr_kept_view.specs.Refreshed.{Part}
use Rattle.adr_kept_base.specs.Bases.{owner_between}
use Rattle.adr_kept_base.proofs.OwnerLemmas.{as_it_changes}
use Rattle.adr_touched.specs.declared.touched.Touched.{Touched}
use Rattle.adr_visit.specs.declared.visit.Visit.{Visit}
use Rattle.adr_visit.specs.Visits.{Begins, IsAt, IsTrail}
use Rattle.adr_told.specs.Laws.{IsUntouched, AreToldAsWhole}
use Rattle.adr_told.proofs.Commits.{joined, none_touched, others_untouched}
use Rattle.adr_commit.specs.Commits.{IsEdited}
use Rattle.adr_commit.proofs.Sorted.{sorted_left, all_below}

module _ (settings : Settings) (before after : Base) (beside : Beside) (now : ℕ) (numbers : Meta) (touched : Touched) (it : IsEdited before after beside numbers touched) (stands : StandsInOrder after) where
  abbrev pub owner : ℕ → ℕ
  owner = owner_between before.portfolio after.portfolio

  abbrev pub subs : List (ℕ × Sub)
  subs = after.portfolio.subs

  -- these sources were visited, and these are not touched yet
  pub record IsVisited (ss ts : List Source) (visit : Visit) (then : Meta) (s : State) : Type 0 where
    pub last : List (ViewKey × Content)
    pub end : Beside
    pub entries : List Entry
    pub told : AreToldAsWhole settings.client subs owner before beside.stamps after now ss (kept_view before) beside last end entries visit.many
    pub at : IsAt settings.limits numbers owner after last end entries visit then s
    pub untouched : All (IsUntouched before beside.stamps last end) ts

  pub nothing_visited : (ts : List Source) (visit : Visit) (s : State) → Begins settings.limits numbers (kept_beside beside after) visit → HoldsBeside beside after s → IsVisited [] ts visit numbers s
  nothing_visited ts visit s begins held =
      let so = as_it_changes beside before after it.stood it.vens it.keeps in
      record {
        last = kept_view before;
        end = beside;
        entries = [];
        told = record { counted = begins.none; entries = refl; kept = refl; stamped = refl; alone = refl; keeps = so.0 };
        at = record {
          come = record { come = begins.come; written = λ had. inl (refl, refl, held); tables = (outbox_of numbers (kept_beside beside after), held) };
          keeps = so.0;
          owns = so.2;
          sharing = begins.sharing;
          listening = begins.listening;
          waits = it.waits;
          drawn = it.drawn;
        };
        untouched = each_there (IsUntouched before beside.stamps (kept_view before) beside) ts (λ s there. none_touched before beside s it.stood);
      }

  module _ {I C : Type 0} (part : Part I C) (tell : List (ℕ × Sub) → I → C → List Entry) where
    -- items that are not touched yet are told as the machine tells their sources
    abbrev pub AsWhole : Type 0
    AsWhole = (items : List I) (rows : List (ViewKey × Content)) (there : Beside) (last : List (ViewKey × Content)) (end : Beside) (es : List Entry) (many : ℕ) → IsStrictlySortedBy source_cmp (map part.source items) → All (part.WasSo before) items → KeepsView owner rows there
        → All (IsUntouched before beside.stamps rows there) (map part.source items) → IsTrail part (tell subs) owner before after now rows there items last end es many
        → AreToldAsWhole settings.client subs owner before beside.stamps after now (map part.source items) rows there last end es many

    -- what a visit of them says that is begun here
    abbrev pub Goes : List I → Visit → Visit → Meta → Meta → State → State → Type 0
    Goes items visit later numbers then old new =
        (first : Meta) (owner : ℕ → ℕ) (before base : Base) (rows : List (ViewKey × Content)) (beside : Beside) (es : List Entry) → All (part.WasSo before) items → IsAt settings.limits first owner base rows beside es visit numbers old
        → (last : List (ViewKey × Content)) × (end : Beside) × (further : List Entry) × (many : ℕ) × IsTrail part (tell base.portfolio.subs) owner before base now rows beside items last end further many × (later.many ≡ visit.many + many)
        × IsAt settings.limits first owner base last end (es ++ further) later then new

    pub then_visited : AsWhole → (ss ts : List Source) (items : List I) (visit later : Visit) (far then : Meta) (old new : State) → IsStrictlySortedBy source_cmp (map part.source items ++ ts) → All (part.WasSo before) items
        → Goes items visit later far then old new → IsVisited ss (map part.source items ++ ts) visit far old → IsVisited (ss ++ map part.source items) ts later then new
    then_visited whole ss ts items visit later far then old new up were goes was =
        let its = map part.source items in
        let out = goes numbers owner before after was.last was.end was.entries were was.at in
        let here : (t : Source) → Contains (its ++ ts) t → IsUntouched before beside.stamps was.last was.end t = λ t there. All-contains (IsUntouched before beside.stamps was.last was.end) (its ++ ts) t was.untouched there in
        let one = whole items was.last was.end out.0 out.1 out.2 out.3 (sorted_left source_cmp its ts up) were was.at.keeps (each_there (IsUntouched before beside.stamps was.last was.end) its (λ t there. here t (Contains-append_left its ts t there))) out.4 in
        let both = joined settings.client subs owner before beside.stamps after now ss its (kept_view before) was.last out.0 beside was.end out.1 was.entries out.2 visit.many out.3 was.told one in
        record {
          last = out.0;
          end = out.1;
          entries = was.entries ++ out.2;
          told = record { counted = out.5 ∙ both.counted; entries = both.entries; kept = both.kept; stamped = both.stamped; alone = both.alone; keeps = both.keeps };
          at = out.6;
          untouched = each_there (IsUntouched before beside.stamps out.0 out.1) ts (λ t there.
              others_untouched settings.client subs owner before beside.stamps after now its t was.last out.0 was.end out.1 out.2 out.3 stands (all_below source_cmp its ts up t there) (here t (Contains-append_right its ts t there)) one);
        }
