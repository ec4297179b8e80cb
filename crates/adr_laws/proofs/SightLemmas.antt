-- Programs and events in sight: none lacks for want of stamps, and what stands at a key is told, but for roll-ups.
use Rattle.std.proofs.Common.{◌≡◌, List, [], ◌∷◌, ◌&&◌, Bool, true, Option, Some, None, refl, sym, subst, ap, ◌∙◌}
use Rattle.std.specs.Prelude.{IsSome, option_and_then}
use Rattle.std.specs.List.{AllZip, filter_map, cons_option}
use Rattle.std.proofs.lemmas.Map.Views.{IsSome-lookup_from_Contains}
use Rattle.adr_laws.proofs.Common.{All, All-contains, AllByRecursion, keys_of, eq_by_cmp_equiv, false≢true, recursion_from_All, Base, view_cmp, at, Contains-from_lookup, tells_apart}
use Rattle.adr_objects.specs.declared.kind.Kind.{Kind}
use Rattle.adr_objects.specs.declared.kind.Kind.TheVariants as kind
use Rattle.adr_objects.specs.declared.shown.Stamps.{Stamps}
use Rattle.adr_state.specs.declared.keys.ViewKey.{ViewKey}
use Rattle.adr_state.specs.declared.keys.ViewKey.TheVariants as key
use Rattle.adr_view.specs.declared.view.Content.{Content}
use Rattle.adr_view.specs.declared.view.Content.TheVariants as content
use Rattle.adr_view.specs.Views.{rows_shown, view}
use Rattle.adr_event_text.specs.Kept.{kept_as}
use Rattle.adr_queries.specs.declared.answer.Object.{Object}
use Rattle.adr_queries.specs.declared.answer.Object.TheVariants as object
use Rattle.adr_queries.specs.Shown.{is_of, sees, rows_in_sight, object_of, object_at}
use Rattle.adr_laws.specs.Told.{Tells, is_object}
use Rattle.adr_laws.specs.Laws.{ObjectsLackNone, ShownIsTold}
use Rattle.adr_view.proofs.KeyLemmas.{view_exact}
use Rattle.adr_view.proofs.OrderLemmas.{each_row}
use Rattle.adr_view.proofs.RowLemmas.{each_there, from_filter}
use Rattle.adr_view.proofs.ShownLemmas.{view_total}
use Rattle.adr_view.proofs.ViewLemmas.{each_by_mark, each_rollup, each_shown, from_view}

-- ---- at each key stands what it is a key of

abbrev Fits : ViewKey × Content → Type 0
Fits (key.Program id, content.Program name) = Unit {0}
Fits (key.Event id resource, content.Event shown) = Unit {0}
Fits (key.Report n, content.Report body) = Unit {0}
Fits (key.Rollup id, content.Rollup rollup) = Unit {0}
Fits _ = ⊥

view_fits : (base : Base) → All Fits (view base)
view_fits base = each_there Fits (view base) (λ r there. All-contains Fits (rows_shown base) r
    (each_shown base Fits (λ e known. each_by_mark base (λ k. Fits) (λ id name. tt) (λ id event splits p. tt) e) (λ report known. tt) (λ e known. each_rollup base Fits e (λ event rollup is made. tt))) (from_view base r there))

-- ---- what is told of them

module _ (stamps : List (ViewKey × Stamps)) where
  -- it is stamped, and of the kind that its key says
  abbrev IsReady : ViewKey × Content → Type 0
  IsReady r = Fits r × IsSome (at view_cmp r.0 stamps)

  -- so an object tells it
  abbrev IsTold : ViewKey × Content → Type 0
  IsTold r = (o : Object) × (object_at stamps r ≡ Some o) × Tells stamps r o

  -- where it is of a kind that is told so
  abbrev IsTellable : ViewKey × Content → Type 0
  IsTellable r = (is_object r.0 ≡ true) × IsReady r

  -- with the stamps that stand there
  told_by : (k : ViewKey) (c : Content) → ((s : Stamps) → at view_cmp k stamps ≡ Some s → (o : Object) × (object_of k c s ≡ Some o) × Tells stamps (k, c) o) → IsSome (at view_cmp k stamps) → IsTold (k, c)
  told_by k c tells = by (at view_cmp k stamps) refl
    where
      by : (s : Option Stamps) → at view_cmp k stamps ≡ s → IsSome s → IsTold (k, c)
      by None is some = absurd (false≢true some)
      by (Some s) is some = let o = tells s is in (o.0, ap (option_and_then (object_of k c)) is ∙ o.1, o.2)

  told_of : (r : ViewKey × Content) → IsTellable r → IsTold r
  told_of (key.Program id, content.Program name) h = told_by (key.Program id) (content.Program name) (λ s is. (object.Program (record { id = id; name = name; stamps = s }), refl, (s, is, refl))) h.1.1
  told_of (key.Program id, content.Event shown) h = absurd h.1.0
  told_of (key.Program id, content.Report body) h = absurd h.1.0
  told_of (key.Program id, content.Rollup rollup) h = absurd h.1.0
  told_of (key.Event id resource, content.Program name) h = absurd h.1.0
  told_of (key.Event id resource, content.Event shown) h =
      told_by (key.Event id resource) (content.Event shown) (λ s is. (object.Event (kept_as resource id shown s), refl, (s, is, refl))) h.1.1
  told_of (key.Event id resource, content.Report body) h = absurd h.1.0
  told_of (key.Event id resource, content.Rollup rollup) h = absurd h.1.0
  told_of (key.Report n, content.Program name) h = absurd h.1.0
  told_of (key.Report n, content.Event shown) h = absurd h.1.0
  told_of (key.Report n, content.Report body) h = told_by (key.Report n) (content.Report body) (λ s is. (object.Report (record { number = n; body = body; stamps = s }), refl, (s, is, refl))) h.1.1
  told_of (key.Report n, content.Rollup rollup) h = absurd h.1.0
  told_of (key.Rollup id, c) h = absurd (false≢true h.0)

  told : (rows : List (ViewKey × Content)) → AllByRecursion IsTellable rows → AllZip (Tells stamps) rows (filter_map (object_at stamps) rows)
  told [] h = tt
  told (r ∷ rows) h = let one = told_of r h.0 in subst (λ o. AllZip (Tells stamps) (r ∷ rows) (cons_option o (filter_map (object_at stamps) rows))) (sym one.1) (one.2, told rows h.1)

  ready : (base : Base) → keys_of stamps ≡ keys_of (view base) → All IsReady (view base)
  ready base same i d l = (view_fits base i d l, stamped i d l)
    where
      stamped : All (λ r. IsSome (at view_cmp r.0 stamps)) (view base)
      stamped =
          each_row (λ k. IsSome (at view_cmp k stamps)) (view base)
          (subst (All (λ k. IsSome (at view_cmp k stamps))) same (each_there (λ k. IsSome (at view_cmp k stamps)) (keys_of stamps) (λ k there. IsSome-lookup_from_Contains (eq_by_cmp_equiv view_total) k stamps there)))

-- what is of a kind that is listed is an object
listed_object : (kind : Kind) (k : ViewKey) (seen : Bool) → (is_of kind k && seen) ≡ true → is_object k ≡ true
listed_object kind.Program (key.Program id) seen is = refl
listed_object kind.Program (key.Event id resource) seen is = refl
listed_object kind.Program (key.Report n) seen is = refl
listed_object kind.Program (key.Rollup id) seen is = absurd (false≢true is)
listed_object kind.Event (key.Program id) seen is = refl
listed_object kind.Event (key.Event id resource) seen is = refl
listed_object kind.Event (key.Report n) seen is = refl
listed_object kind.Event (key.Rollup id) seen is = absurd (false≢true is)

pub objects_lack_none : ObjectsLackNone
objects_lack_none s kind sight stamped =
    let rows = rows_in_sight s.base kind sight in
    let ready = ready s.stamps s.base stamped.those_of_the_view in
    told s.stamps rows
    (recursion_from_All (IsTellable s.stamps) rows
    (each_there (IsTellable s.stamps) rows (λ r there.
    let of_view = from_filter (λ r. is_of kind r.0 && sees s.base sight r.0) (view s.base) r there in
    (listed_object kind r.0 (sees s.base sight r.0) of_view.1, All-contains (IsReady s.stamps) (view s.base) r ready of_view.0))))

pub shown_is_told : ShownIsTold
shown_is_told s k c stamped object found =
    let is_ready = All-contains (IsReady s.stamps) (view s.base) (k, c) (ready s.stamps s.base stamped.those_of_the_view) (Contains-from_lookup (tells_apart view_exact) k c (view s.base) found) in
    let one = told_of s.stamps (k, c) (object, is_ready) in
    (one.0, ap (option_and_then (λ c. object_at s.stamps (k, c))) found ∙ one.1, one.2)
