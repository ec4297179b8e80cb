-- Each subscription that matches is told once, and of what its owner sees.
use Rattle.std.proofs.Common.{◌≡◌, ℕ, List, [], ◌∷◌, map, filter, false, Option, Some, None, is_some, option_map, IfSome, refl, ap, subst, if◌then◌else◌}
use Rattle.std.specs.Prelude.{option_and_then}
use Rattle.std.specs.List.{cons_option}
use Rattle.std.specs.Option.{option_map_or}
use Rattle.std.specs.Ordering.{nat_cmp}
use Rattle.adr_objects.specs.declared.report.ReportBody.{ReportBody}
use Rattle.adr_objects.specs.declared.shown.Stamps.{Stamps}
use Rattle.adr_subscription.specs.declared.item.SubscriptionItem.{SubscriptionItem}
use Rattle.adr_subscription.specs.declared.words.OperationKind.{OperationKind}
use Rattle.adr_subscription.specs.declared.kept_sub.Sub.{Sub}
use Rattle.adr_delivery.specs.declared.entry.Entry.{Entry}
use Rattle.adr_delivery.specs.Entries.{destination}
use Rattle.adr_state.specs.declared.base.Base.{Base}
use Rattle.adr_state.specs.declared.portfolio.Report.{Report}
use Rattle.adr_state.specs.declared.keys.ViewKey.{ViewKey}
use Rattle.adr_state.specs.declared.keys.ViewKey.TheVariants as key
use Rattle.adr_state.specs.Keys.{view_cmp, at}
use Rattle.adr_view.specs.declared.view.Content.{Content}
use Rattle.adr_view.specs.declared.view.Content.TheVariants as content
use Rattle.adr_view.specs.declared.sight.Sight.TheVariants.{Of}
use Rattle.adr_view.specs.Laws.{StandsInOrder}
use Rattle.adr_view.specs.Views.{view}
use Rattle.adr_view.proofs.OtherLemmas.{others_shown}
use Rattle.adr_queries.specs.Shown.{sees, sees_owned, object_of}
use Rattle.adr_notices.specs.declared.notice.Notice.{Notice}
use Rattle.adr_notices.specs.Notices.{operation_kind, notice_about}
use Rattle.adr_notices.specs.Matching.{is_in_sight, matching, entry_by, entries_of}
use Rattle.adr_notices.specs.Laws.{EachMatchIsToldOnce, ToldIsInSight}

-- ---- each that matches is told once

abbrev goes_to : Entry → ℕ
goes_to e = destination e.addressee

abbrev matching_of : Notice → List (ℕ × Sub) → List (ℕ × Sub)
matching_of n subs = filter (λ s. is_some (matching s.1 n)) subs

pub told_once : EachMatchIsToldOnce
told_once [] n = refl
told_once (s ∷ subs) n = by (matching s.1 n) (told_once subs n)
  where
    by : (item : Option SubscriptionItem) → map goes_to (entries_of subs n) ≡ map (λ s. s.0) (matching_of n subs)
        → map goes_to (cons_option (option_map (entry_by s.0 n) item) (entries_of subs n)) ≡ map (λ s. s.0) (if is_some item then s ∷ matching_of n subs else matching_of n subs)
    by None rest = rest
    by (Some item) rest = ap (λ numbers. s.0 ∷ numbers) rest

-- ---- and of what its owner sees

module _ (base : Base) (stands : StandsInOrder base) (operation : OperationKind) (owner : ℕ) where
  -- of what is told of a key, and of what stands there, the same is in sight
  abbrev Agrees : ViewKey → Notice → Type 0
  Agrees k n = is_in_sight (Some owner) n ≡ sees base (Of owner) k

  -- a report that is shown is the one of its number
  of_report : (n : ℕ) (body : ReportBody) → at view_cmp (key.Report n) (view base) ≡ Some (content.Report body) → sees_owned base (Of owner) body.head.resource ≡ sees base (Of owner) (key.Report n)
  of_report n body is = by (at nat_cmp n base.portfolio.reports) ((others_shown base stands).reports n)
    where
      by : (r : Option Report) → at view_cmp (key.Report n) (view base) ≡ option_map (λ r. content.Report r.body) r → sees_owned base (Of owner) body.head.resource ≡ option_map_or (λ r. sees_owned base (Of owner) r.body.head.resource) r false
      by None shown = absurd (cc)
      by (Some r) shown = let same : body ≡ r.body = cc in ap (λ b. sees_owned base (Of owner) b.head.resource) same

  told_as : (k : ViewKey) (c : Content) (s : Stamps) → at view_cmp k (view base) ≡ Some c → IfSome (option_and_then (notice_about base operation) (object_of k c s)) (Agrees k)
  told_as (key.Program id) (content.Program name) s is = refl
  told_as (key.Event id resource) (content.Event shown) s is = refl
  told_as (key.Report n) (content.Report body) s is = of_report n body is
  told_as k c s is = tt

pub in_sight : ToldIsInSight
in_sight base stamps operation k c n None stands is told = refl
in_sight base stamps operation k c n (Some owner) stands is told = by (at view_cmp k stamps) told
  where
    by : (s : Option Stamps) → option_and_then (notice_about base (operation_kind operation)) (option_and_then (object_of k c) s) ≡ Some n → is_in_sight (Some owner) n ≡ sees base (Of owner) k
    by None told = absurd (cc)
    by (Some s) told = subst (λ o. IfSome o (Agrees base stands (operation_kind operation) owner k)) told (told_as base stands (operation_kind operation) owner k c s is)
