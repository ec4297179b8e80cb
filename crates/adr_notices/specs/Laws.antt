-- Laws of what is told, whatever the definitions are given.
use Rattle.std.specs.Prelude.{◌≡◌, ℕ, List, map, filter, Option, Some, None, is_some}
use Rattle.adr_objects.specs.declared.shown.Stamps.{Stamps}
use Rattle.adr_subscription.specs.declared.kept_sub.Sub.{Sub}
use Rattle.adr_delivery.specs.Entries.{destination}
use Rattle.adr_state.specs.declared.base.Base.{Base}
use Rattle.adr_state.specs.declared.keys.ViewKey.{ViewKey}
use Rattle.adr_state.specs.Keys.{view_cmp, at}
use Rattle.adr_view.specs.declared.view.Content.{Content}
use Rattle.adr_view.specs.declared.changes.Operation.{Operation}
use Rattle.adr_view.specs.declared.sight.Sight.{Sight}
use Rattle.adr_view.specs.declared.sight.Sight.TheVariants.{All, Of}
use Rattle.adr_view.specs.Laws.{StandsInOrder}
use Rattle.adr_view.specs.Views.{view}
use Rattle.adr_queries.specs.Shown.{sees}
use Rattle.adr_notices.specs.declared.notice.Notice.{Notice}
use Rattle.adr_notices.specs.Notices.{notice_of}
use Rattle.adr_notices.specs.Matching.{is_in_sight, matching, entries_of}

-- the entries of a change go to exactly the subscriptions that match, each of which gets one, in the order of their numbers
abbrev pub EachMatchIsToldOnce : Type 0
EachMatchIsToldOnce = (subs : List (ℕ × Sub)) (n : Notice) → map (λ e. destination e.addressee) (entries_of subs n) ≡ map (λ s. s.0) (filter (λ s. is_some (matching s.1 n)) subs)

-- what the owner of a subscription sees as one who asks
abbrev pub owner_sight : Option ℕ → Sight
owner_sight None = All
owner_sight (Some ven) = Of ven

-- where rows stand in order, and something is told of what the view has at a key, an owner sees it exactly where that one sees by asking what stands at the key
abbrev pub ToldIsInSight : Type 0
ToldIsInSight = (base : Base) (stamps : List (ViewKey × Stamps)) (operation : Operation) (k : ViewKey) (c : Content) (n : Notice) (owner : Option ℕ) → StandsInOrder base → at view_cmp k (view base) ≡ Some c → notice_of base stamps operation (k, c) ≡ Some n
    → is_in_sight owner n ≡ sees base (owner_sight owner) k
