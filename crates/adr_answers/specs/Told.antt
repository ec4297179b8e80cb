-- What is told of what was read, each by its own rows.
use Rattle.std.specs.Prelude.{ℕ, false, not, ◌==◌, List, Option, None, Some, option_map, Result, Ok, Err, if◌then◌else◌}
use Rattle.std.specs.Option.{option_map_or}
use Rattle.adr_text.specs.Refusals.{◌>>=◌, or_else}
use Rattle.adr_text.specs.declared.refusal.Refusal.{Refusal}
use Rattle.adr_text.specs.declared.refusal.Refusal.TheVariants.{NotFound, Forbidden}
use Rattle.adr_objects.specs.declared.body.Body.TheVariants as body
use Rattle.adr_objects.specs.declared.kind.Kind.{Kind}
use Rattle.adr_objects.specs.declared.kind.Kind.TheVariants as kind
use Rattle.adr_objects.specs.declared.report.ReportBody.{ReportBody}
use Rattle.adr_objects.specs.declared.shown.Stamps.{Stamps}
use Rattle.adr_subscription.specs.declared.kept_sub.Sub.{Sub}
use Rattle.adr_state.specs.declared.base.Mark.{Mark}
use Rattle.adr_state.specs.declared.base.Mark.TheVariants.{Live}
use Rattle.adr_state.specs.declared.keys.MirrorKey.{MirrorKey}
use Rattle.adr_state.specs.declared.keys.ViewKey.{ViewKey}
use Rattle.adr_state.specs.declared.keys.ViewKey.TheVariants as key
use Rattle.adr_state.specs.declared.portfolio.Portfolio.{Portfolio}
use Rattle.adr_state.specs.declared.portfolio.Resource.{Resource}
use Rattle.adr_state.specs.declared.state.State.{State}
use Rattle.adr_state.specs.Keys.{mirror_cmp, at}
use Rattle.adr_state.specs.Resources.{resource_object}
use Rattle.adr_state.specs.Subs.{sub_object}
use Rattle.adr_state.specs.Vens.{ven_at}
use Rattle.adr_view.specs.declared.sight.Sight.{Sight}
use Rattle.adr_view.specs.declared.view.Content.TheVariants as content
use Rattle.adr_view.specs.Frozen.{frozen_pairs}
use Rattle.adr_view.specs.Sights.{sees_ven, sees_owner}
use Rattle.adr_queries.specs.declared.answer.Answer.{Answer}
use Rattle.adr_queries.specs.declared.answer.Answer.TheVariants as answer
use Rattle.adr_queries.specs.declared.answer.Object.TheVariants as object
use Rattle.adr_queries.specs.Frozen.{frozen_object}
use Rattle.adr_queries.specs.Shown.{object_at, sees_owned, told}

-- ---- resources

-- the resource that was found, where it is in sight: one that isn't there is 6, and one that is out of sight 8
abbrev pub resource_in_sight : Sight → Option (ℕ × Resource) → Result (ℕ × Resource) Refusal
resource_in_sight sight found = or_else NotFound found >>= λ r. if not (sees_ven sight r.1.ven) then Err Forbidden else Ok r

-- a resource, where it is of the ven of a number, and else 6
abbrev pub resource_of : Option ℕ → ℕ × Resource → Result Answer Refusal
resource_of ven r = if option_map_or (λ n. n == r.1.ven) ven false then Ok (answer.Object (object.Resource (resource_object r))) else Err NotFound

-- a resource, where it is of the ven of an id
abbrev pub resource_under : List ℕ → Portfolio → ℕ × Resource → Result Answer Refusal
resource_under ven p r = resource_of (ven_at ven p) r

-- ---- subscriptions

-- the subscription that was found: one that isn't there is 6, and one that is out of sight 8
abbrev pub sub_told : Sight → Option (ℕ × Sub) → Result Answer Refusal
sub_told sight found = (or_else NotFound found >>= λ s. if sees_owner sight s.1.owner then Ok s else Err Forbidden) >>= λ s. Ok (answer.Object (object.Sub (sub_object s)))

-- ---- reports

-- what a report says, by its number, where the resource that it is on is in sight, and else 8
abbrev pub body_told : State → Sight → ℕ → ReportBody → Result Answer Refusal
body_told s sight n body = if sees_owned s.base sight body.head.resource then told (object_at s.stamps (key.Report n, content.Report body)) else Err Forbidden

-- ---- frozen events

-- what is kept for the event of an id, as it is told, and 6 where it was never frozen
abbrev pub frozen_told : List ℕ → Portfolio → Result Answer Refusal
frozen_told event p = frozen_pairs event p >>= λ pairs. Ok (answer.Frozen (frozen_object event pairs))

-- ---- programs

-- the upstream key of the program of an id
abbrev pub program_key : List ℕ → MirrorKey
program_key id = record { kind = kind.Program; id = id }

-- the name of a program that is live, by what is known of it
abbrev pub name_in : Option Mark → Option (List ℕ)
name_in (Some (Live moment (body.Program name))) = Some name
name_in _ = None

-- a program of a name, with its stamps, and 6 where there is none
abbrev pub program_named : List (ViewKey × Stamps) → List ℕ → Option (List ℕ) → Result Answer Refusal
program_named stamps id None = Err NotFound
program_named stamps id (Some name) = told (object_at stamps (key.Program id, content.Program name))

-- the program of an id, by what is known of it
abbrev pub program_known : List (MirrorKey × Mark) → List (ViewKey × Stamps) → List ℕ → Result Answer Refusal
program_known mirror stamps id = program_named stamps id (name_in (at mirror_cmp (program_key id) mirror))

-- the name of a program that is live, by its mark; an event has none
abbrev pub named_by : Kind → Mark → Option (List ℕ)
named_by kind.Program mark = name_in (Some mark)
named_by kind.Event mark = None

-- the program of a row of the mirror, by its id and its name, where it is one that is live
abbrev pub program_in : MirrorKey × Mark → Option (List ℕ × List ℕ)
program_in e = option_map (λ name. (e.0.id, name)) (named_by e.0.kind e.1)
