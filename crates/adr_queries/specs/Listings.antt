-- What a role is told of vens, resources and shares.
use Rattle.std.specs.Prelude.{ℕ, not, ◌==◌, List, map, filter, take, drop, Option, None, Some, Result, Ok, Err, if◌then◌else◌}
use Rattle.std.specs.Str.{bytes_eq}
use Rattle.adr_text.specs.Refusals.{◌>>=◌}
use Rattle.adr_text.specs.declared.refusal.Refusal.{Refusal}
use Rattle.adr_text.specs.declared.refusal.Refusal.TheVariants.{NotFound, Forbidden}
use Rattle.adr_state.specs.declared.base.Base.{Base}
use Rattle.adr_state.specs.declared.portfolio.Ven.{Ven}
use Rattle.adr_state.specs.declared.portfolio.Resource.{Resource}
use Rattle.adr_queries.specs.declared.role.Role.{Role}
use Rattle.adr_view.specs.declared.sight.Sight.{Sight}
use Rattle.adr_view.specs.Sights.{sees_ven}
use Rattle.adr_queries.specs.declared.query.Page.{Page}
use Rattle.adr_queries.specs.declared.answer.Object.{Object}
use Rattle.adr_queries.specs.declared.answer.Answer.{Answer}
use Rattle.adr_queries.specs.declared.answer.Answer.TheVariants as answer
use Rattle.adr_queries.specs.declared.answer.Object.TheVariants as object
use Rattle.adr_queries.specs.Roles.{is_operator, sight_of}
use Rattle.adr_state.specs.Vens.{ven_with_id, ven_at, ven_object}
use Rattle.adr_state.specs.Resources.{resource_with_id, is_under, resource_object}
use Rattle.adr_state.specs.Shares.{share_object}

-- after the first ones, at most so many
abbrev pub page_of : Page → List Object → List Object
page_of page objects = take page.limit (drop page.skip objects)

-- ---- vens

-- the vens in sight, by number: a ven sees itself alone
abbrev pub vens_in_sight : Base → Sight → List Object
vens_in_sight base sight = map (λ v. object.Ven (ven_object v)) (filter (λ v. sees_ven sight v.0) base.portfolio.vens)

-- one page of the vens in sight, by number
abbrev pub vens_reply : Base → Role → Page → Result Answer Refusal
vens_reply base role page = sight_of base role >>= λ sight. Ok (answer.List (page_of page (vens_in_sight base sight)))

-- one that is out of sight is forbidden
abbrev pub ven_told : Sight → Option (ℕ × Ven) → Result Answer Refusal
ven_told sight None = Err NotFound
ven_told sight (Some (n, ven)) = if sees_ven sight n then Ok (answer.Object (object.Ven (ven_object (n, ven)))) else Err Forbidden

-- the ven of an id: one that isn't there is 6, one that is out of sight 8
abbrev pub ven_reply : Base → Role → List ℕ → Result Answer Refusal
ven_reply base role id = sight_of base role >>= λ sight. ven_told sight (ven_with_id id base.portfolio)

-- ---- resources

-- the resources of a ven, by number
abbrev pub resources_of : Base → ℕ → List Object
resources_of base ven = map (λ r. object.Resource (resource_object r)) (filter (λ r. r.1.ven == ven) base.portfolio.resources)

-- the list of a ven that is out of sight is forbidden
abbrev pub resources_told : Base → Page → Sight → Option ℕ → Result Answer Refusal
resources_told base page sight None = Err NotFound
resources_told base page sight (Some ven) = if sees_ven sight ven then Ok (answer.List (page_of page (resources_of base ven))) else Err Forbidden

-- one page of the resources of the ven of an id, by number: a ven that isn't there is 6, one out of sight 8
abbrev pub resources_reply : Base → Role → List ℕ → Page → Result Answer Refusal
resources_reply base role ven page = sight_of base role >>= λ sight. resources_told base page sight (ven_at ven base.portfolio)

-- one that is out of sight is forbidden, whatever ven the path names; one under another ven than its own isn't there
abbrev pub resource_told : Base → List ℕ → Sight → Option (ℕ × Resource) → Result Answer Refusal
resource_told base ven sight None = Err NotFound
resource_told base ven sight (Some (n, resource)) =
    if not (sees_ven sight resource.ven) then Err Forbidden
    else (if is_under ven base.portfolio resource then Ok (answer.Object (object.Resource (resource_object (n, resource)))) else Err NotFound)

-- the resource of an id: one that isn't there is 6, one that is out of sight 8, whatever ven is named with it, and
-- one under another ven than its own 6
abbrev pub resource_reply : Base → Role → List ℕ → List ℕ → Result Answer Refusal
resource_reply base role ven id = sight_of base role >>= λ sight. resource_told base ven sight (resource_with_id id base.portfolio)

-- ---- shares

-- the shares in a program, by resource number
abbrev pub shares_of : Base → List ℕ → List Object
shares_of base program = map (λ s. object.Share (share_object s)) (filter (λ s. bytes_eq s.0.program program) base.portfolio.shares)

-- all shares in a program, by resource number: only the operator sees shares
abbrev pub shares_reply : Base → Role → List ℕ → Result Answer Refusal
shares_reply base role program = if is_operator role then Ok (answer.List (shares_of base program)) else Err Forbidden
