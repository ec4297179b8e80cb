use Rattle.std.proofs.Common.{◌≡◌, refl, sym, ap, ◌∙◌}
use Rattle.adr_state.specs.declared.base.Base.{Base}
use Rattle.adr_db.specs.Images.{image_kept}
use Rattle.adr_db.proofs.Results.{refused_so, found_so, refused_then}
use Rattle.adr_queries.specs.declared.role.Role.{Role}
use Rattle.adr_queries.specs.declared.role.Role.TheVariants.{Operator, Ven, Utility}
use Rattle.adr_queries.specs.Roles.{sight_of}
use Rattle.adr_answers.specs.Sights.{ven_of, sight_with}
use Rattle.adr_answers.proofs.sight.sight_in.Goals as goal

-- it goes by its ven alone
by_ven : (base : Base) (role : Role) → sight_of base role ≡ sight_with role (ven_of role base.portfolio)
by_ven base Operator = refl
by_ven base (Ven id) = refl
by_ven base Utility = refl

pub returns-clause-finds : goal.returns-clause-finds
returns-clause-finds g c clean =
    let role = c.args.role.now in
    found_so c.sight_with.result (λ sight is kept was.
    let found = c.in_ok-ven.ensures.finds clean kept was in
    (by_ven (image_kept kept).base role ∙ ap (sight_with role) (sym found.0) ∙ sym c.sight_with.ensures.gives ∙ is, found.1))

pub returns-clause-refuses : goal.returns-clause-refuses
returns-clause-refuses g c clean =
    let role = c.args.role.now in
    refused_then c.sight_with.result (λ e is kept was.
    let found = c.in_ok-ven.ensures.finds clean kept was in
    refused_so e _ (by_ven (image_kept kept).base role ∙ ap (sight_with role) (sym found.0) ∙ sym c.sight_with.ensures.gives ∙ is))
