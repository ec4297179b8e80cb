-- What a query is told by what was read for it.
use Rattle.std.proofs.Common.{◌≡◌, ℕ, true, List, [], ◌∷◌, Contains, Option, Some, None, Ok, IfErr, refl, sym, ap, ◌∙◌, arith}
use Rattle.adr_db.proofs.Common.{MirrorKey, Base, Forbidden}
use Rattle.adr_text.specs.declared.refusal.Refusal.TheVariants.{NotFound}
use Rattle.adr_objects.specs.declared.report.Rollup.{Rollup as RollupOf}
use Rattle.adr_view.specs.Rollups.{rollup_at}
use Rattle.adr_queries.specs.declared.role.Role.{Role}
use Rattle.adr_queries.specs.Reported.{rollup_told, rollup_reply}
use Rattle.adr_queries.specs.Roles.{is_operator}
use Rattle.adr_text.specs.Refusals.{◌>>=◌}
use Rattle.adr_queries.specs.declared.answer.Answer.TheVariants as answer
use Rattle.adr_queries.specs.Replies.{probes_reply}
use Rattle.adr_missed.specs.Missed.{missed}

-- the first keys that an open scan missed are told so
pub missed_told : (limit : ℕ) (base : Base) → probes_reply limit base base.scan ≡ (missed (Some limit) base >>= λ keys. Ok (answer.Probes keys))
missed_told limit base = by base.scan refl
  where
    by : (scan : Option (List MirrorKey)) → base.scan ≡ scan → probes_reply limit base base.scan ≡ (missed (Some limit) base >>= λ keys. Ok (answer.Probes keys))
    by None is = rw is refl
    by (Some polled) is = rw is refl

-- a roll-up that isn't there is refused as is listed
pub rollup_listed : (event : List ℕ) (found : Option RollupOf) → IfErr (rollup_told event found) (Contains (Forbidden ∷ NotFound ∷ []))
rollup_listed event None = (1, omega arith, refl)
rollup_listed event (Some rollup) = tt

-- the operator is told of the roll-up that is there
pub rollup_replied : (base : Base) (role : Role) (event id : List ℕ) (found : Option RollupOf) → is_operator role ≡ true → id ≡ event → found ≡ rollup_at base.mirror base.portfolio event → rollup_reply base role event ≡ rollup_told id found
rollup_replied base role event id found operator same is = rw operator (ap (rollup_told event) (sym is) ∙ ap (λ (i : List ℕ). rollup_told i found) (sym same))
