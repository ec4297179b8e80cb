-- What a role is told: what it sees is found first, and the rest is decided by that.
use Rattle.std.proofs.Common.{◌≡◌, Result, Ok, Err, refl}
use Rattle.std.specs.Result.{IsErrAnd}
use Rattle.adr_text.specs.Refusals.{◌>>=◌}
use Rattle.adr_db.proofs.Common.{Ghosts, Held, state, HasCleanDisk, Refusal}
use Rattle.adr_db.specs.BaseCalls.{Refuses}
use Rattle.adr_db.specs.Images.{image_kept}
use Rattle.adr_db.specs.Kept.{Kept}
use Rattle.adr_view.specs.declared.sight.Sight.{Sight}
use Rattle.adr_queries.specs.declared.answer.Answer.{Answer}
use Rattle.adr_queries.specs.declared.role.Role.{Role}
use Rattle.adr_queries.specs.Roles.{sight_of}
use Rattle.adr_answers.specs.Calls.{FindsOr}
use Rattle.adr_answers.proofs.Behind.{refused_first, finds_then, refuses_then}

module _ {S : Type 0} (g : Ghosts S) (old mid new : Held S) (role : Role) (next : Kept → Sight → Result Answer Refusal) where
  abbrev sees : Kept → Result Sight Refusal
  sees kept = sight_of (image_kept kept).base role

  abbrev told : Kept → Result Answer Refusal
  told kept = sees kept >>= next kept

  -- who sees nothing is refused
  pub unseen_refused : (r : Result Answer Refusal) (e : Refusal) → IsErrAnd r (λ x. x ≡ e) → Refuses g old mid {T = Sight} sees (Err e) → Refuses g old mid told r
  unseen_refused = refused_first g old mid mid told sees next (λ kept was. refl)

  -- who sees this much is told by that
  module _ (early : HasCleanDisk (state g new) → HasCleanDisk (state g mid)) (sight : Sight) (finds : FindsOr g old mid {E = Refusal} sees (Ok sight)) where
    pub seen_finds : (r : Result Answer Refusal) → FindsOr g mid new (λ kept. next kept sight) r → FindsOr g old new told r
    seen_finds = finds_then g old mid new told sees next (λ kept was. refl) early sight finds

    pub seen_refuses : (r : Result Answer Refusal) → Refuses g mid new (λ kept. next kept sight) r → Refuses g old new told r
    seen_refuses = refuses_then g old mid new told sees next (λ kept was. refl) early sight finds
