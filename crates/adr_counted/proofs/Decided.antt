-- What is decided as a whole, where a part of it was decided before.
use Rattle.std.proofs.Common.{◌≡◌, Result, ◌∙◌}
use Rattle.adr_db.proofs.Common.{State, Refusal, Base, PortfolioChange}
use Rattle.adr_db.specs.declared.meta.Meta.{Meta}
use Rattle.adr_db.specs.Bases.{Beside}
use Rattle.adr_db.specs.BaseCalls.{IsCarriedOut}

-- what is carried out of a part is carried out of the whole, where that is decided as the part
pub carried_as : {A : Type 0} {whole part : Base → Result (A × PortfolioChange) Refusal} {beside : Beside} {base : Base} {before after : Meta} {x : A} {s : State} → IsCarriedOut part beside base before after x s
    → whole base ≡ part base → IsCarriedOut whole beside base before after x s
carried_as it same = record { change = it.change; decided = same ∙ it.decided; left = it.left }
