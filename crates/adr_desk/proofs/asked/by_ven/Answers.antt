use Rattle.std.proofs.Common.{◌≡◌, ℕ, Option, Some, None, sym, subst, ◌∙◌}
use Rattle.std.proofs.lemmas.Option.{same_Some}
use Rattle.adr_db.proofs.Results.{ok_then}
use Rattle.adr_touched.specs.Touched.{CoversVen}
use Rattle.adr_desk.proofs.asked.by_ven.Goals as goal

pub returns-in-Some-clause-finds : goal.returns-in-Some-clause-finds
returns-in-Some-clause-finds g c clean =
    ok_then c.touched_by_ven.result (λ touched finds beside base was.
    let it = finds beside base was in
    ((λ n is. subst (λ (m : ℕ). CoversVen m base touched) (same_Some c.in-Some.number n (sym c.in-Some.is ∙ c.number_in.ensures ∙ is)) it.0), it.1)) (c.touched_by_ven.ensures.finds clean)

pub returns-in-None-clause-finds : goal.returns-in-None-clause-finds
returns-in-None-clause-finds g c clean beside base was =
    ((λ n is. let two : ◌≡◌ {A = Option ℕ} None (Some n) = sym c.in-None.is ∙ c.number_in.ensures ∙ is in absurd (cc two)), was)
