use Rattle.std.proofs.Common.{◌≤◌, ℕ, List, Option, length, ap, arith, ◌∙◌}
use Rattle.std.proofs.lemmas.List.Sums.{length-filter, count_by-le-length}
use Rattle.adr_db.proofs.Common.{Participant}
use Rattle.adr_db.specs.Sharing.{those_for}
use Rattle.adr_state.specs.Participants.{is_for}
use Rattle.adr_state.specs.Weights.{most_resources}
use Rattle.adr_db_portfolio.proofs.participant.Sharers.sharing.Goals as goal

pub returns-clause-finds : goal.returns-clause-finds
returns-clause-finds g c clean kept was right =
    let found = c.in_ok-read.ensures.finds clean kept was right in
    (c.from_vec.ensures ∙ c.in_ok-ps.ensures ∙ ap (those_for c.args.event.now.resource_names) (c.as_slice.ensures ∙ found.0), found.1, found.2)

-- those of some names are no more than all
no_more : (names : Option (List (List ℕ))) (all : List Participant) → length (those_for names all) ≤ length all
no_more names all = omega (arith, length-filter (λ (p : Participant). is_for names p.name) all, count_by-le-length (λ (p : Participant). is_for names p.name) all)

pub returns-clause-few : goal.returns-clause-few
returns-clause-few g c =
    let names = c.args.event.now.resource_names in
    let known : length c.read.new.self.those ≤ most_resources = c.read.new.self.few in
    rw (c.from_vec.ensures ∙ c.in_ok-ps.ensures ∙ ap (those_for names) c.as_slice.ensures) (omega (arith, known, no_more names c.read.new.self.those))
