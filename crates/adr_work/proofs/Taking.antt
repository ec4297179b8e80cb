-- Rounds at an office.
use Rattle.std.proofs.Common.{◌≡◌, List, [], ◌∷◌, ◌++◌, Result, sym, ap, ◌∙◌, append-nil}
use Rattle.std.specs.List.{flat_map}
use Rattle.std.proofs.lemmas.List.Concat.{flat_map-append}
use Rattle.std.proofs.lemmas.List.Elements.{All-nil, All-push}
use Rattle.adr_text.specs.declared.refusal.Refusal.{Refusal}
use Rattle.adr_link.specs.Upstreams.{UpstreamParts}
use Rattle.adr_lock.specs.Steps.{Step}
use Rattle.adr_work.specs.declared.page.PollEnd.{PollEnd}
use Rattle.adr_work.specs.Exchanges.{Exchange}
use Rattle.adr_work.specs.Tellings.{Told, accepted}
use Rattle.adr_work.specs.Rounds.{Goes, IsRound}
use Rattle.adr_work.specs.OfficeRounds.{TakesRound, Round, IsMade, TakesRounds}
use Rattle.adr_work.proofs.Behind.{behind}

-- its commands are the steps that were accepted
pub takes_round : (u : UpstreamParts) (before after : List Exchange) (first last : List Step) (r : Result PollEnd Refusal)
    → Goes before after (accepted first) (accepted last) (IsRound u r)
    → TakesRound u before after first last r
takes_round u before after first last r g = record {
  asked = g.asked;
  told = g.told;
  exchanges = g.exchanges;
  steps = g.memory;
  round = g.holds;
}

abbrev asked_in : Round → List Exchange
asked_in round = round.asked

abbrev told_in : Round → List Told
told_in round = round.told

-- what is of one element more stands behind what is of the others
one_more : {A B : Type 0} (f : A → List B) (xs : List A) (x : A) → flat_map f (xs ++ x ∷ []) ≡ flat_map f xs ++ f x
one_more f xs x = flat_map-append f xs (x ∷ []) ∙ ap (λ ys. flat_map f xs ++ ys) (append-nil (f x))

-- no round
pub rounds_none : (u : UpstreamParts) (before : List Exchange) (first : List Step) → TakesRounds u before before first first
rounds_none u before first = record {
  rounds = [];
  each = All-nil (IsMade u);
  exchanges = sym (append-nil before);
  steps = sym (append-nil (accepted first));
}

-- a round more
pub rounds_more : (u : UpstreamParts) (before between after : List Exchange) (first some last : List Step) (r : Result PollEnd Refusal)
    → TakesRounds u before between first some → TakesRound u between after some last r → TakesRounds u before after first last
rounds_more u before between after first some last r s t =
    let round : Round = record { asked = t.asked; told = t.told; ended = r } in record {
      rounds = s.rounds ++ round ∷ [];
      each = All-push (IsMade u) s.rounds round s.each t.round;
      exchanges = behind before _ t.asked s.exchanges t.exchanges (one_more asked_in s.rounds round);
      steps = behind (accepted first) _ t.told s.steps t.steps (one_more told_in s.rounds round);
    }
