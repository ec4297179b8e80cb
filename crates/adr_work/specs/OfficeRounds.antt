-- What rounds do at an office.
use Rattle.std.specs.Prelude.{◌≡◌, All, List, ◌++◌, Result}
use Rattle.std.specs.List.{flat_map}
use Rattle.adr_text.specs.declared.refusal.Refusal.{Refusal}
use Rattle.adr_link.specs.Upstreams.{UpstreamParts}
use Rattle.adr_lock.specs.Steps.{Step}
use Rattle.adr_work.specs.declared.page.PollEnd.{PollEnd}
use Rattle.adr_work.specs.Exchanges.{Exchange}
use Rattle.adr_work.specs.Tellings.{Told, accepted}
use Rattle.adr_work.specs.Rounds.{IsRound}

-- further exchanges, and further steps under the lock, of which those that were accepted are the commands of a round with these exchanges, which ended so
pub record TakesRound (u : UpstreamParts) (before after : List Exchange) (first last : List Step) (r : Result PollEnd Refusal) : Type 0 where
  pub asked : List Exchange
  pub told : List Told
  pub exchanges : after ≡ before ++ asked
  pub steps : accepted last ≡ accepted first ++ told
  pub round : IsRound u r asked told

-- a round: what it asked, what it told that was accepted, and how it ended
pub record Round : Type 0 where
  pub asked : List Exchange
  pub told : List Told
  pub ended : Result PollEnd Refusal

-- it asked and told what a round does that ends so
abbrev pub IsMade : UpstreamParts → Round → Type 0
IsMade u round = IsRound u round.ended round.asked round.told

-- further exchanges, and further steps under the lock of which some were accepted: those of rounds, one after another
pub record TakesRounds (u : UpstreamParts) (before after : List Exchange) (first last : List Step) : Type 0 where
  pub rounds : List Round
  pub each : All (IsMade u) rounds
  pub exchanges : after ≡ before ++ flat_map (λ (round : Round). round.asked) rounds
  pub steps : accepted last ≡ accepted first ++ flat_map (λ (round : Round). round.told) rounds
