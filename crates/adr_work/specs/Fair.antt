-- The rule of the queue: the jobs that were put, each as often as it was put, are those that were taken, those left over and those that it holds.
use Rattle.std.specs.Prelude.{◌≡◌, ℕ, ◌+◌, List, [], ◌∷◌}
use mathlib.Core.Option.{some}
use lib.ListN.{get_elem?}
use Rattle.adr_delivery.specs.declared.job.Job.{Job}
use Rattle.adr_work.specs.declared.hand.Hand.{Hand}

-- what the items weigh, added up
abbrev pub weigh : {A : Type 0} → (A → ℕ) → List A → ℕ
weigh h [] = 0
weigh h (x ∷ xs) = h x + weigh h xs

-- what the holder of a seat has: parts of the right to know the whole, and the jobs that it put, that it took, and
-- that it took out when all had ended
abbrev pub hand : ℕ → List Job → List Job → List Job → Hand
hand parts put taken left = record { parts = parts; put = put; taken = taken; left = left }

-- how many parts there are of the right to know the whole: 64
abbrev pub all_parts : ℕ
all_parts = 64

-- who has no part has put and taken nothing
abbrev pub IdleIsEmpty : List Hand → Type 0
IdleIsEmpty views = (seat : ℕ) (v : Hand) → get_elem? views seat ≡ some v → v.parts ≡ 0 → (v.put ≡ []) × (v.taken ≡ []) × (v.left ≡ [])

-- what was put is what was taken, what was left over and what the queue holds, however jobs are weighed
abbrev pub Balanced : List Job → List Hand → Type 0
Balanced items views =
    (weigh (λ v. v.parts) views ≡ all_parts)
    × ((h : Job → ℕ) → weigh (λ v. weigh h v.put) views ≡ (weigh (λ v. weigh h v.taken) views + weigh (λ v. weigh h v.left) views) + weigh h items)
    × IdleIsEmpty views

-- what a seat with all parts knows of what the queue holds
abbrev pub Whole : Hand → List Job → Type 0
Whole v items = (h : Job → ℕ) → weigh h v.put ≡ (weigh h v.taken + weigh h v.left) + weigh h items
