-- What is told in two parts, and refusals.
use Rattle.std.proofs.Common.{Result, Ok, Err, IsErr, true≢false, ◌≡◌, List, [], ◌++◌, sym, ap, ◌∙◌, append_assoc, append-nil}
use Rattle.adr_text.specs.declared.refusal.Refusal.{Refusal}
use Rattle.adr_work.specs.Tellings.{Memory, Told, with_told}

-- nothing more was told
pub with_none : (m : Memory) → with_told m [] ≡ m
with_none m = append-nil m

-- first these were told, and then those
with_both : (m : Memory) (first next : List Told) → with_told (with_told m first) next ≡ with_told m (first ++ next)
with_both m first next = append_assoc m first next

pub heard : (was is is' : Memory) (told more : List Told) → is ≡ with_told was told → is' ≡ with_told is more → is' ≡ with_told was (told ++ more)
heard was is is' told more first next = next ∙ ap (λ m. with_told m more) first ∙ with_both was told more

-- what holds of each refusal holds of one that came
pub when_err : {A : Type 0} (P : Result A Refusal → Type 0) (r : Result A Refusal) → IsErr r → ((refusal : Refusal) → P (Err refusal)) → P r
when_err P (Ok x) err of = absurd (true≢false (sym err))
when_err P (Err refusal) err of = of refusal
