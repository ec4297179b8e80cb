-- What there is already, where what came last went well, and where it was refused.
use Rattle.std.proofs.Common.{Result, Ok, Err, IfOk, IfErr, OnOk}
use Rattle.adr_text.specs.declared.refusal.Refusal.{Refusal}
use Rattle.adr_machine.specs.Edits.{told_by}

module _ {A B : Type 0} (value : B) where
  pub after_made : (P : B → Type 0) (ended : Result A Refusal) → OnOk ended (P value) → IfOk (told_by (λ _. value) ended) P
  after_made P (Ok x) h = h
  after_made P (Err e) h = tt

  pub after_refused : (P : Refusal → Type 0) (ended : Result A Refusal) → IfErr ended P → IfErr (told_by (λ _. value) ended) P
  after_refused P (Ok x) h = tt
  after_refused P (Err e) h = h
