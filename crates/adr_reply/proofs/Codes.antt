-- The status of a refusal has three digits.
use Rattle.std.proofs.Common.{◌≡◌, ℕ, ◌≤◌, ◌<◌, subst, sym, arith}
use Rattle.adr_text.specs.Refusals.{status_of}
use Rattle.adr_text.specs.declared.refusal.Refusal.{Refusal}
use Rattle.adr_text.specs.declared.refusal.Refusal.TheVariants.{OutOfMemory}

of_refusal : (r : Refusal) → (100 ≤ status_of r) × (status_of r < 1000)
of_refusal OutOfMemory = (omega arith, omega arith)
of_refusal _ = (omega arith, omega arith)

pub status_is_code : (n : ℕ) (r : Refusal) → n ≡ status_of r → (100 ≤ n) × (n < 1000)
status_is_code n r is = subst (λ m. (100 ≤ m) × (m < 1000)) (sym is) (of_refusal r)
