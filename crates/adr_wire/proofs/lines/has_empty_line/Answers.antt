use Rattle.std.proofs.Common.{rules, ◌≡◌, ◌+◌, ◌<◌, ◌≤◌, ◌⊎◌, inl, inr, ℕ, List, true, false, leb, subst, arith}
use Rattle.std.proofs.lemmas.Bool.Decides.{leb_tells}
use Rattle.adr_wire.specs.Lines.{is_empty_line_at}
use Rattle.adr_wire.proofs.lines.has_empty_line.Goals as goal

-- none before a place, and none at it
one_more : (bytes : List ℕ) (from place : ℕ) → ((at : ℕ) → from ≤ at → at < place → is_empty_line_at at bytes ≡ false) → is_empty_line_at place bytes ≡ false
    → (at : ℕ) → from ≤ at → at < place + 1 → is_empty_line_at at bytes ≡ false
one_more bytes from place before here at after small = by (leb_tells place at)
  where
    by : ((leb place at ≡ true) × (place ≤ at)) ⊎ ((leb place at ≡ false) × (at < place)) → is_empty_line_at at bytes ≡ false
    by (inl is) = let same : place ≡ at = let le = is.1 in omega arith in subst (λ n. is_empty_line_at n bytes ≡ false) same here
    by (inr is) = before at after is.1

pub loop-place-preserved : goal.loop-place-preserved
loop-place-preserved c = one_more c.args.bytes.now c.args.from c.loop-place.place c.loop-place.invariant (search rules)
