-- A body up to the end of input.
use Rattle.std.proofs.Common.{◌≡◌, ℕ, ◌≤◌, ◌<◌, List, length, take, sym, ap, ◌∙◌, arith, Option, None, Some, Ok, Err, length-append}
use Rattle.std.proofs.lemmas.Bool.Decides.{nat_tests}
use Rattle.std.proofs.lemmas.List.{take_all}
use Rattle.adr_wire.specs.Pieces.{Holds}
use Rattle.adr_wire.specs.declared.end.MessageFault.TheVariants.{TooLarge}
use Rattle.adr_link.specs.Replies.{body_to_end}

all_here : (bytes : List ℕ) → length bytes ≤ 8388608 → body_to_end bytes ≡ Ok bytes
all_here bytes few = grind (arith, nat_tests)

-- more are ahead than may be
pub too_many : (left : Option (List ℕ)) (ahead bytes : List ℕ) → Holds left ahead bytes → 8388608 < length ahead → body_to_end bytes ≡ Err TooLarge
too_many None ahead bytes holds many = elim holds [ ]
too_many (Some left) ahead bytes holds many =
    let more = ap length holds in
    let sum = length-append ahead left in
    let long : 8388608 < length bytes = omega (arith, more, sum) in
    grind (arith, nat_tests)

-- all have come, and all are taken
pub end_here : (bytes old new items : List ℕ) (n : ℕ) → bytes ≡ old → new ≡ old → items ≡ take n new → n ≡ length old → length old ≤ 8388608 → Ok items ≡ body_to_end bytes
end_here bytes old new items n all same taken is few =
    let long = ap length same in
    let whole : items ≡ bytes = taken ∙ take_all n new (omega (arith, is, long)) ∙ same ∙ sym all in
    let small : length bytes ≤ 8388608 = let l = ap length all in omega (arith, l) in
    ap Ok whole ∙ sym (all_here bytes small)
