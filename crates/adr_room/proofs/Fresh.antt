-- Entries that are put at numbers above those that wait.
use Rattle.std.proofs.Common.{◌≡◌, ◌≤◌, ◌<◌, ◌+◌, ℕ, suc, List, [], ◌∷◌, ◌++◌, length, Ordering, Greater, refl, ap, subst, arith, ◌∙◌}
use Rattle.std.specs.List.{All}
use Rattle.std.specs.Ordering.{nat_cmp, match_ordering}
use Rattle.std.specs.BTreeMap.{insert_entry}
use Rattle.std.specs.Cmp.{nat_cmp_is}
use Rattle.std.proofs.lemmas.List.Elements.{All-cons, All-head, All-nil, All-tail}
use Rattle.std.proofs.lemmas.List.Sums.{fold-append}
use Rattle.adr_delivery.specs.declared.entry.Entry.{Entry}
use Rattle.adr_delivery.specs.Outboxes.{with_entries}
use Rattle.adr_notices.specs.Committed.{numbered}

abbrev pub Upto : ℕ → ℕ × Entry → Type 0
Upto last e = e.0 ≤ last

-- one that is put behind all others stands there, and is one more
insert_behind : (n : ℕ) (e : Entry) (m : List (ℕ × Entry)) (last : ℕ) → last < n → All (Upto last) m → length (insert_entry nat_cmp m n e) ≡ suc (length m)
insert_behind n e [] last above all = refl
insert_behind n e (x ∷ m) last above all =
    let head : x.0 ≤ last = All-head (Upto last) x m all in
    let greater : Greater ≡ nat_cmp n x.0 = nat_cmp_is n x.0 Greater (omega (arith, head, above)) in
    subst (λ (o : Ordering). length (match_ordering o ((n, e) ∷ x ∷ m) ((x.0, e) ∷ m) (x ∷ insert_entry nat_cmp m n e)) ≡ suc (suc (length m))) greater (ap suc (insert_behind n e m last above (All-tail (Upto last) x m all)))

insert_upto : (n : ℕ) (e : Entry) (m : List (ℕ × Entry)) (last : ℕ) → last < n → All (Upto last) m → All (Upto n) (insert_entry nat_cmp m n e)
insert_upto n e [] last above all = All-cons (Upto n) (n, e) [] (omega arith) (All-nil (Upto n))
insert_upto n e (x ∷ m) last above all =
    let head : x.0 ≤ last = All-head (Upto last) x m all in
    let greater : Greater ≡ nat_cmp n x.0 = nat_cmp_is n x.0 Greater (omega (arith, head, above)) in
    subst (λ (o : Ordering). All (Upto n) (match_ordering o ((n, e) ∷ x ∷ m) ((x.0, e) ∷ m) (x ∷ insert_entry nat_cmp m n e))) greater (All-cons (Upto n) x (insert_entry nat_cmp m n e) (omega (arith, head, above)) (insert_upto n e m last above (All-tail (Upto last) x m all)))

-- further ones at the numbers that are drawn next are so many more
pub further_wait : (last : ℕ) (es : List Entry) (m : List (ℕ × Entry)) → All (Upto last) m → length (with_entries (numbered last es) m) ≡ length m + length es
further_wait last [] m all = omega arith
further_wait last (e ∷ es) m all =
    let next : last < last + 1 = omega arith in
    let rest = further_wait (last + 1) es (insert_entry nat_cmp m (last + 1) e) (insert_upto (last + 1) e m last next all) in
    let one = insert_behind (last + 1) e m last next all in
    omega (arith, rest, one)

-- those behind others take the numbers behind theirs
pub numbered_more : (last : ℕ) (es fs : List Entry) → numbered last (es ++ fs) ≡ numbered last es ++ numbered (last + length es) fs
numbered_more last [] fs = let same : last ≡ last + 0 = omega arith in ap (λ n. numbered n fs) same
numbered_more last (e ∷ es) fs =
    let same : (last + 1) + length es ≡ last + suc (length es) = omega arith in
    ap (λ rest. (last + 1, e) ∷ rest) (numbered_more (last + 1) es fs ∙ ap (λ n. numbered (last + 1) es ++ numbered n fs) same)

pub with_more : (last : ℕ) (es fs : List Entry) (m : List (ℕ × Entry)) → with_entries (numbered last (es ++ fs)) m ≡ with_entries (numbered (last + length es) fs) (with_entries (numbered last es) m)
with_more last es fs m =
    ap (λ rows. with_entries rows m) (numbered_more last es fs)
    ∙ fold-append (λ m e. insert_entry nat_cmp m e.0 e.1) m (numbered last es) (numbered (last + length es) fs)
