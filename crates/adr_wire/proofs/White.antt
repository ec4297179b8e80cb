-- White space at the ends of bytes.
use Rattle.std.proofs.Common.{◌≡◌, ℕ, suc, ◌+◌, ◌-◌, ◌<◌, ◌≤◌, true, false, refl, List, [], ◌∷◌, length, get_or, take, drop, reverse, sym, ap, ◌∙◌, arith, drop-cons}
use Rattle.std.proofs.lemmas.List.{take_more, drop_all, reverse-append, reverse-reverse}
use Rattle.httparse.specs.Grammar.{is_ows, skip_ows}

-- the first byte that is none ends the white space in front
pub front_ends : (bytes : List ℕ) (i d : ℕ) → i < length bytes → is_ows (get_or bytes i d) ≡ false → skip_ows (drop i bytes) ≡ skip_ows bytes → drop i bytes ≡ skip_ows bytes
front_ends bytes i d below other same =
    let here = drop-cons bytes i d below in
    sym (ap skip_ows here ∙ rw other refl ∙ sym here) ∙ same

pub front_more : (bytes : List ℕ) (i d : ℕ) → i < length bytes → is_ows (get_or bytes i d) ≡ true → skip_ows (drop i bytes) ≡ skip_ows bytes → skip_ows (drop (i + 1) bytes) ≡ skip_ows bytes
front_more bytes i d below white same =
    let here = drop-cons bytes i d below in
    let n : i + 1 ≡ suc i = omega arith in
    ap (λ k. skip_ows (drop k bytes)) n ∙ sym (ap skip_ows here ∙ rw white refl) ∙ same

pub all_front : (bytes : List ℕ) (i : ℕ) → length bytes ≤ i → skip_ows (drop i bytes) ≡ skip_ows bytes → [] ≡ skip_ows bytes
all_front bytes i all same = sym (ap skip_ows (drop_all i bytes all)) ∙ same

-- ---- from the other end

last_first : (bytes : List ℕ) (end d : ℕ) → end < length bytes → reverse (take (end + 1) bytes) ≡ get_or bytes end d ∷ reverse (take end bytes)
last_first bytes end d below = ap reverse (take_more bytes end d below) ∙ reverse-append (take end bytes) (get_or bytes end d ∷ [])

pub back_ends : (bytes : List ℕ) (end d : ℕ) → end < length bytes → is_ows (get_or bytes end d) ≡ false
    → skip_ows (reverse (take (end + 1) bytes)) ≡ skip_ows (reverse bytes) → take (end + 1) bytes ≡ reverse (skip_ows (reverse bytes))
back_ends bytes end d below other same =
    let here = last_first bytes end d below in
    let stays : skip_ows (reverse (take (end + 1) bytes)) ≡ reverse (take (end + 1) bytes) = ap skip_ows here ∙ rw other refl ∙ sym here in
    sym (reverse-reverse (take (end + 1) bytes)) ∙ ap reverse (sym stays ∙ same)

pub back_more : (bytes : List ℕ) (end d : ℕ) → end < length bytes → is_ows (get_or bytes end d) ≡ true
    → skip_ows (reverse (take (end + 1) bytes)) ≡ skip_ows (reverse bytes) → skip_ows (reverse (take end bytes)) ≡ skip_ows (reverse bytes)
back_more bytes end d below white same = sym (ap skip_ows (last_first bytes end d below) ∙ rw white refl) ∙ same

pub all_back : (bytes : List ℕ) (end : ℕ) → end ≤ 0 → skip_ows (reverse (take end bytes)) ≡ skip_ows (reverse bytes) → [] ≡ reverse (skip_ows (reverse bytes))
all_back bytes end none same =
    let zero : end ≡ 0 = omega arith in
    ap (λ k. reverse (skip_ows (reverse (take k bytes)))) (sym zero) ∙ ap reverse same
