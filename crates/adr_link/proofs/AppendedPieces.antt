-- Pieces put one after another.
use Rattle.std.proofs.Common.{◌≡◌, ℕ, List, [], ◌++◌, ap, ◌∙◌, append_assoc}

-- behind the first, each of these stands
front : (o0 o1 o2 o3 o4 a b c d : List ℕ) → o1 ≡ o0 ++ a → o2 ≡ o1 ++ b → o3 ≡ o2 ++ c → o4 ≡ o3 ++ d → (rest : List ℕ) → o4 ++ rest ≡ o0 ++ (a ++ (b ++ (c ++ (d ++ rest))))
front o0 o1 o2 o3 o4 a b c d e1 e2 e3 e4 rest =
    ap (λ z. z ++ rest) e4 ∙ append_assoc o3 d rest
    ∙ ap (λ z. z ++ (d ++ rest)) e3 ∙ append_assoc o2 c (d ++ rest)
    ∙ ap (λ z. z ++ (c ++ (d ++ rest))) e2 ∙ append_assoc o1 b (c ++ (d ++ rest))
    ∙ ap (λ z. z ++ (b ++ (c ++ (d ++ rest)))) e1 ∙ append_assoc o0 a (b ++ (c ++ (d ++ rest)))

pub assembled : (o0 o1 o2 o3 o4 o5 o6 o7 o8 a b c d e f g h : List ℕ) → o0 ≡ [] → o1 ≡ o0 ++ a → o2 ≡ o1 ++ b → o3 ≡ o2 ++ c → o4 ≡ o3 ++ d → o5 ≡ o4 ++ e → o6 ≡ o5 ++ f → o7 ≡ o6 ++ g → o8 ≡ o7 ++ h
    → o8 ≡ a ++ (b ++ (c ++ (d ++ (e ++ (f ++ (g ++ h))))))
assembled o0 o1 o2 o3 o4 o5 o6 o7 o8 a b c d e f g h e0 e1 e2 e3 e4 e5 e6 e7 e8 =
    let back : o7 ++ h ≡ o4 ++ (e ++ (f ++ (g ++ h))) =
    ap (λ z. z ++ h) e7 ∙ append_assoc o6 g h ∙ ap (λ z. z ++ (g ++ h)) e6 ∙ append_assoc o5 f (g ++ h) ∙ ap (λ z. z ++ (f ++ (g ++ h))) e5 ∙ append_assoc o4 e (f ++ (g ++ h)) in
    let all : List ℕ = a ++ (b ++ (c ++ (d ++ (e ++ (f ++ (g ++ h)))))) in
    e8 ∙ back ∙ front o0 o1 o2 o3 o4 a b c d e1 e2 e3 e4 (e ++ (f ++ (g ++ h))) ∙ ap (λ z. z ++ all) e0
