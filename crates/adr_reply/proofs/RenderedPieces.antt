-- Pieces put one after another.
use Rattle.std.proofs.Common.{◌≡◌, ℕ, List, [], ◌++◌, sym, ap, ◌∙◌, Some, None, append_assoc, unwrap_or, length, codes, decimal, subst}
use Rattle.http.specs.StatusCode.{reason_phrase}
use Rattle.adr_wire.specs.Written.{line}
use Rattle.adr_reply.specs.Replies.{phrase}

pub assembled : (o0 o1 o2 o3 o4 o5 o6 o7 s t x k e c b : List ℕ) (n : ℕ) → o0 ≡ [] → o1 ≡ o0 ++ s → o2 ≡ o1 ++ t → o3 ≡ o2 ++ line (codes "Content-Length", decimal n) → o4 ≡ o3 ++ x → o5 ≡ o4 ++ k → o6 ≡ o5 ++ e → o7 ≡ o6 ++ c
    → n ≡ length b → c ≡ b → o7 ≡ s ++ (t ++ (line (codes "Content-Length", decimal (length b)) ++ (x ++ (k ++ (e ++ b)))))
assembled o0 o1 o2 o3 o4 o5 o6 o7 s t x k e c b n e0 e1 e2 e3 e4 e5 e6 e7 is same =
    let l : List ℕ = line (codes "Content-Length", decimal n) in
    let P : List ℕ → Type 0 = λ y. o7 ≡ s ++ (t ++ (l ++ (x ++ (k ++ (e ++ y))))) in
    let Q : ℕ → Type 0 = λ m. o7 ≡ s ++ (t ++ (line (codes "Content-Length", decimal m) ++ (x ++ (k ++ (e ++ b))))) in
    let f1 : o1 ≡ s = e1 ∙ ap (λ z. z ++ s) e0 in
    let f2 : o2 ≡ s ++ t = e2 ∙ ap (λ z. z ++ t) f1 in
    let f3 : o3 ≡ (s ++ t) ++ l = e3 ∙ ap (λ z. z ++ l) f2 in
    let f4 : o4 ≡ ((s ++ t) ++ l) ++ x = e4 ∙ ap (λ z. z ++ x) f3 in
    let f5 : o5 ≡ (((s ++ t) ++ l) ++ x) ++ k = e5 ∙ ap (λ z. z ++ k) f4 in
    let f6 : o6 ≡ ((((s ++ t) ++ l) ++ x) ++ k) ++ e = e6 ∙ ap (λ z. z ++ e) f5 in
    let f7 : o7 ≡ (((((s ++ t) ++ l) ++ x) ++ k) ++ e) ++ c = e7 ∙ ap (λ z. z ++ c) f6 in
    let right : (((((s ++ t) ++ l) ++ x) ++ k) ++ e) ++ c ≡ s ++ (t ++ (l ++ (x ++ (k ++ (e ++ c))))) =
    append_assoc ((((s ++ t) ++ l) ++ x) ++ k) e c ∙ append_assoc (((s ++ t) ++ l) ++ x) k (e ++ c) ∙ append_assoc ((s ++ t) ++ l) x (k ++ (e ++ c))
    ∙ append_assoc (s ++ t) l (x ++ (k ++ (e ++ c))) ∙ append_assoc s t (l ++ (x ++ (k ++ (e ++ c)))) in
    subst Q is (subst P same (f7 ∙ right))

pub started : (o0 o1 o2 o3 o4 o5 a d b g p q e : List ℕ) → o1 ≡ o0 ++ a → o2 ≡ o1 ++ d → o3 ≡ o2 ++ g → o4 ≡ o3 ++ p → o5 ≡ o4 ++ e → d ≡ b → p ≡ q
    → o5 ≡ o0 ++ (a ++ (b ++ (g ++ (q ++ e))))
started o0 o1 o2 o3 o4 o5 a d b g p q e e1 e2 e3 e4 e5 number is =
    let Q : List ℕ → Type 0 = λ y. o5 ≡ o0 ++ (a ++ (y ++ (g ++ (q ++ e)))) in
    let P : List ℕ → Type 0 = λ y. o5 ≡ o0 ++ (a ++ (d ++ (g ++ (y ++ e)))) in
    let f2 : o2 ≡ (o0 ++ a) ++ d = e2 ∙ ap (λ z. z ++ d) e1 in
    let f3 : o3 ≡ ((o0 ++ a) ++ d) ++ g = e3 ∙ ap (λ z. z ++ g) f2 in
    let f4 : o4 ≡ (((o0 ++ a) ++ d) ++ g) ++ p = e4 ∙ ap (λ z. z ++ p) f3 in
    let f5 : o5 ≡ ((((o0 ++ a) ++ d) ++ g) ++ p) ++ e = e5 ∙ ap (λ z. z ++ e) f4 in
    subst Q number (subst P is (f5 ∙ append_assoc (((o0 ++ a) ++ d) ++ g) p e ∙ append_assoc ((o0 ++ a) ++ d) g (p ++ e) ∙ append_assoc (o0 ++ a) d (g ++ (p ++ e)) ∙ append_assoc o0 a (d ++ (g ++ (p ++ e)))))

pub phrase_is : (status : ℕ) (text : List ℕ) → reason_phrase status ≡ Some text → text ≡ phrase status
phrase_is status text is = sym (ap (λ r. unwrap_or r []) is)

pub no_phrase : (status : ℕ) → reason_phrase status ≡ None → [] ≡ phrase status
no_phrase status is = sym (ap (λ r. unwrap_or r []) is)
