-- Maps by numbers that rise: behind a put and a removal, and that maps which have the same at each number are one.
use Rattle.std.proofs.Common.{◌≡◌, ℕ, Bool, true, false, cond, Option, None, Some, List, [], ◌∷◌, refl, sym, ap, subst, ◌∙◌, Ordering, Less, Equal, Greater, is_eq}
use Rattle.std.specs.Map.{remove_entry}
use Rattle.adr_db.proofs.Common.{AllByRecursion, insert_entry, is_at, match_ordering, ordering_reverse, nat_cmp, nat_cmp_total, tied_itself, ties, at, all_weaker}
use Rattle.adr_db.proofs.Entries.{NumbersRise}
use Rattle.adr_db.proofs.Rows.{number_same_is}

pub turned : (a b : ℕ) (o : Ordering) → nat_cmp a b ≡ o → nat_cmp b a ≡ ordering_reverse o
turned a b o is = nat_cmp_total.antisymm b a ∙ ap ordering_reverse is

module _ {V : Type 0} where
  -- ---- what rises

  -- a number below one is below all that are above that
  pub below_all : (n k : ℕ) (es : List (ℕ × V)) → nat_cmp n k ≡ Less → AllByRecursion (λ e. nat_cmp k e.0 ≡ Less) es → AllByRecursion (λ e. nat_cmp n e.0 ≡ Less) es
  below_all n k es less above = all_weaker (λ (e : ℕ × V). nat_cmp k e.0 ≡ Less) (λ (e : ℕ × V). nat_cmp n e.0 ≡ Less) (λ e below. nat_cmp_total.trans n k e.0 less below) es above

  all_put : (P : ℕ → Type 0) (k : ℕ) (v : V) (es : List (ℕ × V)) → P k → AllByRecursion (λ e. P e.0) es → AllByRecursion (λ e. P e.0) (insert_entry nat_cmp es k v)
  all_put P k v [] is all = (is, tt)
  all_put P k v (e ∷ es) is all = by (nat_cmp k e.0) (all_put P k v es is all.1)
    where
      by : (o : Ordering) → AllByRecursion (λ e. P e.0) (insert_entry nat_cmp es k v) → AllByRecursion (λ e. P e.0) (match_ordering o ((k, v) ∷ e ∷ es) ((e.0, v) ∷ es) (e ∷ insert_entry nat_cmp es k v))
      by Less more = (is, all)
      by Equal more = (all.0, all.1)
      by Greater more = (all.0, more)

  all_left : (P : ℕ → Type 0) (k : ℕ) (es : List (ℕ × V)) → AllByRecursion (λ e. P e.0) es → AllByRecursion (λ e. P e.0) (remove_entry (is_at (nat_cmp k)) es)
  all_left P k [] all = tt
  all_left P k (e ∷ es) all = by (is_eq (nat_cmp k e.0)) (all_left P k es all.1)
    where
      by : (b : Bool) → AllByRecursion (λ e. P e.0) (remove_entry (is_at (nat_cmp k)) es) → AllByRecursion (λ e. P e.0) (cond b es (e ∷ remove_entry (is_at (nat_cmp k)) es))
      by true more = all.1
      by false more = (all.0, more)

  pub put_rises : (k : ℕ) (v : V) (es : List (ℕ × V)) → NumbersRise es → NumbersRise (insert_entry nat_cmp es k v)
  put_rises k v [] up = (tt, tt)
  put_rises k v (e ∷ es) up = by (nat_cmp k e.0) refl (put_rises k v es up.1)
    where
      by : (o : Ordering) → nat_cmp k e.0 ≡ o → NumbersRise (insert_entry nat_cmp es k v) → NumbersRise (match_ordering o ((k, v) ∷ e ∷ es) ((e.0, v) ∷ es) (e ∷ insert_entry nat_cmp es k v))
      by Less is more = ((is, below_all k e.0 es is up.0), up)
      by Equal is more = (up.0, up.1)
      by Greater is more = (all_put (λ n. nat_cmp e.0 n ≡ Less) k v es (turned k e.0 Greater is) up.0, more)

  pub left_rises : (k : ℕ) (es : List (ℕ × V)) → NumbersRise es → NumbersRise (remove_entry (is_at (nat_cmp k)) es)
  left_rises k [] up = tt
  left_rises k (e ∷ es) up = by (is_eq (nat_cmp k e.0)) (left_rises k es up.1)
    where
      by : (b : Bool) → NumbersRise (remove_entry (is_at (nat_cmp k)) es) → NumbersRise (cond b es (e ∷ remove_entry (is_at (nat_cmp k)) es))
      by true more = up.1
      by false more = (all_left (λ n. nat_cmp e.0 n ≡ Less) k es up.0, more)

  -- ---- what is there

  pub none_below : (n : ℕ) (es : List (ℕ × V)) → AllByRecursion (λ e. nat_cmp n e.0 ≡ Less) es → at nat_cmp n es ≡ None
  none_below n [] below = refl
  none_below n (e ∷ es) below = ap (λ o. cond (is_eq o) (Some e.1) (at nat_cmp n es)) below.0 ∙ none_below n es below.1

  at_first : (e : ℕ × V) (es : List (ℕ × V)) → at nat_cmp e.0 (e ∷ es) ≡ Some e.1
  at_first e es = ap (λ o. cond (is_eq o) (Some e.1) (at nat_cmp e.0 es)) (tied_itself nat_cmp_total e.0)

  at_rest : (n : ℕ) (e : ℕ × V) (es : List (ℕ × V)) → is_eq (nat_cmp n e.0) ≡ false → at nat_cmp n (e ∷ es) ≡ at nat_cmp n es
  at_rest n e es other = ap (λ (b : Bool). cond b (Some e.1) (at nat_cmp n es)) other

  none_behind : (n : ℕ) (e : ℕ × V) (es : List (ℕ × V)) → NumbersRise (e ∷ es) → is_eq (nat_cmp n e.0) ≡ true → at nat_cmp n es ≡ None
  none_behind n e es up is = none_below n es (subst (λ (k : ℕ). AllByRecursion (λ y. nat_cmp k y.0 ≡ Less) es) (sym (number_same_is n e.0 (ties _ is))) up.0)

  -- behind a removal
  pub at_left : (n k : ℕ) (es : List (ℕ × V)) → NumbersRise es → at nat_cmp n (remove_entry (is_at (nat_cmp k)) es) ≡ cond (is_eq (nat_cmp n k)) None (at nat_cmp n es)
  at_left n k [] up = by (is_eq (nat_cmp n k)) None refl
    where
      by : (b : Bool) (o : Option V) → o ≡ None → o ≡ cond b None o
      by true o none = none
      by false o none = refl
  at_left n k (e ∷ es) up = by (is_eq (nat_cmp k e.0)) refl (is_eq (nat_cmp n k)) refl (at_left n k es up.1)
    where
      by : (b : Bool) → is_eq (nat_cmp k e.0) ≡ b → (c : Bool) → is_eq (nat_cmp n k) ≡ c → at nat_cmp n (remove_entry (is_at (nat_cmp k)) es) ≡ cond c None (at nat_cmp n es)
          → at nat_cmp n (cond b es (e ∷ remove_entry (is_at (nat_cmp k)) es)) ≡ cond c None (at nat_cmp n (e ∷ es))
      by true is true same more = none_behind n e es up (subst (λ (j : ℕ). is_eq (nat_cmp j e.0) ≡ true) (sym (number_same_is n k (ties _ same))) is)
      by true is false other more = sym (at_rest n e es (subst (λ (j : ℕ). is_eq (nat_cmp n j) ≡ false) (number_same_is k e.0 (ties _ is)) other))
      by false apart true same more = at_rest n e (remove_entry (is_at (nat_cmp k)) es) (subst (λ (j : ℕ). is_eq (nat_cmp j e.0) ≡ false) (sym (number_same_is n k (ties _ same))) apart) ∙ more
      by false apart false other more = ap (λ o. cond (is_eq (nat_cmp n e.0)) (Some e.1) o) more

  -- maps that have the same at each number are one
  pub same_maps : (es fs : List (ℕ × V)) → NumbersRise es → NumbersRise fs → ((n : ℕ) → at nat_cmp n es ≡ at nat_cmp n fs) → es ≡ fs
  same_maps [] [] up rise same = refl
  same_maps [] (f ∷ fs) up rise same = absurd (let no : None ≡ Some f.1 = same f.0 ∙ at_first f fs in cc)
  same_maps (e ∷ es) [] up rise same = absurd (let no : None ≡ Some e.1 = sym (same e.0) ∙ at_first e es in cc)
  same_maps (e ∷ es) (f ∷ fs) up rise same = by (λ one. same_maps es fs up.1 rise.1 (λ n. tails one n (is_eq (nat_cmp n e.0)) refl)) (nat_cmp e.0 f.0) refl
    where
      tails : e.0 ≡ f.0 → (n : ℕ) (b : Bool) → is_eq (nat_cmp n e.0) ≡ b → at nat_cmp n es ≡ at nat_cmp n fs
      tails one n true is = none_behind n e es up is ∙ sym (none_behind n f fs rise (subst (λ (k : ℕ). is_eq (nat_cmp n k) ≡ true) one is))
      tails one n false other = sym (at_rest n e es other) ∙ same n ∙ at_rest n f fs (subst (λ (k : ℕ). is_eq (nat_cmp n k) ≡ false) one other)

      by : (e.0 ≡ f.0 → es ≡ fs) → (o : Ordering) → nat_cmp e.0 f.0 ≡ o → e ∷ es ≡ f ∷ fs
      by rest Less is = absurd (let no : None ≡ Some e.1 = sym (none_below e.0 (f ∷ fs) (is, below_all e.0 f.0 fs is rise.0)) ∙ sym (same e.0) ∙ at_first e es in cc)
      by rest Greater is =
          let less = turned e.0 f.0 Greater is in
          absurd (let no : None ≡ Some f.1 = sym (none_below f.0 (e ∷ es) (less, below_all f.0 e.0 es less up.0)) ∙ same f.0 ∙ at_first f fs in cc)
      by rest Equal is =
          let one : e.0 ≡ f.0 = number_same_is e.0 f.0 is in
          let value : Some e.1 ≡ Some f.1 = sym (at_first e es) ∙ same e.0 ∙ subst (λ (k : ℕ). at nat_cmp k (f ∷ fs) ≡ Some f.1) (sym one) (at_first f fs) in
          let own : e.1 ≡ f.1 = cc value in
          λ i. (one i, own i) ∷ rest one i
