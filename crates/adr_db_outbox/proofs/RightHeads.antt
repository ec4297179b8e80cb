-- What `head` names where entries come and go: where it is set right behind them, it is what follows from the entries.
use Rattle.std.proofs.Common.{◌≡◌, ◌==◌, ℕ, Bool, true, false, cond, Option, None, Some, List, [], ◌∷◌, refl, sym, ap, ◌∙◌, eqb-true, Ordering, Less, Equal, Greater, is_eq}
use Rattle.std.specs.Map.{remove_entry}
use Rattle.adr_db.proofs.Common.{insert_entry, is_at, match_ordering, nat_cmp, nat_cmp_total, option_map, option_map_or, ties, at}
use Rattle.adr_state.proofs.LawLemmas.{at-insert_entry}
use Rattle.adr_delivery.specs.declared.entry.Entry.{Entry}
use Rattle.adr_delivery.specs.Entries.{destination}
use Rattle.adr_db.specs.Kept.{Kept, heads_of, with_waiting, without_waiting}
use Rattle.adr_db.proofs.Entries.{NumbersRise}
use Rattle.adr_db.proofs.Rows.{number_same_is}
use Rattle.adr_db_outbox.proofs.Numbered.{below_all, put_rises, left_rises, none_below, at_left, same_maps}
use Rattle.adr_db_outbox.specs.Heads.{destination_at, with_head, set_right, set_right_where, set_right_both}

abbrev Waiting : Type 0
Waiting = ℕ × Entry

-- where an entry goes
abbrev pub goal_of : Waiting → ℕ
goal_of e = destination e.1.addressee

-- ---- what is named for a destination

pub heads_rise : (es : List Waiting) → NumbersRise (heads_of es)
heads_rise [] = tt
heads_rise (e ∷ es) = put_rises (goal_of e) e.0 (heads_of es) (heads_rise es)

-- an entry stands before those behind it
pub head_is : (q : ℕ) (e : Waiting) (es : List Waiting) → at nat_cmp q (heads_of (e ∷ es)) ≡ cond (is_eq (nat_cmp q (goal_of e))) (Some e.0) (at nat_cmp q (heads_of es))
head_is q e es = at-insert_entry nat_cmp_total q (goal_of e) e.0 (heads_of es)

with_head_rises : (d : ℕ) (o : Option ℕ) (hs : List (ℕ × ℕ)) → NumbersRise hs → NumbersRise (with_head d o hs)
with_head_rises d None hs up = left_rises d hs up
with_head_rises d (Some n) hs up = put_rises d n hs up

with_head_is : (q d : ℕ) (o : Option ℕ) (hs : List (ℕ × ℕ)) → NumbersRise hs → at nat_cmp q (with_head d o hs) ≡ cond (is_eq (nat_cmp q d)) o (at nat_cmp q hs)
with_head_is q d None hs up = at_left q d hs up
with_head_is q d (Some n) hs up = at-insert_entry nat_cmp_total q d n hs

-- where one is set right, a destination has what follows from the entries if it had that before, or is that one
settled : (q d : ℕ) (es : List Waiting) (hs : List (ℕ × ℕ)) → NumbersRise hs → (is_eq (nat_cmp q d) ≡ false → at nat_cmp q hs ≡ at nat_cmp q (heads_of es)) → at nat_cmp q (with_head d (at nat_cmp d (heads_of es)) hs) ≡ at nat_cmp q (heads_of es)
settled q d es hs up other = with_head_is q d (at nat_cmp d (heads_of es)) hs up ∙ by (is_eq (nat_cmp q d)) refl other
  where
    by : (b : Bool) → is_eq (nat_cmp q d) ≡ b → (b ≡ false → at nat_cmp q hs ≡ at nat_cmp q (heads_of es)) → cond b (at nat_cmp d (heads_of es)) (at nat_cmp q hs) ≡ at nat_cmp q (heads_of es)
    by true is other = ap (λ k. at nat_cmp k (heads_of es)) (sym (number_same_is q d (ties _ is)))
    by false is other = other refl

-- ---- an entry comes or goes

-- whether what stood at a number goes to a destination
abbrev went_to : ℕ → Option Entry → Bool
went_to q there = option_map_or (λ entry. is_eq (nat_cmp q (destination entry.addressee))) there false

-- a destination to which neither goes has the first entry that it had
elsewhere_put : (q n : ℕ) (entry : Entry) (es : List Waiting) → is_eq (nat_cmp q (destination entry.addressee)) ≡ false → went_to q (at nat_cmp n es) ≡ false → at nat_cmp q (heads_of (insert_entry nat_cmp es n entry)) ≡ at nat_cmp q (heads_of es)
elsewhere_put q n entry [] apart away = head_is q (n, entry) [] ∙ ap (λ (b : Bool). cond b (Some n) None) apart
elsewhere_put q n entry (e ∷ es) apart away = by (nat_cmp n e.0) (elsewhere_put q n entry es apart) away
  where
    by : (o : Ordering) → (went_to q (at nat_cmp n es) ≡ false → at nat_cmp q (heads_of (insert_entry nat_cmp es n entry)) ≡ at nat_cmp q (heads_of es)) → went_to q (cond (is_eq o) (Some e.1) (at nat_cmp n es)) ≡ false
        → at nat_cmp q (heads_of (match_ordering o ((n, entry) ∷ e ∷ es) ((e.0, entry) ∷ es) (e ∷ insert_entry nat_cmp es n entry))) ≡ at nat_cmp q (heads_of (e ∷ es))
    by Less more away = head_is q (n, entry) (e ∷ es) ∙ ap (λ (b : Bool). cond b (Some n) (at nat_cmp q (heads_of (e ∷ es)))) apart
    by Equal more away =
        head_is q (e.0, entry) es ∙ ap (λ (b : Bool). cond b (Some e.0) (at nat_cmp q (heads_of es))) apart
        ∙ sym (head_is q e es ∙ ap (λ (b : Bool). cond b (Some e.0) (at nat_cmp q (heads_of es))) away)
    by Greater more away = head_is q e (insert_entry nat_cmp es n entry) ∙ ap (λ (r : Option ℕ). cond (is_eq (nat_cmp q (goal_of e))) (Some e.0) r) (more away) ∙ sym (head_is q e es)

elsewhere_left : (q n : ℕ) (es : List Waiting) → went_to q (at nat_cmp n es) ≡ false → at nat_cmp q (heads_of (remove_entry (is_at (nat_cmp n)) es)) ≡ at nat_cmp q (heads_of es)
elsewhere_left q n [] away = refl
elsewhere_left q n (e ∷ es) away = by (is_eq (nat_cmp n e.0)) (elsewhere_left q n es) away
  where
    by : (b : Bool) → (went_to q (at nat_cmp n es) ≡ false → at nat_cmp q (heads_of (remove_entry (is_at (nat_cmp n)) es)) ≡ at nat_cmp q (heads_of es)) → went_to q (cond b (Some e.1) (at nat_cmp n es)) ≡ false
        → at nat_cmp q (heads_of (cond b es (e ∷ remove_entry (is_at (nat_cmp n)) es))) ≡ at nat_cmp q (heads_of (e ∷ es))
    by true more away = sym (head_is q e es ∙ ap (λ (b : Bool). cond b (Some e.0) (at nat_cmp q (heads_of es))) away)
    by false more away = head_is q e (remove_entry (is_at (nat_cmp n)) es) ∙ ap (λ (r : Option ℕ). cond (is_eq (nat_cmp q (goal_of e))) (Some e.0) r) (more away) ∙ sym (head_is q e es)

-- one that takes the place of an entry of its own destination changes none
in_place : (n : ℕ) (entry old : Entry) (es : List Waiting) → NumbersRise es → destination entry.addressee ≡ destination old.addressee → at nat_cmp n es ≡ Some old → heads_of (insert_entry nat_cmp es n entry) ≡ heads_of es
in_place n entry old [] up same there = absurd cc
in_place n entry old (e ∷ es) up same there = by (nat_cmp n e.0) refl (in_place n entry old es up.1 same) there
  where
    by : (o : Ordering) → nat_cmp n e.0 ≡ o → (at nat_cmp n es ≡ Some old → heads_of (insert_entry nat_cmp es n entry) ≡ heads_of es) → cond (is_eq o) (Some e.1) (at nat_cmp n es) ≡ Some old
        → heads_of (match_ordering o ((n, entry) ∷ e ∷ es) ((e.0, entry) ∷ es) (e ∷ insert_entry nat_cmp es n entry)) ≡ heads_of (e ∷ es)
    by Less is more there =
        let none : at nat_cmp n es ≡ None = none_below n es (below_all n e.0 es is up.0) in
        absurd (let no : None ≡ Some old = sym none ∙ there in cc)
    by Equal is more there =
        let found : Some e.1 ≡ Some old = there in
        let one : e.1 ≡ old = cc found in
        ap (λ (d : ℕ). insert_entry nat_cmp (heads_of es) d e.0) (same ∙ ap (λ (x : Entry). destination x.addressee) (sym one))
    by Greater is more there = ap (λ (hs : List (ℕ × ℕ)). insert_entry nat_cmp hs (goal_of e) e.0) (more there)

-- ---- set right

module _ (n : ℕ) (kept : Kept) where
  abbrev es : List Waiting
  es = kept.entries

  abbrev goals_at : Option Entry → Option ℕ
  goals_at there = option_map (λ entry. destination entry.addressee) there

  -- behind one that was put
  module _ (entry : Entry) where
    abbrev then_kept : Kept
    then_kept = with_waiting n entry kept

    abbrev reached : ℕ
    reached = destination entry.addressee

    new_one : at nat_cmp n es ≡ None → set_right reached then_kept (heads_of es) ≡ heads_of then_kept.entries
    new_one none =
        same_maps _ _ (with_head_rises reached _ (heads_of es) (heads_rise es)) (heads_rise then_kept.entries) (λ q.
        settled q reached then_kept.entries (heads_of es) (heads_rise es) (λ apart. sym (elsewhere_put q n entry es apart (ap (went_to q) none))))

    moved : (old : Entry) → at nat_cmp n es ≡ Some old → set_right reached then_kept (set_right (destination old.addressee) then_kept (heads_of es)) ≡ heads_of then_kept.entries
    moved old found =
        let left = destination old.addressee in
        let first_up = with_head_rises left (at nat_cmp left (heads_of then_kept.entries)) (heads_of es) (heads_rise es) in
        same_maps _ _ (with_head_rises reached _ (set_right left then_kept (heads_of es)) first_up) (heads_rise then_kept.entries) (λ q.
        settled q reached then_kept.entries (set_right left then_kept (heads_of es)) first_up (λ apart.
        settled q left then_kept.entries (heads_of es) (heads_rise es) (λ away. sym (elsewhere_put q n entry es apart (ap (went_to q) found ∙ away)))))

    pub put_right : NumbersRise es → (left : Option ℕ) → left ≡ destination_at n kept → set_right_both left reached then_kept (heads_of es) ≡ heads_of then_kept.entries
    put_right up left is = ap (λ (left : Option ℕ). set_right_both left reached then_kept (heads_of es)) is ∙ by (at nat_cmp n es) refl
      where
        or_in_place : (old : Entry) → at nat_cmp n es ≡ Some old → (b : Bool) → (destination old.addressee == reached) ≡ b
            → cond b (heads_of es) (set_right reached then_kept (set_right (destination old.addressee) then_kept (heads_of es))) ≡ heads_of then_kept.entries
        or_in_place old found true same = sym (in_place n entry old es up (sym (eqb-true (destination old.addressee) reached same)) found)
        or_in_place old found false other = moved old found

        by : (there : Option Entry) → at nat_cmp n es ≡ there → set_right_both (goals_at there) reached then_kept (heads_of es) ≡ heads_of then_kept.entries
        by None none = new_one none
        by (Some old) found = or_in_place old found (destination old.addressee == reached) refl

  -- behind one that went
  pub left_right : (left : Option ℕ) → left ≡ destination_at n kept → set_right_where left (without_waiting n kept) (heads_of es) ≡ heads_of (without_waiting n kept).entries
  left_right left is = ap (λ (left : Option ℕ). set_right_where left (without_waiting n kept) (heads_of es)) is ∙ by (at nat_cmp n es) refl
    where
      by : (there : Option Entry) → at nat_cmp n es ≡ there → set_right_where (goals_at there) (without_waiting n kept) (heads_of es) ≡ heads_of (without_waiting n kept).entries
      by None none = same_maps _ _ (heads_rise es) (heads_rise (without_waiting n kept).entries) (λ q. sym (elsewhere_left q n es (ap (went_to q) none)))
      by (Some old) found =
          same_maps _ _ (with_head_rises (destination old.addressee) _ (heads_of es) (heads_rise es)) (heads_rise (without_waiting n kept).entries) (λ q.
          settled q (destination old.addressee) (without_waiting n kept).entries (heads_of es) (heads_rise es) (λ away. sym (elsewhere_left q n es (ap (went_to q) found ∙ away))))
