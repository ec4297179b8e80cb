-- The numbers and the names of vens, of resources and of reports: each row has its own after a put, and where only some are left.
use Rattle.std.proofs.Common.{◌≡◌, ℕ, suc, ◌+◌, ◌≤◌, Bool, true, false, List, [], ◌∷◌, ◌++◌, ◌⊎◌, inl, inr, sym, ap, subst, ◌∙◌, arith}
use Rattle.std.specs.Prelude.{◌≢◌, IsSome}
use Rattle.adr_laws.proofs.Common.{All, AllPairs, Contains, nat_cmp, keys_of, insert_entry, unsigned_Decides, unsigned_tied, nat_cmp_total, All-head, All-tail, All-append, All-map, All-contains, All-contains_itself, IsDistinct-from_sorted, exact_unsigned, at, IsStrictlySortedBy}
use Rattle.std.proofs.lemmas.Bool.Decides.{Decides-at}
use Rattle.std.proofs.lemmas.List.Kept.{AllPairs-cons}
use Rattle.std.proofs.lemmas.Map.Made.{AllPairs-from_IsDistinct}
use Rattle.adr_view.proofs.OrderLemmas.{InOrder, none_sorted, each_row, in_order_put}
use Rattle.adr_view.proofs.RowLemmas.{each_there, from_put, row_found}
use Rattle.adr_laws.proofs.NameLemmas.{Free}

-- ---- numbers

-- the serial when a number was drawn, or none
abbrev pub serial_then : ℕ → Bool → ℕ
serial_then serial true = serial + 1
serial_then serial false = serial

pub rises : (serial : ℕ) (draws : Bool) → serial ≤ serial_then serial draws
rises serial true = omega arith
rises serial false = omega arith

-- the number of what is put: the next one, where it is drawn, or that of a row that is there
abbrev pub IsNumber : {V : Type 0} → ℕ → Bool → List (ℕ × V) → ℕ → Type 0
IsNumber next true rows n = n ≡ next
IsNumber next false rows n = IsSome (at nat_cmp n rows)

-- a number was drawn, and if it was drawn at first already, it is one of those that were there at first
pub record IsDrawn (first : ℕ) (had : List ℕ) (serial n : ℕ) : Type 0 where
  pub at_least_one : 1 ≤ n
  pub up_to_the_serial : n ≤ serial
  pub was_there : n ≤ first → Contains had n

pub still_drawn : {first serial next n : ℕ} {had : List ℕ} → serial ≤ next → IsDrawn first had serial n → IsDrawn first had next n
still_drawn passed h = record { at_least_one = h.at_least_one; up_to_the_serial = omega (arith, h.up_to_the_serial); was_there = h.was_there }

-- ---- rows of one kind

-- they stand in the order of their numbers, which were drawn, and no two have one name, or whatever names a row
pub record HaveOwn {V X : Type 0} (name : V → X) (first : ℕ) (had : List ℕ) (serial : ℕ) (rows : List (ℕ × V)) : Type 0 where
  pub in_order : InOrder nat_cmp rows
  pub drawn : (r : ℕ × V) → Contains rows r → IsDrawn first had serial r.0
  pub differ : (a b : ℕ × V) → Contains rows a → Contains rows b → name a.1 ≡ name b.1 → a.0 ≡ b.0

module _ {V X : Type 0} {name : V → X} {first : ℕ} {had : List ℕ} {serial : ℕ} {rows : List (ℕ × V)} (h : HaveOwn name first had serial rows) where
  -- some of them, when more numbers were drawn
  pub some_own : {next : ℕ} (left : List (ℕ × V)) → serial ≤ next → InOrder nat_cmp left → ((r : ℕ × V) → Contains left r → Contains rows r) → HaveOwn name first had next left
  some_own left passed ordered from = record {
    in_order = ordered;
    drawn = λ r there. still_drawn passed (h.drawn r (from r there));
    differ = λ a b one other. h.differ a b (from a one) (from b other);
  }

  -- since the rows themselves
  pub own_from_here : HaveOwn name serial (keys_of rows) serial rows
  own_from_here = record {
    in_order = h.in_order;
    drawn = λ r there.
        let old : IsDrawn first had serial r.0 = h.drawn r there in
        record { at_least_one = old.at_least_one; up_to_the_serial = old.up_to_the_serial; was_there = λ early. All-contains (λ x. Contains (keys_of rows) x.0) rows r (each_row (Contains (keys_of rows)) rows (All-contains_itself (keys_of rows))) there };
    differ = h.differ;
  }

  module _ (n : ℕ) (v : V) where
    names_differ : Free name n (name v) rows → (a b : ℕ × V) → Contains rows a ⊎ (a ≡ (n, v)) → Contains rows b ⊎ (b ≡ (n, v)) → name a.1 ≡ name b.1 → a.0 ≡ b.0
    names_differ free a b (inl x) (inl y) same = h.differ a b x y same
    names_differ free a b (inl x) (inr y) same = sym (ap (λ r. r.0) y ∙ free a x (sym (same ∙ ap (λ r. name r.1) y)))
    names_differ free a b (inr x) (inl y) same = ap (λ r. r.0) x ∙ free b y (sym (ap (λ r. name r.1) x) ∙ same)
    names_differ free a b (inr x) (inr y) same = ap (λ r. r.0) (x ∙ sym y)

    -- one of a number that is drawn by then is put
    pub put_drawn : {next : ℕ} → serial ≤ next → IsDrawn first had next n → Free name n (name v) rows → HaveOwn name first had next (insert_entry nat_cmp rows n v)
    put_drawn {next} passed number free =
        let from = from_put exact_unsigned n v rows in
        record {
          in_order = in_order_put nat_cmp_total n v rows h.in_order;
          drawn = λ r there. elim (from r there) [
            | inl old ↦ still_drawn passed (h.drawn r old)
            | inr new ↦ subst (λ (x : ℕ × V). IsDrawn first had next x.0) (sym new) number
          ];
          differ = λ a b one other. names_differ free a b (from a one) (from b other);
        }

  module _ (rose : first ≤ serial) (n : ℕ) (v : V) where
    pub number_drawn : (draws : Bool) → IsNumber (serial + 1) draws rows n → IsDrawn first had (serial_then serial draws) n
    number_drawn true next = record { at_least_one = omega arith; up_to_the_serial = omega arith; was_there = λ early. absurd (omega arith) }
    number_drawn false found = let row = row_found n rows found in h.drawn (n, row.0) row.1

    put_own : (draws : Bool) → IsNumber (serial + 1) draws rows n → Free name n (name v) rows → HaveOwn name first had (serial_then serial draws) (insert_entry nat_cmp rows n v)
    put_own draws number free = put_drawn n v (rises serial draws) (number_drawn draws number) free

-- ---- rows of two kinds

-- both have numbers and names of their own, no number is of both, and the serial has not fallen since the first
pub record BothOwn {V W : Type 0} (name_v : V → List ℕ) (name_w : W → List ℕ) (first : ℕ) (had_v had_w : List ℕ) (serial : ℕ) (vs : List (ℕ × V)) (ws : List (ℕ × W)) : Type 0 where
  pub rose : first ≤ serial
  pub ones : HaveOwn name_v first had_v serial vs
  pub others : HaveOwn name_w first had_w serial ws
  pub apart : (v : ℕ × V) (w : ℕ × W) → Contains vs v → Contains ws w → v.0 ≢ w.0

-- none are there
pub none_own : {V W : Type 0} {name_v : V → List ℕ} {name_w : W → List ℕ} → BothOwn name_v name_w 0 [] [] 0 [] []
none_own = record { rose = omega arith; ones = none; others = none; apart = λ v w one other. absurd (omega (arith, one.1)) }
  where
    none : {V : Type 0} {name : V → List ℕ} → HaveOwn name 0 [] 0 []
    none = record { in_order = none_sorted nat_cmp; drawn = λ r there. absurd (omega (arith, there.1)); differ = λ a b one other same. absurd (omega (arith, one.1)) }

module _ {V W : Type 0} {name_v : V → List ℕ} {name_w : W → List ℕ} {first : ℕ} {had_v had_w : List ℕ} {serial : ℕ} {vs : List (ℕ × V)} {ws : List (ℕ × W)} (h : BothOwn name_v name_w first had_v had_w serial vs ws) where
  pub turned : BothOwn name_w name_v first had_w had_v serial ws vs
  turned = record { rose = h.rose; ones = h.others; others = h.ones; apart = λ w v one other same. h.apart v w other one (sym same) }

  pub some_both : {next : ℕ} (vs_left : List (ℕ × V)) (ws_left : List (ℕ × W)) → serial ≤ next → InOrder nat_cmp vs_left → ((v : ℕ × V) → Contains vs_left v → Contains vs v) → InOrder nat_cmp ws_left → ((w : ℕ × W) → Contains ws_left w → Contains ws w) → BothOwn name_v name_w first had_v had_w next vs_left ws_left
  some_both vs_left ws_left passed vs_ordered vs_from ws_ordered ws_from = record {
    rose = omega (arith, h.rose);
    ones = some_own h.ones vs_left passed vs_ordered vs_from;
    others = some_own h.others ws_left passed ws_ordered ws_from;
    apart = λ v w one other. h.apart v w (vs_from v one) (ws_from w other);
  }

  new_apart : (draws : Bool) (n : ℕ) → IsNumber (serial + 1) draws vs n → (w : ℕ × W) → Contains ws w → n ≢ w.0
  new_apart true n next w there same = let low : w.0 ≤ serial = (h.others.drawn w there).up_to_the_serial in omega arith
  new_apart false n found w there same = let row = row_found n vs found in h.apart (n, row.0) w row.1 there same

  pub put_both : (draws : Bool) (n : ℕ) (v : V) → IsNumber (serial + 1) draws vs n → Free name_v n (name_v v) vs → BothOwn name_v name_w first had_v had_w (serial_then serial draws) (insert_entry nat_cmp vs n v) ws
  put_both draws n v number free = record {
    rose = omega (arith, h.rose, rises serial draws);
    ones = put_own h.ones h.rose n v draws number free;
    others = some_own h.others ws (rises serial draws) h.others.in_order (λ w there. there);
    apart = λ x w one other. elim (from_put exact_unsigned n v vs x one) [
      | inl old ↦ h.apart x w old other
      | inr new ↦ subst (λ (y : ℕ × V). y.0 ≢ w.0) (sym new) (new_apart draws n number w other)
    ];
  }

  pub both_from_here : BothOwn name_v name_w serial (keys_of vs) (keys_of ws) serial vs ws
  both_from_here = record { rose = omega arith; ones = own_from_here h.ones; others = own_from_here h.others; apart = h.apart }

-- ---- as the law says it

pub each_number : {V : Type 0} (P : ℕ → Type 0) (rows : List (ℕ × V)) → ((r : ℕ × V) → Contains rows r → P r.0) → All P (keys_of rows)
each_number P rows h = All-map P (λ r. r.0) rows (each_there (λ r. P r.0) rows h)

-- numbers in order, each once
pub numbers_apart : (ns : List ℕ) → IsStrictlySortedBy nat_cmp ns → AllPairs (λ m n. m ≢ n) ns
numbers_apart ns ordered = AllPairs-from_IsDistinct (λ m n. Decides-at _ _ (unsigned_tied m n) (unsigned_Decides m n)) ns (IsDistinct-from_sorted nat_cmp ns ordered)

-- the numbers of rows in order
pub rows_differ : {V : Type 0} (rows : List (ℕ × V)) → InOrder nat_cmp rows → AllPairs (λ m n. m ≢ n) (keys_of rows)
rows_differ rows ordered = numbers_apart (keys_of rows) ordered

-- the first of them is none of those behind it, and of those no two are one
behind : (m : ℕ) (ms : List ℕ) → AllPairs (λ m n. m ≢ n) (m ∷ ms) → All (λ n. m ≢ n) ms
behind m ms apart k d lt = apart 0 (suc k) d (omega arith) (omega (arith, lt))

those_behind : (m : ℕ) (ms : List ℕ) → AllPairs (λ m n. m ≢ n) (m ∷ ms) → AllPairs (λ m n. m ≢ n) ms
those_behind m ms apart i j d less lt = apart (suc i) (suc j) d (omega (arith, less)) (omega (arith, lt))

-- of two lists in each of which no two are one, where none of the one is of the other
pub pairs_apart : (ms ns : List ℕ) → AllPairs (λ m n. m ≢ n) ms → AllPairs (λ m n. m ≢ n) ns → All (λ m. All (λ n. m ≢ n) ns) ms → AllPairs (λ m n. m ≢ n) (ms ++ ns)
pairs_apart [] ns one other apart = other
pairs_apart (m ∷ ms) ns one other apart =
    AllPairs-cons (λ m n. m ≢ n) m (ms ++ ns)
    (All-append (λ n. m ≢ n) ms ns (behind m ms one) (All-head (λ m. All (λ n. m ≢ n) ns) m ms apart))
    (pairs_apart ms ns (those_behind m ms one) other (All-tail (λ m. All (λ n. m ≢ n) ns) m ms apart))

module _ {V W : Type 0} {name_v : V → List ℕ} {name_w : W → List ℕ} {first : ℕ} {had_v had_w : List ℕ} {serial : ℕ} {vs : List (ℕ × V)} {ws : List (ℕ × W)} (h : BothOwn name_v name_w first had_v had_w serial vs ws) where
  -- no two rows of either kind have one number
  pub numbers_differ : AllPairs (λ m n. m ≢ n) (keys_of vs ++ keys_of ws)
  numbers_differ = pairs_apart (keys_of vs) (keys_of ws) (rows_differ vs h.ones.in_order) (rows_differ ws h.others.in_order) (each_number (λ m. All (λ n. m ≢ n) (keys_of ws)) vs (λ v one. each_number (λ n. v.0 ≢ n) ws (λ w other. h.apart v w one other)))

  -- what holds of each number that was drawn
  pub each_drawn : (P : ℕ → Type 0) → ((n : ℕ) (had : List ℕ) → IsDrawn first had serial n → P n) → All P (keys_of vs ++ keys_of ws)
  each_drawn P from = All-append P (keys_of vs) (keys_of ws) (each_number P vs (λ v there. from v.0 had_v (h.ones.drawn v there))) (each_number P ws (λ w there. from w.0 had_w (h.others.drawn w there)))
