-- A walk over the text of a JSON value ends outside of strings, as deep as it began.
use Rattle.std.proofs.Common.{◌≡◌, ℕ, suc, ◌+◌, ◌/◌, ◌%◌, ◌<◌, ◌≤◌, ◌==◌, Bool, true, false, List, [], ◌∷◌, ◌++◌, length, Option, Some, None, inl, inr, ◌⊎◌, refl, sym, ap, ◌∙◌, arith, zero, decimal, pos, negsuc}
use Rattle.std.specs.Prelude.{option_and_then, option_map, unwrap_or, nat_lt, if◌then◌else◌}
use Rattle.std.specs.Fmt.{digit_glyph, digits_onto, digits}
use Rattle.std.specs.Char.{digit_char}
use Rattle.std.proofs.lemmas.Option.{same_Some}
use Rattle.std.proofs.lemmas.Bool.{true≢false, cases_lt, ne_eqb, eqb-true, lt-ltb, le-ltb}
use Rattle.json.specs.Print.{quoted, escape, escape_byte, escape_letter}
use Rattle.serde_json.specs.Data.{Num, unsigned, negative, float, Data, null, boolean, number, string, array, object, Items, no_items, item, Members, no_members, member}
use Rattle.serde_json.specs.Written.{number_text, compact_text, items_text, members_text, comma_if}
use Rattle.adr_event_text.specs.Walks.{onward, bytes_on, member_len}
use Rattle.adr_event_text.specs.declared.walk.Place.{Place}
use Rattle.adr_event_text.specs.declared.walk.Place.TheVariants.{Outside, Inside}

-- where a text leads, unless the member ends in it
abbrev pub after : Place → List ℕ → Option Place
after place [] = Some place
after place (byte ∷ bytes) = option_and_then (λ next. after next bytes) (onward place byte)

and_then_on : (o : Option Place) (xs ys : List ℕ) → ((p : Place) → after p (xs ++ ys) ≡ option_and_then (λ q. after q ys) (after p xs))
    → option_and_then (λ next. after next (xs ++ ys)) o ≡ option_and_then (λ q. after q ys) (option_and_then (λ next. after next xs) o)
and_then_on None xs ys h = refl
and_then_on (Some p) xs ys h = h p

pub after_both : (xs ys : List ℕ) (p : Place) → after p (xs ++ ys) ≡ option_and_then (λ q. after q ys) (after p xs)
after_both [] ys p = refl
after_both (x ∷ xs) ys p = and_then_on (onward p x) xs ys (after_both xs ys)

-- a text that a walk passes, as deep as it is
abbrev pub Passes : List ℕ → Type 0
Passes t = (k : ℕ) → after (Outside k) t ≡ Some (Outside k)

pub passes_both : (s t : List ℕ) → Passes s → Passes t → Passes (s ++ t)
passes_both s t h g k = after_both s t (Outside k) ∙ ap (option_and_then (λ q. after q t)) (h k) ∙ g k

-- ---- strings

abbrev Stays : List ℕ → Type 0
Stays t = (k : ℕ) → after (Inside k) t ≡ Some (Inside k)

stays_both : (s t : List ℕ) → Stays s → Stays t → Stays (s ++ t)
stays_both s t h g k = after_both s t (Inside k) ∙ ap (option_and_then (λ q. after q t)) (h k) ∙ g k

digit_plain : (d : ℕ) → (digit_char d == 34 ≡ false) × (digit_char d == 92 ≡ false)
digit_plain d = go (cases_lt d 10)
  where
    go : (d < 10) ⊎ (10 ≤ d) → (digit_char d == 34 ≡ false) × (digit_char d == 92 ≡ false)
    go (inl less) = rw (lt-ltb d 10 less) (ne_eqb (48 + d) 34 (λ e. omega arith), ne_eqb (48 + d) 92 (λ e. omega arith))
    go (inr more) = rw (le-ltb d 10 more) (ne_eqb (87 + d) 34 (λ e. omega arith), ne_eqb (87 + d) 92 (λ e. omega arith))

-- a byte that has no short escape is neither a quote nor a backslash
no_quote : (q b : Bool) (x : ℕ) → x == 34 ≡ q → x == 92 ≡ b → nat_lt 0 (escape_letter x) ≡ false → (x == 34 ≡ false) × (x == 92 ≡ false)
no_quote true b x is bs h = absurd (true≢false (sym (rw (is, eqb-true x 34 is) refl) ∙ h))
no_quote false true x q is h = absurd (true≢false (sym (rw (q, is, eqb-true x 92 is) refl) ∙ h))
no_quote false false x q b h = (q, b)

-- a byte with a short escape, a control, or a byte that stands for itself
escaped_stays : (short control : Bool) (x : ℕ) → nat_lt 0 (escape_letter x) ≡ short → nat_lt x 32 ≡ control → Stays (escape_byte x)
unfolding escape_byte
escaped_stays true control x h g k = rw h refl
escaped_stays false true x h g k = rw (h, g, (digit_plain (x / 16)).0, (digit_plain (x / 16)).1, (digit_plain (x % 16)).0, (digit_plain (x % 16)).1) refl
escaped_stays false false x h g k = let plain = no_quote _ _ x refl refl h in rw (h, g, plain.0, plain.1) refl

pub escape_stays : (s : List ℕ) → Stays (escape s)
escape_stays [] = λ k. refl
escape_stays (x ∷ xs) = stays_both (escape_byte x) (escape xs) (escaped_stays _ _ x refl refl) (escape_stays xs)

pub quoted_passes : (s : List ℕ) → Passes (quoted s)
quoted_passes s k = after_both (escape s) (34 ∷ []) (Inside k) ∙ ap (option_and_then (λ q. after q (34 ∷ []))) (escape_stays s k)

-- ---- numbers

-- a digit of a number in decimal
digit_passes : (d : ℕ) → d < 10 → (acc : List ℕ) → Passes acc → Passes (digit_glyph false d ∷ acc)
digit_passes d small acc h k =
    rw (lt-ltb d 10 small, ne_eqb (48 + d) 34 (λ e. omega arith), ne_eqb (48 + d) 91 (λ e. omega arith), ne_eqb (48 + d) 123 (λ e. omega arith), ne_eqb (48 + d) 93 (λ e. omega arith), ne_eqb (48 + d) 125 (λ e. omega arith), ne_eqb (48 + d) 44 (λ e. omega arith)) (h k)

digits_by : (b : Bool) (xs ys : List ℕ) → Passes xs → Passes ys → Passes (if b then xs else ys)
digits_by true xs ys h g = h
digits_by false xs ys h g = g

digits_pass : (k n : ℕ) (acc : List ℕ) → Passes acc → Passes (digits_onto k 10 false n acc)
digits_pass zero n acc h = h
digits_pass (suc k) n acc h =
    let more = digit_passes (n % 10) (omega arith) acc h in
    digits_by (n / 10 == 0) (digit_glyph false (n % 10) ∷ acc) (digits_onto k 10 false (n / 10) (digit_glyph false (n % 10) ∷ acc)) more (digits_pass k (n / 10) (digit_glyph false (n % 10) ∷ acc) more)

decimal_passes : (n : ℕ) → Passes (decimal n)
unfolding digits
decimal_passes n = digits_pass 64 n [] (λ k. refl)

number_passes : (n : Num) → Passes (number_text n)
number_passes (unsigned n) = decimal_passes n
number_passes (negative (pos n)) = decimal_passes n
number_passes (negative (negsuc n)) = λ k. decimal_passes (suc n) k
number_passes (float x) = λ k. refl

-- ---- values

-- a text that ends inner brackets
abbrev Closes : List ℕ → Type 0
Closes t = (k : ℕ) → after (Outside (suc k)) t ≡ Some (Outside k)

closes_behind : (s t : List ℕ) → Passes s → Closes t → Closes (s ++ t)
closes_behind s t h g k = after_both s t (Outside (suc k)) ∙ ap (option_and_then (λ q. after q t)) (h (suc k)) ∙ g k

-- a comma, where something stands before
closes_parted : (later : Bool) (t : List ℕ) → Closes t → Closes (comma_if later ++ t)
closes_parted true t h k = h k
closes_parted false t h k = h k

mutual
  pub value_passes : (d : Data) → Passes (compact_text d)
  value_passes null = λ k. refl
  value_passes (boolean true) = λ k. refl
  value_passes (boolean false) = λ k. refl
  value_passes (number n) = number_passes n
  value_passes (string s) = quoted_passes s
  value_passes (array ds) = λ k. items_close false ds k
  value_passes (object ms) = λ k. members_close false ms k

  items_close : (later : Bool) (ds : Items) → Closes (items_text later ds)
  items_close later no_items = λ k. refl
  items_close later (item d ds) =
      closes_parted later _ (closes_behind (compact_text d) (items_text true ds) (value_passes d) (items_close true ds))

  members_close : (later : Bool) (ms : Members) → Closes (members_text later ms)
  members_close later no_members = λ k. refl
  members_close later (member n d ms) =
      closes_parted later _ (closes_behind (quoted n) _ (quoted_passes n) (λ k. closes_behind (compact_text d) (members_text true ms) (value_passes d) (members_close true ms) k))

-- ---- how far it goes

len_on : (o : Option Place) (xs ys : List ℕ) (q : Place) → option_and_then (λ next. after next xs) o ≡ Some q → ((p : Place) → after p xs ≡ Some q → bytes_on p (xs ++ ys) ≡ length xs + bytes_on q ys)
    → unwrap_or (option_map (λ next. suc (bytes_on next (xs ++ ys))) o) 0 ≡ suc (length xs) + bytes_on q ys
len_on None xs ys q is h = absurd (cc)
len_on (Some p) xs ys q is h = let more = h p is in omega (arith, more)

len_after : (xs ys : List ℕ) (p q : Place) → after p xs ≡ Some q → bytes_on p (xs ++ ys) ≡ length xs + bytes_on q ys
len_after [] ys p q is = let same = ap (λ place. bytes_on place ys) (same_Some p q is) in omega (arith, same)
len_after (x ∷ xs) ys p q is = len_on (onward p x) xs ys q is (λ next. len_after xs ys next q)

-- a member goes to the comma behind it
pub member_is : (text rest : List ℕ) → Passes text → member_len (text ++ 44 ∷ rest) ≡ length text
unfolding member_len
member_is text rest passes = let far = len_after text (44 ∷ rest) (Outside 0) (Outside 0) (passes 0) in omega (arith, far)
