-- What SQL's comparisons of two numbers say.
use Rattle.std.proofs.Common.{◌≡◌, ◌<◌, ℕ, pos, Some, Ordering, Less, Equal, Greater, refl, sym, ap, ◌∙◌, arith}
use Rattle.std.specs.Prelude.{nat_le}
use Rattle.std.specs.Ordering.{is_le, is_ge}
use Rattle.std.proofs.lemmas.Bool.{le-leb, lt-leb}
use Rattle.adr_db.proofs.Common.{nat_cmp, nat_cmp_total, ranked, MatchOrdering, ordering_reverse, value_cmp-Int}
use Rattle.sqlite_value.specs.declared.keys.Collation.TheVariants.{Binary}
use Rattle.sqlite_sql.specs.declared.ops.BinaryOp.TheVariants.{Compare}
use Rattle.sqlite_sql.specs.declared.ops.CompareOp.{CompareOp}
use Rattle.sqlite_sql.specs.declared.ops.CompareOp.TheVariants.{Le, Ge}
use Rattle.sqlite_sql.specs.Ops.{binary, is_true, from_truth, test}
use Rattle.adr_sql.proofs.Keys.{told}
use Rattle.adr_db.specs.Rows.{number}
use Rattle.adr_db.proofs.Rows.{numbers_as_values}

pub compared : (op : CompareOp) (a b : ℕ) → binary (Compare op Binary) (number a) (number b) ≡ from_truth (Some (test op (nat_cmp a b)))
unfolding binary
compared op a b = ap (λ o. from_truth (Some (test op o))) (value_cmp-Int (pos a) (pos b) ∙ numbers_as_values a b)

le_is : (a b : ℕ) → is_le (nat_cmp a b) ≡ nat_le a b
le_is a b = by (nat_cmp a b) (ranked a b (nat_cmp a b) refl)
  where
    by : (o : Ordering) → MatchOrdering o (a < b) (a ≡ b) (b < a) → is_le o ≡ nat_le a b
    by Less h = sym (le-leb a b (omega (arith, h)))
    by Equal h = sym (le-leb a b (omega (arith, h)))
    by Greater h = sym (lt-leb a b h)

turned : (o : Ordering) → is_ge o ≡ is_le (ordering_reverse o)
turned Less = refl
turned Equal = refl
turned Greater = refl

ge_is : (a b : ℕ) → is_ge (nat_cmp a b) ≡ nat_le b a
ge_is a b = turned (nat_cmp a b) ∙ ap is_le (sym (nat_cmp_total.antisymm b a)) ∙ le_is b a

pub number_le : (a b : ℕ) → is_true (binary (Compare Le Binary) (number a) (number b)) ≡ nat_le a b
number_le a b = ap is_true (compared Le a b) ∙ told _ ∙ le_is a b

pub number_ge : (a b : ℕ) → is_true (binary (Compare Ge Binary) (number a) (number b)) ≡ nat_le b a
number_ge a b = ap is_true (compared Ge a b) ∙ told _ ∙ ge_is a b
