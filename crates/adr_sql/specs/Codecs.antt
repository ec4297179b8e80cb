-- A table as a map: its rows stand for keys with their values.
use Rattle.std.specs.Prelude.{◌≡◌, ℕ, List, [], ◌∷◌, Option, None, Some}
use Rattle.std.specs.declared.cmp.Ordering.{Ordering}
use Rattle.std.specs.declared.cmp.Ordering.TheVariants.{Equal}
use Rattle.sqlite.specs.Order.{Row}
use Rattle.adr_sql.specs.Keys.{key_order}

-- how a map is kept: rows are ordered by their first n columns as keys are, a key alone is so many values of SQL, and keys that
-- compare as equal are kept alike
pub record IsCodec {K V : Type 0} (n : ℕ) (cmp : K → K → Ordering) (row_of : K × V → Row) (key_of : K → Row) : Type 0 where
  pub named : (k : K) (e : K × V) → key_order n (key_of k) (row_of e) ≡ cmp k e.0
  pub keyed : (k : K) (v : V) (e : K × V) → key_order n (row_of (k, v)) (row_of e) ≡ cmp k e.0
  pub same : (j k : K) (v : V) → cmp k j ≡ Equal → row_of (k, v) ≡ row_of (j, v)

-- what is known of a key, as the entries of a map
abbrev pub entry_at : {K V : Type 0} → K → Option V → List (K × V)
entry_at k None = []
entry_at k (Some v) = (k, v) ∷ []
