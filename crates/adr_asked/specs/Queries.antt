-- The query of a listing: which part of it is asked for.
use Rattle.std.specs.Prelude.{ℕ, List, [], ◌∷◌, map, filter, codes, bytes_eq, Option, None, Some, Result, Ok, Err}
use Rattle.std.specs.Str.Lossy.{utf8_lossy}
use Rattle.form_urlencoded.specs.Form.{decode, raw_pairs}
use Rattle.adr_text.specs.Refusals.{◌>>=◌, or_else}
use Rattle.adr_text.specs.declared.refusal.Refusal.{Refusal}
use Rattle.adr_text.specs.declared.refusal.Refusal.TheVariants.{BadShape}
use Rattle.adr_state.specs.Digits.{number_within}
use Rattle.adr_queries.specs.declared.query.Page.{Page}

-- a name or a value as text
abbrev pub decoded_text : List ℕ → List ℕ
decoded_text bytes = utf8_lossy (decode bytes)

-- the values of the parameter of a name, in their order
unfoldable pub values_of : List ℕ → List (List ℕ × List ℕ) → List (List ℕ)
values_of name pairs = map (λ p. decoded_text p.1) (filter (λ p. bytes_eq (decoded_text p.0) name) pairs)

-- the value of a parameter that is given at most once
abbrev pub only_one : List (List ℕ) → Result (Option (List ℕ)) Refusal
only_one [] = Ok None
only_one (v ∷ []) = Ok (Some v)
only_one (v ∷ w ∷ vs) = Err BadShape

-- the number that a value is, or the default where there is none
abbrev pub number_or : ℕ → ℕ → Option (List ℕ) → Result ℕ Refusal
number_or default most None = Ok default
number_or default most (Some v) = or_else BadShape (number_within most v)

-- the number of a parameter, which is given at most once and is in range, or the default where it isn't given
unfoldable pub number_in : List ℕ → ℕ → ℕ → List ℕ → Result ℕ Refusal
number_in name default most query = only_one (values_of name (raw_pairs query)) >>= number_or default most

-- `skip` from 0 to 2147483647 and `limit` from 0 to 50, each at most once; other parameters are passed over
unfoldable pub page_asked : List ℕ → Result Page Refusal
page_asked query = do
  skip ← number_in (codes "skip") 0 2147483647 query
  limit ← number_in (codes "limit") 50 50 query
  Ok (record { skip = skip; limit = limit })
