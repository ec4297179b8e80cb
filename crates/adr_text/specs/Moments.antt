-- Instants, as nanoseconds from 1970.
use Rattle.std.specs.Prelude.{ℕ, zero, suc, ◌-◌, ◌/◌, ◌%◌, ◌==◌, nat_lt, nat_le, ℤ, pos, negsuc, List, [], ◌∷◌, ◌++◌, length, Some, Result, Ok, Err, if◌then◌else◌}
use Rattle.jiff_core.specs.Calendar.{days_in_year, days_in_month}
use Rattle.jiff_fmt.specs.Text.{pad2, pad4, fraction}
use Rattle.jiff.specs.Words.{parse_timestamp, Error}
use Rattle.adr_text.specs.declared.refusal.Refusal.{Refusal}
use Rattle.adr_text.specs.declared.refusal.Refusal.TheVariants.{BadShape}

-- 2199-12-31T23:59:59.999999999Z
abbrev pub last_nanos : ℕ
last_nanos = 7_258_118_399_999_999_999

-- an instant in range
abbrev pub moment_at : ℤ → Result ℕ Refusal
moment_at (pos n) = if nat_le n last_nanos then Ok n else Err BadShape
moment_at (negsuc n) = Err BadShape

-- where jiff reads an instant
abbrev pub moment_where : Result ℤ Error → Result ℕ Refusal
moment_where (Ok z) = moment_at z
moment_where (Err e) = Err BadShape

-- a text of at most 64 bytes that jiff reads as an instant from 1970-01-01T00:00:00Z to
-- 2199-12-31T23:59:59.999999999Z, as nanoseconds from 1970
unfoldable pub moment_of : List ℕ → Result ℕ Refusal
moment_of text = if nat_le (length text) 64 then moment_where (parse_timestamp text) else Err BadShape

-- ---- the text of a moment

-- the year of a day, and its place there from 0: of the k years from y on, where d days have passed since y began
unfoldable pub year_from : ℕ → ℕ → ℕ → ℕ × ℕ
year_from zero y d = (y, d)
year_from (suc k) y d = if nat_lt d (days_in_year (pos y)) then (y, d) else year_from k (suc y) (d - days_in_year (pos y))

-- the same for the months of a year
unfoldable pub month_from : ℕ → ℕ → ℕ → ℕ → ℕ × ℕ
month_from zero y m d = (m, d)
month_from (suc k) y m d = if nat_lt d (days_in_month (pos y) m) then (m, d) else month_from k y (suc m) (d - days_in_month (pos y) m)

-- year, month and day, where so many days have passed since 1970-01-01
unfoldable pub date_of : ℕ → ℕ × ℕ × ℕ
date_of d =
    let year = year_from 230 1970 d in
    let month = month_from 12 year.0 1 year.1 in
    (year.0, month.0, suc month.1)

-- a point and nine digits, unless the second is whole
abbrev pub second_part : ℕ → List ℕ
second_part n = if n == 0 then [] else 46 ∷ fraction (Some 9) n

-- `YYYY-MM-DDTHH:MM:SSZ`, with a point and nine digits before `Z` where the second isn't whole
unfoldable pub moment_text : ℕ → List ℕ
moment_text n =
    let date = date_of (n / 86_400_000_000_000) in
    pad4 date.0 ++ 45 ∷ pad2 date.1 ++ 45 ∷ pad2 date.2 ++ 84 ∷ pad2 (n / 3_600_000_000_000 % 24) ++ 58 ∷ pad2 (n / 60_000_000_000 % 60)
    ++ 58 ∷ pad2 (n / 1_000_000_000 % 60) ++ second_part (n % 1_000_000_000) ++ 90 ∷ []
