-- The date of a day is the calendar's.
use Rattle.std.proofs.Common.{◌≡◌, ℕ, zero, suc, ◌+◌, ◌-◌, ◌*◌, ◌/◌, ◌%◌, ◌<◌, ◌≤◌, false, [], ◌∷◌, ◌++◌, ◌⊎◌, Some, inl, inr, refl, add-one, arith, ℤ, pos, negsuc}
use Rattle.std.proofs.lemmas.Bool.{cases_lt, lt-ltb, le-ltb}
use Rattle.std.proofs.Math.Dec.{eqb-suc-zero}
use Rattle.jiff_core.specs.Calendar.{days_in_year, days_in_month, day_count, day_of_year, IsCivilDate}
use Rattle.jiff_core.proofs.SignedLemmas.{signed_arith}
use Rattle.jiff_core.proofs.CalendarLemmas.{day_count-epoch, day_count-year_is, day_count-next_year, day_count-later_year, day_count-lt_year, day_count-day_of_year, day_of_year_bound, day_count-lt_month, day_count-day, day_count-next_month, days_in_month_bounds}
use Rattle.jiff_core.proofs.CalendarLemmas.{days_from_civil-day_count}
use Rattle.jiff_core.proofs.MarchLemmas.{day_count-early}
use Rattle.jiff_core.proofs.DateLemmas.{civil}
use Rattle.jiff_core.proofs.DateTimeLemmas.{civil_nanos-parts, time_nanos_bound}
use Rattle.jiff_core.specs.declared.civil.date.Date.{Date}
use Rattle.jiff_core.specs.declared.civil.datetime.DateTime.{DateTime}
use Rattle.jiff_core.specs.Date.{epoch_day}
use Rattle.jiff_core.specs.Time.{time_nanos}
use Rattle.jiff_core.specs.DateTime.{civil_nanos}
use Rattle.jiff_fmt.specs.Text.{date_text, datetime_text, pad2, pad4, fraction_part}
use Rattle.adr_text.specs.Moments.{year_from, month_from, date_of, moment_text, second_part, last_nanos}

-- a year and the days that are left in it
pub record Leads (found : ℕ × ℕ) (unit left : ℕ) : Type 0 where
  pub unit_is : found.0 ≡ unit
  pub left_is : found.1 ≡ left

at_year : (y₀ y m dd d : ℕ) → y₀ ≡ y → d + day_count (pos y₀) 1 1 ≡ day_count (pos y) m dd → 1 ≤ dd → d + 1 ≡ day_of_year (pos y) m dd
at_year y₀ y m dd d same e first =
    let at = rw same at e in
    omega (arith, day_count-day_of_year (pos y) m dd first)

pub year_from_is : (k y₀ y m dd d : ℕ) → y₀ ≤ y → y < y₀ + k → y ≤ 9998 → IsCivilDate (pos y) m dd → d + day_count (pos y₀) 1 1 ≡ day_count (pos y) m dd → Leads (year_from k y₀ d) y (day_of_year (pos y) m dd - 1)
unfolding year_from
year_from_is zero y₀ y m dd d low high small civil e = absurd (omega arith)
year_from_is (suc k) y₀ y m dd d low high small civil e =
    elim (cases_lt d (days_in_year (pos y₀))) [
      | inl lt ↦
          let same_z : pos y ≡ pos y₀ = day_count-year_is (pos y₀) (pos y) m dd (omega (arith, signed_arith)) civil (omega arith) (omega arith) in
          let same : y₀ ≡ y = omega (arith, signed_arith) in
          rw (lt-ltb d (days_in_year (pos y₀)) lt) (record { unit_is = same; left_is = omega (arith, at_year y₀ y m dd d same e civil.2.0) })
      | inr ge ↦
          let next : day_count (pos (suc y₀)) 1 1 ≡ day_count (pos y₀) 1 1 + days_in_year (pos y₀) = day_count-next_year (pos y₀) (pos (suc y₀)) (omega (arith, signed_arith)) (omega (arith, signed_arith)) in
          let later : y₀ + 1 ≤ y = elim (cases_lt y₀ y) [
            | inl lt ↦ omega arith
            | inr le ↦
                let same : y₀ ≡ y = omega arith in
                let bound : day_of_year (pos y) m dd ≤ days_in_year (pos y₀) = rw same (day_of_year_bound (pos y) m dd civil) in
                absurd (omega (arith, at_year y₀ y m dd d same e civil.2.0))
          ] in
          let rest : d - days_in_year (pos y₀) + day_count (pos (suc y₀)) 1 1 ≡ day_count (pos y) m dd = omega arith in
          rw (le-ltb d (days_in_year (pos y₀)) ge) (year_from_is k (suc y₀) y m dd (d - days_in_year (pos y₀)) (omega arith) (omega arith) small civil rest)
    ]

at_month : (y : ℤ) (m₀ m dd d : ℕ) → m₀ ≡ m → d + day_count y m₀ 1 ≡ day_count y m dd → 1 ≤ dd → d + 1 ≡ dd
at_month y m₀ m dd d same e first =
    let at = rw same at e in
    omega (arith, day_count-day y m 1 dd (omega arith) first)

pub month_from_is : (k m₀ y m dd d : ℕ) → 1 ≤ m₀ → m₀ ≤ m → m < m₀ + k → IsCivilDate (pos y) m dd → d + day_count (pos y) m₀ 1 ≡ day_count (pos y) m dd → Leads (month_from k y m₀ d) m (dd - 1)
unfolding month_from
month_from_is zero m₀ y m dd d one low high civil e = absurd (omega arith)
month_from_is (suc k) m₀ y m dd d one low high civil e =
    let days = days_in_month (pos y) m₀ in
    let some = days_in_month_bounds (pos y) m₀ in
    elim (cases_lt d (days_in_month (pos y) m₀)) [
      | inl lt ↦
          let same : m₀ ≡ m = elim (cases_lt m₀ m) [
            | inl before ↦
                let last : IsCivilDate (pos y) m₀ (days_in_month (pos y) m₀) = (civil.0, (one, omega (arith, civil.1.1)), (omega (arith, some.1), omega arith)) in
                absurd (omega (arith, day_count-lt_month (pos y) m₀ (days_in_month (pos y) m₀) m dd last civil.2.0 before, day_count-day (pos y) m₀ 1 (days_in_month (pos y) m₀) (omega arith) (omega (arith, some.1))))
            | inr le ↦ omega arith
          ] in
          rw (lt-ltb d (days_in_month (pos y) m₀) lt) (record { unit_is = same; left_is = omega (arith, at_month (pos y) m₀ m dd d same e civil.2.0) })
      | inr ge ↦
          let later : m₀ + 1 ≤ m = elim (cases_lt m₀ m) [
            | inl lt ↦ omega arith
            | inr le ↦
                let same : m₀ ≡ m = omega arith in
                let bound : dd ≤ days_in_month (pos y) m₀ = rw same civil.2.1 in
                absurd (omega (arith, at_month (pos y) m₀ m dd d same e civil.2.0))
          ] in
          let next : day_count (pos y) (suc m₀) 1 ≡ day_count (pos y) m₀ 1 + days_in_month (pos y) m₀ = rw add-one at (day_count-next_month (pos y) m₀ one) in
          let rest : d - days_in_month (pos y) m₀ + day_count (pos y) (suc m₀) 1 ≡ day_count (pos y) m dd = omega arith in
          rw (le-ltb d (days_in_month (pos y) m₀) ge) (month_from_is k (suc m₀) y m dd (d - days_in_month (pos y) m₀) (omega arith) (omega arith) (omega arith) civil rest)
    ]

-- ---- a date

pub record IsDateOf (found : ℕ × ℕ × ℕ) (y m dd : ℕ) : Type 0 where
  pub year : found.0 ≡ y
  pub month : found.1 ≡ m
  pub day : found.2 ≡ dd

pub date_of_is : (k y m dd : ℕ) → 1970 ≤ y → y < 2200 → IsCivilDate (pos y) m dd → k + day_count (pos 1970) 1 1 ≡ day_count (pos y) m dd → IsDateOf (date_of k) y m dd
unfolding date_of
date_of_is k y m dd low high civil e =
    let year = year_from_is 230 1970 y m dd k low (omega arith) (omega arith) civil e in
    let left : day_of_year (pos y) m dd - 1 + day_count (pos y) 1 1 ≡ day_count (pos y) m dd = omega (arith, day_count-day_of_year (pos y) m dd civil.2.0, at_least_one y m dd civil) in
    let month = month_from_is 12 1 y m dd (day_of_year (pos y) m dd - 1) (omega arith) civil.1.0 (omega (arith, civil.1.1)) civil left in
    record { year = year.unit_is; month = rw (year.unit_is, year.left_is) month.unit_is; day = rw (year.unit_is, year.left_is) (omega (arith, month.left_is, civil.2.0)) }
  where
    at_least_one : (y m dd : ℕ) → IsCivilDate (pos y) m dd → 1 ≤ day_of_year (pos y) m dd
    at_least_one y m dd civil = omega (arith, civil.2.0)

day_count-2200 : day_count (pos 2200) 1 1 ≡ 4_455_959
day_count-2200 = day_count-early _ 12199 1 1 refl (omega arith) (omega arith) (omega arith)

-- the year of a day of 1970 to 2199
year_in : (year : ℤ) (m dd k : ℕ) → IsCivilDate year m dd → k + 4_371_953 ≡ day_count year m dd → k < 84_006 → (y : ℕ) × (year ≡ pos y) × (1970 ≤ y) × (y < 2200)
year_in (negsuc a) m dd k civil e few =
    absurd (omega (arith, day_count-epoch, day_count-lt_year (negsuc a) m dd (pos 1970) 1 1 civil (omega arith) (omega (arith, signed_arith))))
year_in (pos y) m dd k civil e few =
    let low : 1970 ≤ y = elim (cases_lt y 1970) [
      | inl lt ↦ absurd (omega (arith, day_count-epoch, day_count-lt_year (pos y) m dd (pos 1970) 1 1 civil (omega arith) (omega (arith, signed_arith))))
      | inr le ↦ le
    ] in
    let high : y < 2200 = elim (cases_lt y 2200) [
      | inl lt ↦ lt
      | inr le ↦ absurd (omega (arith, day_count-2200, later y le, day_count-day_of_year (pos y) m dd civil.2.0))
    ] in
    (y, refl, low, high)
  where
    later : (y : ℕ) → 2200 ≤ y → day_count (pos 2200) 1 1 ≤ day_count (pos y) 1 1
    later y le = elim (cases_lt 2200 y) [
      | inl lt ↦ omega (arith, day_count-later_year (pos 2200) (pos y) (omega (arith, signed_arith)) (omega (arith, signed_arith)))
      | inr ge ↦ let same : y ≡ 2200 = omega arith in rw same (omega arith)
    ]

date_text_at : (year : ℤ) (y m dd k : ℕ) (date : Date) → date.year ≡ pos y → date.month ≡ m → date.day ≡ dd → IsDateOf (date_of k) y m dd → date_text date ≡ pad4 (date_of k).0 ++ 45 ∷ pad2 (date_of k).1 ++ 45 ∷ pad2 (date_of k).2
date_text_at year y m dd k date ey em ed found = rw (ey, em, ed, found.year, found.month, found.day) refl

pub date_text_is : (k : ℕ) (date : Date) → k < 84_006 → epoch_day date ≡ pos k → date_text date ≡ pad4 (date_of k).0 ++ 45 ∷ pad2 (date_of k).1 ++ 45 ∷ pad2 (date_of k).2
date_text_is k date few e =
    let told = rw e at (days_from_civil-day_count date.year date.month date.day) in
    let counted : k + 4_371_953 ≡ day_count date.year date.month date.day = omega (arith, told) in
    let year = year_in date.year date.month date.day k (civil date) counted few in
    let civil' = rw year.1 at (civil date) in
    let counted' = rw year.1 at counted in
    date_text_at date.year year.0 date.month date.day k date year.1 refl refl
    (date_of_is k year.0 date.month date.day year.2 year.3 civil' (omega (arith, day_count-epoch, counted')))

-- ---- a moment

pub record IsClock (dt : DateTime) (n : ℕ) : Type 0 where
  pub day : epoch_day dt.date ≡ pos (n / 86_400_000_000_000)
  pub hour : dt.time.hour ≡ n / 3_600_000_000_000 % 24
  pub minute : dt.time.minute ≡ n / 60_000_000_000 % 60
  pub second : dt.time.second ≡ n / 1_000_000_000 % 60
  pub subsec : dt.time.subsec_nanosecond ≡ n % 1_000_000_000

day_is : (dt : DateTime) (n : ℕ) → civil_nanos dt ≡ pos n → (epoch_day dt.date ≡ pos (n / 86_400_000_000_000)) × (time_nanos dt.time ≡ n % 86_400_000_000_000)
day_is dt n e = omega (arith, signed_arith, civil_nanos-parts dt, time_nanos_bound dt.time)

clock_is : (dt : DateTime) (n : ℕ) → civil_nanos dt ≡ pos n → IsClock dt n
clock_is dt n e =
    let day = day_is dt n e in
    let inside : ((dt.time.hour * 3600 + dt.time.minute * 60 + dt.time.second) * 1_000_000_000) + dt.time.subsec_nanosecond ≡ n % 86_400_000_000_000 = day.1 in
    let h : dt.time.hour < 24 = dt.time.hour_in in
    let mi : dt.time.minute < 60 = dt.time.minute_in in
    let s : dt.time.second < 60 = dt.time.second_in in
    let f : dt.time.subsec_nanosecond < 1_000_000_000 = dt.time.subsec_in in
    record { day = day.0; hour = omega arith; minute = omega arith; second = omega arith; subsec = omega arith }

pub fraction_is : (p s : ℕ) → ((s ≡ 0) × (p ≡ 0)) ⊎ ((s ≡ 0 → ⊥) × (p ≡ 9)) → fraction_part (Some p) s ≡ second_part s
fraction_is p s (inl both) = rw (both.0, both.1) refl
fraction_is p zero (inr both) = absurd (both.0 refl)
fraction_is p (suc s) (inr both) = rw (both.1, eqb-suc-zero) refl

pub text_is : (n p : ℕ) (dt : DateTime) → n ≤ last_nanos → civil_nanos dt ≡ pos n → ((n % 1_000_000_000 ≡ 0) × (p ≡ 0)) ⊎ ((n % 1_000_000_000 ≡ 0 → ⊥) × (p ≡ 9))
    → datetime_text false 84 (Some p) dt ++ 90 ∷ [] ≡ moment_text n
unfolding moment_text
text_is n p dt small e how =
    let clock = clock_is dt n e in
    rw (date_text_is (n / 86_400_000_000_000) dt.date (omega arith) clock.day, clock.hour, clock.minute, clock.second, clock.subsec, fraction_is p (n % 1_000_000_000) how)
    refl
