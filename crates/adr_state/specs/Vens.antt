-- Vens by their ids, as they are shown, and what is decided of them.
use Rattle.std.specs.Prelude.{ℕ, List, Option, option_map, option_and_then, Result, Ok}
use Rattle.std.specs.Ordering.{nat_cmp}
use Rattle.adr_text.specs.Refusals.{◌>>=◌, or_else}
use Rattle.adr_text.specs.declared.refusal.Refusal.{Refusal}
use Rattle.adr_text.specs.declared.refusal.Refusal.TheVariants.{NotFound}
use Rattle.adr_objects.specs.declared.shown.VenObject.{VenObject}
use Rattle.adr_state.specs.declared.portfolio.Portfolio.{Portfolio}
use Rattle.adr_state.specs.declared.portfolio.Ven.{Ven}
use Rattle.adr_state.specs.declared.limits.Limits.{Limits}
use Rattle.adr_state.specs.Keys.{at}
use Rattle.adr_state.specs.Digits.{number_in}
use Rattle.adr_state.specs.Names.{ven_name, is_taken, is_taken_by_another, is_full, if_new, if_free}
use Rattle.adr_state.specs.Stamping.{fresh, modified_at}
use Rattle.adr_state.specs.Portfolios.{PortfolioChange, PutVen, DropVen}

-- the ven of an id, with its number
abbrev pub ven_with_id : List ℕ → Portfolio → Option (ℕ × Ven)
ven_with_id id p = option_and_then (λ n. option_map (λ v. (n, v)) (at nat_cmp n p.vens)) (number_in 118 id)

-- the number of the ven of an id, where it is there
abbrev pub ven_at : List ℕ → Portfolio → Option ℕ
ven_at id p = option_map (λ v. v.0) (ven_with_id id p)

-- a ven as it is told: its number, its name and its stamps
abbrev pub ven_object : ℕ × Ven → VenObject
ven_object v = record { number = v.0; name = v.1.name; stamps = v.1.stamps }

-- a ven is put, and answered
abbrev pub putting_ven : ℕ → Ven → VenObject × PortfolioChange
putting_ven n ven = (ven_object (n, ven), PutVen n ven)

-- a new ven of a name, under the number that is handed in: a name that another has is 7, and 10 where there are as
-- many as may be
abbrev pub ven_add : Limits → ℕ → ℕ → List ℕ → Portfolio → Result (VenObject × PortfolioChange) Refusal
ven_add limits now n name p = if_new (is_taken ven_name name p.vens) (is_full limits.vens p.vens) (putting_ven n (record { name = name; stamps = fresh now }))

-- the ven of an id has the name from now on: one that isn't there is 6, and a name that another ven has 7. It keeps
-- when it was created and is modified now, also where its name stays
abbrev pub ven_put : ℕ → List ℕ → List ℕ → Portfolio → Result (VenObject × PortfolioChange) Refusal
ven_put now id name p =
    or_else NotFound (ven_with_id id p) >>= λ v. if_free (is_taken_by_another ven_name v.0 name p.vens) (putting_ven v.0 (record { name = name; stamps = modified_at now v.1.stamps }))

-- the ven of an id goes, and is answered with its old stamps; one that isn't there is 6
abbrev pub ven_remove : List ℕ → Portfolio → Result (VenObject × PortfolioChange) Refusal
ven_remove id p = or_else NotFound (ven_with_id id p) >>= λ v. Ok (ven_object v, DropVen v.0)
