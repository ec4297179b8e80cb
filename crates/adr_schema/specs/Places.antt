-- Where in an object a fault is.
use Rattle.std.specs.Prelude.{ℕ}
use Rattle.adr_text.specs.declared.fault.Fault.{Fault}
use Rattle.adr_schema.specs.declared.place.Part.{Part}
use Rattle.adr_schema.specs.declared.place.Within.{Within}
use Rattle.adr_schema.specs.declared.place.Within.TheVariants as within
use Rattle.adr_schema.specs.declared.place.Place.{Place}

-- a part of an object, a target or an interval
abbrev pub part_of : Within → Part → Place
part_of within part = record { within = within; part = part }

abbrev pub in_object : Part → Place
in_object part = part_of within.Object part

abbrev pub in_target : ℕ → Part → Place
in_target number part = part_of (within.Target number) part

abbrev pub in_interval : ℕ → Part → Place
in_interval number part = part_of (within.Interval number) part

-- a fault with its place
abbrev pub Located : Type 0
Located = Place × Fault
