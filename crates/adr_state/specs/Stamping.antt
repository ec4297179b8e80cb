-- How vens and resources are stamped.
use Rattle.std.specs.Prelude.{ℕ}
use Rattle.adr_objects.specs.declared.shown.Stamps.{Stamps}

-- both stamps of what is new
abbrev pub fresh : ℕ → Stamps
fresh now = record { created = now; modified = now }

-- what is put again keeps when it was created, and was modified now
abbrev pub modified_at : ℕ → Stamps → Stamps
modified_at now stamps = record stamps { modified = now }
