-- Sets of names, as lists that ascend by bytes.
use Rattle.std.specs.Prelude.{ℕ, nat_le, Bool, List, [], fold, length, Result, Ok, Err, if◌then◌else◌}
use Rattle.std.specs.Ordering.{nat_cmp}
use Rattle.std.specs.Cmp.Lexicographic.{slice_cmp}
use Rattle.std.specs.List.{list_any}
use Rattle.std.specs.BTreeMap.{is_at}
use Rattle.std.specs.BTreeSet.{insert_key}
use Rattle.adr_text.specs.declared.fault.Fault.{Fault}
use Rattle.adr_text.specs.declared.fault.Fault.TheVariants.{BadShape}
use Rattle.adr_objects.specs.Limits.{most_names}

-- whether the name is one of them
abbrev pub has_name : List (List ℕ) → List ℕ → Bool
has_name names name = list_any (is_at (slice_cmp nat_cmp name)) names

-- the set of the names that a list has, in whatever order and however often
abbrev pub name_set : List (List ℕ) → List (List ℕ)
name_set names = fold (insert_key (slice_cmp nat_cmp)) [] names

-- at most 10,000 names in all, each counted as often as it is listed
abbrev pub name_set_of : List (List ℕ) → Result (List (List ℕ)) Fault
name_set_of names = if nat_le (length names) most_names then Ok (name_set names) else Err BadShape
