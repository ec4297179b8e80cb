-- Scans: the keys that were polled since one began, and those that it missed.
use Rattle.std.specs.Prelude.{Bool, true, false, not, ◌&&◌, List, map, filter, fold, Option, option_map}
use Rattle.std.specs.List.{list_any}
use Rattle.std.specs.BTreeMap.{is_at}
use Rattle.std.specs.BTreeSet.{insert_key}
use Rattle.adr_objects.specs.declared.body.Found.{Found}
use Rattle.adr_state.specs.declared.base.Mark.{Mark}
use Rattle.adr_state.specs.declared.base.Mark.TheVariants.{Live, Dead}
use Rattle.adr_state.specs.declared.keys.MirrorKey.{MirrorKey}
use Rattle.adr_state.specs.Keys.{mirror_cmp}
use Rattle.adr_state.specs.Mirror.{key_of}

-- whether the key was polled
abbrev pub has_key : List MirrorKey → MirrorKey → Bool
has_key polled key = list_any (is_at (mirror_cmp key)) polled

-- the set with the keys of what was found
abbrev pub keys_found : List MirrorKey → List Found → List MirrorKey
keys_found polled founds = fold (λ keys found. insert_key mirror_cmp keys (key_of found)) polled founds

-- while a scan is open, the keys of what was found join its set
abbrev pub polled_with : Option (List MirrorKey) → List Found → Option (List MirrorKey)
polled_with scan founds = option_map (λ polled. keys_found polled founds) scan

-- a version, and no deletion
abbrev pub is_live : Mark → Bool
is_live (Live moment body) = true
is_live Dead = false

-- whether a live key was missed
abbrev pub is_probe : List MirrorKey → MirrorKey × Mark → Bool
is_probe polled r = is_live r.1 && not (has_key polled r.0)

-- the live keys that were not polled, in the order of the keys
abbrev pub probes : List (MirrorKey × Mark) → List MirrorKey → List MirrorKey
probes mirror polled = map (λ r. r.0) (filter (is_probe polled) mirror)
