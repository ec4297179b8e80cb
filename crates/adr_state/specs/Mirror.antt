-- Evidence, and its join into the mirror.
use Rattle.std.specs.Prelude.{List, map, fold, if◌then◌else◌}
use Rattle.std.specs.BTreeMap.{insert_entry}
use Rattle.adr_objects.specs.declared.body.Found.{Found}
use Rattle.adr_state.specs.declared.base.Mark.{Mark}
use Rattle.adr_state.specs.declared.base.Mark.TheVariants.{Live}
use Rattle.adr_state.specs.declared.keys.MirrorKey.{MirrorKey}
use Rattle.adr_state.specs.Keys.{mirror_cmp, at}
use Rattle.adr_state.specs.Marks.{is_below}

-- the upstream key of a version that was found
abbrev pub key_of : Found → MirrorKey
key_of found = record { kind = found.kind; id = found.id }

-- what a version that was found tells of its key: that it is live, with its moment and what it says
abbrev pub mark_of : Found → Mark
mark_of found = Live found.moment found.body

-- what versions that were found tell: the key of each with its mark, in their order
abbrev pub evidence_of : List Found → List (MirrorKey × Mark)
evidence_of founds = map (λ f. (key_of f, mark_of f)) founds

-- a key keeps the greater of the mark that it has and the one that comes
abbrev pub raised : List (MirrorKey × Mark) → MirrorKey × Mark → List (MirrorKey × Mark)
raised mirror e = if is_below (at mirror_cmp e.0 mirror) e.1 then insert_entry mirror_cmp mirror e.0 e.1 else mirror

-- the mirror with evidence
abbrev pub joined : List (MirrorKey × Mark) → List (MirrorKey × Mark) → List (MirrorKey × Mark)
joined mirror evidence = fold raised mirror evidence
