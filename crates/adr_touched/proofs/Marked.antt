-- What is answered of the keys that rose, and of the programs at the keys of marks, covers evidence.
use Rattle.std.proofs.Common.{ℕ, List, [], ◌∷◌, refl, sym, subst}
use Rattle.std.specs.Prelude.{All}
use Rattle.std.specs.List.{filter_map}
use Rattle.std.specs.Map.{keys_of}
use Rattle.adr_objects.specs.declared.kind.Kind.{Kind}
use Rattle.adr_objects.specs.declared.kind.Kind.TheVariants as kind
use Rattle.adr_state.specs.declared.base.Base.{Base}
use Rattle.adr_state.specs.declared.base.Mark.{Mark}
use Rattle.adr_state.specs.declared.keys.MirrorKey.{MirrorKey}
use Rattle.adr_state.specs.BaseChanges.{JoinMarks}
use Rattle.adr_view.specs.Rollups.{event_key}
use Rattle.adr_view.proofs.ListLemmas.{from_flat, in_filter_map, in_map}
use Rattle.adr_refresh.specs.Sources.{Source, RolledUp, source_cmp}
use Rattle.adr_refresh.specs.Touched.{upstream_event, rising, sources_by, sources_at}
use Rattle.adr_refresh.proofs.Common.{All-cons, All-contains, All-nil, Contains, IsStrictlySortedBy, exact_bytes, nat_cmp, nat_list_cmp_total, none_sorted}
use Rattle.adr_kept_view.specs.declared.object.OldObject.{OldObject}
use Rattle.adr_kept_view.specs.Objects.{StoodIn}
use Rattle.adr_touched.specs.declared.touched.Touched.{Touched}
use Rattle.adr_touched.specs.Touched.{sources_in, StandsTouched, id_at, ids_of, ProgramsStood, CoversEvidence}
use Rattle.adr_touched.proofs.Edits.{ids_sorted}
use Rattle.adr_touched.proofs.Evidence.{risen_there}
use Rattle.adr_touched.proofs.InOrder.{set_sorted, set_has}
use Rattle.adr_touched.proofs.Stands.{program_at, turn_sorted, programs_by_keys, sources_by_keys, covers, event_among, program_among, rollup_among}

-- the id of a key of a kind is among those of its kind
id_there : (k : Kind) (keys : List MirrorKey) (id : List ℕ) → Contains keys (record { kind = k; id = id }) → Contains (ids_of k keys) id
id_there kind.Program keys id there = set_has exact_bytes (filter_map (id_at kind.Program) keys) id (in_filter_map (id_at kind.Program) keys (record { kind = kind.Program; id = id }) id refl there)
id_there kind.Event keys id there = set_has exact_bytes (filter_map (id_at kind.Event) keys) id (in_filter_map (id_at kind.Event) keys (event_key id) id refl there)

module _ (programs : List OldObject) (risen : List MirrorKey) where
  -- what is answered
  abbrev pub of_marks : Touched
  of_marks = record { programs = programs; events = ids_of kind.Event risen; reports = []; rollups = ids_of kind.Event risen }

  module _ (base : Base) (marks : List (MirrorKey × Mark)) (stood : ProgramsStood marks base programs) where
    abbrev ids : List (List ℕ)
    ids = ids_of kind.Program (keys_of marks)

    stands : StandsTouched base of_marks
    stands = record {
      in_order = subst (IsStrictlySortedBy source_cmp) (sym (sources_by_keys ids [] of_marks (record { by_id = stood.in_order; by_number = refl }))) (turn_sorted ids (ids_of kind.Event risen) [] (ids_of kind.Event risen) (set_sorted nat_list_cmp_total (filter_map (id_at kind.Program) (keys_of marks))) (ids_sorted risen) (none_sorted nat_cmp) (ids_sorted risen));
      programs = stood.stood;
      reports = All-nil (StoodIn base);
    }

    -- what is made of a key that rose
    sources_there : (k : Kind) (id : List ℕ) → Contains risen (record { kind = k; id = id }) → Contains (keys_of marks) (record { kind = k; id = id }) → All (Contains (sources_in of_marks)) (sources_by k id)
    sources_there kind.Program id rose its =
        All-cons (Contains (sources_in of_marks)) (program_at id) []
        (program_among of_marks (program_at id) (subst (λ (ss : List Source). Contains ss (program_at id)) (sym (programs_by_keys programs ids stood.in_order)) (in_map program_at ids id (id_there kind.Program (keys_of marks) id its))))
        (All-nil (Contains (sources_in of_marks)))
    sources_there kind.Event id rose its =
        let there : Contains (ids_of kind.Event risen) id = id_there kind.Event risen id rose in
        All-cons (Contains (sources_in of_marks)) (upstream_event id) (RolledUp id ∷ []) (event_among of_marks (upstream_event id) (in_map upstream_event (ids_of kind.Event risen) id there))
        (All-cons (Contains (sources_in of_marks)) (RolledUp id) [] (rollup_among of_marks (RolledUp id) (in_map (λ i. RolledUp i) (ids_of kind.Event risen) id there)) (All-nil (Contains (sources_in of_marks))))

  pub marks_covered : CoversEvidence programs risen of_marks
  marks_covered base marks scan stood rose = covers (JoinMarks marks scan) base of_marks (stands base marks stood) (λ s there.
      let of_key = from_flat sources_at (rising base.mirror marks) s there in
      let k : MirrorKey = of_key.0 in
      let both = risen_there base marks risen rose k of_key.1 in
      All-contains (Contains (sources_in of_marks)) (sources_at k) s (sources_there base marks stood k.kind k.id both.0 both.1) of_key.2)
