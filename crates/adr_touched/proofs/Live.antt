-- What the table `mirror` says of a live event that is touched.
use Rattle.std.proofs.Common.{◌≡◌, ℕ, Bool, true, false, ◌&&◌, cond, List, map, filter, Option, None, Some, refl, sym, ap, ap₂, subst, ◌∙◌}
use Rattle.std.specs.Prelude.{bytes_eq}
use Rattle.std.proofs.lemmas.Map.Text.{is_eq-slice_cmp}
use Rattle.std.proofs.lemmas.Slice.Eq.{bytes_eq-Decides}
use Rattle.adr_objects.specs.declared.body.Body.TheVariants as body
use Rattle.adr_objects.specs.declared.kind.Kind.{Kind}
use Rattle.adr_objects.specs.declared.kind.Kind.TheVariants as kind
use Rattle.adr_db.proofs.Common.{Live, Dead, Mark, MirrorKey, id_cmp, is_eq, option_map_or}
use Rattle.adr_db.specs.Kept.{Kept}
use Rattle.adr_db.specs.Rows as rows
use Rattle.adr_db_shown.specs.Entries.{is_event_of}
use Rattle.adr_refresh.specs.Touched.{is_event, program_of, live_in}
use Rattle.adr_refresh.proofs.Common.{Contains}
use Rattle.adr_view.specs.Rollups.{event_key}
use Rattle.adr_view.proofs.ListLemmas.{from_filter_map, in_filter, in_map}
use Rattle.adr_touched.specs.Answers.{HasEvents, live_events}

same_program : (mark : Mark) → rows.program_of mark ≡ program_of mark
same_program (Live moment (body.Program name)) = refl
same_program (Live moment (body.Event event)) = refl
same_program (Live moment (body.Opaque reason)) = refl
same_program Dead = refl

same_text : (program its : List ℕ) → bytes_eq its program ≡ true → is_eq (id_cmp program its) ≡ true
same_text program its is = is_eq-slice_cmp program its ∙ (bytes_eq-Decides program its).1 (sym ((bytes_eq-Decides its program).0 is))

-- an entry that says a live event of a program passes the test for it, and its key is the event's
says : (program : List ℕ) (e : MirrorKey × Mark) (id : List ℕ) → live_in (λ p. bytes_eq p program) e ≡ Some id → (is_event_of program e ≡ true) × (e.0 ≡ event_key id)
says program e id made = by e.0.kind (program_of e.1) refl refl made
  where
    right : (its : List ℕ) (b : Bool) → e.0.kind ≡ kind.Event → program_of e.1 ≡ Some its → bytes_eq its program ≡ b → cond b (Some e.0.id) None ≡ Some id → (is_event_of program e ≡ true) × (e.0 ≡ event_key id)
    right its true is said same h =
        let id_is : e.0.id ≡ id = cc in
        (ap (λ (o : Option (List ℕ)). option_map_or (λ its. is_eq (id_cmp program its)) o false) (same_program e.1 ∙ said) ∙ same_text program its same, ap₂ (λ (kind : Kind) (id : List ℕ). record { kind = kind; id = id }) is id_is)
    right its false is said same h = absurd cc

    by : (k : Kind) (o : Option (List ℕ)) → e.0.kind ≡ k → program_of e.1 ≡ o → cond (is_event k && option_map_or (λ p. bytes_eq p program) o false) (Some e.0.id) None ≡ Some id → (is_event_of program e ≡ true) × (e.0 ≡ event_key id)
    by kind.Program o is said h = absurd cc
    by kind.Event None is said h = absurd cc
    by kind.Event (Some its) is said h = right its (bytes_eq its program) is said refl h

-- so the keys that pass are those of the live events of the program
pub keys_found : (program : List ℕ) (kept : Kept) → HasEvents (map (λ e. e.0) (filter (is_event_of program) kept.mirror)) (live_events (λ p. bytes_eq p program) kept)
keys_found program kept id there =
    let from = from_filter_map (live_in (λ p. bytes_eq p program)) kept.mirror id there in
    let it = says program from.0 id from.2 in
    subst (λ (key : MirrorKey). Contains (map (λ e. e.0) (filter (is_event_of program) kept.mirror)) key) it.1 (in_map (λ e. e.0) (filter (is_event_of program) kept.mirror) from.0 (in_filter (is_event_of program) kept.mirror from.0 it.0 from.1))
