use Rattle.std.proofs.Common.{◌≡◌, ◌∷◌, ◌++◌, [], map, ap, ap₂, sym, ◌∙◌, List, Option, Some}
use Rattle.std.specs.Prelude.{option_map}
use Rattle.adr_db.proofs.Common.{map-append}
use Rattle.adr_queries.specs.declared.answer.Object.{Object}
use Rattle.adr_state.proofs.KeyLemmas.{view_order}
use Rattle.adr_state.specs.Keys.{view_cmp, at}
use Rattle.adr_pages.specs.Objects.{event_key, object_kept, object_with}
use Rattle.adr_pages.proofs.objects.all_told.Goals as goal

pub rows-preserved : goal.rows-preserved
rows-preserved c =
    let stamps = c.args.stamps.now in
    let key = c.in-Some.key in
    let columns = c.in-Some.columns in
    let object = c.in_ok-object.object in
    let there : c.copied.result ≡ at view_cmp c.in_ok-place.place stamps = c.copied.ensures ∙ (rw view_order at c.get.ensures) in
    let its : c.copied.result ≡ at view_cmp (event_key key) stamps = there ∙ ap (λ k. at view_cmp k stamps) c.in_ok-place.ensures in
    let one : object_kept stamps (key, columns) ≡ Some object = ap (option_map (object_with key columns)) (sym its) ∙ c.in_ok-object.ensures.object in
    ap (map Some) c.in_ok-push.ensures.ok
    ∙ map-append Some c.rows.objects (object ∷ [])
    ∙ ap₂ (λ (all : List (Option Object)) (o : Option Object). all ++ o ∷ []) c.rows.invariant (sym one)
    ∙ sym (map-append (object_kept stamps) c.rows.yielded ((key, columns) ∷ []))
