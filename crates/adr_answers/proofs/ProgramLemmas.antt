-- What is shown of a program is told by what is known of its upstream key.
use Rattle.std.proofs.Common.{◌≡◌, ℕ, true, List, [], ◌∷◌, Option, Some, None, Result, filter, refl, ap, ◌∙◌}
use Rattle.std.specs.Prelude.{◌==◌, option_and_then}
use Rattle.std.specs.List.{filter_map}
use Rattle.std.proofs.lemmas.Cmp.{nat_list_cmp_total, tied_itself}
use Rattle.std.specs.Ordering.{is_eq}
use Rattle.adr_text.specs.Refusals.{◌>>=◌}
use Rattle.adr_objects.specs.declared.body.Body.TheVariants as body
use Rattle.adr_objects.specs.declared.kind.Kind.{Kind}
use Rattle.adr_objects.specs.declared.kind.Kind.TheVariants as kind
use Rattle.adr_objects.specs.declared.shown.Stamps.{Stamps}
use Rattle.adr_db.proofs.Common.{Base, Mark, MirrorKey, Live, Dead, cons_option, Refusal, State, ViewKey, at, id_cmp, mirror_cmp, nat_cmp, view_cmp}
use Rattle.adr_db.proofs.Rises.{keys_in_order, mirror_rises, resources_rise, reports_rise}
use Rattle.adr_db.specs.Images.{image_kept}
use Rattle.adr_db.specs.Kept.{Kept, Keeps}
use Rattle.adr_db.specs.Rows.{kind_number}
use Rattle.adr_state.specs.declared.keys.ViewKey.TheVariants as key
use Rattle.adr_view.specs.declared.view.Content.{Content}
use Rattle.adr_view.specs.Laws.{StandsInOrder}
use Rattle.adr_view.specs.Views.{rows_known, view}
use Rattle.adr_refresh.proofs.ViewLemmas.{view_of_sources}
use Rattle.adr_queries.specs.declared.answer.Answer.{Answer}
use Rattle.adr_queries.specs.declared.role.Role.{Role}
use Rattle.adr_queries.specs.Roles.{sight_of}
use Rattle.adr_queries.specs.Shown.{object_at, program_reply, told}
use Rattle.adr_answers.specs.Told.{program_in, program_key, program_known, program_named, name_in}

-- ---- what is kept stands in order

pub kept_in_order : (kept : Kept) (s : State) → Keeps kept s → StandsInOrder (image_kept kept).base
kept_in_order kept s was = record {
  upstream_keys = keys_in_order mirror_cmp kept.mirror (mirror_rises kept s was);
  resources = keys_in_order nat_cmp kept.portfolio.resources (resources_rise kept s was);
  reports = keys_in_order nat_cmp kept.portfolio.reports (reports_rise kept s was);
}

-- ---- a program

module _ (base : Base) (stamps : List (ViewKey × Stamps)) (id : List ℕ) where
  -- what is told of what the view has at its key
  abbrev told_there : Option Content → Result Answer Refusal
  told_there there = told (option_and_then (λ c. object_at stamps (key.Program id, c)) there)

  by_mark : (known : Option Mark) → told_there (at view_cmp (key.Program id) (rows_known base (program_key id) known)) ≡ program_named stamps id (name_in known)
  by_mark None = refl
  by_mark (Some Dead) = refl
  by_mark (Some (Live moment (body.Program name))) = let itself : is_eq (id_cmp id id) ≡ true = ap is_eq (tied_itself nat_list_cmp_total id) in rw itself refl
  by_mark (Some (Live moment (body.Event event))) = refl
  by_mark (Some (Live moment (body.Opaque reason))) = refl

  pub program_is : StandsInOrder base → told_there (at view_cmp (key.Program id) (view base)) ≡ program_known base.mirror stamps id
  program_is stands = ap told_there (view_of_sources base stands (key.Program id)) ∙ by_mark (at mirror_cmp (program_key id) base.mirror)

-- ---- the programs

-- the rows of the mirror whose keys are of programs
abbrev pub of_programs : List (MirrorKey × Mark) → List (MirrorKey × Mark)
of_programs es = filter (λ m. kind_number m.0.kind == kind_number kind.Program) es

one_more : (k : Kind) (id : List ℕ) (mark : Mark) (es : List (MirrorKey × Mark)) → filter_map program_in (of_programs es) ≡ filter_map program_in es
    → filter_map program_in (of_programs ((record { kind = k; id = id }, mark) ∷ es)) ≡ filter_map program_in ((record { kind = k; id = id }, mark) ∷ es)
one_more kind.Program id mark es h = ap (cons_option (program_in (record { kind = kind.Program; id = id }, mark))) h
one_more kind.Event id mark es h = h

-- no other row is one of a program
pub programs_of_kind : (es : List (MirrorKey × Mark)) → filter_map program_in (of_programs es) ≡ filter_map program_in es
programs_of_kind [] = refl
programs_of_kind (e ∷ es) = one_more e.0.kind e.0.id e.1 es (programs_of_kind es)

-- so the reply is told by that
pub program_replied : (kept : Kept) (s : State) → Keeps kept s → (role : Role) (id : List ℕ) → program_reply (image_kept kept) role id ≡ (sight_of (image_kept kept).base role >>= λ sight. program_known kept.mirror kept.stamps id)
program_replied kept s was role id = ap (λ (r : Result Answer Refusal). sight_of (image_kept kept).base role >>= λ sight. r) (program_is (image_kept kept).base kept.stamps id (kept_in_order kept s was))
