-- What becomes of one resource: by what is kept, its stamps, and what is shown now, what is written leaves what the
-- refresh leaves at its key, and what is told is what the refresh tells of it.
use Rattle.std.proofs.Common.{◌≡◌, ℕ, Bool, true, false, cond, List, Option, Some, None, Ok, refl, sym, ap, subst, ◌∙◌}
use Rattle.std.specs.Prelude.{IfSome, is_some, option_map, option_and_then, bytes_eq}
use Rattle.std.specs.Result.{result_ok}
use Rattle.std.proofs.lemmas.Option.{same_Some}
use Rattle.std.proofs.lemmas.Slice.Eq.{bytes_eq-Decides}
use Rattle.adr_objects.specs.declared.shown.ShownEvent.{ShownEvent}
use Rattle.adr_objects.specs.declared.shown.Stamps.{Stamps}
use Rattle.adr_state.specs.declared.keys.ViewKey.{ViewKey}
use Rattle.adr_state.specs.declared.keys.ViewKey.TheVariants as key
use Rattle.adr_state.specs.declared.portfolio.Portfolio.{Portfolio}
use Rattle.adr_state.specs.Keys.{view_cmp, at}
use Rattle.adr_state.specs.Stamping.{modified_at}
use Rattle.adr_view.specs.declared.changes.Operation.{Operation}
use Rattle.adr_view.specs.declared.changes.Operation.TheVariants.{Post, Put, Delete}
use Rattle.adr_view.specs.declared.view.Content.{Content}
use Rattle.adr_view.specs.declared.view.Content.TheVariants as content
use Rattle.adr_view.specs.Same.{is_same_content}
use Rattle.adr_view.proofs.LawLemmas.{contents_equal}
use Rattle.adr_refresh.proofs.ChangeLemmas.{stamp_at}
use Rattle.adr_refresh.proofs.ChangeLemmas.{change_at as operation_at}
use Rattle.adr_shown.specs.ShownTexts.{shown_text}
use Rattle.adr_shown.specs.ReadShown.{shown_of}
use Rattle.adr_kept_view.specs.declared.change.ShownChange.{ShownChange}
use Rattle.adr_kept_view.specs.Columns.{columns_of}
use Rattle.adr_kept_view.specs.Changes.{owner_in, event_in, gone, change_at}
use Rattle.adr_kept_view.specs.Refreshed.{judged_in}
use Rattle.adr_kept_view.proofs.FoundLemmas.{kept_part}
use Rattle.adr_kept_view.proofs.WriteLemmas.{left_behind}

-- a side of a map at a key
pub at_judged : {V : Type 0} (k : ViewKey) (o : Operation) (before after : List (ViewKey × V)) → at view_cmp k (judged_in o before after) ≡ judged_in o (at view_cmp k before) (at view_cmp k after)
at_judged k Post before after = refl
at_judged k Put before after = refl
at_judged k Delete before after = refl

pub both_ways : (a b : Bool) → (a ≡ true → b ≡ true) → (b ≡ true → a ≡ true) → a ≡ b
both_ways true b one other = sym (one refl)
both_ways false true one other = other refl
both_ways false false one other = refl

-- two events whose texts read back have one text exactly where they are the same
same_texts : (e f : ShownEvent) → shown_of (shown_text e) ≡ Ok e → shown_of (shown_text f) ≡ Ok f → bytes_eq (shown_text e) (shown_text f) ≡ is_same_content (content.Event e) (content.Event f)
same_texts e f one other =
    both_ways (bytes_eq (shown_text e) (shown_text f)) (is_same_content (content.Event e) (content.Event f))
    (λ is.
    let text : shown_text e ≡ shown_text f = (bytes_eq-Decides (shown_text e) (shown_text f)).0 is in
    let same : e ≡ f = same_Some e f (ap result_ok (sym one ∙ ap shown_of text ∙ other)) in
    (contents_equal (content.Event e) (content.Event f)).1 (ap content.Event same))
    (λ is.
    let same : content.Event e ≡ content.Event f = (contents_equal (content.Event e) (content.Event f)).0 is in
    (bytes_eq-Decides (shown_text e) (shown_text f)).1 (ap shown_text (same_Some e f (ap event_in same))))

module _ (owner : ℕ → ℕ) (p : Portfolio) (now : ℕ) (id : List ℕ) (n : ℕ) where
  -- an event that was kept, whose text reads back
  abbrev pub WasKept : Option Content → Type 0
  WasKept None = Unit {0}
  WasKept (Some (content.Event e)) = shown_of (shown_text e) ≡ Ok e
  WasKept _ = ⊥

  -- an event that is shown now, to a resource that is there and has the owner that it had; its text reads back
  abbrev pub IsNow : Option Content → Type 0
  IsNow None = Unit {0}
  IsNow (Some (content.Event e)) = (owner_in p n ≡ owner n) × (shown_of (shown_text e) ≡ Ok e)
  IsNow _ = ⊥

  -- the change of the resource
  abbrev pub turn : Option Content → Option Stamps → Option Content → Option ShownChange
  turn old stamps new = change_at p now n (option_and_then (kept_part owner n) old) stamps (option_and_then event_in new)

  -- a change says what it is of
  pub record Says (old new : Option Content) (stamps : Option Stamps) (c : ShownChange) : Type 0 where
    pub shown : judged_in c.operation old new ≡ Some (content.Event c.shown)
    pub stamped : judged_in c.operation stamps (stamp_at old new now stamps) ≡ Some c.stamps
    pub ven : owner n ≡ c.ven
    pub resource : c.resource ≡ n

  -- what is written by a change leaves what the refresh leaves at the key, and the change is what the refresh tells of it
  pub record TurnsBy (change : Option ShownChange) (old : Option Content) (stamps : Option Stamps) (new : Option Content) : Type 0 where
    pub kept : left_behind (λ c. columns_of c.ven c.shown) change (option_and_then (kept_part owner n) old) ≡ option_and_then (kept_part owner n) new
    pub stamped : left_behind (λ c. c.stamps) change stamps ≡ stamp_at old new now stamps
    pub told : option_map (λ (c : ShownChange). c.operation) change ≡ operation_at (key.Event id n) old new
    pub says : IfSome change (Says old new stamps)

  abbrev pub Turns : Option Content → Option Stamps → Option Content → Type 0
  Turns old stamps new = TurnsBy (turn old stamps new) old stamps new

  differs : (e f : ShownEvent) (s : Stamps) → shown_of (shown_text e) ≡ Ok e → IsNow (Some (content.Event f)) → Turns (Some (content.Event e)) (Some s) (Some (content.Event f))
  differs e f s was is = subst (λ b. TurnsBy (cond b None (Some put)) (Some (content.Event e)) (Some s) (Some (content.Event f))) (sym (same_texts e f was is.1)) (by (is_same_content (content.Event e) (content.Event f)) refl)
    where
      put : ShownChange
      put = record { resource = n; operation = Put; shown = f; stamps = modified_at now s; ven = owner_in p n }

      by : (b : Bool) → is_same_content (content.Event e) (content.Event f) ≡ b → TurnsBy (cond b None (Some put)) (Some (content.Event e)) (Some s) (Some (content.Event f))
      by true same =
          let equal : content.Event e ≡ content.Event f = (contents_equal (content.Event e) (content.Event f)).0 same in
          record { kept = ap (kept_part owner n) equal; stamped = rw same refl; told = rw same refl; says = tt }
      by false apart = record {
        kept = ap (λ ven. Some (columns_of ven f)) is.0;
        stamped = rw apart refl;
        told = rw apart refl;
        says = record { shown = refl; stamped = rw apart refl; ven = sym is.0; resource = refl };
      }

  pub turned : (old : Option Content) (stamps : Option Stamps) (new : Option Content) → WasKept old → IsNow new → is_some stamps ≡ is_some old → Turns old stamps new
  turned None None None was is same = record { kept = refl; stamped = refl; told = refl; says = tt }
  turned None None (Some (content.Event f)) was is same = record {
    kept = ap (λ ven. Some (columns_of ven f)) is.0;
    stamped = refl;
    told = refl;
    says = record { shown = refl; stamped = refl; ven = sym is.0; resource = refl };
  }
  turned (Some (content.Event e)) (Some s) None was is same = subst (λ r. TurnsBy (gone n (owner n) (Some s) r) (Some (content.Event e)) (Some s) None) (sym was) (record {
    kept = refl;
    stamped = refl;
    told = refl;
    says = record { shown = refl; stamped = refl; ven = refl; resource = refl };
  })
  turned (Some (content.Event e)) (Some s) (Some (content.Event f)) was is same = differs e f s was is
  turned None (Some s) new was is same = absurd cc
  turned (Some (content.Event e)) None new was is same = absurd cc
  turned (Some (content.Program name)) stamps new was is same = absurd was
  turned (Some (content.Report body)) stamps new was is same = absurd was
  turned (Some (content.Rollup r)) stamps new was is same = absurd was
  turned None None (Some (content.Program name)) was is same = absurd is
  turned None None (Some (content.Report body)) was is same = absurd is
  turned None None (Some (content.Rollup r)) was is same = absurd is
  turned (Some (content.Event e)) (Some s) (Some (content.Program name)) was is same = absurd is
  turned (Some (content.Event e)) (Some s) (Some (content.Report body)) was is same = absurd is
  turned (Some (content.Event e)) (Some s) (Some (content.Rollup r)) was is same = absurd is
