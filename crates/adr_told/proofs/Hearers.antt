-- Of what is of one ven no other ven hears.
use Rattle.std.proofs.Common.{◌≡◌, ℕ, Bool, true, false, cond, List, [], ◌∷◌, filter, Option, None, Some, refl, sym, ap, subst, ◌∙◌, arith}
use Rattle.std.specs.Prelude.{◌==◌, ◌&&◌}
use Rattle.std.specs.List.{cons_option, filter_map}
use Rattle.std.specs.Option.{option_map_or}
use Rattle.std.proofs.lemmas.Bool.{eqb-true}
use Rattle.adr_subscription.specs.declared.kept_sub.Sub.{Sub}
use Rattle.adr_view.specs.declared.view.Content.TheVariants as content
use Rattle.adr_notices.specs.declared.notice.Notice.{Notice}
use Rattle.adr_notices.specs.Matching.{is_about, is_for_all, is_in_sight, entry_for, entries_of}
use Rattle.adr_kept_view.specs.declared.object.ObjectChange.{ObjectChange}
use Rattle.adr_kept_view.specs.declared.object.ObjectKey.{ObjectKey}
use Rattle.adr_kept_view.specs.declared.object.ObjectKey.TheVariants as object
use Rattle.adr_kept_view.specs.declared.object.OldObject.{OldObject}
use Rattle.adr_listeners.specs.declared.hearers.Hearers.TheVariants.{Of, Everyone}
use Rattle.adr_listeners.specs.Hearers.{hears, heard_by}
use Rattle.adr_told.specs.Told.{object_entries}

-- what gives nothing may be left out
left_out : {X Y : Type 0} (f : X → Option Y) (p : X → Bool) → ((x : X) → p x ≡ false → f x ≡ None) → (xs : List X) → filter_map f xs ≡ filter_map f (filter p xs)
left_out f p none [] = refl
left_out f p none (x ∷ xs) = by (p x) refl (left_out f p none xs)
  where
    by : (b : Bool) → p x ≡ b → filter_map f xs ≡ filter_map f (filter p xs) → filter_map f (x ∷ xs) ≡ filter_map f (cond b (x ∷ filter p xs) (filter p xs))
    by true is rest = ap (cons_option (f x)) rest
    by false is rest = ap (λ o. cons_option o (filter_map f xs)) (none x is) ∙ rest

-- all hear of it, where all may
pub all_hear : (subs : List (ℕ × Sub)) → subs ≡ heard_by Everyone subs
all_hear [] = refl
all_hear (s ∷ subs) = ap (λ rest. s ∷ rest) (all_hear subs)

other : (n m : ℕ) → (n == m) ≡ false → (m == n) ≡ false
other n m is = by (m == n) refl
  where
    by : (b : Bool) → (m == n) ≡ b → b ≡ false
    by false same = refl
    by true same = absurd (let both : true ≡ false = sym (subst (λ k. (k == m) ≡ true) (eqb-true m n same) (itself m)) ∙ is in cc)
      where
        itself : (k : ℕ) → (k == k) ≡ true
        itself k = grind (arith)

and_false : (b c : Bool) → c ≡ false → (b && c) ≡ false
and_false true c h = h
and_false false c h = refl

-- a notice of what is of a ven is told to the operator and to that ven alone
pub heard_alone : (n : Notice) (ven : ℕ) → is_for_all n.kind ≡ false → n.ven ≡ Some ven → (subs : List (ℕ × Sub)) → entries_of subs n ≡ entries_of (heard_by (Of ven) subs) n
heard_alone n ven own is = left_out (entry_for n) (λ s. hears (Of ven) s.1) none
  where
    unseen : (owner : Option ℕ) → option_map_or (λ o. o == ven) owner true ≡ false → is_in_sight owner n ≡ false
    unseen None h = absurd (let both : true ≡ false = h in cc)
    unseen (Some o) h = rw (own, is) (other o ven h)

    none : (s : ℕ × Sub) → hears (Of ven) s.1 ≡ false → entry_for n s ≡ None
    none s h =
        let here : is_in_sight s.1.owner n ≡ false = unseen s.1.owner h in
        let sight : (is_about s.1.body.program n && is_in_sight s.1.owner n) ≡ false = and_false (is_about s.1.body.program n) _ here in
        rw sight refl

-- so are changes of reports
pub report_heard : (c : ObjectChange) (ven : ℕ) (body : _) → c.content ≡ content.Report body → c.ven ≡ Some ven → (subs : List (ℕ × Sub)) (old : OldObject) → object_entries subs old c ≡ object_entries (heard_by (Of ven) subs) old c
report_heard c ven body is of_ven subs old = rw is (by old.key)
  where
    by : (k : ObjectKey) → object_entries subs (record old { key = k }) (record c { content = content.Report body }) ≡ object_entries (heard_by (Of ven) subs) (record old { key = k }) (record c { content = content.Report body })
    by (object.Program id) = refl
    by (object.Report number) = heard_alone _ ven refl of_ven subs
