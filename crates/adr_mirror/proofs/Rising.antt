-- Which marks rise as evidence joins the mirror.
use Rattle.std.proofs.Common.{◌≡◌, ℕ, suc, ◌+◌, Bool, true, false, cond, ◌||◌, ◌++◌, inl, inr, List, [], ◌∷◌, fold, length, Option, Some, None, refl, sym, ap, subst, ◌∙◌, arith, Less}
use Rattle.std.specs.Prelude.{is_some}
use Rattle.adr_db.proofs.Common.{is_eq, option_map_or, insert_entry, insert_key, map-append, IsAscending, Mark, MirrorKey, mirror_cmp, at, key_of, mark_of, evidence_of, raised, joined}
use Rattle.std.proofs.lemmas.List.Sums.{fold-append}
use Rattle.adr_objects.specs.declared.body.Found.{Found}
use Rattle.adr_state.specs.Laws.{IsRaised}
use Rattle.adr_state.specs.Marks.{is_below}
use Rattle.adr_state.proofs.LawLemmas.{key_order, at-insert_entry, at_same, over, equal_from_is, marks_ordered, joins_greatest}
use Rattle.adr_mirror.specs.declared.raise.Rise.{Rise}
use Rattle.adr_mirror.specs.declared.raise.Rise.TheVariants.{Same, Higher, First}
use Rattle.adr_mirror.specs.declared.risen.Risen.{Risen}
use Rattle.adr_mirror.specs.Raises.{is_raised, added_by, rise_of, rises, noted, HaveRisen, HasRisen}
use Rattle.adr_db.proofs.Entries.{length_put}
use Rattle.adr_mirror.proofs.Orders.{any-insert_key, ascending-insert_key}

abbrev pub Mirror : Type 0
Mirror = List (MirrorKey × Mark)

-- ---- one mark

raised_by : (b : Bool) → is_raised (cond b Higher Same) ≡ b
raised_by true = refl
raised_by false = refl

pub raised_tells : (known : Option Mark) (mark : Mark) → is_raised (rise_of known mark) ≡ is_below known mark
raised_tells None mark = refl
raised_tells (Some m) mark = raised_by (is_below (Some m) mark)

-- no mark is above itself
none_below : (known : Option Mark) → false ≡ option_map_or (λ m. is_below known m) known false
none_below None = refl
none_below (Some m) = sym (marks_ordered.never_below_itself m)

-- ---- one mark after others

-- what is above the mark that is known now is above the one that was known before
above_before : (before now : Option Mark) (m : Mark) → IsRaised before now → is_below now m ≡ true → is_below before m ≡ true
above_before before None m is h = ap (λ k. is_below k m) is
above_before before (Some n) m (inl is) h = ap (λ k. is_below k m) is ∙ h
above_before before (Some n) m (inr is) h = over before n m is h

module _ (before now : Mirror) (e : MirrorKey × Mark) (raises : (key : MirrorKey) → IsRaised (at mirror_cmp key before) (at mirror_cmp key now)) where
  put_rises : is_below (at mirror_cmp e.0 now) e.1 ≡ true → (key : MirrorKey) → (is_eq (mirror_cmp key e.0) || rises before now key) ≡ rises before (insert_entry mirror_cmp now e.0 e.1) key
  put_rises below key = by (is_eq (mirror_cmp key e.0)) refl ∙ ap (λ mark. option_map_or (λ m. is_below (at mirror_cmp key before) m) mark false) (sym (at-insert_entry key_order key e.0 e.1 now))
    where
      by : (b : Bool) → is_eq (mirror_cmp key e.0) ≡ b → (b || rises before now key) ≡ option_map_or (λ m. is_below (at mirror_cmp key before) m) (cond b (Some e.1) (at mirror_cmp key now)) false
      by true is = sym (ap (λ k. is_below k e.1) (at_same key_order key e.0 before (equal_from_is _ is)) ∙ above_before _ _ e.1 (raises e.0) below)
      by false is = refl

  put_risen : (keys : List MirrorKey) → is_below (at mirror_cmp e.0 now) e.1 ≡ true → HaveRisen before now keys → HaveRisen before (insert_entry mirror_cmp now e.0 e.1) (insert_key mirror_cmp keys e.0)
  put_risen keys below have = record {
    ordered = ascending-insert_key key_order e.0 keys have.ordered;
    each = λ key. any-insert_key key_order key e.0 keys ∙ ap (λ b. is_eq (mirror_cmp key e.0) || b) (have.each key) ∙ put_rises below key;
  }

  -- the keys that have risen, and how many are new, after one more mark
  pub risen_more : (risen : Risen) → IsAscending (λ a b. mirror_cmp a.0 b.0 ≡ Less) now → HasRisen before now risen
      → HasRisen before (raised now e) (noted risen e.0 (rise_of (at mirror_cmp e.0 now) e.1))
  risen_more risen up has = by (at mirror_cmp e.0 now) refl
    where
      put : Mirror
      put = insert_entry mirror_cmp now e.0 e.1

      long : (known : Option Mark) → at mirror_cmp e.0 now ≡ known → length put ≡ cond (is_some known) (length now) (suc (length now))
      long known is = length_put key_order e.0 e.1 now up ∙ ap (λ x. cond (is_some x) (length now) (suc (length now))) is

      above : (m : Mark) (b : Bool) → at mirror_cmp e.0 now ≡ Some m → is_below (Some m) e.1 ≡ b → HasRisen before (cond b put now) (noted risen e.0 (cond b Higher Same))
      above m true is below = record { keys = put_risen risen.keys (ap (λ x. is_below x e.1) is ∙ below) has.keys; added = has.added ∙ sym (long (Some m) is) }
      above m false is below = has

      by : (known : Option Mark) → at mirror_cmp e.0 now ≡ known → HasRisen before (cond (is_below known e.1) put now) (noted risen e.0 (rise_of known e.1))
      by None is = record { keys = put_risen risen.keys (ap (λ x. is_below x e.1) is) has.keys; added = one_more (length before) risen.added (length now) has.added ∙ sym (long None is) }
        where
          one_more : (m added n : ℕ) → m + added ≡ n → m + (added + 1) ≡ suc n
          one_more m added n h = omega (arith, h)
      by (Some m) is = above m (is_below (Some m) e.1) is refl

-- ---- a page

-- nothing rises where nothing comes
pub none_risen : (mirror : Mirror) → HasRisen mirror mirror (record { keys = []; added = 0 })
none_risen mirror = record { keys = record { ordered = tt; each = λ key. none_below (at mirror_cmp key mirror) }; added = omega arith }

pub joined_raises : (mirror evidence : Mirror) (key : MirrorKey) → IsRaised (at mirror_cmp key mirror) (at mirror_cmp key (joined mirror evidence))
joined_raises mirror evidence key = (joins_greatest mirror evidence).only_raises key

-- what one mark alone makes of the mirror
pub one_risen : (mirror : Mirror) (e : MirrorKey × Mark) → IsAscending (λ a b. mirror_cmp a.0 b.0 ≡ Less) mirror → (rise : Rise) → rise ≡ rise_of (at mirror_cmp e.0 mirror) e.1
    → HasRisen mirror (raised mirror e) (record { keys = cond (is_raised rise) (e.0 ∷ []) []; added = added_by rise })
one_risen mirror e up rise is =
    subst (HasRisen mirror (raised mirror e)) (ap (noted none e.0) (sym is) ∙ by rise) (risen_more mirror mirror e (λ key. joined_raises mirror [] key) none up (none_risen mirror))
  where
    none : Risen
    none = record { keys = []; added = 0 }

    by : (rise : Rise) → noted none e.0 rise ≡ record { keys = cond (is_raised rise) (e.0 ∷ []) []; added = added_by rise }
    by Same = refl
    by Higher = refl
    by First = refl

-- evidence with one version more
pub joined_more : (mirror : Mirror) (founds : List Found) (f : Found) → joined mirror (evidence_of (founds ++ f ∷ [])) ≡ raised (joined mirror (evidence_of founds)) (key_of f, mark_of f)
joined_more mirror founds f =
    ap (fold raised mirror) (map-append (λ (f : Found). (key_of f, mark_of f)) founds (f ∷ [])) ∙ fold-append raised mirror (evidence_of founds) ((key_of f, mark_of f) ∷ [])
