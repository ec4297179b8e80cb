-- From what is kept to the base that it is kept of.
use Rattle.std.proofs.Common.{◌≡◌, Bool, true, false, cond, ◌&&◌, ◌+◌, List, [], ◌++◌, ◌∷◌, length, ℕ, Option, Some, None, Ok, Err, refl, sym, ap, ap₂, subst, ◌∙◌, arith}
use Rattle.std.specs.Prelude.{is_some, nat_lt}
use Rattle.adr_db.proofs.Common.{insert_entry, insert_key, State, LimitReached, Base, Mark, MirrorKey, Limits, mirror_cmp, at, key_of, joined, keys_found, JoinMarks, joining, scan_with}
use Rattle.std.proofs.lemmas.Bool.Decides.{nat_tests}
use Rattle.std.proofs.lemmas.List.Sums.{fold-append}
use Rattle.adr_objects.specs.declared.body.Found.{Found}
use Rattle.adr_state.specs.Marks.{is_below}
use Rattle.adr_db.specs.declared.meta.Meta.{Meta}
use Rattle.adr_db.specs.Kept.{Kept, Keeps, with_mark}
use Rattle.adr_db.specs.Bases.{Beside, with_sizes, with_base, kept_beside}
use Rattle.adr_mirror.specs.Raises.{are_beyond, with_raised, with_polled_if}

-- ---- the mirror

-- a mark that is not above the one that is known changes nothing
pub keeps_same : (kept : Kept) (e : MirrorKey × Mark) (s : State) → is_below (at mirror_cmp e.0 kept.mirror) e.1 ≡ false → Keeps kept s → Keeps (with_raised e kept) s
keeps_same kept e s h was = subst (λ b. Keeps (record kept { mirror = cond b (insert_entry mirror_cmp kept.mirror e.0 e.1) kept.mirror }) s) (sym h) was

-- one that is above it is put
pub keeps_raised : (kept : Kept) (e : MirrorKey × Mark) (s : State) → is_below (at mirror_cmp e.0 kept.mirror) e.1 ≡ true → Keeps (with_mark e.0 e.1 kept) s → Keeps (with_raised e kept) s
keeps_raised kept e s h was = subst (λ b. Keeps (record kept { mirror = cond b (insert_entry mirror_cmp kept.mirror e.0 e.1) kept.mirror }) s) (sym h) was

-- keys that were added, as the machine tests them
beyond_is : (limit n added m : ℕ) → n + added ≡ m → are_beyond limit n added ≡ (nat_lt n m && nat_lt limit m)
beyond_is limit n added m is = ap₂ ◌&&◌ (grown n added m is) (ap (nat_lt limit) is)
  where
    grown : (n added m : ℕ) → n + added ≡ m → nat_lt 0 added ≡ nat_lt n m
    grown n added m is = grind (arith, nat_tests)

module _ (limits : Limits) (base : Base) (marks : List (MirrorKey × Mark)) (scan : Option (List MirrorKey)) (added : ℕ) (is : length base.mirror + added ≡ length (joined base.mirror marks)) where
  -- a mirror that does not grow beyond the limit is taken
  pub is_taken : are_beyond limits.keys (length base.mirror) added ≡ false → joining limits base marks scan ≡ Ok (JoinMarks marks scan)
  is_taken h = ap (λ b. cond b (Err LimitReached) (Ok (JoinMarks marks scan))) (sym (beyond_is limits.keys (length base.mirror) added (length (joined base.mirror marks)) is) ∙ h)

  -- and one that does is refused
  pub is_refused : are_beyond limits.keys (length base.mirror) added ≡ true → joining limits base marks scan ≡ Err LimitReached
  is_refused h = ap (λ b. cond b (Err LimitReached) (Ok (JoinMarks marks scan))) (sym (beyond_is limits.keys (length base.mirror) added (length (joined base.mirror marks)) is) ∙ h)

-- the numbers of the node, once the keys that were added are counted: a scan that was open is open
pub counted_is : (base : Base) (mirror : List (MirrorKey × Mark)) (scan : Option (List MirrorKey)) (added : ℕ) (old new : Meta) → old ≡ with_base old base → new ≡ record old { keys = old.keys + added } → length base.mirror + added ≡ length mirror
    → is_some scan ≡ is_some base.scan → new ≡ with_base old (record base { mirror = mirror; scan = scan })
counted_is base mirror scan added old new same is grows still =
    is
    ∙ ap (λ (m : Meta). let after : Meta = record m { keys = m.keys + added } in after) same
    ∙ ap₂ (λ (n : ℕ) (is_open : Bool). let after : Meta = record (with_sizes old base.portfolio) { serial = base.serial; scan = is_open; keys = n } in after) grows (sym still)

-- ---- scans

pub polled_more : (polled : List MirrorKey) (founds : List Found) (f : Found) → keys_found polled (founds ++ f ∷ []) ≡ insert_key mirror_cmp (keys_found polled founds) (key_of f)
polled_more polled founds f = fold-append (λ keys found. insert_key mirror_cmp keys (key_of found)) polled founds (f ∷ [])

-- what is kept after a page is that of the base after it
pub kept_after : (beside : Beside) (base : Base) (scan : Option (List MirrorKey)) (founds : List Found) (polled : Bool) (mirror : List (MirrorKey × Mark))
    → with_polled_if (polled && is_some scan) founds (kept_beside beside (record base { mirror = mirror; scan = scan })) ≡ kept_beside beside (record base { mirror = mirror; scan = scan_with scan founds polled })
kept_after beside base None founds true mirror = refl
kept_after beside base None founds false mirror = refl
kept_after beside base (Some keys) founds true mirror = refl
kept_after beside base (Some keys) founds false mirror = refl

pub still_open : (scan : Option (List MirrorKey)) (founds : List Found) (polled : Bool) → is_some (scan_with scan founds polled) ≡ is_some scan
still_open None founds true = refl
still_open None founds false = refl
still_open (Some keys) founds true = refl
still_open (Some keys) founds false = refl
