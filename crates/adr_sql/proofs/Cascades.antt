-- DELETE in a table to which references point, each ON DELETE CASCADE: the rows that go take along those that point to them, through
-- any chain of tables, and no other row goes.
use Rattle.std.proofs.Common.{◌≡◌, ◌⊎◌, inl, inr, ℕ, zero, suc, ◌<◌, ℤ, Bool, true, false, not, ◌&&◌, ◌||◌, ◌==◌, cond, List, [], ◌∷◌, ◌++◌, map, filter, drop, length, Option, Some, None, Ok, MatchBool, IsTrue, refl, sym, ap, ap₂, subst, ◌∙◌, Equal, is_eq, arith, eqb-true, ◌+◌}
use Rattle.std.specs.Prelude.{nat_lt, is_some}
use Rattle.std.specs.Option.{option_map_or}
use Rattle.adr_sql.proofs.Common.{AllByRecursion, list_all, list_any, filter_map, cons_option, eq-eqb, cases_Bool, both_ways, not-true, and_parts, or_parts, tied_itself, Null, Int, Row, column, value_cmp, Binary, plain, first_key, value_cmp_total, Trees, rowid, has_rowid, IsTable, is_int, filter_all, all_of, all-flat_map, all-append, is_null, end as no_join, Enforced, Table, Schema, ParentKey, parent_key, agree, equal, has_null, is_held, Keeps, Has, Given, Work, works, work_for, work_by, deed_for, pairs, loses, is_child_of, AreChildren, ActsOn, Goes, Leads, Writes, max_depth, edit_of, taken_by, row_at, without_all, Applies, all_has, all_from, test_has, some_has, some_from, has_kept, has_filtered, has_got, has_either, has_left, has_right, row_at_is, named_parent, without_all_has, ids_of, Database, IsDatabase, IsSound, State, Executes}
use Rattle.sqlite_value.proofs.KeyLemmas.{first_key-plain}
use Rattle.sqlite_schema.specs.declared.schema.Action.{Action}
use Rattle.sqlite_schema.specs.declared.schema.Action.TheVariants.{Cascade}
use Rattle.sqlite_schema.specs.declared.schema.Constraint.TheVariants.{ForeignKey}
use Rattle.sqlite_schema.specs.declared.schema.Reference.{Reference}
use Rattle.sqlite_rules.specs.declared.action.Deed.TheVariants.{Delete}
use Rattle.sqlite_rules.proofs.ProbeLemmas.{mapped_has, has_mapped}
use Rattle.adr_sql.specs.Keys.{has_key}
use Rattle.adr_sql.specs.Contents.{Contents, Stores, StoresEach, Holds}
use Rattle.adr_sql.proofs.Keys.{equal_is, column_drop, are_full, ties}
use Rattle.adr_sql.proofs.Rows.{without_all_is, stores_filter}
use Rattle.adr_sql.proofs.Places.{IsFound, by_tree, is_tree, bare, stored_is_seen, stores_at}
use Rattle.adr_sql.proofs.Selections.{equalities, passes_is}
use Rattle.adr_sql.proofs.Removals.{IsRemoveText, has_along, chosen, chosen_from, removal, taken_out}
use Rattle.sqlite_rules.proofs.KeyLemmas.{agree_back, agree_whole}

-- ---- lists

all_found : {X Y : Type 0} (P : Y → Type 0) (f : X → Option Y) (xs : List X) → ((x : X) → Has xs x → (y : Y) → f x ≡ Some y → P y) → AllByRecursion P (filter_map f xs)
all_found P f [] each = tt
all_found {Y = Y} P f (x ∷ xs) each = by (f x) refl (all_found P f xs (λ z has. each z (inr has)))
  where
    by : (o : Option Y) → f x ≡ o → AllByRecursion P (filter_map f xs) → AllByRecursion P (cons_option o (filter_map f xs))
    by None is more = more
    by (Some y) is more = (each x (inl refl) y is, more)

old_of : (olds : List Row) (move : Row × Row) → Has (pairs olds []) move → Has olds move.0
old_of [] move h = absurd h
old_of (old ∷ olds) move (inl same) = inl (ap (λ (m : Row × Row). m.0) same)
old_of (old ∷ olds) move (inr later) = inr (old_of olds move later)

-- ---- what a removal sets off

module _ (schema : Schema) (root : Table) (goes : ℕ → Row → Bool) (db : Trees) where
  -- a row that points to one that goes, goes too
  abbrev pub IsAlong : Table → Reference → Option ParentKey → Type 0
  IsAlong child ref None = Unit {0}
  IsAlong child ref (Some key) = (r m : Row) → Has (db child.tree) r → Has (db key.0) m → agree key.2 ref.columns r key.1 m ≡ true → goes key.0 m ≡ true → goes child.tree r ≡ true

  -- a row that goes, but for those of the statement, points to such as go alone
  pub record IsBecause (t : Table) (r : Row) : Type 0 where
    pub ref : Reference
    pub listed : Has t.references ref
    pub key : ParentKey
    pub parent : parent_key schema.tables ref ≡ Some key
    pub before : key.0 < t.tree
    pub full : has_null ref.columns r ≡ false
    pub alone : (m : Row) → Has (db key.0) m → agree key.2 key.1 m ref.columns r ≡ true → goes key.0 m ≡ true

  pub record IsCascade : Type 0 where
    pub cascading : (t : Table) → Has schema.tables t → (ref : Reference) → Has t.references ref → ref.on_delete ≡ Cascade
    pub along : (t : Table) → Has schema.tables t → (ref : Reference) → Has t.references ref → IsAlong t ref (parent_key schema.tables ref)
    pub because : (t : Table) → Has schema.tables t → (r : Row) → Has (db t.tree) r → goes t.tree r ≡ true → (t.tree ≡ root.tree) ⊎ IsBecause t r
    pub listed : (t : Table) → Has schema.tables t → IsTable (db t.tree)
    pub numbered : (t : Table) → Has schema.tables t → AllByRecursion (λ r. IsTrue (is_int (rowid r))) (db t.tree)

  -- so far some of the rows that go have gone
  record IsLess (now : Trees) (t : Table) : Type 0 where
    pub ids : List ℤ
    pub rows : now t.tree ≡ without_all (db t.tree) ids
    pub sound : (id : ℤ) → Has ids id → (r : Row) × Has (db t.tree) r × (goes t.tree r ≡ true) × (rowid r ≡ Int id)

  -- those of the statement have all gone
  record IsUnderWay (now : Trees) : Type 0 where
    pub less : (t : Table) → Has schema.tables t → IsLess now t
    pub rooted : (r : Row) → Has (now root.tree) r → goes root.tree r ≡ false

  -- an action that waits is on the children of rows that went
  record IsDue (w : Work) : Type 0 where
    pub listed : Has schema.tables w.child
    pub refers : Has w.child.references w.ref
    pub deletes : w.deed ≡ Delete
    pub tree : ℕ
    pub parent : parent_key schema.tables w.ref ≡ Some (tree, w.places, w.order)
    pub olds : (move : Row × Row) → Has w.moves move → Has (db tree) move.0 × (goes tree move.0 ≡ true)

  module _ (it : IsCascade) where
    had : (now : Trees) (t : Table) → IsLess now t → (r : Row) → Has (now t.tree) r → Has (db t.tree) r
    had now t less r has = without_all_has less.ids (db t.tree) r (subst (λ rows. Has rows r) less.rows has)

    -- what is set off by the rows that went
    due : (depth : ℕ) (t : Table) (olds : List Row) → ((r : Row) → Has olds r → Has (db t.tree) r × (goes t.tree r ≡ true)) → AllByRecursion IsDue (works schema Enforced depth t.tree olds [])
    due depth t olds all =
        all-flat_map IsDue (λ child. filter_map (work_for schema Enforced depth t.tree olds [] child) child.references) schema.tables (all_from _ schema.tables (λ child listed.
        all_found IsDue (work_for schema Enforced depth t.tree olds [] child) child.references (λ ref refers w. go child listed ref refers (it.cascading child listed ref refers) w (parent_key schema.tables ref) refl)))
      where
        go : (child : Table) → Has schema.tables child → (ref : Reference) → Has child.references ref → ref.on_delete ≡ Cascade → (w : Work) (key : Option ParentKey) → parent_key schema.tables ref ≡ key
            → work_by depth t.tree (pairs olds []) child ref (deed_for Enforced true ref) key ≡ Some w → IsDue w
        go child listed ref refers cascade w key parent made = by key parent (subst (λ action. work_by depth t.tree (pairs olds []) child ref (Rattle.sqlite_rules.specs.Action.deed_of Enforced true action) key ≡ Some w) cascade made)
          where
            by : (key : Option ParentKey) → parent_key schema.tables ref ≡ key → work_by depth t.tree (pairs olds []) child ref (Some Delete) key ≡ Some w → IsDue w
            by None parent made = absurd cc
            by (Some key) parent made = set ((key.0 == t.tree) && list_any (loses key.2 key.1) (pairs olds [])) refl made
              where
                work : Work
                work = record { depth = depth; child = child; ref = ref; places = key.1; order = key.2; deed = Delete; moves = pairs olds [] }

                set : (b : Bool) → ((key.0 == t.tree) && list_any (loses key.2 key.1) (pairs olds [])) ≡ b → cond b (Some work) None ≡ Some w → IsDue w
                set false is made = absurd cc
                set true is made =
                    let same : work ≡ w = cc in
                    subst IsDue same (record {
                      listed = listed;
                      refers = refers;
                      deletes = refl;
                      tree = key.0;
                      parent = parent;
                      olds = λ move has. subst (λ tree. Has (db tree) move.0 × (goes tree move.0 ≡ true)) (sym (eqb-true _ _ (and_parts _ _ is).0)) (all move.0 (old_of olds move has));
                    })

    -- one step takes out rows that go, and sets off what is due
    module _ (now next : Trees) (t : Table) (listed : Has schema.tables t) (ids : List ℤ) (sound : (id : ℤ) → Has ids id → (r : Row) × Has (now t.tree) r × (goes t.tree r ≡ true) × (rowid r ≡ Int id))
        (less : (u : Table) → Has schema.tables u → IsLess now u) (a : Applies schema Enforced now (edit_of now t ids Given 0 []) next) where
      less_now : IsLess now t
      less_now = less t listed

      taken : (r : Row) → Has (taken_by now (edit_of now t ids Given 0 [])) r → Has (db t.tree) r × (goes t.tree r ≡ true)
      taken r h =
          let id = has_mapped (row_at (now t.tree)) ids r h in
          let s = sound id.0 id.1 in
          let there : has_rowid id.0 s.0 ≡ true = ap (λ x. is_eq (value_cmp (rowid s.0) x)) (sym s.3) ∙ ap is_eq (tied_itself value_cmp_total (rowid s.0)) in
          let up : IsTable (now t.tree) = subst IsTable (sym (less_now.rows ∙ without_all_is less_now.ids (db t.tree))) (Rattle.sqlite_trees.proofs.ListLemmas.ascending-filter _ _ (db t.tree) (it.listed t listed)) in
          let same : r ≡ s.0 = id.2 ∙ row_at_is (now t.tree) id.0 s.0 up s.1 there in
          subst (λ x. Has (db t.tree) x × (goes t.tree x ≡ true)) (sym same) (had now t less_now s.0 s.1, s.2)

      -- what a table lost in this step
      lost : (u : Table) → Has schema.tables u → (gone : List ℤ) × (next u.tree ≡ without_all (now u.tree) gone) × ((id : ℤ) → Has gone id → (r : Row) × Has (now u.tree) r × (goes u.tree r ≡ true) × (rowid r ≡ Int id))
      lost u has = go (u.tree == t.tree) refl
        where
          go : (b : Bool) → (u.tree == t.tree) ≡ b → (gone : List ℤ) × (next u.tree ≡ without_all (now u.tree) gone) × ((id : ℤ) → Has gone id → (r : Row) × Has (now u.tree) r × (goes u.tree r ≡ true) × (rowid r ≡ Int id))
          go true is = subst (λ tree. (gone : List ℤ) × (next tree ≡ without_all (now tree) gone) × ((id : ℤ) → Has gone id → (r : Row) × Has (now tree) r × (goes tree r ≡ true) × (rowid r ≡ Int id))) (sym (eqb-true _ _ is)) (ids, a.rows, sound)
          go false is = ([], all_has _ schema.tables u a.tables has (λ same. both_ways _ is (eq-eqb u.tree t.tree same)), λ id none. absurd none)

      less_then : (u : Table) → Has schema.tables u → IsLess next u
      less_then u has =
          let before = less u has in
          let step = lost u has in
          record {
            ids = before.ids ++ step.0;
            rows = step.1 ∙ ap (λ rows. without_all rows step.0) before.rows ∙ twice before.ids step.0 (db u.tree);
            sound = λ id h. elim (has_either before.ids step.0 id h) [
              | inl early ↦ before.sound id early
              | inr late ↦ let s = step.2 id late in (s.0, had now u before s.0 s.1, s.2, s.3)
            ];
          }
        where
          twice : (xs ys : List ℤ) (rows : List Row) → without_all (without_all rows xs) ys ≡ without_all rows (xs ++ ys)
          twice [] ys rows = refl
          twice (x ∷ xs) ys rows = twice xs ys (Rattle.sqlite_trees.specs.Tree.without_rowid x rows)

      still : Has schema.tables root → (r : Row) → Has (next root.tree) r → Has (now root.tree) r
      still has r h = let step = lost root has in without_all_has step.0 (now root.tree) r (subst (λ rows. Has rows r) step.1 h)

    module _ (here : Has schema.tables root) where
      -- all that is due is done
      led : (n : ℕ) (now end : Trees) (stack : List Work) → IsUnderWay now → AllByRecursion IsDue stack → Leads schema Enforced n now stack (Ok end) → IsUnderWay end
      led zero now end stack way dues h = subst IsUnderWay (let e = h.1 in cc) way
      led (suc n) now end stack way dues (below, w, is, acts) =
          let each = subst (AllByRecursion IsDue) is dues in
          acted (λ now stack way dues h. led n now end stack way dues h) (nat_lt w.depth max_depth) (all_has IsDue _ w each (has_right below (w ∷ []) w (inl refl)))
          (all_from IsDue below (λ v has. all_has IsDue _ v each (has_left below (w ∷ []) v has))) acts
        where
          acted : ((now : Trees) (stack : List Work) → IsUnderWay now → AllByRecursion IsDue stack → Leads schema Enforced n now stack (Ok end) → IsUnderWay end) → (b : Bool) → IsDue w → AllByRecursion IsDue below
              → MatchBool b ((ids : List ℤ) × AreChildren now w ids × ActsOn schema Enforced (Leads schema Enforced n) now w below (Ok end) ids) (◌≡◌ {A = Rattle.sqlite_rules.specs.Action.End} (Ok end) (Rattle.std.proofs.Common.Err (Some Rattle.sqlite_rules.specs.declared.error.Refusal.TheVariants.TooDeep))) → IsUnderWay end
          acted more false one others h = absurd (let e = h in cc)
          acted more true one others (ids, children, on) = on_children ids children on
            where
              child_of : (r : Row) → Has (now w.child.tree) r → list_any (is_child_of w r) w.moves ≡ true → goes w.child.tree r ≡ true
              child_of r has some =
                  let move = some_has _ w.moves some in
                  let old = one.olds move.0 move.1 in
                  let agrees = (and_parts (loses w.order w.places move.0) (agree w.order w.ref.columns r w.places move.0.0) move.2).1 in
                  let along = subst (IsAlong w.child w.ref) one.parent (it.along w.child one.listed w.ref one.refers) in
                  along r move.0.0 (had now w.child (way.less w.child one.listed) r has) old.0 agrees old.1

              on_children : (ids : List ℤ) → AreChildren now w ids → ActsOn schema Enforced (Leads schema Enforced n) now w below (Ok end) ids → IsUnderWay end
              on_children [] children on = more now below way others on
              on_children (id ∷ ids) children on = gone (subst (λ deed. ActsOn schema Enforced (Leads schema Enforced n) now (record w { deed = deed }) below (Ok end) (id ∷ ids)) one.deletes on)
                where
                  sound : (i : ℤ) → Has (id ∷ ids) i → (r : Row) × Has (now w.child.tree) r × (goes w.child.tree r ≡ true) × (rowid r ≡ Int i)
                  sound i has = let s = children.sound i has in (s.0, s.1, child_of s.0 s.1 s.2, s.3)

                  gone : Goes schema Enforced (Leads schema Enforced n) now (edit_of now w.child (id ∷ ids) Given 0 []) (w.depth + 1) below (Ok end) → IsUnderWay end
                  gone (inl refused) = absurd (let e = refused.2 in cc)
                  gone (inr (inl big)) = absurd (let e = big.3 in cc)
                  gone (inr (inr (next, a, rest))) =
                      more next (below ++ works schema Enforced (w.depth + 1) w.child.tree (taken_by now (edit_of now w.child (id ∷ ids) Given 0 [])) []) (record {
                        less = less_then now next w.child one.listed (id ∷ ids) sound way.less a;
                        rooted = λ r has. way.rooted r (still now next w.child one.listed (id ∷ ids) sound way.less a here r has);
                      }) (all-append IsDue below _ others (due (w.depth + 1) w.child (taken_by now (edit_of now w.child (id ∷ ids) Given 0 [])) (taken now next w.child one.listed (id ∷ ids) sound way.less a))) rest

      -- from the statement on
      first : (gone : List ℤ) (end : Trees) → ((id : ℤ) → Has gone id → (r : Row) × Has (db root.tree) r × (goes root.tree r ≡ true) × (rowid r ≡ Int id))
          → ((r : Row) → Has (without_all (db root.tree) gone) r → goes root.tree r ≡ false) → Writes schema Enforced db (edit_of db root gone Given 0 []) (Ok end) → IsUnderWay end
      first gone end sound rooted (inl refused) = absurd (let e = refused.2 in cc)
      first gone end sound rooted (inr (inl big)) = absurd (let e = big.3 in cc)
      first gone end sound rooted (inr (inr (next, a, (n, leads)))) =
          let none : (u : Table) → Has schema.tables u → IsLess db u = λ u _. record { ids = []; rows = refl; sound = λ id h. absurd h } in
          led n next end (works schema Enforced 0 root.tree (taken_by db (edit_of db root gone Given 0 [])) []) (record { less = less_then db next root here gone sound none a; rooted = λ r has. rooted r (subst (λ rows. Has rows r) a.rows has) })
          (due 0 root (taken_by db (edit_of db root gone Given 0 [])) (taken db next root here gone sound none a)) leads

      module _ (end : Trees) (way : IsUnderWay end) (keeps : Keeps ForeignKey schema end) where
        -- no row that goes is left, since none whose parents all went is left
        out : (n : ℕ) (t : Table) → Has schema.tables t → t.tree < n → (r : Row) → Has (db t.tree) r → goes t.tree r ≡ true → Has (end t.tree) r → ⊥
        out zero t listed low r has go left = omega (arith, low)
        out (suc n) t listed low r has go left = elim (it.because t listed r has go) [
          | inl is_root ↦ both_ways _ (way.rooted r (subst (λ tree. Has (end tree) r) is_root left)) (subst (λ tree. goes tree r ≡ true) is_root go)
          | inr why ↦
              let each = all_has _ (end t.tree) r (all_has _ schema.tables t keeps listed) left in
              let held : (has_null why.ref.columns r || is_held end why.ref.columns r (parent_key schema.tables why.ref)) ≡ true = test_has _ t.references why.ref each why.listed in
              let found : list_any (λ m. agree why.key.2 why.key.1 m why.ref.columns r) (end why.key.0) ≡ true = rw (why.full, why.parent) at held in
              let m = some_has _ (end why.key.0) found in
              let parent = named_parent schema.tables why.ref why.key why.parent in
              let there : Has (end parent.0.tree) m.0 = subst (λ tree. Has (end tree) m.0) (sym parent.2) m.1 in
              let was : Has (db parent.0.tree) m.0 = had end parent.0 (way.less parent.0 parent.1) m.0 there in
              let goes_too : goes why.key.0 m.0 ≡ true = why.alone m.0 (subst (λ tree. Has (db tree) m.0) parent.2 was) m.2 in
              let lower : parent.0.tree < n = omega (arith, low, why.before, parent.2) in
              out n parent.0 parent.1 lower m.0 was (subst (λ tree. goes tree m.0 ≡ true) (sym parent.2) goes_too) there
        ]

        left_is : (t : Table) → Has schema.tables t → end t.tree ≡ filter (λ r. not (goes t.tree r)) (db t.tree)
        left_is t listed =
            let less = way.less t listed in
            less.rows ∙ taken_out (goes t.tree) (db t.tree) less.ids (it.listed t listed) less.sound back
          where
            back : (r : Row) → Has (db t.tree) r → goes t.tree r ≡ true → list_any (λ id. has_rowid id r) (way.less t listed).ids ≡ true
            back r has go = elim (cases_Bool (list_any (λ id. has_rowid id r) (way.less t listed).ids)) [
              | inl gone ↦ gone
              | inr stays ↦
                  let left : Has (end t.tree) r = subst (λ rows. Has rows r) (sym ((way.less t listed).rows ∙ without_all_is (way.less t listed).ids (db t.tree))) (has_kept _ (db t.tree) r has (ap not stays)) in
                  absurd (out (suc t.tree) t listed (omega arith) r has go left)
            ]

      -- after the statement each table has the rows that do not go
      pub leaves : (gone : List ℤ) (end : Trees) → ((id : ℤ) → Has gone id → (r : Row) × Has (db root.tree) r × (goes root.tree r ≡ true) × (rowid r ≡ Int id))
          → ((r : Row) → Has (without_all (db root.tree) gone) r → goes root.tree r ≡ false) → Writes schema Enforced db (edit_of db root gone Given 0 []) (Ok end) → Keeps ForeignKey schema end
          → (t : Table) → Has schema.tables t → end t.tree ≡ filter (λ r. not (goes t.tree r)) (db t.tree)
      leaves gone end sound rooted writes keeps = left_is end (first gone end sound rooted writes) keeps

-- ---- as the statement, on what the tables hold

agree_tie : (p q : ℕ) (a b : Row) → agree plain (p ∷ []) a (q ∷ []) b ≡ true → value_cmp (column b q) (column a p) ≡ Equal
agree_tie p q a b h =
    let one : equal Binary (column a p) (column b q) ≡ true = rw first_key-plain at (and_parts (equal (first_key plain).collation (column a p) (column b q)) true h).0 in
    let full = (or_parts _ _ (agree_whole plain (q ∷ []) (p ∷ []) b a (agree_back plain (p ∷ []) (q ∷ []) a b h))).0 in
    ties _ (sym (equal_is (column a p) (column b q) full) ∙ one)

-- which rows of a table go, by its tree; of a table that is not named, none
abbrev pub Losses : Type 0
Losses = List (ℕ × (Row → Bool))

abbrev pub loss_of : Losses → ℕ → Option (Row → Bool)
loss_of [] tree = None
loss_of (l ∷ ls) tree = cond (l.0 == tree) (Some l.1) (loss_of ls tree)

abbrev pub lost_by : Option (Row → Bool) → Row → Bool
lost_by None row = false
lost_by (Some goes) row = goes row

abbrev pub lessened : Option (Row → Bool) → List Row → List Row
lessened None rows = rows
lessened (Some goes) rows = filter (λ row. not (goes row)) rows

abbrev pub lessened_each : Losses → List Table → Contents → Contents
lessened_each ls [] all = all
lessened_each ls (t ∷ ts) [] = []
lessened_each ls (t ∷ ts) (rows ∷ all) = lessened (loss_of ls t.tree) rows ∷ lessened_each ls ts all

lost_some : (loss : Option (Row → Bool)) (row : Row) → lost_by loss row ≡ true → is_some loss ≡ true
lost_some None row h = h
lost_some (Some goes) row h = refl

-- whether a reference is ON DELETE CASCADE
abbrev pub takes_along : Action → Bool
takes_along Cascade = true
takes_along _ = false

does_cascade : (a : Action) → takes_along a ≡ true → a ≡ Cascade
does_cascade Cascade h = refl
does_cascade _ h = absurd cc

module _ (schema : Schema) (root : Table) (losses : Losses) (all : Contents) where
  abbrev pub goes : ℕ → Row → Bool
  goes tree = lost_by (loss_of losses tree)

  -- the reference is of one column, to a primary key of one
  pub record IsSimple (ref : Reference) (key : ParentKey) (at : ℕ) : Type 0 where
    pub columns : ref.columns ≡ suc at ∷ []
    pub places : key.1 ≡ 1 ∷ []
    pub order : key.2 ≡ plain

  -- the rows that name one that goes, go too
  pub record GoAlong (child : Table) (ref : Reference) (key : ParentKey) : Type 0 where
    pub at : ℕ
    pub simple : IsSimple ref key at
    pub along : (r m : Row) → Has (by_tree schema.tables all child.tree) r → Has (by_tree schema.tables all key.0) m → value_cmp (column m 0) (column r at) ≡ Equal → goes key.0 m ≡ true → goes child.tree r ≡ true

  -- the row names such as go alone
  pub record NamesGone (t : Table) (r : Row) : Type 0 where
    pub ref : Reference
    pub listed : Has t.references ref
    pub key : ParentKey
    pub parent : parent_key schema.tables ref ≡ Some key
    pub before : key.0 < t.tree
    pub at : ℕ
    pub simple : IsSimple ref key at
    pub full : is_null (column r at) ≡ false
    pub alone : (m : Row) → Has (by_tree schema.tables all key.0) m → value_cmp (column m 0) (column r at) ≡ Equal → goes key.0 m ≡ true

  -- that, of a reference to a table
  abbrev IsAlongWith : Table → Reference → Option ParentKey → Type 0
  IsAlongWith child ref None = Unit {0}
  IsAlongWith child ref (Some key) = GoAlong child ref key

  -- whether a table loses rows, and whether a reference is to one that does
  abbrev is_lessened : Table → Bool
  is_lessened t = is_some (loss_of losses t.tree)

  abbrev is_to_lessened : Reference → Bool
  is_to_lessened ref = option_map_or (λ (key : ParentKey). is_some (loss_of losses key.0)) (parent_key schema.tables ref) false

  -- a row that goes, but for those of the statement, names such as go alone
  abbrev pub HasCause : Table → Type 0
  HasCause t = (r : Row) → Has (by_tree schema.tables all t.tree) r → goes t.tree r ≡ true → (t.tree ≡ root.tree) ⊎ NamesGone t r

  -- what `refl` finds of the tables, and what is to be shown of the references to those that lose rows and of these, each in the order of
  -- the schema: of any other table nothing
  pub record IsChain : Type 0 where
    pub cascading : list_all (λ t. list_all (λ ref. takes_along ref.on_delete) t.references) schema.tables ≡ true
    pub along : AllByRecursion (λ t. AllByRecursion (λ ref. IsAlongWith t ref (parent_key schema.tables ref)) (filter is_to_lessened t.references)) (filter (λ t. list_any is_to_lessened t.references) schema.tables)
    pub because : AllByRecursion HasCause (filter is_lessened schema.tables)

  -- the rows of a table go where those do that they name by one reference; a row that names none, since its column is NULL, is no child, and stays
  module _ (child : Table) (ref : Reference) (key : ParentKey) (at : ℕ) (simple : IsSimple ref key at) (refers : Has child.references ref) (parent : parent_key schema.tables ref ≡ Some key) (before : key.0 < child.tree)
      (full : (r : Row) → Has (by_tree schema.tables all child.tree) r → goes child.tree r ≡ true → is_null (column r at) ≡ false)
      (same : (r m : Row) → Has (by_tree schema.tables all child.tree) r → Has (by_tree schema.tables all key.0) m → value_cmp (column m 0) (column r at) ≡ Equal → goes key.0 m ≡ goes child.tree r) where
    pub linked : GoAlong child ref key × HasCause child
    linked = (
      record { at = at; simple = simple; along = λ r m mine theirs tie go. sym (same r m mine theirs tie) ∙ go },
      λ r has go. inr (record { ref = ref; listed = refers; key = key; parent = parent; before = before; at = at; simple = simple; full = full r has go; alone = λ m theirs tie. same r m has theirs tie ∙ go }),
    )

  module _ (chain : IsChain) (db : Trees) (held : StoresEach schema.tables db all) where
    -- what is stored is a row of the table
    held_row : (t : Table) → Has schema.tables t → (r : Row) → Has (db t.tree) r → Has (by_tree schema.tables all t.tree) (drop 1 r)
    held_row t listed r has =
        let is : is_tree schema.tables t.tree ≡ true = some_from (λ u. u.tree == t.tree) schema.tables t listed (eq-eqb t.tree t.tree refl) in
        let there = has_along (map bare (db t.tree)) _ (bare r) (stored_is_seen schema.tables db all t.tree held is) (mapped_has bare (db t.tree) r has) in
        let row = has_mapped (λ row. Null ∷ row) (by_tree schema.tables all t.tree) (bare r) there in
        subst (Has (by_tree schema.tables all t.tree)) (sym (ap (drop 1) row.2)) row.1

    -- and one of the table that a reference points to
    held_parent : (ref : Reference) (key : ParentKey) → parent_key schema.tables ref ≡ Some key → (m : Row) → Has (db key.0) m → Has (by_tree schema.tables all key.0) (drop 1 m)
    held_parent ref key parent m has =
        let t = named_parent schema.tables ref key parent in
        subst (λ tree. Has (by_tree schema.tables all tree) (drop 1 m)) t.2 (held_row t.0 t.1 m (subst (λ tree. Has (db tree) m) (sym t.2) has))

    agrees : (ref : Reference) (key : ParentKey) (at : ℕ) → IsSimple ref key at → (r m : Row) → agree key.2 ref.columns r key.1 m ≡ true → value_cmp (column (drop 1 m) 0) (column (drop 1 r) at) ≡ Equal
    agrees ref key at simple r m h =
        let one : agree plain (suc at ∷ []) r (1 ∷ []) m ≡ true = rw (simple.columns, simple.places, simple.order) at h in
        ap₂ value_cmp (column_drop m 0) (column_drop r at) ∙ agree_tie (suc at) 1 r m one

    stored_along : (t : Table) → Has schema.tables t → (ref : Reference) → Has t.references ref → (key : Option ParentKey) → parent_key schema.tables ref ≡ key → IsAlong schema root (λ tree r. goes tree (drop 1 r)) db t ref key
    stored_along t listed ref refers None parent = tt
    stored_along t listed ref refers (Some key) parent = λ r m has there agree go.
        let lessened : is_to_lessened ref ≡ true = ap (λ k. option_map_or (λ (key : ParentKey). is_some (loss_of losses key.0)) k false) parent ∙ lost_some (loss_of losses key.0) (drop 1 m) go in
        let child = has_kept (λ (t : Table). list_any is_to_lessened t.references) schema.tables t listed (some_from is_to_lessened t.references ref refers lessened) in
        let each = all_has (λ ref. IsAlongWith t ref (parent_key schema.tables ref)) (filter is_to_lessened t.references) ref (all_has _ _ t chain.along child) (has_kept is_to_lessened t.references ref refers lessened) in
        let h = subst (IsAlongWith t ref) parent each in
        h.along (drop 1 r) (drop 1 m) (held_row t listed r has) (held_parent ref key parent m there) (agrees ref key h.at h.simple r m agree) go

    stored_because : (t : Table) → Has schema.tables t → (r : Row) → Has (db t.tree) r → goes t.tree (drop 1 r) ≡ true → (t.tree ≡ root.tree) ⊎ IsBecause schema root (λ tree r. goes tree (drop 1 r)) db t r
    stored_because t listed r has go =
        elim (all_has HasCause _ t chain.because (has_kept is_lessened schema.tables t listed (lost_some (loss_of losses t.tree) (drop 1 r) go)) (drop 1 r) (held_row t listed r has) go) [
          | inl is_root ↦ inl is_root
          | inr why ↦ inr (record {
            ref = why.ref;
            listed = why.listed;
            key = why.key;
            parent = why.parent;
            before = why.before;
            full = subst (λ columns. has_null columns r ≡ false) (sym why.simple.columns) (ap (λ b. b || false) (ap is_null (sym (column_drop r why.at)) ∙ why.full));
            alone = λ m there agree. why.alone (drop 1 m) (held_parent why.ref why.key why.parent m there) (agrees why.ref why.key why.at why.simple r m (agree_back why.key.2 why.key.1 why.ref.columns m r agree));
          })
        ]

    stored_each : (ts : List Table) (rows : Contents) → StoresEach ts db rows → AllByRecursion (λ t. IsTable (db t.tree) × AllByRecursion (λ r. IsTrue (is_int (rowid r))) (db t.tree)) ts
    stored_each [] rows h = tt
    stored_each (t ∷ ts) [] h = absurd h
    stored_each (t ∷ ts) (r ∷ rows) h = ((h.0.listed, h.0.numbered), stored_each ts rows h.1)

    pub is_cascade : IsCascade schema root (λ tree r. goes tree (drop 1 r)) db
    is_cascade = record {
      cascading = λ t listed ref refers. does_cascade ref.on_delete (test_has (λ ref. takes_along ref.on_delete) t.references ref (test_has _ schema.tables t chain.cascading listed) refers);
      along = λ t listed ref refers. stored_along t listed ref refers (parent_key schema.tables ref) refl;
      because = stored_because;
      listed = λ t listed. (all_has _ schema.tables t (stored_each schema.tables all held) listed).0;
      numbered = λ t listed. (all_has _ schema.tables t (stored_each schema.tables all held) listed).1;
    }

  stores_less : (ts : List Table) (db end : Trees) (rows : Contents) → ((t : Table) → Has ts t → end t.tree ≡ filter (λ r. not (goes t.tree (drop 1 r))) (db t.tree)) → StoresEach ts db rows → StoresEach ts end (lessened_each losses ts rows)
  stores_less [] db end rows left h = h
  stores_less (t ∷ ts) db end [] left h = absurd h
  stores_less (t ∷ ts) db end (r ∷ rows) left h = (subst (Stores (length t.primary) (length t.columns) (end t.tree)) (lessened_is (loss_of losses t.tree)) filtered, stores_less ts db end rows (λ u has. left u (inr has)) h.1)
    where
      filtered : Stores (length t.primary) (length t.columns) (end t.tree) (filter (λ row. not (goes t.tree row)) r)
      filtered = subst (λ stored. Stores (length t.primary) (length t.columns) stored (filter (λ row. not (goes t.tree row)) r)) (sym (left t (inl refl))) (stores_filter _ _ (λ row. not (goes t.tree row)) (db t.tree) r h.0)

      lessened_is : (loss : Option (Row → Bool)) → filter (λ row. not (lost_by loss row)) r ≡ lessened loss r
      lessened_is None = filter_all _ r (all_of _ (λ row. refl) r)
      lessened_is (Some go) = refl

-- DELETE by the first k columns of the key, which are the parameters, with all that goes along
module _ (schema : Schema) (at k : ℕ) (table : Table) (it : IsFound schema at table) (sql : List ℕ) (params : Row) (text : IsRemoveText schema at table no_join (equalities 0 k) sql) (full : are_full 0 k params ≡ true) where
  pub cascade_runs : (losses : Losses) (old new : State) (count : ℕ) (all : Contents) → IsChain schema table losses all → ((row : Row) → lost_by (loss_of losses table.tree) row ≡ has_key k params row)
      → Executes sql params old new (Ok count) → Holds schema all old → Holds schema (lessened_each losses schema.tables all) new
  cascade_runs losses old new count all chain rooted h was =
      let db = old.now.trees in
      let gone = removal schema at table it no_join (equalities 0 k) sql params text old new count h was.has in
      let whole : Database = record { schema = schema; trees = gone.end } in
      let keeps : Keeps ForeignKey schema gone.end = (subst IsDatabase gone.now gone.sound).obeys.rules ForeignKey in
      let listed : Has schema.tables table = has_got schema.tables at table it.found in
      let here = stores_at schema.tables at table db all it.found was.each in
      let found = λ (r : Row). passes_is k params r full in
      let left = chosen db table.tree no_join (equalities 0 k) params gone.rows text.flat gone.found here.numbered here.listed in
      let sound : (id : ℤ) → Has (ids_of gone.rows) id → (r : Row) × Has (db table.tree) r × (lost_by (loss_of losses table.tree) (drop 1 r) ≡ true) × (rowid r ≡ Int id) = λ id has.
      let r = chosen_from db table.tree no_join (equalities 0 k) params gone.rows text.flat gone.found here.numbered id has in
      (r.0, r.1, rooted (drop 1 r.0) ∙ sym (found r.0) ∙ r.2, r.3) in
      let none : (r : Row) → Has (without_all (db table.tree) (ids_of gone.rows)) r → lost_by (loss_of losses table.tree) (drop 1 r) ≡ false = λ r has.
      let stays = has_filtered _ (db table.tree) r (subst (λ rows. Has rows r) left has) in
      rooted (drop 1 r) ∙ sym (found r) ∙ not-true _ stays.1 in
      let lessens = leaves schema table (λ tree r. lost_by (loss_of losses tree) (drop 1 r)) db (is_cascade schema table losses all chain db was.each) listed (ids_of gone.rows) gone.end sound none gone.writes keeps in
      record {
        has = ap (λ (d : Database). d.schema) gone.now;
        sound = subst (λ s. IsSound s new.now.trees) (ap (λ (d : Database). d.schema) gone.now) gone.sound;
        each = subst (λ (d : Database). StoresEach schema.tables d.trees (lessened_each losses schema.tables all)) (sym gone.now) (stores_less schema table losses all schema.tables db gone.end all lessens was.each);
      }
