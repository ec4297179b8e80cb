-- The join of the shares in a program, and of those that are kept for an event, with their resources and vens.
use Rattle.std.proofs.Common.{◌≡◌, ◌≤◌, ℕ, pos, Bool, true, false, ◌&&◌, cond, None, Some, Option, List, [], ◌∷◌, ◌++◌, codes, map, filter, flat_map, length, refl, sym, ap, ap₂, subst, ◌∙◌, arith, is_eq}
use Rattle.std.specs.Prelude.{option_map, option_and_then, option_to_list}
use Rattle.adr_db.proofs.Common.{list_all, filter_map, cons_option, option_map_or, nat_cmp, Null, Text, Row, value_cmp, value_cmp-Int, value_cmp-Text, flat_map-map, flat_map_none, all_of, all-map, AllByRecursion, rows_of_table, Query, Join, inner, end, matches, Term, Env, col, op2, holds, eval_all, State, Shown, understood, everything, Ven, Resource, ShareKey, Participant, at, and_true, equal_is, seen, IsSelectText, order_from, join_runs, named_is, selection}
use Rattle.sqlite_value.specs.declared.keys.Collation.TheVariants.{Binary}
use Rattle.sqlite_sql.specs.declared.ops.BinaryOp.TheVariants.{Compare}
use Rattle.sqlite_sql.specs.declared.ops.CompareOp.TheVariants.{Eq}
use Rattle.adr_sql.proofs.Joins.{with_row}
use Rattle.adr_db_portfolio.specs.declared.sharers.TheConstants.{READ_SHARERS, READ_FROZEN}
use Rattle.adr_db.specs.Tables.{schema}
use Rattle.adr_db.specs.Rows.{number, ven_row, resource_row, participant_row}
use Rattle.adr_db.specs.Kept.{Kept, Keeps, contents_of}
use Rattle.adr_db.specs.Sharing.{weighted, sharers, frozen_sharers}
use Rattle.adr_state.specs.declared.keys.FrozenKey.{FrozenKey}
use Rattle.adr_state.specs.Keys.{id_cmp}
use Rattle.sqlite_schema.specs.declared.schema.Table.{Table}
use Rattle.adr_sql.proofs.Upserts.{IsKeyed}
use Rattle.adr_db.proofs.Rises.{vens_rise, resources_rise}
use Rattle.adr_db.proofs.Tables.{ven, resource, share, share_keyed, frozen_share, frozen_share_keyed}
use Rattle.adr_db.proofs.Maps.{share_map, frozen_share_map}
use Rattle.adr_db.proofs.Rows.{numbers_as_values, number_same_is}

abbrev rest : Join
rest = inner resource.tree (inner ven.tree end)

abbrev equals : Term → Term → Term
equals a b = op2 (Compare Eq Binary) a b

-- with the weights of the table of this tree
abbrev query : ℕ → Query
query tree = selection tree rest (equals (col 2 1) (col 1 2) ∷ equals (col 3 1) (col 2 2) ∷ equals (col 1 1) (col 0 0) ∷ []) (col 1 2 ∷ col 1 3 ∷ col 2 3 ∷ col 3 2 ∷ []) (order_from 0 2)

pub reads : IsSelectText schema share (query share.tree) rest READ_SHARERS.now
unfolding understood everything
reads = record { names = codes "resource" ∷ codes "weight" ∷ codes "name" ∷ codes "name" ∷ []; command = refl; alone = (refl, refl); unlisted = refl; from = refl; order = refl; ungrouped = refl; undistinct = refl; joins = refl; sorts = refl; shows = refl }

pub reads_frozen : IsSelectText schema frozen_share (query frozen_share.tree) rest READ_FROZEN.now
unfolding understood everything
reads_frozen = record { names = codes "resource" ∷ codes "weight" ∷ codes "name" ∷ codes "name" ∷ []; command = refl; alone = (refl, refl); unlisted = refl; from = refl; order = refl; ungrouped = refl; undistinct = refl; joins = refl; sorts = refl; shows = refl }

-- ---- the tests

numbers_tie : (a b : ℕ) → is_eq (value_cmp (number a) (number b)) ≡ is_eq (nat_cmp a b)
numbers_tie a b = ap is_eq (value_cmp-Int (pos a) (pos b) ∙ numbers_as_values a b)

-- ---- lists

held : {X Y : Type 0} (b : Bool) (f : X → List Y) (xs : List X) → flat_map (λ x. cond b (f x) []) xs ≡ cond b (flat_map f xs) []
held true f xs = refl
held false f xs = flat_map_none (λ x. []) (λ x. refl) xs

turned : {X : Type 0} (a b c : Bool) (xs : List X) → cond (a && (b && c)) xs [] ≡ cond a (cond c (cond b xs []) []) []
turned true true true xs = refl
turned true true false xs = refl
turned true false true xs = refl
turned true false false xs = refl
turned false b c xs = refl

one_more : (o : Option Participant) (rows : List Row) (others : List Participant) → rows ≡ map participant_row others → map participant_row (option_to_list o) ++ rows ≡ map participant_row (cons_option o others)
one_more None rows others same = same
one_more (Some x) rows others same = ap (λ l. participant_row x ∷ l) same

kept_rows : {X : Type 0} (p : X → Bool) (h : X → Option Participant) (xs : List X) → flat_map (λ x. cond (p x) (map participant_row (option_to_list (h x))) []) xs ≡ map participant_row (filter_map h (filter p xs))
kept_rows p h [] = refl
kept_rows p h (x ∷ xs) =
    elim (p x) as (λ b. cond b (map participant_row (option_to_list (h x))) [] ++ flat_map (λ x. cond (p x) (map participant_row (option_to_list (h x))) []) xs ≡ map participant_row (filter_map h (cond b (x ∷ filter p xs) (filter p xs))))
    [ true ↦ one_more (h x) _ _ (kept_rows p h xs) | false ↦ kept_rows p h xs ]

-- ---- what is found

-- of a table whose rows are an id, a resource and a weight
module _ {K : Type 0} (id_of : K → List ℕ) (resource_of : K → ℕ) where
  abbrev weight_row : K × ℕ → Row
  weight_row e = Text (id_of e.0) ∷ number (resource_of e.0) ∷ number e.1 ∷ []

  abbrev is_behind : List ℕ → K × ℕ → Bool
  is_behind id e = is_eq (id_cmp id (id_of e.0))

  -- an entry with a resource and a ven
  abbrev beside : List ℕ → K × ℕ → ℕ × Resource → ℕ × Ven → Env
  beside id e r v = (Text id ∷ []) ∷ (Null ∷ weight_row e) ∷ (Null ∷ resource_row r) ∷ (Null ∷ ven_row v) ∷ []

  passes_is : (tree : ℕ) (id : List ℕ) (e : K × ℕ) (r : ℕ × Resource) (v : ℕ × Ven) → list_all (holds (beside id e r v)) (query tree).filter ≡ (is_eq (nat_cmp (resource_of e.0) r.0) && (is_eq (nat_cmp r.1.ven v.0) && is_behind id e))
  passes_is tree id e r v =
      ap₂ ◌&&◌ (equal_is (number r.0) (number (resource_of e.0)) refl ∙ numbers_tie (resource_of e.0) r.0)
      (ap₂ ◌&&◌ (equal_is (number v.0) (number r.1.ven) refl ∙ numbers_tie r.1.ven v.0)
      (and_true _ ∙ equal_is (Text (id_of e.0)) (Text id) refl ∙ ap is_eq (value_cmp-Text id (id_of e.0))))

  module _ (at_place : ℕ) (table : Table) (keyed : IsKeyed schema at_place table) (sql : List ℕ) (text : IsSelectText schema table (query table.tree) rest sql) where
    module _ (id : List ℕ) (kept : Kept) (e : K × ℕ) where
      abbrev named : Option Resource
      named = at nat_cmp (resource_of e.0) kept.portfolio.resources

      -- the ven that a resource names, and the resource that the entry names, as slots
      abbrev with_ven_of : ℕ × Resource → List Env
      with_ven_of r = option_map_or (λ v. beside id e r (r.1.ven, v) ∷ []) (at nat_cmp r.1.ven kept.portfolio.vens) []

      abbrev with_resource_of : List Env
      with_resource_of = option_map_or (λ r. cond (is_behind id e) (with_ven_of (resource_of e.0, r)) []) named []

      found_is : (s : State) → Keeps kept s → with_row schema at_place table keyed.place (query table.tree) rest sql (Text id ∷ []) text (contents_of kept) (weight_row e) ≡ with_resource_of
      found_is s was =
          let them = seen schema.tables (contents_of kept) in
          let a : Row = Null ∷ weight_row e in
          let params : Row = Text id ∷ [] in
          let tests = (query table.tree).filter in
          let by_ven : (r : ℕ × Resource) → matches them tests (inner ven.tree end) (params ∷ a ∷ (Null ∷ resource_row r) ∷ []) ≡ cond (is_eq (nat_cmp (resource_of e.0) r.0)) (cond (is_behind id e) (with_ven_of r) []) [] = λ r.
          flat_map-map (λ row. matches them tests end (params ∷ a ∷ (Null ∷ resource_row r) ∷ row ∷ [])) (λ row. Null ∷ row) (map ven_row kept.portfolio.vens)
          ∙ flat_map-map (λ row. matches them tests end (params ∷ a ∷ (Null ∷ resource_row r) ∷ (Null ∷ row) ∷ [])) ven_row kept.portfolio.vens
          ∙ ap (λ (f : ℕ × Ven → List Env). flat_map f kept.portfolio.vens)
          (λ i v. (ap (λ b. cond b (beside id e r v ∷ []) []) (passes_is table.tree id e r v) ∙ turned (is_eq (nat_cmp (resource_of e.0) r.0)) (is_eq (nat_cmp r.1.ven v.0)) (is_behind id e) (beside id e r v ∷ [])) i)
          ∙ held (is_eq (nat_cmp (resource_of e.0) r.0)) (λ v. cond (is_behind id e) (cond (is_eq (nat_cmp r.1.ven v.0)) (beside id e r v ∷ []) []) []) kept.portfolio.vens
          ∙ ap (λ l. cond (is_eq (nat_cmp (resource_of e.0) r.0)) l [])
          (held (is_behind id e) (λ v. cond (is_eq (nat_cmp r.1.ven v.0)) (beside id e r v ∷ []) []) kept.portfolio.vens
          ∙ ap (λ l. cond (is_behind id e) l []) (named_is nat_cmp (λ j k. number_same_is k j) (λ v. beside id e r v ∷ []) r.1.ven kept.portfolio.vens (vens_rise kept s was))) in
          flat_map-map (λ row. matches them tests (inner ven.tree end) (params ∷ a ∷ row ∷ [])) (λ row. Null ∷ row) (map resource_row kept.portfolio.resources)
          ∙ flat_map-map (λ row. matches them tests (inner ven.tree end) (params ∷ a ∷ (Null ∷ row) ∷ [])) resource_row kept.portfolio.resources
          ∙ ap (λ (f : ℕ × Resource → List Env). flat_map f kept.portfolio.resources) (λ i r. by_ven r i)
          ∙ named_is nat_cmp (λ j k. number_same_is k j) (λ r. cond (is_behind id e) (with_ven_of r) []) (resource_of e.0) kept.portfolio.resources (resources_rise kept s was)

      few : length with_resource_of ≤ 1
      few = by named (is_behind id e)
        where
          of_ven : (r : Resource) (v : Option Ven) → length (option_map_or (λ v. beside id e (resource_of e.0, r) (r.ven, v) ∷ []) v []) ≤ 1
          of_ven r None = omega arith
          of_ven r (Some v) = omega arith

          by : (o : Option Resource) (b : Bool) → length (option_map_or (λ r. cond b (with_ven_of (resource_of e.0, r)) []) o []) ≤ 1
          by None b = omega arith
          by (Some r) true = of_ven r (at nat_cmp r.ven kept.portfolio.vens)
          by (Some r) false = omega arith

      shown_is : map (eval_all (query table.tree).project) with_resource_of ≡ cond (is_behind id e) (map participant_row (option_to_list (weighted kept (resource_of e.0) e.1))) []
      shown_is = by named (is_behind id e)
        where
          of_ven : (r : Resource) (v : Option Ven) → map (eval_all (query table.tree).project) (option_map_or (λ v. beside id e (resource_of e.0, r) (r.ven, v) ∷ []) v [])
              ≡ map participant_row (option_to_list (option_map (λ (ven : Ven). record { resource = resource_of e.0; weight = e.1; name = r.name; ven_name = ven.name }) v))
          of_ven r None = refl
          of_ven r (Some v) = refl

          by : (o : Option Resource) (b : Bool) → map (eval_all (query table.tree).project) (option_map_or (λ r. cond b (with_ven_of (resource_of e.0, r)) []) o [])
              ≡ cond b (map participant_row (option_to_list (option_and_then (λ (r : Resource). option_map (λ (ven : Ven). record { resource = resource_of e.0; weight = e.1; name = r.name; ven_name = ven.name }) (at nat_cmp r.ven kept.portfolio.vens)) o))) []
          by None true = refl
          by None false = refl
          by (Some r) true = of_ven r (at nat_cmp r.ven kept.portfolio.vens)
          by (Some r) false = refl

    weighted_read : (id : List ℕ) (old new : State) (rows : List Row) (kept : Kept) (entries : List (K × ℕ)) → rows_of_table (contents_of kept) at_place ≡ map weight_row entries → Shown sql (Text id ∷ []) old new rows → Keeps kept old
        → rows ≡ map participant_row (filter_map (λ e. weighted kept (resource_of e.0) e.1) (filter (is_behind id) entries))
    weighted_read id old new rows kept entries stored h was =
        let found : Row → List Env = with_row schema at_place table keyed.place (query table.tree) rest sql (Text id ∷ []) text (contents_of kept) in
        join_runs schema at_place table keyed.place (query table.tree) rest sql (Text id ∷ []) text old new rows (contents_of kept) h was.rows
        (subst (AllByRecursion (λ a. length (found a) ≤ 1)) (sym stored) (all-map (λ a. length (found a) ≤ 1) weight_row entries (all_of (λ e. length (found (weight_row e)) ≤ 1) (λ e. subst (λ l. length l ≤ 1) (sym (found_is id kept e old was)) (few id kept e)) entries)))
        ∙ ap (flat_map (λ a. map (eval_all (query table.tree).project) (found a))) stored
        ∙ flat_map-map (λ a. map (eval_all (query table.tree).project) (found a)) weight_row entries
        ∙ ap (λ (f : K × ℕ → List Row). flat_map f entries) (λ i e. (ap (map (eval_all (query table.tree).project)) (found_is id kept e old was) ∙ shown_is id kept e) i)
        ∙ kept_rows (is_behind id) (λ e. weighted kept (resource_of e.0) e.1) entries

pub sharers_read : (program : List ℕ) (old new : State) (rows : List Row) (kept : Kept) → Shown READ_SHARERS.now (Text program ∷ []) old new rows → Keeps kept old → rows ≡ map participant_row (sharers program kept)
sharers_read program old new rows kept = weighted_read (λ (k : ShareKey). k.program) (λ k. k.resource) share_map.rows.at share share_keyed READ_SHARERS.now reads program old new rows kept kept.portfolio.shares refl

pub frozen_read : (event : List ℕ) (old new : State) (rows : List Row) (kept : Kept) → Shown READ_FROZEN.now (Text event ∷ []) old new rows → Keeps kept old → rows ≡ map participant_row (frozen_sharers event kept)
frozen_read event old new rows kept = weighted_read (λ (k : FrozenKey). k.event) (λ k. k.resource) frozen_share_map.rows.at frozen_share frozen_share_keyed READ_FROZEN.now reads_frozen event old new rows kept kept.portfolio.frozen_shares refl
