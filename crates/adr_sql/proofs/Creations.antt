-- CREATE TABLE, one text after another.
use Rattle.std.proofs.Common.{◌≡◌, ℕ, false, List, [], ◌∷◌, ◌++◌, fold, None, Ok, Err, inl, inr, sym, ap, subst, ◌∙◌, append_assoc, append-nil}
use Rattle.adr_sql.proofs.Common.{AllByRecursion, Table, Schema, Database, IsSound, Tally, lacks_sequence, Ghosts, Held, state, State, Executes, ExecutesInside, Error, CreateTable, runs_as, zip_more}
use Rattle.sqlite.specs.Change.{created, next_tree}
use Rattle.sqlite.specs.State.{Writes}
use Rattle.adr_sql.specs.Contents.{Contents, empty_tables, StoresEach, Holds}
use Rattle.adr_sql.specs.Calls.{FailsAmong}
use Rattle.adr_sql.specs.Creations.{IsCreateText, Makes, IsUnderWay}
use Rattle.adr_sql.proofs.Places.{stores_none, stores_same}
use Rattle.adr_sql.proofs.References.{went, same_value}

pub create_runs : (schema : Schema) (table : Table) (sql : List ℕ) → IsCreateText schema table sql → (old new : State) (count : ℕ) → Executes sql [] old new (Ok count)
    → (held : Contents) → Holds schema held old → Holds (created schema table) (held ++ [] ∷ []) new
create_runs schema table sql text old new count h held was =
    let w = subst (λ t. Writes old new None CreateTable t [] count) text.whole (runs_as sql [] old new schema was.has CreateTable text.command text.alone count h) in
    let all = went w.changed in
    let first = went all.1 in
    let made = first.1 in
    let both : Ok made.table ≡ Ok table = sym made.defined ∙ text.defined in
    let same : made.table ≡ table = cc in
    let is : first.0.schema ≡ created schema table = made.is ∙ ap (λ s. created s made.table) was.has ∙ ap (created schema) same in
    let plain : lacks_sequence first.0.schema ≡ false = ap lacks_sequence is ∙ text.uncounted in
    let now : new.now ≡ first.0 = ap (λ (p : Tally × Database). p.1) (same_value all.2) ∙ same_value (rw plain at first.2) in
    let others = subst (λ s. AllByRecursion (λ t. first.0.trees t.tree ≡ old.now.trees t.tree) s.tables) was.has made.others in
    let before = stores_same schema.tables old.now.trees first.0.trees _ others was.each in
    let empty : first.0.trees (next_tree schema) ≡ [] = subst (λ s. first.0.trees (next_tree s) ≡ []) was.has made.empty in
    let after = zip_more _ schema.tables held (record table { tree = next_tree schema }) [] before (stores_none _ _ _ empty) in
    record {
      has = ap (λ (d : Database). d.schema) now ∙ is;
      sound = subst (λ s. IsSound s new.now.trees) (ap (λ (d : Database). d.schema) now ∙ is) w.sound;
      each = subst (λ (d : Database). StoresEach (created schema table).tables d.trees (held ++ [] ∷ [])) (sym now) after;
    }

pub makes_one : (schema : Schema) (all : Contents) (tables : List Table) (sql : List ℕ) (rest : List (List ℕ)) (old new : State) (count : ℕ) → IsUnderWay schema all tables (sql ∷ rest) old → Executes sql [] old new (Ok count) → IsUnderWay schema all tables rest new
makes_one schema all tables sql rest old new count it h = go it.others it.makes it.same it.behind
  where
    go : (others : List Table) → Makes it.so_far (sql ∷ rest) others → fold created it.so_far others ≡ fold created schema tables → it.held ++ empty_tables others ≡ all ++ empty_tables tables → IsUnderWay schema all tables rest new
    go [] none same behind = absurd none
    go (t ∷ ts) makes same behind = record {
      so_far = created it.so_far t;
      held = it.held ++ [] ∷ [];
      others = ts;
      holds = create_runs it.so_far t sql makes.0 old new count h it.held it.holds;
      makes = makes.1;
      same = same;
      behind = append_assoc it.held ([] ∷ []) (empty_tables ts) ∙ behind;
    }

-- no text is left: all tables are made
pub all_made : (schema : Schema) (all : Contents) (tables : List Table) (texts : List (List ℕ)) (s : State) → texts ≡ [] → IsUnderWay schema all tables texts s → Holds (fold created schema tables) (all ++ empty_tables tables) s
all_made schema all tables texts s none it =
    let others : it.others ≡ [] = subst (λ texts. Makes it.so_far texts it.others) none it.makes in
    let held : it.held ≡ all ++ empty_tables tables = sym (append-nil it.held) ∙ ap (λ ts. it.held ++ empty_tables ts) (sym others) ∙ it.behind in
    let after : it.so_far ≡ fold created schema tables = sym (ap (fold created it.so_far) others) ∙ it.same in
    subst (λ held. Holds (fold created schema tables) held s) held (subst (λ schema. Holds schema it.held s) after it.holds)

-- ---- an error of one of the texts

-- the first of the texts ran and these are left: where one of these fails, one of all fails
abbrev pub HaveRun : {S : Type 0} → Ghosts S → List (List ℕ) → List (List ℕ) → Held S → Held S → Type 0
HaveRun {S} g texts left old now = (new : Held S) → (e : Error) → FailsAmong g left now new e → FailsAmong g texts old new e

module _ {S : Type 0} (g : Ghosts S) (texts : List (List ℕ)) (sql : List ℕ) (left : List (List ℕ)) (old now : Held S) where
  pub one_ran : (next : Held S) (count : ℕ) → HaveRun g texts (sql ∷ left) old now → Executes sql [] (state g now) (state g next) (Ok count) → HaveRun g texts left old next
  one_ran next count so_far ran new e fails = so_far new e (inr (next, count, ran, fails))

  pub one_failed : (new : Held S) (e : Error) → HaveRun g texts (sql ∷ left) old now → ExecutesInside 0 sql [] (state g now) (state g new) (Err e) → FailsAmong g texts old new e
  one_failed new e so_far failed = so_far new e (inl failed)
