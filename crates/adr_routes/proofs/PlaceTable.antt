-- The table of places is a good one, and its router answers by the shapes.
use Rattle.std.proofs.Common.{◌≡◌, ℕ, ◌+◌, ◌<◌, List, [], ◌∷◌, ◌++◌, length, take, get_or, refl, sym, ◌∙◌, ap, subst, true, false, zero, suc, arith, Option, is_none, Result, Ok, Err, fold}
use Rattle.std.proofs.lemmas.List.{take_more, map_push}
use Rattle.matchit.proofs.OnLiterals.{matchit_on_literals}
use Rattle.matchit.specs.Rows.{RowsOf}
use Rattle.matchit.specs.Route.{Scan, parse_route}
use Rattle.matchit.specs.Router.{RouteOf, InsertsRead, nearest, Refused}
use Rattle.matchit.specs.declared.error.InsertError.{InsertError}
use Rattle.matchit.specs.declared.error.InsertError.TheVariants.{Conflict, InvalidParam, InvalidParamSegment, InvalidCatchAll, OutOfMemory}
use Rattle.adr_routes.specs.Paths.{place_in}
use Rattle.adr_routes.specs.Tables.{row_of, rows_of_table, route_of, is_free, is_free_of, all_free}
use Rattle.adr_routes.specs.Places.{entry_of, entries_of, text_of, table}
use Rattle.adr_routes.specs.declared.place.Place.{Place}
use Rattle.adr_routes.proofs.Shapes.{both}
use Rattle.adr_routes.proofs.TableRows.{all_good, all_apart, places_are}

pub table_good : all_good table ≡ true
unfolding matchit_on_literals
table_good = refl

pub table_apart : all_apart table ≡ true
table_apart = refl

pub table_free : all_free [] table ≡ true
unfolding matchit_on_literals is_free
table_free = refl

pub place_of_path : (rows : RowsOf (RouteOf Place)) (path : List ℕ) → rows ≡ rows_of_table table → route_of rows path ≡ place_in path
unfolding place_in
place_of_path rows path is = ap (λ r. route_of r path) is ∙ places_are table path table_good table_apart

-- ---- one entry more

fold_push : {A B : Type 0} (f : A → B → A) (start : A) (xs : List B) (x : B) → fold f start (xs ++ x ∷ []) ≡ f (fold f start xs) x
fold_push f start [] x = refl
fold_push f start (y ∷ xs) x = fold_push f (f start y) xs x

pub none_yet : rows_of_table {T = Place} [] ≡ []
unfolding rows_of_table
none_yet = refl

pub one_more : (ps : List Place) (i : ℕ) (d : Place) → i < length ps
    → rows_of_table (entries_of (take (i + 1) ps)) ≡ row_of (rows_of_table (entries_of (take i ps))) (entry_of (get_or ps i d))
unfolding rows_of_table
one_more ps i d below =
    ap (λ xs. fold row_of [] (entries_of xs)) (take_more ps i d below)
    ∙ ap (fold row_of []) (map_push entry_of (take i ps) (get_or ps i d))
    ∙ fold_push row_of [] (entries_of (take i ps)) (entry_of (get_or ps i d))

pub one_put : (ps : List Place) (i : ℕ) (d : Place) (old new : RowsOf (RouteOf Place)) → i < length ps
    → old ≡ rows_of_table (entries_of (take i ps)) → new ≡ row_of old (entry_of (get_or ps i d)) → new ≡ rows_of_table (entries_of (take (i + 1) ps))
one_put ps i d old new below is put = put ∙ ap (λ rows. row_of rows (entry_of (get_or ps i d))) is ∙ sym (one_more ps i d below)

-- ---- an entry that is free

none_near : (p : List ℕ) (rows : RowsOf (RouteOf Place)) (e : InsertError) → is_none (nearest p rows) ≡ true → Refused p rows e → e ≡ OutOfMemory
none_near p rows OutOfMemory free h = refl
none_near p rows InvalidParamSegment free h = absurd h
none_near p rows InvalidParam free h = absurd h
none_near p rows InvalidCatchAll free h = absurd h
none_near p rows (Conflict with) free h =
    let P : Option (RouteOf Place) → Type 0 = λ o. is_none o ≡ true in
    let no : false ≡ true = subst P h.1 free in
    absurd cc

refused_of : (s : Result Scan InsertError) (place : Place) (old new : RowsOf (RouteOf Place)) (e : InsertError)
    → is_free_of old s ≡ true → InsertsRead s place old new (Err e) → e ≡ OutOfMemory
refused_of (Ok s) place old new e free h = none_near s.pattern old e free h.1
refused_of (Err x) place old new e free h = absurd cc

only_memory : (text : List ℕ) (place : Place) (old new : RowsOf (RouteOf Place)) (e : InsertError)
    → is_free old text ≡ true → InsertsRead (parse_route text) place old new (Err e) → e ≡ OutOfMemory
unfolding is_free
only_memory text place old new e free h = refused_of (parse_route text) place old new e free h

pub free_refusal : (text free : List ℕ) (place : Place) (old new : RowsOf (RouteOf Place)) (result : Result (Unit {0}) InsertError) (e : InsertError)
    → text ≡ free → is_free old free ≡ true → result ≡ Err e → InsertsRead (parse_route text) place old new result → e ≡ OutOfMemory
free_refusal text free place old new result e same is_so failed h =
    let P : Result (Unit {0}) InsertError → Type 0 = λ r. InsertsRead (parse_route text) place old new r in
    only_memory text place old new e (ap (is_free old) same ∙ is_so) (subst P failed h)

free_from : (ps : List Place) (rows : RowsOf (RouteOf Place)) (i : ℕ) (d : Place) → i < length ps → all_free rows (entries_of ps) ≡ true
    → is_free (fold row_of rows (entries_of (take i ps))) (text_of (get_or ps i d)) ≡ true
free_from [] rows i d below free = absurd (omega arith)
free_from (p ∷ ps) rows zero d below free = (both (is_free rows (text_of p)) (all_free (row_of rows (entry_of p)) (entries_of ps)) free).0
free_from (p ∷ ps) rows (suc i) d below free =
    free_from ps (row_of rows (entry_of p)) i d (omega arith) (both (is_free rows (text_of p)) (all_free (row_of rows (entry_of p)) (entries_of ps)) free).1

pub free_at : (ps : List Place) (i : ℕ) (d : Place) (rows : RowsOf (RouteOf Place)) → i < length ps → all_free [] (entries_of ps) ≡ true
    → rows ≡ rows_of_table (entries_of (take i ps)) → is_free rows (text_of (get_or ps i d)) ≡ true
unfolding rows_of_table
free_at ps i d rows below free is = ap (λ r. is_free r (text_of (get_or ps i d))) is ∙ free_from ps [] i d below free
