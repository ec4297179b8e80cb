-- Such a text compiles, over any tables, to a query with no row of a write.
use Rattle.std.proofs.Common.{◌≡◌, ℕ, Bool, true, false, List, [], None, Option, Result, Ok, Err, refl, subst, if◌then◌else◌}
use Rattle.sqlite_resolve.specs.Lowering.{Checked, and_then}
use Rattle.sqlite_resolve.specs.declared.compiled.Compiled.{Compiled}
use Rattle.sqlite_resolve.specs.declared.error.CompileError.{CompileError}
use Rattle.sqlite_resolve.specs.declared.error.CompileError.TheVariants.{NoSuchTable}
use Rattle.sqlite_syntax.specs.declared.statement.Parsed.{Parsed}
use Rattle.sqlite.specs.Command.{Command}
use Rattle.sqlite_schema.specs.declared.command.Returning.{Returning}
use Rattle.sqlite.specs.Schema.{Schema}
use Rattle.sqlite.specs.Compile.{first, timed, command, meaning, planned, compiled, with_command}
use Rattle.sqlite.specs.Listing.{understood, reads_listing, if_select, is_select, listing_schema}
use Rattle.sqlite.specs.Given.{Returns}
use Rattle.adr_lent.specs.Texts.{ShowsNoWrite, IfRead, IsQueryText}

abbrev pub IsBare : Compiled → Type 0
IsBare c = (c.returning ≡ None) × (c.formats ≡ [])

meant : (schema : Schema) (p : Parsed) (base : ℕ) (found : Command × Option Returning) → ShowsNoWrite p → meaning schema p base ≡ Ok found → found.1 ≡ None
unfolding meaning
meant schema p base found h is = of (command schema p.formats base p.statement) (rw (h.unreturned schema base) at is)
  where
    of : (r : Checked Command) → and_then r (λ c. Ok (c, None)) ≡ Ok found → found.1 ≡ None
    of (Ok c) e = cc
    of (Err x) e = absurd cc

plan_bare : (schema : Schema) (p : Parsed) (plan : List (List ℕ) × (Command × Option Returning)) → ShowsNoWrite p → planned schema p ≡ Ok plan → (plan.1.1 ≡ None) × (plan.0 ≡ [])
unfolding planned
plan_bare schema p plan h is = of _ (meant schema p _) is
  where
    of : (r : Checked (Command × Option Returning)) → ((found : Command × Option Returning) → ShowsNoWrite p → r ≡ Ok found → found.1 ≡ None) → and_then r (λ found. Ok (timed schema p.formats p.statement, found)) ≡ Ok plan → (plan.1.1 ≡ None) × (plan.0 ≡ [])
    of (Ok found) none e = let same : (timed schema p.formats p.statement, found) ≡ plan = cc in subst (λ (q : List (List ℕ) × (Command × Option Returning)). (q.1.1 ≡ None) × (q.0 ≡ [])) same (none found h refl, h.untimed schema)
    of (Err x) none e = absurd cc

compiled_bare : (schema : Schema) (sql : List ℕ) (c : Compiled) → IsQueryText sql → compiled schema sql ≡ Ok c → IsBare c
unfolding compiled
compiled_bare schema sql c h is = of (first sql) h.read is
  where
    of_plan : (p : Parsed) (r : Checked (List (List ℕ) × (Command × Option Returning))) → ((plan : List (List ℕ) × (Command × Option Returning)) → r ≡ Ok plan → (plan.1.1 ≡ None) × (plan.0 ≡ [])) → and_then r (λ plan. Ok (with_command p plan)) ≡ Ok c → IsBare c
    of_plan p (Ok plan) bare e = let same : with_command p plan ≡ c = cc in subst IsBare same (bare plan refl)
    of_plan p (Err x) bare e = absurd cc

    of : (r : Checked Parsed) → IfRead r → and_then r (λ p. and_then (planned schema p) (λ plan. Ok (with_command p plan))) ≡ Ok c → IsBare c
    of (Ok p) read e = of_plan p (planned schema p) (λ plan is. plan_bare schema p plan read is) e
    of (Err x) read e = absurd cc

pub understood_bare : (schema : Schema) (sql : List ℕ) (c : Compiled) → IsQueryText sql → understood schema sql ≡ Ok c → IsBare c
unfolding understood
understood_bare schema sql c h is = of (reads_listing schema sql) is
  where
    of_listing : (r : Checked Compiled) → ((d : Compiled) → r ≡ Ok d → IsBare d) → if_select r ≡ Ok c → IsBare c
    of_listing (Ok d) bare e = picked (is_select d.command) e
      where
        picked : (b : Bool) → (if b then Ok d else Err NoSuchTable) ≡ Ok c → IsBare c
        picked true e = bare c e
        picked false e = absurd cc
    of_listing (Err x) bare e = absurd cc

    of : (b : Bool) → (if b then if_select (compiled listing_schema sql) else compiled schema sql) ≡ Ok c → IsBare c
    of true e = of_listing (compiled listing_schema sql) (λ d is. compiled_bare listing_schema sql d h is) e
    of false e = compiled_bare schema sql c h e

pub never_returns : (schema : Schema) (sql : List ℕ) → IsQueryText sql → ¬ Returns (understood schema sql)
never_returns schema sql h = of (understood schema sql) (λ c is. understood_bare schema sql c h is)
  where
    of : (r : Result Compiled CompileError) → ((c : Compiled) → r ≡ Ok c → IsBare c) → ¬ Returns r
    of (Ok c) bare some = absurd (let none = rw (bare c refl).0 at some in cc)
    of (Err e) bare some = some
