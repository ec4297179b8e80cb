-- The refusals that are listed for each query, in the order in which each is first tested; and how a desk may refuse.
use Rattle.std.specs.Prelude.{Bool, true, false, List, [], ◌∷◌}
use Rattle.std.specs.List.{Contains}
use Rattle.adr_text.specs.declared.refusal.Refusal.{Refusal}
use Rattle.adr_text.specs.declared.refusal.Refusal.TheVariants.{OutOfMemory, Store, TrailFull, NotFound, Forbidden, NoScan, Stale, BadFile}
use Rattle.adr_queries.specs.declared.query.Query.{Query}
use Rattle.adr_queries.specs.declared.query.Query.TheVariants as query

-- what a query may be refused by
abbrev pub listed_for : Query → List Refusal
listed_for (query.Programs role page) = Forbidden ∷ []
listed_for (query.Program role id) = Forbidden ∷ NotFound ∷ []
listed_for (query.Events role filter page) = Forbidden ∷ []
listed_for (query.Event role id) = Forbidden ∷ NotFound ∷ []
listed_for (query.Vens role page) = Forbidden ∷ []
listed_for (query.Ven role id) = Forbidden ∷ NotFound ∷ []
listed_for (query.Resources role ven page) = Forbidden ∷ NotFound ∷ []
listed_for (query.Resource role ven id) = Forbidden ∷ NotFound ∷ []
listed_for (query.Shares role program) = Forbidden ∷ []
listed_for (query.Frozen role event) = Forbidden ∷ NotFound ∷ []
listed_for (query.Reports role filter page) = Forbidden ∷ []
listed_for (query.Report role id) = Forbidden ∷ NotFound ∷ []
listed_for (query.Rollup role event) = Forbidden ∷ NotFound ∷ []
listed_for (query.Subs role filter page) = Forbidden ∷ []
listed_for (query.Sub role id) = Forbidden ∷ NotFound ∷ []
listed_for (query.Outbox role) = Forbidden ∷ []
listed_for (query.Probes limit) = NoScan ∷ []

-- whether a refusal is the machine's: want of memory and the store's stand only in place of its answer, and it keeps no trail, takes no pass and opens no file
abbrev pub is_of_machine : Refusal → Bool
is_of_machine OutOfMemory = false
is_of_machine Store = false
is_of_machine TrailFull = false
is_of_machine (Stale turn) = false
is_of_machine BadFile = false
is_of_machine refusal = true

-- how a desk may refuse: as is listed, for want of memory, and by its store, where that may refuse
abbrev pub IsListed : Type 0 → List Refusal → Refusal → Type 0
IsListed may_refuse these OutOfMemory = Unit {0}
IsListed may_refuse these Store = may_refuse
IsListed may_refuse these refusal = Contains these refusal
