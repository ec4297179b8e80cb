-- How queries are asked of the tables, and commands taken.
use Rattle.std.specs.Prelude.{Bool, true, false}
use Rattle.adr_queries.specs.declared.query.Query.{Query}
use Rattle.adr_queries.specs.declared.query.Query.TheVariants as query
use Rattle.adr_machine.specs.declared.command.Command.{Command}
use Rattle.adr_machine.specs.declared.command.Command.TheVariants as command

-- whether a query is answered as its rows are lent one after another; the others are answered in a transaction, by the few rows that they ask for
abbrev pub is_lent : Query → Bool
is_lent (query.Events role filter page) = true
is_lent (query.Vens role page) = true
is_lent (query.Reports role filter page) = true
is_lent (query.Subs role filter page) = true
is_lent (query.Probes limit) = true
is_lent _ = false

-- whether a command ends a scan: what that missed is lent row by row, before its transaction begins
abbrev pub ends_scan : Command → Bool
ends_scan command.ScanEnd = true
ends_scan _ = false
