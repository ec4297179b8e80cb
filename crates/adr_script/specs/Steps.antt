-- What the words of a step of the node ask of the machine: none where they ask for nothing that there is.
use Rattle.std.specs.Prelude.{ℕ, nat_le, true, false, List, length, codes, Option, Some, None, option_map, option_and_then, bytes_eq, Result, Ok, if◌then◌else◌}
use Rattle.adr_text.specs.Refusals.{◌>>=◌}
use Rattle.adr_text.specs.declared.refusal.Refusal.{Refusal}
use Rattle.adr_objects.specs.declared.kind.Kind.{Kind}
use Rattle.adr_objects.specs.declared.kind.Kind.TheVariants.{Program, Event}
use Rattle.adr_schema.specs.Pages.{page_of}
use Rattle.adr_machine.specs.declared.command.Command.TheVariants.{Evidence, Gone, ScanBegin, ScanEnd, Lease, Sent, Failed}
use Rattle.adr_queries.specs.declared.query.Query.TheVariants.{Probes}
use Rattle.adr_state.specs.Digits.{number_within}
use Rattle.adr_asked.specs.declared.asked.Asked.{Asked}
use Rattle.adr_asked.specs.declared.asked.Asked.TheVariants as asked
use Rattle.adr_wire.specs.Cuts.{cut}
use Rattle.adr_routes.specs.Words.{id_from}
use Rattle.adr_script.specs.Words.{number_from, if_there}

-- the kind that a word names
abbrev pub kind_from : List ℕ → Option Kind
kind_from word = if bytes_eq word (codes "programs") then Some Program else (if bytes_eq word (codes "events") then Some Event else None)

-- `page programs JSON` and `page events JSON`: a page counts as polled
abbrev pub page_step : List ℕ × Option (List ℕ) → Result (Option Asked) Refusal
page_step words = if_there words.1 (λ json. if_there (kind_from words.0) (λ kind. page_of kind json >>= λ page. Ok (Some (asked.Page (Evidence page.0 true) page.1))))

-- `gone programs ID` and `gone events ID`
abbrev pub gone_step : List ℕ × Option (List ℕ) → Option Asked
gone_step words = option_and_then (λ id. option_and_then (λ kind. option_map (λ id. asked.Command (Gone kind id)) (id_from id)) (kind_from words.0)) words.1

-- `scan begin` and `scan end`
abbrev pub scan_step : List ℕ → Option Asked
scan_step word =
    if bytes_eq word (codes "begin") then Some (asked.Command ScanBegin)
    else (if bytes_eq word (codes "end") then Some (asked.Command ScanEnd)
    else None)

-- `probes N`, with 1 to 9 digits
abbrev pub probes_step : List ℕ → Option Asked
probes_step digits = if nat_le (length digits) 9 then option_map (λ limit. asked.Query (Probes limit)) (number_within 999_999_999 digits) else None

-- `ENTRY LEASE`, by their numbers, and the word behind them, where there is one
abbrev pub lease_words : List ℕ → List ℕ × Option (List ℕ) → Option (ℕ × ℕ × Option (List ℕ))
lease_words entry (lease, word) = option_and_then (λ e. option_map (λ l. (e, l, word)) (number_from lease)) (number_from entry)

-- an entry and its lease by their numbers, and what stands behind them, where something does
abbrev pub lease_named : List ℕ × Option (List ℕ) → Option (ℕ × ℕ × Option (List ℕ))
lease_named words = option_and_then (λ rest. lease_words words.0 (cut 32 rest)) words.1

-- `sent ENTRY LEASE`, and `sent ENTRY LEASE ID` with the id that the utility gave it
abbrev pub sent_asked : ℕ × ℕ × Option (List ℕ) → Option Asked
sent_asked (entry, lease, None) = Some (asked.Command (Sent entry lease None))
sent_asked (entry, lease, Some word) = option_map (λ id. asked.Command (Sent entry lease (Some id))) (id_from word)

-- what the words behind `sent` ask: that an entry was sent under its lease, with the utility's id where one is said
abbrev pub sent_step : List ℕ × Option (List ℕ) → Option Asked
sent_step words = option_and_then sent_asked (lease_named words)

-- `failed ENTRY LEASE`, and `failed ENTRY LEASE forget`
abbrev pub failed_asked : ℕ × ℕ × Option (List ℕ) → Option Asked
failed_asked (entry, lease, None) = Some (asked.Command (Failed entry lease false))
failed_asked (entry, lease, Some word) = if bytes_eq word (codes "forget") then Some (asked.Command (Failed entry lease true)) else None

-- what the words behind `failed` ask: that an entry failed under its lease, and whether the utility's id is forgotten
abbrev pub failed_step : List ℕ × Option (List ℕ) → Option Asked
failed_step words = option_and_then failed_asked (lease_named words)

-- `lease`, which stands alone
abbrev pub word_step : List ℕ → Option Asked
word_step word = if bytes_eq word (codes "lease") then Some (asked.Command Lease) else None

-- by the first word
abbrev pub step_by : List ℕ → List ℕ → Result (Option Asked) Refusal
step_by verb rest =
    if bytes_eq verb (codes "page") then page_step (cut 32 rest)
    else (if bytes_eq verb (codes "gone") then Ok (gone_step (cut 32 rest))
    else (if bytes_eq verb (codes "scan") then Ok (scan_step rest)
    else (if bytes_eq verb (codes "probes") then Ok (probes_step rest)
    else (if bytes_eq verb (codes "sent") then Ok (sent_step (cut 32 rest))
    else (if bytes_eq verb (codes "failed") then Ok (failed_step (cut 32 rest))
    else Ok None)))))

-- a word alone, or by the first word
abbrev pub step_in : List ℕ × Option (List ℕ) → Result (Option Asked) Refusal
step_in (word, None) = Ok (word_step word)
step_in (verb, Some rest) = step_by verb rest

-- what the words of a step of the node ask of the machine
unfoldable pub step_of : List ℕ → Result (Option Asked) Refusal
step_of words = step_in (cut 32 words)
