-- The ids that the node writes, as it reads them.
use Rattle.std.specs.Prelude.{◌≡◌, ◌≢◌, ◌≤◌, ◌<◌, ◌^◌, ℕ, true, List, Some, None, option_map, option_and_then}
use Rattle.std.specs.List.{All}
use Rattle.std.specs.Ordering.{nat_cmp}
use Rattle.adr_text.specs.Ids.{is_id}
use Rattle.adr_objects.specs.Limits.{is_upstream_id}
use Rattle.adr_written.specs.Ids.{ven_id, resource_id, report_id, sub_id, shown_id}
use Rattle.adr_state.specs.declared.limits.Settings.{Settings}
use Rattle.adr_state.specs.declared.portfolio.Portfolio.{Portfolio}
use Rattle.adr_state.specs.Digits.{most_number, number_in}
use Rattle.adr_state.specs.Keys.{at}
use Rattle.adr_state.specs.Resources.{resource_with_id}
use Rattle.adr_state.specs.ShownIds.{resource_part, event_part, id_in, resource_named}
use Rattle.adr_state.specs.Subs.{sub_with_id}
use Rattle.adr_state.specs.Vens.{ven_with_id}
use Rattle.adr_state.specs.Within.{where_within}
use Rattle.adr_view.specs.Reports.{report_with_id}
use Rattle.adr_machine.specs.declared.command.Command.{Command}
use Rattle.adr_laws.specs.Entries.{reached}

-- an id is read by its letter as its number, where that is from 1 to 9·10^15, and as none otherwise; by another letter it is read as none; and no other text is read by its letter as that number
pub record ReadsBack (letter n : ℕ) (id : List ℕ) : Type 0 where
  pub where_it_may_be_drawn : number_in letter id ≡ where_within most_number n
  pub by_no_other_letter : (other : ℕ) → other ≢ letter → number_in other id ≡ None
  pub no_other_text : (text : List ℕ) → number_in letter text ≡ Some n → text ≡ id

-- so are the ids that are written of a number, each by the letter of its kind: `v`, `r`, `p` and `s`
pub record AllReadBack (n : ℕ) : Type 0 where
  pub ven : ReadsBack 118 n (ven_id n)
  pub resource : ReadsBack 114 n (resource_id n)
  pub report : ReadsBack 112 n (report_id n)
  pub sub : ReadsBack 115 n (sub_id n)

-- so are those of every number of 64 bits
abbrev pub IdsReadBack : Type 0
IdsReadBack = (n : ℕ) → n < 2 ^ 64 → AllReadBack n

-- ---- what is found by them

-- by the id that is written of a number the row of that number is found, where there is one
pub record IsFoundById (p : Portfolio) (n : ℕ) : Type 0 where
  pub ven : ven_with_id (ven_id n) p ≡ option_map (λ v. (n, v)) (at nat_cmp n p.vens)
  pub resource : resource_with_id (resource_id n) p ≡ option_map (λ r. (n, r)) (at nat_cmp n p.resources)
  pub report : report_with_id (report_id n) p ≡ option_map (λ r. (n, r)) (at nat_cmp n p.reports)
  pub sub : sub_with_id (sub_id n) p ≡ option_map (λ s. (n, s)) (at nat_cmp n p.subs)

-- so it is of every number that may be drawn
abbrev pub RowsAreFoundByIds : Type 0
RowsAreFoundByIds = (p : Portfolio) (n : ℕ) → 1 ≤ n → n ≤ most_number → IsFoundById p n

-- each ven, each resource, each report and each subscription is found by the id that is written of its number
pub record FindsEachById (p : Portfolio) : Type 0 where
  pub vens : All (λ v. ven_with_id (ven_id v.0) p ≡ Some v) p.vens
  pub resources : All (λ r. resource_with_id (resource_id r.0) p ≡ Some r) p.resources
  pub reports : All (λ r. report_with_id (report_id r.0) p ≡ Some r) p.reports
  pub subs : All (λ s. sub_with_id (sub_id s.0) p ≡ Some s) p.subs

-- so it is after any run from an empty start of a node that draws no number above 9·10^15
abbrev pub EachIsFoundByItsId : Type 0
EachIsFoundByItsId = (settings : Settings) (cs : List (ℕ × Command)) → settings.limits.serial ≤ most_number → FindsEachById (reached settings cs).base.portfolio

-- ---- the ids of what is shown

-- the id of what a resource is shown of an upstream event is an object id, and is read as the two: before its first `-` as the resource of that number, and behind it as that event's id
pub record PartsReadBack (n : ℕ) (event : List ℕ) : Type 0 where
  pub whole : is_id (shown_id n event) ≡ true
  pub front : resource_part (shown_id n event) ≡ resource_id n
  pub back : event_part (shown_id n event) ≡ Some event
  pub the_resource : (p : Portfolio) → resource_named p (resource_part (shown_id n event)) ≡ option_map (λ r. (n, r)) (at nat_cmp n p.resources)
  pub the_event : option_and_then id_in (event_part (shown_id n event)) ≡ Some event

-- so it is of every number that may be drawn and of every id that an upstream event may have
abbrev pub ShownIdsReadBack : Type 0
ShownIdsReadBack = (n : ℕ) (event : List ℕ) → 1 ≤ n → n ≤ most_number → is_upstream_id event ≡ true → PartsReadBack n event
