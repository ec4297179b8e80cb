-- What each command is: who may give it, what it draws and what it leaves, and what it is refused by of its own.
use Rattle.std.specs.Prelude.{Bool, true, false, List, [], ◌∷◌, Option, Some, None}
use Rattle.adr_text.specs.declared.refusal.Refusal.{Refusal}
use Rattle.adr_text.specs.declared.refusal.Refusal.TheVariants.{Exhausted, NotFound, Conflict, Forbidden, BadShare, LimitReached, ResourceNotOfEvent, NoScan, LeaseLost, BadShape}
use Rattle.adr_queries.specs.declared.role.Role.{Role}
use Rattle.adr_machine.specs.declared.command.Command.{Command}
use Rattle.adr_machine.specs.declared.command.Command.TheVariants.{Evidence, Gone, ScanBegin, ScanEnd, VenAdd, VenPut, VenRemove, ResourceAdd, ResourcePut, ResourceRemove, ShareSet, Freeze, ReportPost, ReportPut, ReportDelete, SubPost, SubPut, SubDelete, Lease, Sent, Failed}

-- who gives it, where the operator alone may; whether the next number is drawn for it; whether it is about an entry of the
-- outbox, and leaves all else; whether it leaves all that is shown, whatever is decided; whether a subscription may go by it;
-- and its own refusals, in the order in which each is first tested
pub record Traits : Type 0 where
  pub giver : Option Role
  pub draws : Bool
  pub delivers : Bool
  pub quiet : Bool
  pub unsubscribes : Bool
  pub own : List Refusal

-- what may change what is shown
abbrev pub shown : List Refusal → Traits
shown own = record { giver = None; draws = false; delivers = false; quiet = false; unsubscribes = false; own = own }

-- what leaves all that is shown
abbrev pub unseen : List Refusal → Traits
unseen own = record (shown own) { quiet = true }

-- what is about an entry of the outbox
abbrev pub delivery : List Refusal → Traits
delivery own = record (unseen own) { delivers = true }

-- what the operator alone may give, and this role gives
abbrev pub given_by : Role → Traits → Traits
given_by role t = record t { giver = Some role }

-- what the next number is drawn for: what it makes is new, or a report is given another revision
abbrev pub numbered : Traits → Traits
numbered t = record t { draws = true }

-- what a subscription may go by
abbrev pub unsubscribing : Traits → Traits
unsubscribing t = record t { unsubscribes = true }

-- the table
abbrev pub traits_of : Command → Traits
traits_of (Evidence founds polled) = shown (LimitReached ∷ [])
traits_of (Gone kind id) = shown (LimitReached ∷ [])
traits_of ScanBegin = unseen []
traits_of ScanEnd = unseen (NoScan ∷ [])
traits_of (VenAdd role ven) = given_by role (numbered (shown (Conflict ∷ LimitReached ∷ [])))
traits_of (VenPut role id ven) = given_by role (shown (NotFound ∷ Conflict ∷ []))
traits_of (VenRemove role id) = given_by role (unsubscribing (shown (NotFound ∷ [])))
traits_of (ResourceAdd role ven resource) = given_by role (numbered (shown (NotFound ∷ Conflict ∷ LimitReached ∷ [])))
traits_of (ResourcePut role ven id resource) = given_by role (shown (NotFound ∷ Conflict ∷ []))
traits_of (ResourceRemove role ven id) = given_by role (shown (NotFound ∷ []))
traits_of (ShareSet role program resource share) = given_by role (shown (NotFound ∷ BadShare ∷ LimitReached ∷ []))
traits_of (Freeze role event) = given_by role (unseen (NotFound ∷ LimitReached ∷ []))
traits_of (ReportPost role report) = numbered (shown (Forbidden ∷ NotFound ∷ ResourceNotOfEvent ∷ LimitReached ∷ []))
traits_of (ReportPut role id report) = numbered (shown (Forbidden ∷ NotFound ∷ ResourceNotOfEvent ∷ []))
traits_of (ReportDelete role id) = shown (Forbidden ∷ NotFound ∷ [])
traits_of (SubPost role sub) = numbered (unseen (BadShape ∷ Forbidden ∷ LimitReached ∷ []))
traits_of (SubPut role id sub) = unseen (BadShape ∷ Forbidden ∷ NotFound ∷ [])
traits_of (SubDelete role id) = unsubscribing (unseen (Forbidden ∷ NotFound ∷ []))
traits_of Lease = delivery (Exhausted ∷ [])
traits_of (Sent entry lease remote) = delivery (LeaseLost ∷ [])
traits_of (Failed entry lease forget) = delivery (LeaseLost ∷ [])
