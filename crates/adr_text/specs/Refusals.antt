-- Refusals, and what a call that can run out of memory gives.
use Rattle.std.specs.Prelude.{◌≡◌, ℕ, Bool, List, codes, Result, Ok, Err, Option, Some, None, if◌then◌else◌}
use Rattle.adr_text.specs.declared.refusal.Refusal.{Refusal}
use Rattle.adr_text.specs.declared.refusal.Refusal.TheVariants.{OutOfMemory, Store, OutboxFull, Exhausted, TrailFull, NotFound, Conflict, Forbidden, BadShare, LimitReached, ResourceNotOfEvent, NoScan, LeaseLost, BadShape, NotWhole, Stale, BadFile}

-- its number, which never changes; its name; what went wrong in a few words; and the HTTP status of a reply that says so
pub record Said : Type 0 where
  pub number : ℕ
  pub title : List ℕ
  pub detail : List ℕ
  pub status : ℕ

-- what is said of each refusal
abbrev pub said : Refusal → Said
said OutOfMemory = record { number = 1; title = codes "OutOfMemory"; detail = codes "out of memory"; status = 500 }
said Store = record { number = 2; title = codes "Store"; detail = codes "store refused"; status = 500 }
said OutboxFull = record { number = 3; title = codes "OutboxFull"; detail = codes "outbox is full"; status = 500 }
said Exhausted = record { number = 4; title = codes "Exhausted"; detail = codes "no numbers left"; status = 500 }
said TrailFull = record { number = 5; title = codes "TrailFull"; detail = codes "trail is full"; status = 500 }
said NotFound = record { number = 6; title = codes "NotFound"; detail = codes "no such object"; status = 404 }
said Conflict = record { number = 7; title = codes "Conflict"; detail = codes "name is taken"; status = 409 }
said Forbidden = record { number = 8; title = codes "Forbidden"; detail = codes "not allowed for this token"; status = 403 }
said BadShare = record { number = 9; title = codes "BadShare"; detail = codes "share above 1000000"; status = 400 }
said LimitReached = record { number = 10; title = codes "LimitReached"; detail = codes "too many objects"; status = 409 }
said ResourceNotOfEvent = record { number = 11; title = codes "ResourceNotOfEvent"; detail = codes "report does not fit its event"; status = 400 }
said NoScan = record { number = 12; title = codes "NoScan"; detail = codes "no scan is open"; status = 409 }
said LeaseLost = record { number = 13; title = codes "LeaseLost"; detail = codes "lease is lost"; status = 500 }
said BadShape = record { number = 14; title = codes "BadShape"; detail = codes "malformed object"; status = 400 }
said NotWhole = record { number = 15; title = codes "NotWhole"; detail = codes "not a whole number in range"; status = 400 }
said (Stale turn) = record { number = 16; title = codes "Stale"; detail = codes "pass is ahead"; status = 500 }
said BadFile = record { number = 17; title = codes "BadFile"; detail = codes "not a file of this node"; status = 500 }

-- its number, from 1 (want of memory) to 17 (a file that is none of this node)
abbrev pub number_of : Refusal → ℕ
number_of refusal = (said refusal).number

-- the one word by which a problem names it, such as `NotFound`
abbrev pub title_of : Refusal → List ℕ
title_of refusal = (said refusal).title

-- the few words that a problem tells of it, such as `no such object`
abbrev pub detail_of : Refusal → List ℕ
detail_of refusal = (said refusal).detail

-- the HTTP status of a reply that says so: 400, 403, 404, 409 or 500
abbrev pub status_of : Refusal → ℕ
status_of refusal = (said refusal).status

-- nothing where it holds, else this refusal
abbrev pub unless : Refusal → Bool → Result Unit Refusal
unless refusal holds = if holds then Ok tt else Err refusal

-- one reading after another: the first fault wins
infixl 10 ◌>>=◌
abbrev pub ◌>>=◌ : {A B E : Type 0} → Result A E → (A → Result B E) → Result B E
(Ok x) >>= f = f x
(Err e) >>= f = Err e

-- the value, or this fault
abbrev pub or_else : {A E : Type 0} → E → Option A → Result A E
or_else e (Some x) = Ok x
or_else e None = Err e

-- a refusal that may stand in place of a result: its own, or in place of any want of memory (1) and the store's (2)
abbrev pub IsRefusalOf : {A : Type 0} → Refusal → Result A Refusal → Type 0
IsRefusalOf OutOfMemory r = Unit {0}
IsRefusalOf Store r = Unit {0}
IsRefusalOf refusal r = r ≡ Err refusal

-- the refusal is what reading gives, or memory ran out
abbrev pub Fails : {Y : Type 0} → Refusal → Result Y Refusal → Type 0
Fails OutOfMemory reading = Unit {0}
Fails refusal reading = reading ≡ Err refusal

-- what a function returned, seen by view, is what reading gives, unless memory ran out
abbrev pub Gives : {X Y : Type 0} → (X → Y) → Result X Refusal → Result Y Refusal → Type 0
Gives view (Ok x) reading = reading ≡ Ok (view x)
Gives view (Err e) reading = Fails e reading
