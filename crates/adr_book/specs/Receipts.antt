-- What receipts say of a book.
use Rattle.std.specs.Prelude.{◌≡◌, ℕ, ◌-◌, ◌<◌, All, take, List, Some, slice_get}
use Rattle.std.specs.Option.{option_map}
use Rattle.adr_text.specs.declared.refusal.Refusal.TheVariants.{OutOfMemory}
use Rattle.adr_queries.specs.declared.answer.Answer.{Answer}
use Rattle.adr_machine.specs.declared.command.Command.{Command}
use Rattle.adr_machine.specs.declared.desk.Desk.{Ghosts}
use Rattle.adr_book.specs.declared.kept.Book.{Book}
use Rattle.adr_book.specs.declared.trail.Trail as trail
use Rattle.adr_book.specs.declared.kept.Receipt.{Receipt}
use Rattle.adr_book.specs.declared.kept.AuditFault.{AuditFault}
use Rattle.adr_book.specs.declared.kept.AuditFault.TheVariants.{Mismatch, Refused}
use Rattle.adr_book.specs.Trail.{answers_along}
use Rattle.adr_book.specs.Words.{base_of, since_of, trail_of, settings_of}

-- the receipt of a command
abbrev pub receipt_of : ℕ → Command → Answer → Receipt
receipt_of turn command answer = record { turn = turn; command = command; answer = answer }

-- a receipt past the base has its command in the trail at its turn, and these answers have its answer there
abbrev pub HasPlace : ℕ → List (ℕ × Command) → List Answer → Receipt → Type 0
HasPlace since trail answers r =
    since < r.turn
    → (option_map (λ c. c.1) (slice_get trail (r.turn - since - 1)) ≡ Some r.command) × (slice_get answers (r.turn - since - 1) ≡ Some r.answer)

-- the same by a book's trail and the machine's answers along it
abbrev pub IsOf : {D T L : Type 0} {g : Ghosts D} {h : trail.Ghosts T D} → Book D T L g h → Receipt → Type 0
IsOf book r = HasPlace (since_of book) (trail_of book) (answers_along (settings_of book) (base_of book) (trail_of book)) r

-- each receipt of the book before is one of the book after
abbrev pub Confirms : {D T L : Type 0} {g : Ghosts D} {h : trail.Ghosts T D} → Book D T L g h → Book D T L g h → Type 0
Confirms old new = (r : Receipt) → IsOf old r → IsOf new r

-- of these receipts the first one without P is of that turn
abbrev pub IsFirstWithout : (Receipt → Type 0) → List Receipt → ℕ → Type 0
IsFirstWithout P receipts turn =
    (i : ℕ) × (r : Receipt) × (slice_get receipts i ≡ Some r) × (r.turn ≡ turn) × ¬ (P r) × All P (take i receipts)

-- why an audit of these receipts may fail: by the first receipt that is not of the book, or for want of memory
abbrev pub AuditFails : {D T L : Type 0} {g : Ghosts D} {h : trail.Ghosts T D} → Book D T L g h → List Receipt → AuditFault → Type 0
AuditFails book receipts (Mismatch turn) = IsFirstWithout (IsOf book) receipts turn
AuditFails book receipts (Refused refusal) = refusal ≡ OutOfMemory
