-- What a call makes of the outbox that drops the entries of subscriptions which are not there, as the tables and the caller's numbers hold it.
use Rattle.std.specs.Prelude.{◌≡◌, ℕ, List, length, fold, Result, OnOk}
use Rattle.std.specs.Map.{remove_entry}
use Rattle.std.specs.BTreeMap.{is_at}
use Rattle.std.specs.Ordering.{nat_cmp}
use Rattle.sqlite.specs.Store.{Ghosts}
use Rattle.sqlite.specs.Held.{Held, state}
use Rattle.sqlite.specs.State.{State, HasCleanDisk}
use Rattle.adr_delivery.specs.declared.entry.Entry.{Entry}
use Rattle.adr_delivery.specs.declared.outbox.Outbox.{Outbox}
use Rattle.adr_delivery.specs.Outboxes.{kept_for}
use Rattle.adr_db.specs.declared.meta.Meta.{Meta}
use Rattle.adr_db.specs.Kept.{Kept, Keeps}
use Rattle.adr_db.specs.Bases.{counting}
use Rattle.adr_db.specs.Images.{outbox_of}
use Rattle.adr_outbox.specs.Turned.{with_outbox}

-- the entries of these numbers go, one after another
abbrev pub without_entries : List ℕ → List (ℕ × Entry) → List (ℕ × Entry)
without_entries numbers entries = fold (λ es n. remove_entry (is_at (nat_cmp n)) es) entries numbers

-- the outbox of what is kept, without the entries of subscriptions that are not there
abbrev pub without_lost : Meta → Kept → Outbox
without_lost numbers kept = kept_for kept.portfolio.subs (outbox_of numbers kept)

-- the tables keep that, and the numbers count it
pub record IsDropped (before after : Meta) (kept : Kept) (s : State) : Type 0 where
  pub keeps : Keeps (with_outbox (without_lost before kept) kept) s
  pub counted : after ≡ counting (without_lost before kept) before

-- after Ok the tables keep that outbox, and the caller's numbers count it, where they said how many entries wait
abbrev pub DropsLost : {S T E : Type 0} → Ghosts S → Held S → Held S → Meta → Meta → Result T E → Type 0
DropsLost g old new before after result = HasCleanDisk (state g new) → OnOk result ((kept : Kept) → Keeps kept (state g old) → before.pending ≡ length kept.entries → IsDropped before after kept (state g new))
