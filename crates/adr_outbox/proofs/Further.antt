-- Entries that are appended one after another.
use Rattle.std.proofs.Common.{◌≡◌, ◌<◌, ◌+◌, ℕ, suc, List, drop, length, slice_index_or, drop-cons, add-one, sym, ap, ◌∙◌}
use Rattle.adr_db.proofs.Common.{insert_entry, nat_cmp}
use Rattle.adr_delivery.specs.declared.entry.Entry.{Entry}
use Rattle.adr_delivery.specs.Outboxes.{with_entries}
use Rattle.adr_notices.specs.Committed.{numbered}

-- the first of those that are left takes the number that is drawn next
pub first_put : (serial place : ℕ) (es : List Entry) (e : Entry) (now : List (ℕ × Entry)) → place < length es → e ≡ slice_index_or es place e
    → with_entries (numbered serial (drop place es)) now ≡ with_entries (numbered (serial + 1) (drop (place + 1) es)) (insert_entry nat_cmp now (serial + 1) e)
first_put serial place es e now within is =
    ap (λ left. with_entries (numbered serial left) now) (drop-cons es place e within)
    ∙ ap (λ (x : Entry). with_entries (numbered (serial + 1) (drop (suc place) es)) (insert_entry nat_cmp now (serial + 1) x)) (sym is)
    ∙ ap (λ next. with_entries (numbered (serial + 1) (drop next es)) (insert_entry nat_cmp now (serial + 1) e)) (sym (add-one place))
