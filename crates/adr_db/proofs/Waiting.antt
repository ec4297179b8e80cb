-- An entry that waits reads back.
use Rattle.std.proofs.Common.{◌≡◌, ℕ, cond, Option, None, Some, refl, sym, ap, ap₂, ◌∙◌}
use Rattle.std.specs.Prelude.{is_some}
use Rattle.adr_db.proofs.Common.{column}
use Rattle.adr_subscription.specs.declared.words.OperationKind.{OperationKind}
use Rattle.adr_subscription.specs.declared.words.OperationKind.TheVariants.{Get, Post, Put, Delete}
use Rattle.adr_delivery.specs.declared.addressee.Addressee.{Addressee}
use Rattle.adr_delivery.specs.declared.addressee.Addressee.TheVariants.{Utility, Subscriber}
use Rattle.adr_delivery.specs.declared.delivery.Delivery.{Delivery}
use Rattle.adr_delivery.specs.declared.entry.Entry.{Entry}
use Rattle.adr_db.specs.Rows.{operation_number, lease_end, delivery_columns, entry_columns, entry_row}
use Rattle.adr_db.specs.Admitted.{ReadsWaitingEntry}
use Rattle.adr_db.specs.ReadBack.{operation_of, addressee_in, name_of, delivery_in, waiting_in, numbered_in}
use Rattle.adr_db.proofs.Rows.{flag_again, name_again, number_kept}

operation_again : (operation : OperationKind) → operation_of (operation_number operation) ≡ operation
operation_again Get = refl
operation_again Post = refl
operation_again Put = refl
operation_again Delete = refl

lease_again : (lease : Option ℕ) → cond (is_some lease) (Some (lease_end lease)) None ≡ lease
lease_again None = refl
lease_again (Some until) = refl

delivery_again : (d : Delivery) → delivery_in (delivery_columns d) ≡ d
delivery_again d = ap (λ lease. record d { lease = lease }) (ap (λ leased. cond leased (Some (lease_end d.lease)) None) (flag_again (is_some d.lease)) ∙ lease_again d.lease)

addressee_again : (e : Entry) → addressee_in (name_of (column (entry_columns e) 1)) (entry_columns e) ≡ e.addressee
addressee_again e = by e.addressee
  where
    by : (a : Addressee) → addressee_in (name_of (column (entry_columns (record e { addressee = a })) 1)) (entry_columns (record e { addressee = a })) ≡ a
    by (Utility event) = refl
    by (Subscriber subscription address token) = ap (Subscriber subscription address) (name_again token)

waiting_again : (e : Entry) → waiting_in (entry_columns e) ≡ e
waiting_again e =
    let to = addressee_again e in
    let operation = operation_again e.operation in
    let delivery = delivery_again e.delivery in
    λ i. record { addressee = to i; operation = operation i; body = e.body; delivery = delivery i }

pub waiting_kept : (a b : Entry) → entry_columns a ≡ entry_columns b → a ≡ b
waiting_kept a b h = sym (waiting_again a) ∙ ap waiting_in h ∙ waiting_again b

pub waiting_entry_again : (e : ℕ × Entry) → numbered_in waiting_in (entry_row e) ≡ e
waiting_entry_again e = ap (λ entry. (e.0, entry)) (waiting_again e.1)

-- and what is read of the row of an entry is that entry
pub waiting_entry_read : (e kept : ℕ × Entry) → ReadsWaitingEntry (entry_row kept) e → e ≡ kept
waiting_entry_read e kept reads = ap₂ (λ (n : ℕ) (entry : Entry). (n, entry)) (number_kept e.0 kept.0 reads.0) (waiting_kept e.1 kept.1 reads.1)
