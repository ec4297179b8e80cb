-- What the queries of the vens and of the subscriptions are, what they select, and how their rows read.
use Rattle.std.proofs.Common.{◌≡◌, ℕ, ap₂}
use Rattle.adr_db.proofs.Common.{Ven}
use Rattle.adr_db.specs.Admitted.{ReadsVenEntry}
use Rattle.adr_db.specs.Rows.{ven_row}
use Rattle.adr_db.proofs.Rows.{number_kept, ven_kept}
use Rattle.adr_db.proofs.Tables.{ven}

-- the row of a ven reads as that alone
pub one_ven : (x e : ℕ × Ven) → ReadsVenEntry (ven_row e) x → x ≡ e
one_ven x e reads = ap₂ (λ (n : ℕ) (ven : Ven). (n, ven)) (number_kept x.0 e.0 reads.0) (ven_kept x.1 e.1 reads.1)
