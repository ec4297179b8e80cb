-- The texts make the tables.
use Rattle.std.proofs.Common.{ℕ, List, [], ◌∷◌, ◌++◌, refl}
use Rattle.adr_db.proofs.Common.{understood, everything, no_schema}
use Rattle.adr_sql.specs.Creations.{Makes}
use Rattle.adr_db.specs.declared.schema.TheConstants.{META, MIRROR, POLLED, VEN, RESOURCE, SHARE, STAMP, REPORT, REPORT_VALUE, SUB, REMOTE, OUTBOX, SHOWN, ROLLUP, HEAD, FROZEN, FROZEN_SHARE}
use Rattle.adr_db.specs.Tables.{first_tables, later_tables, tables, first_schema}

-- those of version 1
abbrev pub first_texts : List (List ℕ)
first_texts = META.now ∷ MIRROR.now ∷ POLLED.now ∷ VEN.now ∷ RESOURCE.now ∷ SHARE.now ∷ STAMP.now ∷ REPORT.now ∷ REPORT_VALUE.now ∷ SUB.now ∷ REMOTE.now ∷ OUTBOX.now ∷ SHOWN.now ∷ ROLLUP.now ∷ HEAD.now ∷ []

-- and what version 2 has beside them
abbrev pub later_texts : List (List ℕ)
later_texts = FROZEN.now ∷ FROZEN_SHARE.now ∷ []

abbrev pub texts : List (List ℕ)
texts = first_texts ++ later_texts

pub make_tables : Makes no_schema texts tables
unfolding understood everything
make_tables = (record { command = refl; whole = refl; alone = (refl, refl); defined = refl; uncounted = refl }, (record { command = refl; whole = refl; alone = (refl, refl); defined = refl; uncounted = refl }, (record { command = refl; whole = refl; alone = (refl, refl); defined = refl; uncounted = refl }, (record { command = refl; whole = refl; alone = (refl, refl); defined = refl; uncounted = refl }, (record { command = refl; whole = refl; alone = (refl, refl); defined = refl; uncounted = refl }, (record { command = refl; whole = refl; alone = (refl, refl); defined = refl; uncounted = refl }, (record { command = refl; whole = refl; alone = (refl, refl); defined = refl; uncounted = refl }, (record { command = refl; whole = refl; alone = (refl, refl); defined = refl; uncounted = refl }, (record { command = refl; whole = refl; alone = (refl, refl); defined = refl; uncounted = refl }, (record { command = refl; whole = refl; alone = (refl, refl); defined = refl; uncounted = refl }, (record { command = refl; whole = refl; alone = (refl, refl); defined = refl; uncounted = refl }, (record { command = refl; whole = refl; alone = (refl, refl); defined = refl; uncounted = refl }, (record { command = refl; whole = refl; alone = (refl, refl); defined = refl; uncounted = refl }, (record { command = refl; whole = refl; alone = (refl, refl); defined = refl; uncounted = refl }, (record { command = refl; whole = refl; alone = (refl, refl); defined = refl; uncounted = refl }, (record { command = refl; whole = refl; alone = (refl, refl); defined = refl; uncounted = refl }, (record { command = refl; whole = refl; alone = (refl, refl); defined = refl; uncounted = refl }, refl)))))))))))))))))

pub make_first : Makes no_schema first_texts first_tables
unfolding understood everything
make_first = (record { command = refl; whole = refl; alone = (refl, refl); defined = refl; uncounted = refl }, (record { command = refl; whole = refl; alone = (refl, refl); defined = refl; uncounted = refl }, (record { command = refl; whole = refl; alone = (refl, refl); defined = refl; uncounted = refl }, (record { command = refl; whole = refl; alone = (refl, refl); defined = refl; uncounted = refl }, (record { command = refl; whole = refl; alone = (refl, refl); defined = refl; uncounted = refl }, (record { command = refl; whole = refl; alone = (refl, refl); defined = refl; uncounted = refl }, (record { command = refl; whole = refl; alone = (refl, refl); defined = refl; uncounted = refl }, (record { command = refl; whole = refl; alone = (refl, refl); defined = refl; uncounted = refl }, (record { command = refl; whole = refl; alone = (refl, refl); defined = refl; uncounted = refl }, (record { command = refl; whole = refl; alone = (refl, refl); defined = refl; uncounted = refl }, (record { command = refl; whole = refl; alone = (refl, refl); defined = refl; uncounted = refl }, (record { command = refl; whole = refl; alone = (refl, refl); defined = refl; uncounted = refl }, (record { command = refl; whole = refl; alone = (refl, refl); defined = refl; uncounted = refl }, (record { command = refl; whole = refl; alone = (refl, refl); defined = refl; uncounted = refl }, (record { command = refl; whole = refl; alone = (refl, refl); defined = refl; uncounted = refl }, refl)))))))))))))))

pub make_later : Makes first_schema later_texts later_tables
unfolding understood everything
make_later = (record { command = refl; whole = refl; alone = (refl, refl); defined = refl; uncounted = refl }, (record { command = refl; whole = refl; alone = (refl, refl); defined = refl; uncounted = refl }, refl))
