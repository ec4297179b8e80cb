-- The statement on the table `frozen_share`.
use Rattle.std.proofs.Common.{[], ◌∷◌, codes, refl}
use Rattle.adr_db.proofs.Common.{end, understood, everything, IsSelectText, whole_rows}
use Rattle.adr_db.specs.Tables.{schema}
use Rattle.adr_db.proofs.Tables.{frozen_share}
use Rattle.adr_reports.specs.declared.frozen_share.TheConstants.{READ_ONE}

pub reads_one : IsSelectText schema frozen_share (whole_rows 2 frozen_share) end READ_ONE.now
unfolding understood everything
reads_one = record { names = codes "event" ∷ codes "resource" ∷ codes "weight" ∷ []; command = refl; alone = (refl, refl); unlisted = refl; from = refl; order = refl; ungrouped = refl; undistinct = refl; joins = refl; sorts = refl; shows = refl }
