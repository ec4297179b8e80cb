-- What the tables keep is what they hold, read back.
use Rattle.std.proofs.Common.{◌≡◌, List, Option, None, Some, cond, refl, ap, ◌∙◌}
use Rattle.std.specs.Prelude.{is_some}
use Rattle.sqlite.specs.Effect.{Database}
use Rattle.sqlite.specs.State as sql
use Rattle.adr_db.proofs.Common.{map_back, Stamps, MirrorKey, ViewKey}
use Rattle.adr_state.specs.declared.base.Base.{Base}
use Rattle.adr_sql.proofs.Stored.{contents_again}
use Rattle.adr_db.specs.declared.meta.Meta.{Meta}
use Rattle.adr_db.specs.Tables.{schema}
use Rattle.adr_db.specs.Rows.{key_row, ven_row, resource_row, share_row, stamp_row, remote_row, entry_row, shown_row, rollup_row, event_key_row, frozen_share_row}
use Rattle.adr_db.specs.Kept.{Kept, Keeps, contents_of}
use Rattle.adr_db.specs.Bases.{keys_polled, with_base, Beside, kept_beside}
use Rattle.adr_db.specs.Images.{base_of, image_kept}
use Rattle.adr_db.specs.ReadBack.{key_in, numbered_in, ven_in, resource_in, share_in, stamped_in, remote_in, waiting_in, shown_in, rollup_in, frozen_in, frozen_share_in, kept_from, kept_in, state_in}
use Rattle.adr_db.proofs.Rows.{meta_again, key_again, view_key_again}
use Rattle.adr_db.proofs.Marks.{marks_again}
use Rattle.adr_db.proofs.Subs.{subs_again}
use Rattle.adr_db.proofs.Waiting.{waiting_entry_again}
use Rattle.adr_db.proofs.KeptMaps.{AreTexts}
use Rattle.adr_db.proofs.Reports.{NumbersRise, reports_again}
use Rattle.adr_db.proofs.Rises.{reports_rise}

-- ---- what is kept

stamped_again : (e : ViewKey × Stamps) → stamped_in (stamp_row e) ≡ e
stamped_again e = ap (λ key. (key, e.1)) (view_key_again e.0)

from_rows : (kept : Kept) → AreTexts kept → NumbersRise kept.portfolio.reports → kept_from (contents_of kept) ≡ kept
from_rows kept texts up = λ i. record {
  meta = meta_again kept.meta i;
  mirror = marks_again kept.mirror texts.0 i;
  polled = map_back key_row key_in key_again kept.polled i;
  portfolio = record {
    vens = map_back ven_row (numbered_in ven_in) (λ _. refl) kept.portfolio.vens i;
    resources = map_back resource_row (numbered_in resource_in) (λ _. refl) kept.portfolio.resources i;
    shares = map_back share_row share_in (λ _. refl) kept.portfolio.shares i;
    reports = reports_again kept.portfolio.reports up i;
    subs = subs_again kept.portfolio.subs texts.1 i;
    frozen = map_back (λ e. event_key_row e.0) frozen_in (λ _. refl) kept.portfolio.frozen i;
    frozen_shares = map_back frozen_share_row frozen_share_in (λ _. refl) kept.portfolio.frozen_shares i;
  };
  stamps = map_back stamp_row stamped_in stamped_again kept.stamps i;
  remotes = map_back remote_row remote_in (λ _. refl) kept.remotes i;
  entries = map_back entry_row (numbered_in waiting_in) waiting_entry_again kept.entries i;
  shown = map_back shown_row shown_in (λ _. refl) kept.shown i;
  rollups = map_back rollup_row rollup_in (λ _. refl) kept.rollups i;
}

pub kept_again : (kept : Kept) (s : sql.State) → Keeps kept s → kept_in s.now.trees ≡ kept
unfolding kept_in
kept_again kept s was = ap kept_from (contents_again schema.tables s.now.trees (contents_of kept) was.rows.each) ∙ from_rows kept (was.marks, was.subs) (reports_rise kept s was)

-- ---- as a state

scan_again : (scan : Option (List MirrorKey)) → cond (is_some scan) (Some (keys_polled scan)) None ≡ scan
scan_again None = refl
scan_again (Some keys) = refl

-- a base that is kept beside anything, with numbers that are its own
pub base_again : (numbers : Meta) (beside : Beside) (base : Base) → base_of (with_base numbers base) (kept_beside beside base) ≡ base
base_again numbers beside base = ap (λ (scan : Option (List MirrorKey)). record base { scan = scan }) (scan_again base.scan)

-- where nothing was written, nothing else is read back
pub state_same : (a b : sql.State) → b.now ≡ a.now → state_in b ≡ state_in a
unfolding state_in
state_same a b same = ap (λ (now : Database). image_kept (kept_in now.trees)) same
