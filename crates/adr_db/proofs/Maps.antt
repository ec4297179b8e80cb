-- The tables that are maps.
use Rattle.std.proofs.Common.{ℕ, List, [], map, refl, sym}
use Rattle.adr_db.proofs.Common.{nat_cmp, map-map, Mark, Ven, Resource, Report, Sub, Stamps, MirrorKey, ShareKey, ViewKey, id_cmp, mirror_cmp, share_cmp, view_cmp, with_table, keys_alone}
use Rattle.adr_delivery.specs.declared.entry.Entry.{Entry}
use Rattle.adr_db.specs.declared.shown.RollupColumns.{RollupColumns}
use Rattle.adr_db.specs.declared.shown.ShownColumns.{ShownColumns}
use Rattle.adr_db.specs.declared.shown.ShownKey.{ShownKey}
use Rattle.adr_db.specs.ShownKeys.{shown_cmp}
use Rattle.adr_state.specs.declared.keys.FrozenKey.{FrozenKey}
use Rattle.adr_state.specs.Keys.{frozen_cmp}
use Rattle.adr_db.specs.Rows.{mark_row, key_row, number_row, ven_row, ven_columns, resource_row, resource_columns, share_row, share_key_row, frozen_share_row, frozen_key_row, stamp_row, view_key_row, report_row, report_columns, sub_row, sub_columns, event_key_row, remote_row, entry_row, entry_columns, head_row, shown_row, shown_key_row, rollup_row, rollup_columns}
use Rattle.adr_db.specs.Kept.{contents_of}
use Rattle.adr_db.proofs.Rows.{mirror_codec, polled_codec, number_codec, share_codec, frozen_share_codec, stamp_codec, remote_codec, shown_codec, text_codec}
use Rattle.adr_sql.proofs.KeyedMaps.{KeyedMap}
use Rattle.adr_db.specs.Tables.{schema}
use Rattle.adr_db.proofs.Tables.{mirror, mirror_keyed, polled, polled_keyed, ven, ven_keyed, resource, resource_keyed, share, share_keyed, stamp, stamp_keyed, report, report_keyed, sub, sub_keyed, remote, remote_keyed, outbox, outbox_keyed, shown, shown_keyed, rollup, rollup_keyed, head, head_keyed, frozen, frozen_keyed, frozen_share, frozen_share_keyed}
use Rattle.adr_db.proofs.KeptMaps.{KeptMap, StoredMap}

abbrev pub mirror_map : KeptMap MirrorKey Mark
mirror_map = record {
  rows = record { at = 1; table = mirror; keyed = mirror_keyed; cmp = mirror_cmp; row_of = mark_row; key_of = key_row; codec = mirror_codec };
  entries = λ kept. kept.mirror;
  with_entries = λ es kept. record kept { mirror = es };
  stored = λ kept. refl;
  changed = λ es kept. refl;
}

-- the set of the polled keys is a map to nothing
abbrev pub polled_map : KeptMap MirrorKey (Unit {0})
polled_map = record {
  rows = record { at = 2; table = polled; keyed = polled_keyed; cmp = mirror_cmp; row_of = λ e. key_row e.0; key_of = key_row; codec = polled_codec };
  entries = λ kept. keys_alone kept.polled;
  with_entries = λ es kept. record kept { polled = map (λ e. e.0) es };
  stored = λ kept. sym (map-map (λ (e : MirrorKey × Unit {0}). key_row e.0) (λ k. (k, tt)) kept.polled);
  changed = λ es kept i. with_table (contents_of kept) 2 (sym (map-map key_row (λ (e : MirrorKey × Unit {0}). e.0) es) i);
}

abbrev pub ven_map : KeptMap ℕ Ven
ven_map = record {
  rows = record { at = 3; table = ven; keyed = ven_keyed; cmp = nat_cmp; row_of = ven_row; key_of = number_row; codec = number_codec ven_columns };
  entries = λ kept. kept.portfolio.vens;
  with_entries = λ es kept. record kept { portfolio = record kept.portfolio { vens = es } };
  stored = λ kept. refl;
  changed = λ es kept. refl;
}

abbrev pub resource_map : KeptMap ℕ Resource
resource_map = record {
  rows = record { at = 4; table = resource; keyed = resource_keyed; cmp = nat_cmp; row_of = resource_row; key_of = number_row; codec = number_codec resource_columns };
  entries = λ kept. kept.portfolio.resources;
  with_entries = λ es kept. record kept { portfolio = record kept.portfolio { resources = es } };
  stored = λ kept. refl;
  changed = λ es kept. refl;
}

abbrev pub share_map : KeptMap ShareKey ℕ
share_map = record {
  rows = record { at = 5; table = share; keyed = share_keyed; cmp = share_cmp; row_of = share_row; key_of = share_key_row; codec = share_codec };
  entries = λ kept. kept.portfolio.shares;
  with_entries = λ es kept. record kept { portfolio = record kept.portfolio { shares = es } };
  stored = λ kept. refl;
  changed = λ es kept. refl;
}

-- the set of the frozen events is a map to nothing
abbrev pub frozen_map : KeptMap (List ℕ) (Unit {0})
frozen_map = record {
  rows = record { at = 15; table = frozen; keyed = frozen_keyed; cmp = id_cmp; row_of = λ e. event_key_row e.0; key_of = event_key_row; codec = text_codec (λ _. []) };
  entries = λ kept. kept.portfolio.frozen;
  with_entries = λ es kept. record kept { portfolio = record kept.portfolio { frozen = es } };
  stored = λ kept. refl;
  changed = λ es kept. refl;
}

abbrev pub frozen_share_map : KeptMap FrozenKey ℕ
frozen_share_map = record {
  rows = record { at = 16; table = frozen_share; keyed = frozen_share_keyed; cmp = frozen_cmp; row_of = frozen_share_row; key_of = frozen_key_row; codec = frozen_share_codec };
  entries = λ kept. kept.portfolio.frozen_shares;
  with_entries = λ es kept. record kept { portfolio = record kept.portfolio { frozen_shares = es } };
  stored = λ kept. refl;
  changed = λ es kept. refl;
}

abbrev pub stamp_map : KeptMap ViewKey Stamps
stamp_map = record {
  rows = record { at = 6; table = stamp; keyed = stamp_keyed; cmp = view_cmp; row_of = stamp_row; key_of = view_key_row; codec = stamp_codec };
  entries = λ kept. kept.stamps;
  with_entries = λ es kept. record kept { stamps = es };
  stored = λ kept. refl;
  changed = λ es kept. refl;
}

abbrev pub sub_map : KeptMap ℕ Sub
sub_map = record {
  rows = record { at = 9; table = sub; keyed = sub_keyed; cmp = nat_cmp; row_of = sub_row; key_of = number_row; codec = number_codec sub_columns };
  entries = λ kept. kept.portfolio.subs;
  with_entries = λ es kept. record kept { portfolio = record kept.portfolio { subs = es } };
  stored = λ kept. refl;
  changed = λ es kept. refl;
}

abbrev pub remote_map : KeptMap (List ℕ) (List ℕ)
remote_map = record {
  rows = record { at = 10; table = remote; keyed = remote_keyed; cmp = id_cmp; row_of = remote_row; key_of = event_key_row; codec = remote_codec };
  entries = λ kept. kept.remotes;
  with_entries = λ es kept. record kept { remotes = es };
  stored = λ kept. refl;
  changed = λ es kept. refl;
}

-- to put or to remove an entry changes the rows of `head` as well
abbrev pub outbox_map : StoredMap ℕ Entry
outbox_map = record {
  rows = record { at = 11; table = outbox; keyed = outbox_keyed; cmp = nat_cmp; row_of = entry_row; key_of = number_row; codec = number_codec entry_columns };
  entries = λ kept. kept.entries;
  stored = λ kept. refl;
}

-- which entry is the first of each destination: no call puts or removes rows of this table alone
abbrev pub head_rows : KeyedMap schema ℕ ℕ
head_rows = record { at = 14; table = head; keyed = head_keyed; cmp = nat_cmp; row_of = head_row; key_of = number_row; codec = number_codec number_row }

abbrev pub shown_map : KeptMap ShownKey ShownColumns
shown_map = record {
  rows = record { at = 12; table = shown; keyed = shown_keyed; cmp = shown_cmp; row_of = shown_row; key_of = shown_key_row; codec = shown_codec };
  entries = λ kept. kept.shown;
  with_entries = λ es kept. record kept { shown = es };
  stored = λ kept. refl;
  changed = λ es kept. refl;
}

abbrev pub rollup_map : KeptMap (List ℕ) RollupColumns
rollup_map = record {
  rows = record { at = 13; table = rollup; keyed = rollup_keyed; cmp = id_cmp; row_of = rollup_row; key_of = event_key_row; codec = text_codec rollup_columns };
  entries = λ kept. kept.rollups;
  with_entries = λ es kept. record kept { rollups = es };
  stored = λ kept. refl;
  changed = λ es kept. refl;
}

-- The rows of the reports are one too, but to put or to remove a report changes the rows of its intervals as well.
abbrev pub report_rows : KeyedMap schema ℕ Report
report_rows = record { at = 7; table = report; keyed = report_keyed; cmp = nat_cmp; row_of = report_row; key_of = number_row; codec = number_codec report_columns }
