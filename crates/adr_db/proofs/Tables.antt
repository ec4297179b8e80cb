-- The tables as the schema has them.
use Rattle.std.proofs.Common.{◌≡◌, true, refl}
use Rattle.sqlite_schema.specs.declared.schema.Table.{Table}
use Rattle.sqlite_schema.specs.Names.{same_name}
use Rattle.sqlite_value.specs.Keys.{joined}
use Rattle.sqlite_catalog.specs.Listing.{automatic}
use Rattle.adr_sql.proofs.References.{is_childless}
use Rattle.adr_sql.proofs.Upserts.{IsKeyed}
use Rattle.adr_db.specs.Tables.{schema, first_schema, meta_table, mirror_table, polled_table, ven_table, resource_table, share_table, stamp_table, report_table, report_value_table, sub_table, remote_table, outbox_table, shown_table, rollup_table, head_table, frozen_table, frozen_share_table}

-- each table with its tree
abbrev pub meta : Table
meta = record meta_table { tree = 0 }

abbrev pub mirror : Table
mirror = record mirror_table { tree = 2 }

abbrev pub polled : Table
polled = record polled_table { tree = 5 }

abbrev pub ven : Table
ven = record ven_table { tree = 7 }

abbrev pub resource : Table
resource = record resource_table { tree = 10 }

abbrev pub share : Table
share = record share_table { tree = 14 }

abbrev pub stamp : Table
stamp = record stamp_table { tree = 17 }

abbrev pub report : Table
report = record report_table { tree = 19 }

abbrev pub report_value : Table
report_value = record report_value_table { tree = 24 }

abbrev pub sub : Table
sub = record sub_table { tree = 26 }

abbrev pub remote : Table
remote = record remote_table { tree = 29 }

abbrev pub outbox : Table
outbox = record outbox_table { tree = 31 }

abbrev pub shown : Table
shown = record shown_table { tree = 34 }

abbrev pub rollup : Table
rollup = record rollup_table { tree = 38 }

abbrev pub head : Table
head = record head_table { tree = 40 }

abbrev pub frozen : Table
frozen = record frozen_table { tree = 42 }

abbrev pub frozen_share : Table
frozen_share = record frozen_share_table { tree = 44 }

-- each is written over by its key, also those to which references point
pub meta_keyed : IsKeyed schema 0 meta
unfolding same_name joined
meta_keyed = record { place = record { found = refl; alone = refl }; unfollowed = refl; uncounted = refl; unnumbered = refl; index = automatic meta 0 meta.primary 1; aimed = refl; order = refl; places = refl }

-- so it was in version 1
pub first_meta_keyed : IsKeyed first_schema 0 meta
unfolding same_name joined
first_meta_keyed = record { place = record { found = refl; alone = refl }; unfollowed = refl; uncounted = refl; unnumbered = refl; index = automatic meta 0 meta.primary 1; aimed = refl; order = refl; places = refl }

pub mirror_keyed : IsKeyed schema 1 mirror
unfolding same_name joined
mirror_keyed = record { place = record { found = refl; alone = refl }; unfollowed = refl; uncounted = refl; unnumbered = refl; index = automatic mirror 0 mirror.primary 3; aimed = refl; order = refl; places = refl }

pub polled_keyed : IsKeyed schema 2 polled
unfolding same_name joined
polled_keyed = record { place = record { found = refl; alone = refl }; unfollowed = refl; uncounted = refl; unnumbered = refl; index = automatic polled 0 polled.primary 6; aimed = refl; order = refl; places = refl }

pub ven_keyed : IsKeyed schema 3 ven
unfolding same_name joined
ven_keyed = record { place = record { found = refl; alone = refl }; unfollowed = refl; uncounted = refl; unnumbered = refl; index = automatic ven 0 ven.primary 8; aimed = refl; order = refl; places = refl }

pub resource_keyed : IsKeyed schema 4 resource
unfolding same_name joined
resource_keyed = record { place = record { found = refl; alone = refl }; unfollowed = refl; uncounted = refl; unnumbered = refl; index = automatic resource 0 resource.primary 11; aimed = refl; order = refl; places = refl }

pub share_keyed : IsKeyed schema 5 share
unfolding same_name joined
share_keyed = record { place = record { found = refl; alone = refl }; unfollowed = refl; uncounted = refl; unnumbered = refl; index = automatic share 0 share.primary 15; aimed = refl; order = refl; places = refl }

pub stamp_keyed : IsKeyed schema 6 stamp
unfolding same_name joined
stamp_keyed = record { place = record { found = refl; alone = refl }; unfollowed = refl; uncounted = refl; unnumbered = refl; index = automatic stamp 0 stamp.primary 18; aimed = refl; order = refl; places = refl }

pub report_keyed : IsKeyed schema 7 report
unfolding same_name joined
report_keyed = record { place = record { found = refl; alone = refl }; unfollowed = refl; uncounted = refl; unnumbered = refl; index = automatic report 0 report.primary 20; aimed = refl; order = refl; places = refl }

pub report_value_keyed : IsKeyed schema 8 report_value
unfolding same_name joined
report_value_keyed = record { place = record { found = refl; alone = refl }; unfollowed = refl; uncounted = refl; unnumbered = refl; index = automatic report_value 0 report_value.primary 25; aimed = refl; order = refl; places = refl }

pub sub_keyed : IsKeyed schema 9 sub
unfolding same_name joined
sub_keyed = record { place = record { found = refl; alone = refl }; unfollowed = refl; uncounted = refl; unnumbered = refl; index = automatic sub 0 sub.primary 27; aimed = refl; order = refl; places = refl }

pub remote_keyed : IsKeyed schema 10 remote
unfolding same_name joined
remote_keyed = record { place = record { found = refl; alone = refl }; unfollowed = refl; uncounted = refl; unnumbered = refl; index = automatic remote 0 remote.primary 30; aimed = refl; order = refl; places = refl }

pub outbox_keyed : IsKeyed schema 11 outbox
unfolding same_name joined
outbox_keyed = record { place = record { found = refl; alone = refl }; unfollowed = refl; uncounted = refl; unnumbered = refl; index = automatic outbox 0 outbox.primary 32; aimed = refl; order = refl; places = refl }

pub shown_keyed : IsKeyed schema 12 shown
unfolding same_name joined
shown_keyed = record { place = record { found = refl; alone = refl }; unfollowed = refl; uncounted = refl; unnumbered = refl; index = automatic shown 0 shown.primary 35; aimed = refl; order = refl; places = refl }

pub rollup_keyed : IsKeyed schema 13 rollup
unfolding same_name joined
rollup_keyed = record { place = record { found = refl; alone = refl }; unfollowed = refl; uncounted = refl; unnumbered = refl; index = automatic rollup 0 rollup.primary 39; aimed = refl; order = refl; places = refl }

pub head_keyed : IsKeyed schema 14 head
unfolding same_name joined
head_keyed = record { place = record { found = refl; alone = refl }; unfollowed = refl; uncounted = refl; unnumbered = refl; index = automatic head 0 head.primary 41; aimed = refl; order = refl; places = refl }

pub frozen_keyed : IsKeyed schema 15 frozen
unfolding same_name joined
frozen_keyed = record { place = record { found = refl; alone = refl }; unfollowed = refl; uncounted = refl; unnumbered = refl; index = automatic frozen 0 frozen.primary 43; aimed = refl; order = refl; places = refl }

pub frozen_share_keyed : IsKeyed schema 16 frozen_share
unfolding same_name joined
frozen_share_keyed = record { place = record { found = refl; alone = refl }; unfollowed = refl; uncounted = refl; unnumbered = refl; index = automatic frozen_share 0 frozen_share.primary 45; aimed = refl; order = refl; places = refl }

-- no reference points to these
pub polled_childless : is_childless schema polled.tree ≡ true
unfolding same_name joined
polled_childless = refl

pub share_childless : is_childless schema share.tree ≡ true
unfolding same_name joined
share_childless = refl

pub stamp_childless : is_childless schema stamp.tree ≡ true
unfolding same_name joined
stamp_childless = refl

pub report_value_childless : is_childless schema report_value.tree ≡ true
unfolding same_name joined
report_value_childless = refl

pub sub_childless : is_childless schema sub.tree ≡ true
unfolding same_name joined
sub_childless = refl

pub remote_childless : is_childless schema remote.tree ≡ true
unfolding same_name joined
remote_childless = refl

pub outbox_childless : is_childless schema outbox.tree ≡ true
unfolding same_name joined
outbox_childless = refl

pub shown_childless : is_childless schema shown.tree ≡ true
unfolding same_name joined
shown_childless = refl

pub rollup_childless : is_childless schema rollup.tree ≡ true
unfolding same_name joined
rollup_childless = refl

pub head_childless : is_childless schema head.tree ≡ true
unfolding same_name joined
head_childless = refl

pub frozen_childless : is_childless schema frozen.tree ≡ true
unfolding same_name joined
frozen_childless = refl

pub frozen_share_childless : is_childless schema frozen_share.tree ≡ true
unfolding same_name joined
frozen_share_childless = refl
