-- The keys of what is kept rise, in each map; and keys that rise stand in order.
use Rattle.std.proofs.Common.{◌≡◌, List, [], ◌∷◌, Ordering, refl, Less}
use Rattle.std.specs.Map.{keys_of}
use Rattle.std.specs.List.Sorted.{IsStrictlySortedBy}
use Rattle.adr_db.proofs.Common.{AllByRecursion, nat_cmp, IsAscending, State, mirror_cmp, share_cmp}
use Rattle.adr_state.specs.Keys.{frozen_cmp, view_cmp}
use Rattle.adr_sql.proofs.KeyedMaps.{entries_rise}
use Rattle.adr_db.specs.Kept.{Kept, Keeps, contents_of}
use Rattle.adr_db.proofs.KeptMaps.{rises, stored_rises}
use Rattle.adr_db.proofs.Maps.{mirror_map, ven_map, resource_map, share_map, frozen_share_map, stamp_map, report_rows, sub_map, outbox_map}

module _ (kept : Kept) (s : State) (was : Keeps kept s) where
  pub mirror_rises : IsAscending (λ a b. mirror_cmp a.0 b.0 ≡ Less) kept.mirror
  mirror_rises = rises mirror_map kept s was

  pub vens_rise : IsAscending (λ a b. nat_cmp a.0 b.0 ≡ Less) kept.portfolio.vens
  vens_rise = rises ven_map kept s was

  pub resources_rise : IsAscending (λ a b. nat_cmp a.0 b.0 ≡ Less) kept.portfolio.resources
  resources_rise = rises resource_map kept s was

  pub shares_rise : IsAscending (λ a b. share_cmp a.0 b.0 ≡ Less) kept.portfolio.shares
  shares_rise = rises share_map kept s was

  pub frozen_shares_rise : IsAscending (λ a b. frozen_cmp a.0 b.0 ≡ Less) kept.portfolio.frozen_shares
  frozen_shares_rise = rises frozen_share_map kept s was

  pub stamps_rise : IsAscending (λ a b. view_cmp a.0 b.0 ≡ Less) kept.stamps
  stamps_rise = rises stamp_map kept s was

  pub reports_rise : IsAscending (λ a b. nat_cmp a.0 b.0 ≡ Less) kept.portfolio.reports
  reports_rise = entries_rise report_rows (contents_of kept) kept.portfolio.reports refl s was.rows

  pub subs_rise : IsAscending (λ a b. nat_cmp a.0 b.0 ≡ Less) kept.portfolio.subs
  subs_rise = rises sub_map kept s was

  pub waiting_rises : IsAscending (λ a b. nat_cmp a.0 b.0 ≡ Less) kept.entries
  waiting_rises = stored_rises outbox_map kept s was

-- the keys of rows that rise stand in order
module _ {K V : Type 0} (cmp : K → K → Ordering) where
  keys_behind : (k : K) (es : List (K × V)) → AllByRecursion (λ e. cmp k e.0 ≡ Less) es → AllByRecursion (λ l. cmp k l ≡ Less) (keys_of es)
  keys_behind k [] behind = tt
  keys_behind k (e ∷ es) behind = (behind.0, keys_behind k es behind.1)

  pub keys_in_order : (es : List (K × V)) → IsAscending (λ a b. cmp a.0 b.0 ≡ Less) es → IsStrictlySortedBy cmp (keys_of es)
  unfolding IsStrictlySortedBy
  keys_in_order [] up = tt
  keys_in_order (e ∷ es) up = (keys_behind e.0 es up.0, keys_in_order es up.1)
