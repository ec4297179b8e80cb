-- The subscriptions: each has a number of its own, that was drawn, and its owner is there.
use Rattle.std.proofs.Common.{◌≡◌, ℕ, ◌+◌, ◌≤◌, Bool, true, false, not, ◌==◌, List, [], ◌++◌, ◌⊎◌, inl, inr, Option, Some, None, sym, subst, ◌∙◌, arith}
use Rattle.std.specs.Prelude.{◌≢◌, IsSome, IfSome}
use Rattle.std.specs.Map.{remove_entry}
use Rattle.std.proofs.lemmas.Bool.{cond_both}
use Rattle.std.specs.Option.{option_map_or}
use Rattle.adr_laws.proofs.Common.{All, AllPairs, All-append, All-contains, All-contains_itself, Contains, nat_cmp, keys_of, insert_entry, is_at, exact_unsigned, nat_cmp_total, tells_apart, Contains-from_lookup, at}
use Rattle.adr_subscription.specs.declared.kept_sub.Sub.{Sub}
use Rattle.adr_state.specs.declared.portfolio.Portfolio.{Portfolio}
use Rattle.adr_state.specs.declared.portfolio.Report.{Report}
use Rattle.adr_state.specs.declared.portfolio.Resource.{Resource}
use Rattle.adr_state.specs.declared.portfolio.Ven.{Ven}
use Rattle.adr_state.specs.Frozen.{is_frozen}
use Rattle.adr_view.proofs.FrozenLemmas.{frozen_now}
use Rattle.adr_state.specs.Portfolios.{is_of_ven, is_sub_of, reported_on, PortfolioChange, PutVen, DropVen, PutResource, DropResource, PutReport, DropReport, PutSub, DropSub, Freeze, nobody, portfolio_after}
use Rattle.adr_laws.specs.Laws.{HasOwner}
use Rattle.adr_view.proofs.OrderLemmas.{InOrder, none_sorted, each_row, in_order_put, in_order_removed, in_order_filtered}
use Rattle.adr_view.proofs.RowLemmas.{from_put, from_removal, from_filter, found_after_put, found_after_removal}
use Rattle.adr_laws.proofs.Decisions.{FitsPortfolio}
use Rattle.adr_laws.proofs.NumberLemmas.{serial_then, rises, IsDrawn, still_drawn, each_number, rows_differ, pairs_apart}
use Rattle.adr_laws.proofs.ReportLemmas.{IsOneOrNext, is_one, one_put}

-- ---- numbers of vens, of resources and of reports

abbrev pub HasRow : {V : Type 0} → List (ℕ × V) → ℕ → Type 0
HasRow {V} rows n = (r : ℕ × V) × Contains rows r × (r.0 ≡ n)

abbrev pub IsUsed : Portfolio → ℕ → Type 0
IsUsed p n = HasRow p.vens n ⊎ (HasRow p.resources n ⊎ HasRow p.reports n)

pub one_of : {V : Type 0} (serial : ℕ) (rows : List (ℕ × V)) (m n : ℕ) → m ≡ n → IsOneOrNext serial rows m → HasRow rows n ⊎ (n ≡ serial + 1)
one_of serial rows m n same (inl one) = inl (one.0, one.1, one.2 ∙ same)
one_of serial rows m n same (inr next) = inr (sym same ∙ next)

-- where each row has the number of one that was there, or the next one, so it is with each number that is used
used_by : (serial : ℕ) (p q : Portfolio) → ((v : ℕ × Ven) → Contains q.vens v → IsOneOrNext serial p.vens v.0) → ((r : ℕ × Resource) → Contains q.resources r → IsOneOrNext serial p.resources r.0) → ((r : ℕ × Report) → Contains q.reports r → IsOneOrNext serial p.reports r.0)
    → (n : ℕ) → IsUsed q n → IsUsed p n ⊎ (n ≡ serial + 1)
used_by serial p q vens resources reports n (inl v) = elim (one_of serial p.vens v.0.0 n v.2 (vens v.0 v.1)) [ inl one ↦ inl (inl one) | inr next ↦ inr next ]
used_by serial p q vens resources reports n (inr (inl r)) = elim (one_of serial p.resources r.0.0 n r.2 (resources r.0 r.1)) [ inl one ↦ inl (inr (inl one)) | inr next ↦ inr next ]
used_by serial p q vens resources reports n (inr (inr r)) = elim (one_of serial p.reports r.0.0 n r.2 (reports r.0 r.1)) [ inl one ↦ inl (inr (inr one)) | inr next ↦ inr next ]

-- after a change each number that is used was used before, or is the next one
pub used_after : (serial : ℕ) (draws : Bool) (p : Portfolio) (change : PortfolioChange) → FitsPortfolio (serial + 1) draws p change → (n : ℕ) → IsUsed (portfolio_after change p) n → IsUsed p n ⊎ (n ≡ serial + 1)
used_after serial draws p (PutVen n ven) fits = used_by serial p (portfolio_after (PutVen n ven) p) (one_put serial draws n ven p.vens fits.0) (is_one serial p.resources) (is_one serial p.reports)
used_after serial draws p (DropVen n) fits =
    used_by serial p (portfolio_after (DropVen n) p) (λ v there. is_one serial p.vens v (from_removal (is_at (nat_cmp n)) p.vens v there)) (λ r there. is_one serial p.resources r (from_filter (λ (r : ℕ × Resource). not (r.1.ven == n)) p.resources r there).0)
    (λ r there. is_one serial p.reports r (from_filter (λ (r : ℕ × Report). not (is_of_ven n p.resources (reported_on r))) p.reports r there).0)
used_after serial draws p (PutResource n resource) fits = used_by serial p (portfolio_after (PutResource n resource) p) (is_one serial p.vens) (one_put serial draws n resource p.resources fits.0) (is_one serial p.reports)
used_after serial draws p (DropResource n) fits =
    used_by serial p (portfolio_after (DropResource n) p) (is_one serial p.vens) (λ r there. is_one serial p.resources r (from_removal (is_at (nat_cmp n)) p.resources r there)) (λ r there. is_one serial p.reports r (from_filter (λ (r : ℕ × Report). not (reported_on r == n)) p.reports r there).0)
used_after serial true p (PutReport n report) fits =
    used_by serial p (portfolio_after (PutReport n report) p) (is_one serial p.vens) (is_one serial p.resources) (elim fits.1 [ inl next ↦ one_put serial true n report p.reports next | inr found ↦ one_put serial false n report p.reports found ])
used_after serial false p (PutReport n report) fits = absurd fits
used_after serial draws p (DropReport n) fits = used_by serial p (portfolio_after (DropReport n) p) (is_one serial p.vens) (is_one serial p.resources) (λ r there. is_one serial p.reports r (from_removal (is_at (nat_cmp n)) p.reports r there))
used_after serial draws p (Freeze id pairs) fits =
    let same = used_by serial p p (is_one serial p.vens) (is_one serial p.resources) (is_one serial p.reports) in
    cond_both (is_frozen p id) p (frozen_now p id pairs) (λ (q : Portfolio). (n : ℕ) → IsUsed q n → IsUsed p n ⊎ (n ≡ serial + 1)) (λ frozen. same) (λ fresh. same)
used_after serial draws p change fits = used_by serial p (portfolio_after change p) (is_one serial p.vens) (is_one serial p.resources) (is_one serial p.reports)

-- ---- subscriptions

-- they stand in the order of their numbers, which were drawn and are of nothing else, and their owners are there
pub record HaveSubs (first : ℕ) (had : List ℕ) (serial : ℕ) (p : Portfolio) : Type 0 where
  pub in_order : InOrder nat_cmp p.subs
  pub drawn : (s : ℕ × Sub) → Contains p.subs s → IsDrawn first had serial s.0
  pub apart : (s : ℕ × Sub) → Contains p.subs s → IsUsed p s.0 → ⊥
  pub owned : (s : ℕ × Sub) → Contains p.subs s → HasOwner p.vens s

owned_still : (o : Option ℕ) (P Q : ℕ → Type 0) → ((n : ℕ) → P n → Q n) → IfSome o P → IfSome o Q
owned_still None P Q h there = tt
owned_still (Some n) P Q h there = h n there

-- an owner that is not of the ven that goes is there still
owner_left : (n : ℕ) (vens : List (ℕ × Ven)) → InOrder nat_cmp vens → (o : Option ℕ) → not (option_map_or (λ m. m == n) o false) ≡ true → IfSome o (λ m. IsSome (at nat_cmp m vens)) → IfSome o (λ m. IsSome (at nat_cmp m (remove_entry (is_at (nat_cmp n)) vens)))
owner_left n vens sorted None other there = tt
owner_left n vens sorted (Some m) other there = found_after_removal m vens n sorted other there

module _ {first : ℕ} {had : List ℕ} {serial : ℕ} {p : Portfolio} (h : HaveSubs first had serial p) where
  -- some of them, when more numbers were drawn, and where what else has numbers has none of theirs
  some_subs : {next : ℕ} (q : Portfolio) → serial ≤ next → InOrder nat_cmp q.subs → ((s : ℕ × Sub) → Contains q.subs s → Contains p.subs s) → ((n : ℕ) → IsUsed q n → IsUsed p n ⊎ (n ≡ serial + 1)) → ((s : ℕ × Sub) → Contains q.subs s → HasOwner q.vens s)
      → HaveSubs first had next q
  some_subs q passed ordered from used owned = record {
    in_order = ordered;
    drawn = λ s there. still_drawn passed (h.drawn s (from s there));
    apart = λ s there one. elim (used s.0 one) [ inl old ↦ h.apart s (from s there) old | inr next ↦ absurd (let low = (h.drawn s (from s there)).up_to_the_serial in omega arith) ];
    owned = owned;
  }

  -- all of them, when more numbers were drawn
  pub later_subs : {next : ℕ} → serial ≤ next → HaveSubs first had next p
  later_subs passed = some_subs p passed h.in_order (λ s there. there) (λ n used. inl used) h.owned

  -- since the subscriptions themselves
  pub subs_from_here : HaveSubs serial (keys_of p.subs) serial p
  subs_from_here = record {
    in_order = h.in_order;
    drawn = λ s there. let old : IsDrawn first had serial s.0 = h.drawn s there in record { at_least_one = old.at_least_one; up_to_the_serial = old.up_to_the_serial; was_there = λ early. number_there s there };
    apart = h.apart;
    owned = h.owned;
  }
    where
      number_there : (s : ℕ × Sub) → Contains p.subs s → Contains (keys_of p.subs) s.0
      number_there s there = All-contains (λ s. Contains (keys_of p.subs) s.0) p.subs s (each_row (Contains (keys_of p.subs)) p.subs (All-contains_itself (keys_of p.subs))) there

  module _ (rose : first ≤ serial) (used_low : (n : ℕ) → IsUsed p n → n ≤ serial) (vens_in_order : InOrder nat_cmp p.vens) where
    -- one is put, of a number that is drawn and of no other row, and its owner is there
    put_sub : {next : ℕ} (n : ℕ) (sub : Sub) → serial ≤ next → IsDrawn first had next n → (IsUsed p n → ⊥) → HasOwner p.vens (n, sub) → HaveSubs first had next (portfolio_after (PutSub n sub) p)
    put_sub {next} n sub passed number apart owned =
        let from = from_put exact_unsigned n sub p.subs in
        record {
          in_order = in_order_put nat_cmp_total n sub p.subs h.in_order;
          drawn = λ s there. elim (from s there) [ inl old ↦ still_drawn passed (h.drawn s old) | inr new ↦ subst (λ (s : ℕ × Sub). IsDrawn first had next s.0) (sym new) number ];
          apart = λ s there. elim (from s there) [ inl old ↦ h.apart s old | inr new ↦ subst (λ (s : ℕ × Sub). IsUsed p s.0 → ⊥) (sym new) apart ];
          owned = λ s there. elim (from s there) [ inl old ↦ h.owned s old | inr new ↦ subst (HasOwner p.vens) (sym new) owned ];
        }

    pub subs_after : (draws : Bool) (change : PortfolioChange) → FitsPortfolio (serial + 1) draws p change → HaveSubs first had (serial_then serial draws) (portfolio_after change p)
    subs_after draws (PutVen n ven) fits =
        some_subs (portfolio_after (PutVen n ven) p) (rises serial draws) h.in_order (λ s there. there) (used_after serial draws p (PutVen n ven) fits)
        (λ s there. owned_still s.1.owner (λ m. IsSome (at nat_cmp m p.vens)) (λ m. IsSome (at nat_cmp m (insert_entry nat_cmp p.vens n ven))) (λ m. found_after_put m p.vens n ven) (h.owned s there))
    subs_after draws (DropVen n) fits =
        let stays : ℕ × Sub → Bool = λ s. not (is_sub_of n s.1) in
        let left = from_filter stays p.subs in
        some_subs (portfolio_after (DropVen n) p) (rises serial draws) (in_order_filtered nat_cmp stays p.subs h.in_order) (λ s there. (left s there).0) (used_after serial draws p (DropVen n) fits)
        (λ s there. owner_left n p.vens vens_in_order s.1.owner (left s there).1 (h.owned s (left s there).0))
    subs_after true (PutSub n sub) fits =
        put_sub n sub (rises serial true) (record { at_least_one = let is = fits.0 in omega arith; up_to_the_serial = let is = fits.0 in omega arith; was_there = λ early. absurd (let is = fits.0 in omega arith) })
        (λ used. let low = used_low n used in let is = fits.0 in omega arith) fits.1
    subs_after false (PutSub n sub) fits =
        let there : Contains p.subs (n, fits.0) = Contains-from_lookup (tells_apart exact_unsigned) n fits.0 p.subs fits.1 in
        put_sub n sub (rises serial false) (h.drawn (n, fits.0) there) (h.apart (n, fits.0) there) (subst (λ (o : Option ℕ). IfSome o (λ m. IsSome (at nat_cmp m p.vens))) (sym fits.2) (h.owned (n, fits.0) there))
    subs_after draws (DropSub n) fits =
        let left = from_removal (is_at (nat_cmp n)) p.subs in
        some_subs (portfolio_after (DropSub n) p) (rises serial draws) (in_order_removed nat_cmp (is_at (nat_cmp n)) p.subs h.in_order) left (used_after serial draws p (DropSub n) fits) (λ s there. h.owned s (left s there))
    subs_after draws (Freeze id pairs) fits =
        cond_both (is_frozen p id) p (frozen_now p id pairs) (λ (q : Portfolio). HaveSubs first had (serial_then serial draws) q) (λ frozen. later_subs (rises serial draws))
        (λ fresh. some_subs (frozen_now p id pairs) (rises serial draws) h.in_order (λ s there. there) (λ n used. inl used) h.owned)
    subs_after draws change fits = some_subs (portfolio_after change p) (rises serial draws) h.in_order (λ s there. there) (used_after serial draws p change fits) h.owned

-- none are there
pub no_subs : HaveSubs 0 [] 0 nobody
no_subs = record {
  in_order = none_sorted nat_cmp;
  drawn = λ s there. absurd (omega (arith, there.1));
  apart = λ s there used. absurd (omega (arith, there.1));
  owned = λ s there. absurd (omega (arith, there.1));
}

-- ---- as the law says it

module _ {first : ℕ} {had : List ℕ} {serial : ℕ} {p : Portfolio} (h : HaveSubs first had serial p) where
  abbrev Differs : ℕ → Type 0
  Differs m = All (λ n. m ≢ n) (keys_of p.subs)

  differs : (m : ℕ) → ((s : ℕ × Sub) → m ≡ s.0 → IsUsed p s.0) → Differs m
  differs m used = each_number (λ n. m ≢ n) p.subs (λ s there same. h.apart s there (used s same))

  -- no two rows of the four kinds have one number
  pub subs_differ : AllPairs (λ m n. m ≢ n) ((keys_of p.vens ++ keys_of p.resources) ++ keys_of p.reports) → AllPairs (λ m n. m ≢ n) (((keys_of p.vens ++ keys_of p.resources) ++ keys_of p.reports) ++ keys_of p.subs)
  subs_differ others =
      pairs_apart ((keys_of p.vens ++ keys_of p.resources) ++ keys_of p.reports) (keys_of p.subs) others (rows_differ p.subs h.in_order)
      (All-append Differs (keys_of p.vens ++ keys_of p.resources) (keys_of p.reports)
      (All-append Differs (keys_of p.vens) (keys_of p.resources) (each_number Differs p.vens (λ v one. differs v.0 (λ s same. inl (v, one, same)))) (each_number Differs p.resources (λ r one. differs r.0 (λ s same. inr (inl (r, one, same))))))
      (each_number Differs p.reports (λ r one. differs r.0 (λ s same. inr (inr (r, one, same))))))
