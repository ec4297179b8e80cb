-- Sources that are tied are one; the keys of their rows stand as they do; and the rows of a source stand in order, at keys of it alone.
use Rattle.std.proofs.Common.{◌≡◌, ℕ, Bool, true, false, cond, List, [], ◌∷◌, map, Option, Some, None, Less, refl, sym, ap, subst, ◌∙◌}
use Rattle.adr_objects.specs.declared.body.EventBody.{EventBody}
use Rattle.adr_objects.specs.declared.report.Rollup.{Rollup}
use Rattle.adr_state.specs.declared.base.Mark.{Mark}
use Rattle.adr_state.specs.declared.keys.MirrorKey.{MirrorKey}
use Rattle.adr_state.specs.declared.keys.ViewKey.{ViewKey}
use Rattle.adr_state.specs.declared.keys.ViewKey.TheVariants as key
use Rattle.adr_state.specs.declared.portfolio.Report.{Report}
use Rattle.adr_state.specs.Participants.{participants}
use Rattle.adr_view.specs.declared.view.Content.{Content}
use Rattle.adr_view.specs.Laws.{StandsInOrder}
use Rattle.adr_view.specs.Rollups.{rollup_at}
use Rattle.adr_view.specs.Views.{carries, rows_for, event_rows, program_rows, rows_known, rolled_up}
use Rattle.adr_view.proofs.ListLemmas.{sorted_map}
use Rattle.adr_view.proofs.ShownLemmas.{keys_shown, participants_rise}
use Rattle.adr_view.proofs.ViewLemmas.{by_mark, each_by_mark}
use Rattle.adr_refresh.specs.Sources.{Source, Upstream, Reported, RolledUp, source_cmp, source_of, is_of, reported_rows, rows_of}
use Rattle.adr_refresh.proofs.Common.{All, All-cons, All-head, All-nil, All-tail, Base, CmpEqualImpliesEq, InOrder, IsStrictlySortedBy, at, cond_both, equal_from_is, exact_bytes, exact_unsigned, is_eq, key_order, mirror_cmp, mirror_exact, nat_cmp, nat_cmp_total, nat_list_cmp_total, none_sorted, tied_itself, true≢false, view_cmp, view_exact}
use Rattle.adr_refresh.proofs.MapLemmas.{tied}

pub source_exact : CmpEqualImpliesEq source_cmp
source_exact (Upstream a) (Upstream b) h = ap Upstream (mirror_exact a b h)
source_exact (Upstream a) (Reported n) h = absurd cc
source_exact (Upstream a) (RolledUp b) h = absurd cc
source_exact (Reported m) (Upstream b) h = absurd cc
source_exact (Reported m) (Reported n) h = ap Reported (exact_unsigned m n h)
source_exact (Reported m) (RolledUp b) h = absurd cc
source_exact (RolledUp a) (Upstream b) h = absurd cc
source_exact (RolledUp a) (Reported n) h = absurd cc
source_exact (RolledUp a) (RolledUp b) h = ap RolledUp (exact_bytes a b h)

pub source_itself : (s : Source) → is_eq (source_cmp s s) ≡ true
source_itself (Upstream k) = tied key_order k
source_itself (Reported n) = tied nat_cmp_total n
source_itself (RolledUp id) = tied nat_list_cmp_total id

pub its_source : (s : Source) (q : ViewKey) → is_of s q ≡ true → source_of q ≡ s
its_source s q is = source_exact (source_of q) s (equal_from_is _ is)

-- keys stand as their sources do
pub keys_stand_alike : (j k : ViewKey) → source_cmp (source_of j) (source_of k) ≡ Less → view_cmp j k ≡ Less
keys_stand_alike (key.Program a) (key.Program b) less = less
keys_stand_alike (key.Program a) (key.Event b n) less = refl
keys_stand_alike (key.Program a) (key.Report n) less = refl
keys_stand_alike (key.Program a) (key.Rollup b) less = refl
keys_stand_alike (key.Event a m) (key.Program b) less = absurd cc
keys_stand_alike (key.Event a m) (key.Event b n) less = rw less refl
keys_stand_alike (key.Event a m) (key.Report n) less = refl
keys_stand_alike (key.Event a m) (key.Rollup b) less = refl
keys_stand_alike (key.Report m) (key.Program b) less = absurd cc
keys_stand_alike (key.Report m) (key.Event b n) less = absurd cc
keys_stand_alike (key.Report m) (key.Report n) less = less
keys_stand_alike (key.Report m) (key.Rollup b) less = refl
keys_stand_alike (key.Rollup a) (key.Program b) less = absurd cc
keys_stand_alike (key.Rollup a) (key.Event b n) less = absurd cc
keys_stand_alike (key.Rollup a) (key.Report n) less = absurd cc
keys_stand_alike (key.Rollup a) (key.Rollup b) less = less

-- ---- in order

module _ (base : Base) (stands : StandsInOrder base) where
  program_in_order : (id name : List ℕ) → InOrder view_cmp (program_rows id name)
  unfolding IsStrictlySortedBy
  program_in_order id name = (tt, tt)

  event_in_order : (id : List ℕ) (event : EventBody) → InOrder view_cmp (event_rows base id event)
  event_in_order id event =
      let ps = participants base.portfolio id event in
      let keys : IsStrictlySortedBy view_cmp (map (λ k. key.Event id k) (map (λ p. p.resource) ps)) =
      sorted_map nat_cmp view_cmp (λ k. key.Event id k) (λ m n less. rw (tied_itself nat_list_cmp_total id) less) (map (λ p. p.resource) ps) (participants_rise base stands id event) in
      cond_both (carries event) (rows_for id event ps) [] (InOrder view_cmp) (λ some. subst (IsStrictlySortedBy view_cmp) (sym (keys_shown id event _ 0 ps)) keys) (λ none. none_sorted view_cmp)

  known_in_order : (k : MirrorKey) (known : Option Mark) → InOrder view_cmp (rows_known base k known)
  known_in_order k None = none_sorted view_cmp
  known_in_order k (Some mark) = by_mark base (λ k rows. InOrder view_cmp rows) (λ k. none_sorted view_cmp) program_in_order event_in_order (k, mark)

  reported_in_order : (n : ℕ) (o : Option Report) → InOrder view_cmp (reported_rows n o)
  unfolding IsStrictlySortedBy
  reported_in_order n None = tt
  reported_in_order n (Some r) = (tt, tt)

  rolled_in_order : (id : List ℕ) (o : Option Rollup) → InOrder view_cmp (rolled_up id o)
  unfolding IsStrictlySortedBy
  rolled_in_order id None = tt
  rolled_in_order id (Some r) = (tt, tt)

  pub rows_in_order : (s : Source) → InOrder view_cmp (rows_of base s)
  rows_in_order (Upstream k) = known_in_order k (at mirror_cmp k base.mirror)
  rows_in_order (Reported n) = reported_in_order n (at nat_cmp n base.portfolio.reports)
  rows_in_order (RolledUp id) = rolled_in_order id (rollup_at base.mirror base.portfolio id)

-- ---- at keys of it alone

-- the row is one of this source
abbrev pub IsOwn : Source → ViewKey × Content → Type 0
IsOwn s r = source_of r.0 ≡ s

none_at : (s : Source) (q : ViewKey) (rows : List (ViewKey × Content)) → is_of s q ≡ false → All (IsOwn s) rows → at view_cmp q rows ≡ None
none_at s q [] other own = refl
none_at s q (r ∷ rows) other own = by (is_eq (view_cmp q r.0)) refl (none_at s q rows other (All-tail (IsOwn s) r rows own))
  where
    by : (b : Bool) → is_eq (view_cmp q r.0) ≡ b → at view_cmp q rows ≡ None → cond b (Some r.1) (at view_cmp q rows) ≡ None
    by false is rest = rest
    by true is rest = absurd (true≢false (sym (ap (λ (t : Source). is_eq (source_cmp t s)) (ap source_of (view_exact q r.0 (equal_from_is _ is)) ∙ All-head (IsOwn s) r rows own) ∙ source_itself s) ∙ other))

module _ (base : Base) where
  known_own : (k : MirrorKey) (known : Option Mark) → All (IsOwn (Upstream k)) (rows_known base k known)
  known_own k None = All-nil (IsOwn (Upstream k))
  known_own k (Some mark) = each_by_mark base (λ k r. IsOwn (Upstream k) r) (λ id name. refl) (λ id event splits p. refl) (k, mark)

  reported_own : (n : ℕ) (o : Option Report) → All (IsOwn (Reported n)) (reported_rows n o)
  reported_own n None = All-nil (IsOwn (Reported n))
  reported_own n (Some r) = All-cons (IsOwn (Reported n)) _ [] refl (All-nil (IsOwn (Reported n)))

  rolled_own : (id : List ℕ) (o : Option Rollup) → All (IsOwn (RolledUp id)) (rolled_up id o)
  rolled_own id None = All-nil (IsOwn (RolledUp id))
  rolled_own id (Some r) = All-cons (IsOwn (RolledUp id)) _ [] refl (All-nil (IsOwn (RolledUp id)))

  pub all_own : (s : Source) → All (IsOwn s) (rows_of base s)
  all_own (Upstream k) = known_own k (at mirror_cmp k base.mirror)
  all_own (Reported n) = reported_own n (at nat_cmp n base.portfolio.reports)
  all_own (RolledUp id) = rolled_own id (rollup_at base.mirror base.portfolio id)

  pub rows_own : (s : Source) (q : ViewKey) → is_of s q ≡ false → at view_cmp q (rows_of base s) ≡ None
  rows_own s q other = none_at s q (rows_of base s) other (all_own s)
