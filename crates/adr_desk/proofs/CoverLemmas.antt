-- What is decided of vens, resources and shares is covered by what was asked before.
use Rattle.std.proofs.Common.{◌≡◌, ℕ, Bool, true, false, cond, ◌==◌, ◌&&◌, nat_lt, List, [], Option, Some, None, Result, Ok, Err, IfOk, refl, sym, ap, subst, ◌∙◌}
use Rattle.std.specs.Prelude.{option_map, option_and_then, IfSome, IsSomeAnd}
use Rattle.std.specs.Ordering.{nat_cmp}
use Rattle.adr_text.specs.Refusals.{◌>>=◌, or_else}
use Rattle.adr_text.specs.declared.refusal.Refusal.{Refusal}
use Rattle.adr_text.specs.declared.refusal.Refusal.TheVariants.{NotFound, Forbidden, LimitReached, BadShare}
use Rattle.adr_objects.specs.declared.shown.VenObject.{VenObject}
use Rattle.adr_objects.specs.declared.shown.ResourceObject.{ResourceObject}
use Rattle.adr_objects.specs.declared.shown.ShareObject.{ShareObject}
use Rattle.adr_state.specs.declared.base.Base.{Base}
use Rattle.adr_state.specs.declared.limits.Limits.{Limits}
use Rattle.adr_state.specs.declared.keys.ShareKey.{ShareKey}
use Rattle.adr_state.specs.declared.portfolio.Portfolio.{Portfolio}
use Rattle.adr_state.specs.declared.portfolio.Resource.{Resource}
use Rattle.adr_state.specs.declared.portfolio.Ven.{Ven}
use Rattle.adr_state.specs.BaseChanges.{ChangePortfolio}
use Rattle.adr_state.specs.Digits.{number_in}
use Rattle.adr_state.specs.Keys.{at}
use Rattle.adr_state.specs.Names.{if_new, if_free, is_full, is_taken, is_taken_by_another, resource_name, ven_name}
use Rattle.adr_state.specs.Portfolios.{PortfolioChange, DropVen, DropResource, PutShare, DropShare, PutReport, DropReport, PutSub, DropSub}
use Rattle.adr_state.specs.Resources.{is_under, putting_resource, resource_add, resource_at, resource_object, resource_put, resource_remove, resource_under, resource_with_id}
use Rattle.adr_state.specs.Shares.{is_beyond, share_object, share_of, share_set, weight_set}
use Rattle.adr_state.specs.Stamping.{fresh, modified_at}
use Rattle.adr_state.specs.Vens.{putting_ven, ven_add, ven_at, ven_object, ven_put, ven_remove, ven_with_id}
use Rattle.adr_state.specs.Weights.{most_weight}
use Rattle.adr_refresh.specs.Touched.{touched as touched_by}
use Rattle.adr_refresh.proofs.FreezeLemmas.{freezing_touches_none}
use Rattle.adr_touched.specs.declared.touched.Touched.{Touched}
use Rattle.adr_kept_view.specs.declared.object.OldObject.{OldObject}
use Rattle.adr_kept_view.specs.declared.object.ObjectKey.TheVariants as object
use Rattle.adr_touched.specs.Touched.{Covers, CoversReport, CoversResource, CoversShares, CoversVen, CoversWhatTouchesNothing, StoodAt}
use Rattle.adr_objects.specs.declared.site.ReportIn.{ReportIn}
use Rattle.adr_subscription.specs.declared.kept_sub.Sub.{Sub}
use Rattle.adr_subscription.specs.declared.object.SubObject.{SubObject}
use Rattle.adr_subscription.specs.declared.subscription.SubIn.{SubIn}
use Rattle.adr_state.specs.declared.base.Mark.{Mark}
use Rattle.adr_state.specs.declared.keys.MirrorKey.{MirrorKey}
use Rattle.adr_state.specs.declared.portfolio.Report.{Report}
use Rattle.adr_state.specs.Subs.{putting_sub, sub_post, sub_removed, sub_replaced}
use Rattle.adr_view.specs.declared.sight.Sight.{Sight}
use Rattle.adr_view.specs.Frozen.{freeze}
use Rattle.adr_view.specs.Reports.{kept_report, may_change, may_report, putting_report, report_delete, report_made, report_on, report_post, report_put, report_removed, report_replaced, report_with_id}
use Rattle.adr_view.specs.Subs.{sub_delete, sub_in_sight, sub_put}

-- what is put where it is free, or new, is what was to be put
free_is : {X : Type 0} (taken : Bool) (x y : X) → if_free taken x ≡ Ok y → x ≡ y
free_is true x y is = absurd (cc is)
free_is false x y is = cc is

new_is : {X : Type 0} (taken full : Bool) (x y : X) → if_new taken full x ≡ Ok y → x ≡ y
new_is true full x y is = absurd (cc is)
new_is false true x y is = absurd (cc is)
new_is false false x y is = cc is

-- what has an id has the number of that
with_number : {V : Type 0} (o : Option ℕ) (f : ℕ → Option V) (v : ℕ × V) → option_and_then (λ n. option_map (λ x. (n, x)) (f n)) o ≡ Some v → o ≡ Some v.0
with_number None f v is = absurd (cc is)
with_number {V = V} (Some n) f v is = by (f n) is
  where
    by : (found : Option V) → option_map (λ x. (n, x)) found ≡ Some v → Some n ≡ Some v.0
    by None is = absurd (cc is)
    by (Some x) is = ap (option_map (λ (w : ℕ × V). w.0)) is

-- what follows of what was found
then_is : {A B : Type 0} (o : Option A) (next : A → Result B Refusal) (y : B) → (or_else NotFound o >>= next) ≡ Ok y → (x : A) × (o ≡ Some x) × (next x ≡ Ok y)
then_is None next y is = absurd (cc is)
then_is (Some x) next y is = (x, refl, is)

module _ (touched : Touched) (base : Base) where
  abbrev Covered : PortfolioChange → Type 0
  Covered change = Covers (ChangePortfolio change) base touched

  module _ (p : Portfolio) (change : PortfolioChange) where
    pub ven_add_covers : (limits : Limits) (now n : ℕ) (name : List ℕ) (x : VenObject) → ven_add limits now n name p ≡ Ok (x, change) → CoversVen n base touched → Covered change
    ven_add_covers limits now n name x is covers =
        let ven : Ven = record { name = name; stamps = fresh now } in
        let same = new_is (is_taken ven_name name p.vens) (is_full limits.vens p.vens) (putting_ven n ven) (x, change) is in
        subst Covered (ap (λ (d : VenObject × PortfolioChange). d.1) same) (covers ven)

    pub ven_put_covers : (now : ℕ) (id name : List ℕ) (x : VenObject) → ven_put now id name p ≡ Ok (x, change) → ((n : ℕ) → number_in 118 id ≡ Some n → CoversVen n base touched) → Covered change
    ven_put_covers now id name x is covers =
        let put : ℕ × Ven → Ven = λ v. record { name = name; stamps = modified_at now v.1.stamps } in
        let found = then_is (ven_with_id id p) (λ v. if_free (is_taken_by_another ven_name v.0 name p.vens) (putting_ven v.0 (put v))) (x, change) is in
        let v = found.0 in
        let same = free_is (is_taken_by_another ven_name v.0 name p.vens) (putting_ven v.0 (put v)) (x, change) found.2 in
        subst Covered (ap (λ (d : VenObject × PortfolioChange). d.1) same) (covers v.0 (with_number (number_in 118 id) (λ n. at nat_cmp n p.vens) v found.1) (put v))

    pub ven_remove_covers : (id : List ℕ) (x : VenObject) → ven_remove id p ≡ Ok (x, change) → ((n : ℕ) → number_in 118 id ≡ Some n → Covered (DropVen n)) → Covered change
    ven_remove_covers id x is covers =
        let found = then_is (ven_with_id id p) (λ v. Ok (ven_object v, DropVen v.0)) (x, change) is in
        let v = found.0 in
        let same : (ven_object v, DropVen v.0) ≡ (x, change) = cc found.2 in
        subst Covered (ap (λ (d : VenObject × PortfolioChange). d.1) same) (covers v.0 (with_number (number_in 118 id) (λ n. at nat_cmp n p.vens) v found.1))

    pub resource_add_covers : (limits : Limits) (now n : ℕ) (ven name : List ℕ) (x : ResourceObject) → resource_add limits now n ven name p ≡ Ok (x, change) → CoversResource n base touched → Covered change
    resource_add_covers limits now n ven name x is covers =
        let put : ℕ → Resource = λ v. record { ven = v; name = name; stamps = fresh now } in
        let found = then_is (ven_at ven p) (λ v. if_new (is_taken resource_name name p.resources) (is_full limits.resources p.resources) (putting_resource n (put v))) (x, change) is in
        let same = new_is (is_taken resource_name name p.resources) (is_full limits.resources p.resources) (putting_resource n (put found.0)) (x, change) found.2 in
        subst Covered (ap (λ (d : ResourceObject × PortfolioChange). d.1) same) (covers (put found.0))

    -- a resource under a ven has the number of its id
    under_number : (ven id : List ℕ) (r : ℕ × Resource) → resource_under ven id p ≡ Some r → number_in 114 id ≡ Some r.0
    under_number ven id r is = by (resource_with_id id p) refl
      where
        by : (o : Option (ℕ × Resource)) → resource_with_id id p ≡ o → number_in 114 id ≡ Some r.0
        by None was = let two : ◌≡◌ {A = Option (ℕ × Resource)} None (Some r) = sym (ap (option_and_then (λ r. cond (is_under ven p r.1) (Some r) None)) was) ∙ is in absurd (cc two)
        by (Some s) was = at_it (is_under ven p s.1) (sym (ap (option_and_then (λ r. cond (is_under ven p r.1) (Some r) None)) was) ∙ is)
          where
            at_it : (b : Bool) → cond b (Some s) None ≡ Some r → number_in 114 id ≡ Some r.0
            at_it false no_one = absurd (cc no_one)
            at_it true same = with_number (number_in 114 id) (λ n. at nat_cmp n p.resources) r (was ∙ same)

    pub resource_put_covers : (now : ℕ) (ven id name : List ℕ) (x : ResourceObject) → resource_put now ven id name p ≡ Ok (x, change) → ((n : ℕ) → number_in 114 id ≡ Some n → CoversResource n base touched) → Covered change
    resource_put_covers now ven id name x is covers =
        let put : ℕ × Resource → Resource = λ r. record { ven = r.1.ven; name = name; stamps = modified_at now r.1.stamps } in
        let found = then_is (resource_under ven id p) (λ r. if_free (is_taken_by_another resource_name r.0 name p.resources) (putting_resource r.0 (put r))) (x, change) is in
        let r = found.0 in
        let same = free_is (is_taken_by_another resource_name r.0 name p.resources) (putting_resource r.0 (put r)) (x, change) found.2 in
        subst Covered (ap (λ (d : ResourceObject × PortfolioChange). d.1) same) (covers r.0 (under_number ven id r found.1) (put r))

    pub resource_remove_covers : (ven id : List ℕ) (x : ResourceObject) → resource_remove ven id p ≡ Ok (x, change) → ((n : ℕ) → number_in 114 id ≡ Some n → Covered (DropResource n)) → Covered change
    resource_remove_covers ven id x is covers =
        let found = then_is (resource_under ven id p) (λ r. Ok (resource_object r, DropResource r.0)) (x, change) is in
        let r = found.0 in
        let same : (resource_object r, DropResource r.0) ≡ (x, change) = cc found.2 in
        subst Covered (ap (λ (d : ResourceObject × PortfolioChange). d.1) same) (covers r.0 (under_number ven id r found.1))

    pub share_set_covers : (limits : Limits) (program resource : List ℕ) (weight : ℕ) (x : ShareObject) → share_set limits program resource weight p ≡ Ok (x, change) → CoversShares program base touched → Covered change
    share_set_covers limits program resource weight x is covers =
        let key : ℕ → ShareKey = λ n. record { program = program; resource = n } in
        let found = then_is (resource_at resource p) (λ n. share_of limits (key n) weight p) (x, change) is in
        by_weight (key found.0) refl (nat_lt most_weight weight) found.2
      where
        told : ShareKey → PortfolioChange → Result (ShareObject × PortfolioChange) Refusal
        told k c = Ok (share_object (k, weight), c)

        set_is : (k : ShareKey) → k.program ≡ program → (zero beyond : Bool) → (cond zero (Ok (DropShare k)) (cond beyond (Err LimitReached) (Ok (PutShare k weight))) >>= told k) ≡ Ok (x, change) → Covered change
        set_is k its true beyond is = let same : (share_object (k, weight), DropShare k) ≡ (x, change) = cc is in subst Covered (ap (λ (d : ShareObject × PortfolioChange). d.1) same) (covers.dropped k its)
        set_is k its false true is = absurd (cc is)
        set_is k its false false is = let same : (share_object (k, weight), PutShare k weight) ≡ (x, change) = cc is in subst Covered (ap (λ (d : ShareObject × PortfolioChange). d.1) same) (covers.put k weight its)

        by_weight : (k : ShareKey) → k.program ≡ program → (over : Bool) → cond over (Err BadShare) (weight_set limits k weight p >>= told k) ≡ Ok (x, change) → Covered change
        by_weight k its true is = absurd (cc is)
        by_weight k its false is = set_is k its (weight == 0) (is_beyond limits k p.shares) is

-- ---- subscriptions, which nothing that is shown hangs on

-- what follows of what went well
went_is : {A B : Type 0} (r : Result A Refusal) (next : A → Result B Refusal) (y : B) → (r >>= next) ≡ Ok y → (x : A) × (r ≡ Ok x) × (next x ≡ Ok y)
went_is (Err e) next y is = absurd (cc is)
went_is (Ok x) next y is = (x, refl, is)

-- what is told only where it is so
where_is : {A : Type 0} (b : Bool) (e : Refusal) (r : Result A Refusal) (y : A) → cond b r (Err e) ≡ Ok y → r ≡ Ok y
where_is true e r y is = is
where_is false e r y is = absurd (cc is)

-- and only where it is not
unless_is : {A : Type 0} (b : Bool) (e : Refusal) (r : Result A Refusal) (y : A) → cond b (Err e) r ≡ Ok y → r ≡ Ok y
unless_is true e r y is = absurd (cc is)
unless_is false e r y is = is

module _ (touched : Touched) (none : CoversWhatTouchesNothing touched) (base : Base) (change : PortfolioChange) where
  put_covers : (n : ℕ) (sub : Sub) → PutSub n sub ≡ change → Covered touched base change
  put_covers n sub is = subst (Covered touched base) is (none (ChangePortfolio (PutSub n sub)) base refl)

  pub sub_post_covers : (limits : Limits) (now n : ℕ) (owner : Option ℕ) (body : SubIn) (p : Portfolio) (x : SubObject) → sub_post limits now n owner body p ≡ Ok (x, change) → Covered touched base change
  sub_post_covers limits now n owner body p x is =
      let sub : Sub = record { owner = owner; body = body; stamps = fresh now } in
      let same : putting_sub n sub ≡ (x, change) = cc (unless_is (is_full limits.subs p.subs) LimitReached (Ok (putting_sub n sub)) (x, change) is) in
      put_covers n sub (ap (λ (d : SubObject × PortfolioChange). d.1) same)

  pub sub_put_covers : (sight : Sight) (now : ℕ) (id : List ℕ) (body : SubIn) (p : Portfolio) (x : SubObject) → sub_put sight now id body p ≡ Ok (x, change) → Covered touched base change
  sub_put_covers sight now id body p x is =
      let found = went_is (sub_in_sight sight id p) (λ s. Ok (sub_replaced now body s)) (x, change) is in
      let same : sub_replaced now body found.0 ≡ (x, change) = cc found.2 in
      put_covers found.0.0 _ (ap (λ (d : SubObject × PortfolioChange). d.1) same)

  pub sub_delete_covers : (sight : Sight) (id : List ℕ) (p : Portfolio) (x : SubObject) → sub_delete sight id p ≡ Ok (x, change) → Covered touched base change
  sub_delete_covers sight id p x is =
      let found = went_is (sub_in_sight sight id p) (λ s. Ok (sub_removed s)) (x, change) is in
      let same : sub_removed found.0 ≡ (x, change) = cc found.2 in
      subst (Covered touched base) (ap (λ (d : SubObject × PortfolioChange). d.1) same) (none (ChangePortfolio (DropSub found.0.0)) base refl)

-- ---- an event that is frozen, by which nothing that is shown changes

pub freeze_covers : (touched : Touched) → CoversWhatTouchesNothing touched → (limits : Limits) (id : List ℕ) (base : Base) (x : List (ℕ × ℕ)) (change : PortfolioChange) → freeze limits id base.mirror base.portfolio ≡ Ok (x, change) → Covers (ChangePortfolio change) base touched
freeze_covers touched none limits id base x change is =
    none (ChangePortfolio change) base (subst (λ (r : Result (List (ℕ × ℕ) × PortfolioChange) Refusal). IfOk r (λ d. touched_by (ChangePortfolio d.1) base ≡ [])) is (freezing_touches_none limits id base))

-- ---- reports

-- a new report is put under the number that is handed in
pub post_puts : (limits : Limits) (sight : Sight) (n : ℕ) (report : ReportIn) (mirror : List (MirrorKey × Mark)) (p : Portfolio) (x : ℕ × Report) (change : PortfolioChange)
    → report_post limits sight n report mirror p ≡ Ok (x, change) → (n ≡ x.0) × (PutReport x.0 x.1 ≡ change)
post_puts limits sight n report mirror p x change is =
    let made = where_is (may_report sight report p) Forbidden (report_made limits n report mirror p) (x, change) is in
    let on = went_is (report_on report mirror p) (λ on. cond (is_full limits.reports p.reports) (Err LimitReached) (Ok (putting_report n (kept_report n on report)))) (x, change) made in
    let same : putting_report n (kept_report n on.0 report) ≡ (x, change) = cc (unless_is (is_full limits.reports p.reports) LimitReached (Ok (putting_report n (kept_report n on.0 report))) (x, change) on.2) in
    (ap (λ (d : (ℕ × Report) × PortfolioChange). d.0.0) same, (λ i. PutReport (sym same i).0.0 (sym same i).0.1) ∙ ap (λ (d : (ℕ × Report) × PortfolioChange). d.1) same)

-- another under that of its id
pub put_puts : (sight : Sight) (revision : ℕ) (id : List ℕ) (report : ReportIn) (mirror : List (MirrorKey × Mark)) (p : Portfolio) (x : ℕ × Report) (change : PortfolioChange)
    → report_put sight revision id report mirror p ≡ Ok (x, change) → (number_in 112 id ≡ Some x.0) × (PutReport x.0 x.1 ≡ change)
put_puts sight revision id report mirror p x change is =
    let made = where_is (may_change sight id p && may_report sight report p) Forbidden (report_replaced revision id report mirror p) (x, change) is in
    let found = then_is (report_with_id id p) (λ old. report_on report mirror p >>= λ on. Ok (putting_report old.0 (kept_report revision on report))) (x, change) made in
    let on = went_is (report_on report mirror p) (λ on. Ok (putting_report found.0.0 (kept_report revision on report))) (x, change) found.2 in
    let same : putting_report found.0.0 (kept_report revision on.0 report) ≡ (x, change) = cc on.2 in (
      with_number (number_in 112 id) (λ n. at nat_cmp n p.reports) found.0 found.1 ∙ ap (λ (d : (ℕ × Report) × PortfolioChange). Some d.0.0) same,
      (λ i. PutReport (sym same i).0.0 (sym same i).0.1) ∙ ap (λ (d : (ℕ × Report) × PortfolioChange). d.1) same,
    )

-- and that of its id goes
pub delete_drops : (sight : Sight) (id : List ℕ) (p : Portfolio) (x : ℕ × Report) (change : PortfolioChange) → report_delete sight id p ≡ Ok (x, change) → (number_in 112 id ≡ Some x.0) × (DropReport x.0 ≡ change)
delete_drops sight id p x change is =
    let made = where_is (may_change sight id p) Forbidden (report_removed id p) (x, change) is in
    let found = then_is (report_with_id id p) (λ old. Ok (old, DropReport old.0)) (x, change) made in
    let same : (found.0, DropReport found.0.0) ≡ (x, change) = cc found.2 in (
      with_number (number_in 112 id) (λ n. at nat_cmp n p.reports) found.0 found.1 ∙ ap (λ (d : (ℕ × Report) × PortfolioChange). Some d.0.0) same,
      (λ i. DropReport (sym same i).0.0) ∙ ap (λ (d : (ℕ × Report) × PortfolioChange). d.1) same,
    )

-- what stood at the key of a report covers that it is put on this event
pub put_is_covered : (stood : Option OldObject) (event : Option (List ℕ)) (touched : Touched) → IfSome stood (λ old. CoversReport old event touched) → (base : Base) (n : ℕ) (report : Report) → IsSomeAnd stood (StoodAt (object.Report n) base) → event ≡ Some report.body.head.event
    → Covers (ChangePortfolio (PutReport n report)) base touched
put_is_covered None event touched covers base n report at_it on = absurd at_it
put_is_covered (Some old) event touched covers base n report at_it on = covers.put base n report at_it.key at_it.stood on

-- and that it goes
pub drop_is_covered : (stood : Option OldObject) (event : Option (List ℕ)) (touched : Touched) → IfSome stood (λ old. CoversReport old event touched) → (base : Base) (n : ℕ) → IsSomeAnd stood (StoodAt (object.Report n) base) → Covers (ChangePortfolio (DropReport n)) base touched
drop_is_covered None event touched covers base n at_it = absurd at_it
drop_is_covered (Some old) event touched covers base n at_it = covers.dropped base n at_it.key at_it.stood
