-- The numbers of the node, after a put and after some go.
use Rattle.std.proofs.Common.{◌≡◌, ◌+◌, ℕ, Bool, cond, List, length, add-one, sym, ap, ap₂, ◌∙◌, arith, Ordering, Less}
use Rattle.std.specs.Prelude.{is_some}
use Rattle.std.specs.Cmp.{IsTotalOrder}
use Rattle.std.proofs.lemmas.Cmp.{nat_list_cmp_total, on_total, then_total}
use Rattle.adr_db.proofs.Common.{IsAscending, State, at, nat_cmp, nat_cmp_total, share_cmp, insert_entry, Base, Ven, Resource, Report, Sub, ShareKey, ChangePortfolio, changed, PutVen, PutResource, PutShare, PutSub}
use Rattle.adr_state.specs.declared.portfolio.Portfolio.{Portfolio}
use Rattle.adr_state.specs.Portfolios.{PutReport}
use Rattle.adr_db.specs.declared.meta.Meta.{Meta}
use Rattle.adr_db.specs.Bases.{Beside, with_base, kept_beside, HoldsBeside}
use Rattle.adr_db.proofs.Entries.{length_put}
use Rattle.adr_db.proofs.Rises.{vens_rise, resources_rise, shares_rise, reports_rise, subs_rise}
use Rattle.adr_counted.specs.declared.gone.Gone.{Gone}
use Rattle.adr_counted.specs.Gone.{IsGone, IsLess}

-- shares are ordered by program and resource
share_order : IsTotalOrder share_cmp
share_order = then_total (on_total (λ (k : ShareKey). k.program) nat_list_cmp_total) (on_total (λ (k : ShareKey). k.resource) nat_cmp_total)

-- as many as there are, or one more
many : {K V : Type 0} {R : K → K → Ordering} → IsTotalOrder R → (k : K) (v : V) (es : List (K × V)) → IsAscending (λ a b. R a.0 b.0 ≡ Less) es → (is_there : Bool) → is_there ≡ is_some (at R k es)
    → cond is_there (length es) (length es + 1) ≡ length (insert_entry R es k v)
many order k v es up is_there so = ap₂ (λ (b : Bool) (n : ℕ). cond b (length es) n) so (add-one (length es)) ∙ sym (length_put order k v es up)

module _ (beside : Beside) (base : Base) (s : State) (was : HoldsBeside beside base s) (is_there : Bool) (before after : Meta) (same : before ≡ with_base before base) where
  pub ven_counted : (n : ℕ) (ven : Ven) → is_there ≡ is_some (at nat_cmp n base.portfolio.vens) → after ≡ record before { vens = cond is_there before.vens (before.vens + 1) }
      → after ≡ with_base before (changed (ChangePortfolio (PutVen n ven)) base)
  ven_counted n ven so is =
      is ∙ ap (λ (m : Meta). let more : Meta = record m { vens = cond is_there m.vens (m.vens + 1) } in more) same
      ∙ ap (λ (k : ℕ). let more : Meta = record (with_base before base) { vens = k } in more) (many nat_cmp_total n ven base.portfolio.vens (vens_rise (kept_beside beside base) s was) is_there so)

  pub resource_counted : (n : ℕ) (resource : Resource) → is_there ≡ is_some (at nat_cmp n base.portfolio.resources) → after ≡ record before { resources = cond is_there before.resources (before.resources + 1) }
      → after ≡ with_base before (changed (ChangePortfolio (PutResource n resource)) base)
  resource_counted n resource so is =
      is ∙ ap (λ (m : Meta). let more : Meta = record m { resources = cond is_there m.resources (m.resources + 1) } in more) same
      ∙ ap (λ (k : ℕ). let more : Meta = record (with_base before base) { resources = k } in more) (many nat_cmp_total n resource base.portfolio.resources (resources_rise (kept_beside beside base) s was) is_there so)

  pub share_counted : (key : ShareKey) (weight : ℕ) → is_there ≡ is_some (at share_cmp key base.portfolio.shares) → after ≡ record before { shares = cond is_there before.shares (before.shares + 1) }
      → after ≡ with_base before (changed (ChangePortfolio (PutShare key weight)) base)
  share_counted key weight so is =
      is ∙ ap (λ (m : Meta). let more : Meta = record m { shares = cond is_there m.shares (m.shares + 1) } in more) same
      ∙ ap (λ (k : ℕ). let more : Meta = record (with_base before base) { shares = k } in more) (many share_order key weight base.portfolio.shares (shares_rise (kept_beside beside base) s was) is_there so)

  pub report_counted : (n : ℕ) (report : Report) → is_there ≡ is_some (at nat_cmp n base.portfolio.reports) → after ≡ record before { reports = cond is_there before.reports (before.reports + 1) }
      → after ≡ with_base before (changed (ChangePortfolio (PutReport n report)) base)
  report_counted n report so is =
      is ∙ ap (λ (m : Meta). let more : Meta = record m { reports = cond is_there m.reports (m.reports + 1) } in more) same
      ∙ ap (λ (k : ℕ). let more : Meta = record (with_base before base) { reports = k } in more) (many nat_cmp_total n report base.portfolio.reports (reports_rise (kept_beside beside base) s was) is_there so)

  pub sub_counted : (n : ℕ) (sub : Sub) → is_there ≡ is_some (at nat_cmp n base.portfolio.subs) → after ≡ record before { subs = cond is_there before.subs (before.subs + 1) }
      → after ≡ with_base before (changed (ChangePortfolio (PutSub n sub)) base)
  sub_counted n sub so is =
      is ∙ ap (λ (m : Meta). let more : Meta = record m { subs = cond is_there m.subs (m.subs + 1) } in more) same
      ∙ ap (λ (k : ℕ). let more : Meta = record (with_base before base) { subs = k } in more) (many nat_cmp_total n sub base.portfolio.subs (subs_rise (kept_beside beside base) s was) is_there so)

-- where so many go of the portfolio, and the numbers say so many less, they are those of the base after it
less_is : (l m n k g : ℕ) → l + g ≡ m → m ≡ n → k + g ≡ n → l ≡ k
less_is l m n k g says same goes = omega (arith, says, same, goes)

pub gone_counted : (gone : Gone) (base : Base) (next : Portfolio) (before after : Meta) → before ≡ with_base before base → IsGone gone base.portfolio next → IsLess gone before after → after ≡ with_base before (record base { portfolio = next })
gone_counted gone base next before after same goes less =
    let vens = less_is after.vens before.vens (length base.portfolio.vens) (length next.vens) gone.vens less.vens (ap (λ (m : Meta). m.vens) same) goes.vens in
    let resources = less_is after.resources before.resources (length base.portfolio.resources) (length next.resources) gone.resources less.resources (ap (λ (m : Meta). m.resources) same) goes.resources in
    let shares = less_is after.shares before.shares (length base.portfolio.shares) (length next.shares) gone.shares less.shares (ap (λ (m : Meta). m.shares) same) goes.shares in
    let reports = less_is after.reports before.reports (length base.portfolio.reports) (length next.reports) gone.reports less.reports (ap (λ (m : Meta). m.reports) same) goes.reports in
    let subs = less_is after.subs before.subs (length base.portfolio.subs) (length next.subs) gone.subs less.subs (ap (λ (m : Meta). m.subs) same) goes.subs in
    let frozen = less_is after.frozen before.frozen (length base.portfolio.frozen_shares) (length next.frozen_shares) gone.frozen less.frozen (ap (λ (m : Meta). m.frozen) same) goes.frozen in
    less.others ∙ (λ i. let now : Meta = record (same i) { vens = vens i; resources = resources i; shares = shares i; reports = reports i; subs = subs i; frozen = frozen i } in now)
