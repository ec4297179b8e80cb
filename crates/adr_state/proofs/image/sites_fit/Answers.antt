use Rattle.std.proofs.Common.{ap₂, subst, ℕ, List, IsTrue, ◌↔◌}
use Rattle.std.proofs.lemmas.Bool.{and_parts}
use Rattle.std.specs.Prelude.{◌&&◌}
use Rattle.std.specs.Ordering.{nat_cmp}
use Rattle.adr_state.specs.declared.portfolio.Resource.{Resource}
use Rattle.adr_state.specs.Fitting.{IsMap}
use Rattle.adr_state.proofs.image.sites_fit.Goals as goal

pub returns : goal.returns
returns c = let resources = subst (λ (rows : List (ℕ × Resource)). IsTrue c.is_within-resources.result ↔ IsMap nat_cmp 10_000 rows) c.rows.ensures c.is_within-resources.ensures in (
  λ all.
      let five = and_parts _ _ all in
      let four = and_parts _ _ five.0 in
      let three = and_parts _ _ four.0 in
      let two = and_parts _ _ three.0 in
      let one = and_parts _ _ two.0 in
      record {
        vens = c.is_within-vens.ensures.0 one.0;
        resources = resources.0 one.1;
        shares = c.is_within-shares.ensures.0 two.1;
        reports = c.is_within-reports.ensures.0 three.1;
        subs = c.is_within-subs.ensures.0 four.1;
        frozen = c.are_in_order.ensures;
        frozen_shares = c.is_within-frozen_shares.ensures.0 five.1;
      },
  λ fit.
      let one = ap₂ ◌&&◌ (c.is_within-vens.ensures.1 fit.vens) (resources.1 fit.resources) in
      let two = ap₂ ◌&&◌ one (c.is_within-shares.ensures.1 fit.shares) in
      let three = ap₂ ◌&&◌ two (c.is_within-reports.ensures.1 fit.reports) in
      let four = ap₂ ◌&&◌ three (c.is_within-subs.ensures.1 fit.subs) in
      ap₂ ◌&&◌ four (c.is_within-frozen_shares.ensures.1 fit.frozen_shares),
)
