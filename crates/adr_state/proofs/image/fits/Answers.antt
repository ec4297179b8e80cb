use Rattle.std.proofs.Common.{ap₂, subst, IsTrue, ◌↔◌}
use Rattle.std.proofs.lemmas.Bool.{and_parts}
use Rattle.std.specs.Prelude.{◌&&◌}
use Rattle.std.specs.declared.cmp.Ordering.{Ordering}
use Rattle.adr_state.specs.declared.keys.MirrorKey.{MirrorKey}
use Rattle.adr_state.specs.Fitting.{IsMap}
use Rattle.adr_state.proofs.KeyLemmas.{mirror_order}
use Rattle.adr_state.proofs.image.fits.Goals as goal

pub returns : goal.returns
returns c =
    let mirror = subst (λ (cmp : MirrorKey → MirrorKey → Ordering). IsTrue c.is_within-mirror.result ↔ IsMap cmp 100_000 c.args.state.now.base.mirror) mirror_order c.is_within-mirror.ensures in (
      λ all.
          let two = and_parts _ _ all in
          let one = and_parts _ _ two.0 in
          record { sites = c.sites_fit-sites.ensures.0 one.0; mirror = mirror.0 one.1; entries = c.entries_fit-entries.ensures.0 two.1; serial = c.get-drawn.ensures.within },
      λ fit. ap₂ ◌&&◌ (ap₂ ◌&&◌ (c.sites_fit-sites.ensures.1 fit.sites) (mirror.1 fit.mirror)) (c.entries_fit-entries.ensures.1 fit.entries),
    )
