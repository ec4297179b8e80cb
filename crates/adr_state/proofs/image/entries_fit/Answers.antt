use Rattle.std.proofs.Common.{ap₂, sym, ◌∙◌}
use Rattle.std.specs.Prelude.{◌&&◌}
use Rattle.std.proofs.lemmas.Bool.{and_parts}
use Rattle.adr_state.proofs.LeaseLemmas.{few_from, few_to}
use Rattle.adr_state.proofs.image.entries_fit.Goals as goal

pub returns : goal.returns
returns c = (
  λ all.
      let two = and_parts _ _ all in
      record { rows = c.is_within-few.ensures.0 two.0; leases = few_from c.args.entries.now (sym c.have_few_leases-few_leases.ensures ∙ two.1) },
  λ fit. ap₂ ◌&&◌ (c.is_within-few.ensures.1 fit.rows) (c.have_few_leases-few_leases.ensures ∙ few_to c.args.entries.now fit.leases),
)
