use Rattle.std.proofs.Common.{◌∙◌, sym, subst, rules}
use Rattle.std.proofs.lemmas.Int.{to_z-of_z}
use Rattle.std.proofs.lemmas.Result.{IfOk-weaker}
use Rattle.std.specs.Int.{w64}
use Rattle.adr_split.specs.FairSplit.{IsFairSplit}
use Rattle.adr_split.proofs.ClaimLemmas.{one_claim_a_place}
use Rattle.adr_split.proofs.FairLemmas.{fair_split_is_fair, split_by_steps, weights_from}
use Rattle.adr_split.proofs.split.Goals as goal

pub at_rank-first_unserved-requires-clause-one_claim_a_place :
    goal.at_rank-first_unserved-requires-clause-one_claim_a_place
at_rank-first_unserved-requires-clause-one_claim_a_place c =
    rw (c.in_ok-claims.ensures.value) (one_claim_a_place c.unsigned_abs-amount.result c.total_of-total.result c.args.shares.now)

pub returns-clause-computed : goal.returns-clause-computed
returns-clause-computed c =
    let same = split_by_steps c.args.setpoint _ c.args.shares.now c.unsigned_abs-amount.result c.total_of-total.result c.missing-missing.result c.in_ok-claims.claims.items c.at_rank-first_unserved.result
    (to_z-of_z w64 c.args.setpoint c.ranges.setpoint) (search rules) c.total_of-total.ensures c.missing-missing.ensures.value c.in_ok-claims.ensures.value c.at_rank-first_unserved.ensures in
    IfOk-weaker c.all_parts.result _ _ (λ parts made. made ∙ same) c.all_parts.ensures

pub returns-clause-fair : goal.returns-clause-fair
returns-clause-fair c =
    IfOk-weaker c.all_parts.result _ _ (λ parts same. subst (IsFairSplit c.args.setpoint c.args.shares.now) (sym same) (fair_split_is_fair c.args.setpoint c.args.shares.now (weights_from c.args.shares.now c.requires.at_least_one_share c.requires.shares_in_range))) (returns-clause-computed c)
