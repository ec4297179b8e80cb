use Rattle.std.proofs.Common.{◌∙◌, ap}
use Rattle.std.proofs.lemmas.Result.{IfOk-weaker}
use Rattle.serde_json.specs.Written.{has_float, compact_text}
use Rattle.adr_shown.specs.RollupTexts.{kept_rollup_text}
use Rattle.adr_shown.specs.ReadRollups.{kept_rollup_of}
use Rattle.adr_shown.proofs.RollupLemmas.{rollup_whole, rollup_text_reads_back}
use Rattle.adr_shown.proofs.rolled_up.write_rolled_up.Goals as goal

pub returns-clause-text : goal.returns-clause-text
unfolding kept_rollup_text
returns-clause-text c =
    let kept = c.in_ok-rollup_value.ensures in
    let whole = ap has_float kept.value ∙ rollup_whole c.args.id.now c.args.rollup.now kept.kept in
    IfOk-weaker c.to_string.result _ _ (λ s text. text whole ∙ ap compact_text kept.value) c.to_string.ensures.text

pub returns-clause-reads_back : goal.returns-clause-reads_back
returns-clause-reads_back c =
    let kept = c.in_ok-rollup_value.ensures in
    IfOk-weaker c.to_string.result _ _ (λ s text. ap kept_rollup_of text ∙ rollup_text_reads_back c.args.id.now c.args.rollup.now kept.id kept.kept) (returns-clause-text c)
