use Rattle.std.proofs.Common.{◌∙◌, ap}
use Rattle.std.proofs.lemmas.Result.{IfOk-weaker}
use Rattle.serde_json.specs.Written.{has_float, compact_text}
use Rattle.adr_subscription.specs.Kept.{kept_text, kept_of}
use Rattle.adr_subscription.proofs.KeptTexts.{sub_whole, kept_reads_back}
use Rattle.adr_subscription.proofs.kept.kept_text.Goals as goal

pub returns-clause-text : goal.returns-clause-text
unfolding kept_text
returns-clause-text c =
    let value = c.in_ok-to_json.ensures.value in
    let whole = ap has_float value ∙ sub_whole c.args.sub.now c.in_ok-to_json.ensures.kept in
    IfOk-weaker c.to_string.result _ _ (λ s text. text whole ∙ ap compact_text value) c.to_string.ensures.text

pub returns-clause-reads_back : goal.returns-clause-reads_back
returns-clause-reads_back c =
    IfOk-weaker c.to_string.result _ _ (λ s text. ap kept_of text ∙ kept_reads_back c.args.sub.now c.in_ok-to_json.ensures.kept) (returns-clause-text c)
