use Rattle.std.proofs.Common.{◌∙◌, ap}
use Rattle.std.proofs.lemmas.Result.{IfOk-weaker}
use Rattle.serde_json.specs.Written.{has_float, compact_text}
use Rattle.adr_objects.specs.Canonical.{canonical_text}
use Rattle.adr_objects.specs.ReadBack.{canonical_of}
use Rattle.adr_objects.proofs.RoundTrips.{body_whole, canonical_reads_back}
use Rattle.adr_objects.proofs.write_body.canonical.Goals as goal

pub returns-clause-text : goal.returns-clause-text
unfolding canonical_text
returns-clause-text c =
    let value = c.in_ok-to_json.ensures.value in
    let whole = ap has_float value ∙ body_whole c.args.body.now c.in_ok-to_json.ensures.kept in
    IfOk-weaker c.to_string.result _ _ (λ s text. text whole ∙ ap compact_text value) c.to_string.ensures.text

pub returns-clause-reads_back : goal.returns-clause-reads_back
returns-clause-reads_back c =
    IfOk-weaker c.to_string.result _ _ (λ s text. ap canonical_of text ∙ canonical_reads_back c.args.body.now c.in_ok-to_json.ensures.kept) (returns-clause-text c)
