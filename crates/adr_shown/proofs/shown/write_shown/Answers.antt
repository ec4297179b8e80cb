use Rattle.std.proofs.Common.{◌∙◌, ap}
use Rattle.json.specs.Print.{print}
use Rattle.adr_shown.specs.Tokens.{shown_behind}
use Rattle.adr_shown.specs.ReadShown.{shown_of}
use Rattle.adr_shown.proofs.ShownLemmas.{shown_text_reads_back}
use Rattle.adr_shown.proofs.TokenLemmas.{shown_printed}
use Rattle.adr_shown.proofs.shown.write_shown.Goals as goal

pub text_of-requires : goal.text_of-requires
text_of-requires c = c.in_ok-put_shown.ensures.has.0 ∙ c.new-out.ensures.before ∙ c.in_ok-with_capacity.ensures.items

pub returns-clause-text : goal.returns-clause-text
returns-clause-text c =
    let tokens = c.in_ok-put_shown.ensures.has.1 ∙ ap (shown_behind c.args.event.now) c.new-out.ensures.tokens in
    c.text_of.ensures ∙ ap print tokens ∙ shown_printed c.args.event.now

pub returns-clause-reads_back : goal.returns-clause-reads_back
returns-clause-reads_back c = ap shown_of (returns-clause-text c) ∙ shown_text_reads_back c.args.event.now c.in_ok-put_shown.ensures.kept
