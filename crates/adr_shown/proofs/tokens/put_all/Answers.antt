use Rattle.std.proofs.Common.{◌+◌, sym, ap, ◌∙◌, subst, drop}
use Rattle.std.specs.Prelude.{All}
use Rattle.std.proofs.lemmas.List.{drop_more, take_all}
use Rattle.std.proofs.lemmas.List.Elements.{All-more}
use Rattle.adr_shown.specs.Types.{IsShownInterval}
use Rattle.adr_shown.specs.Tokens.{intervals_behind, interval_behind}
use Rattle.adr_shown.proofs.tokens.put_all.Goals as goal

pub loop-interval-preserved : goal.loop-interval-preserved
loop-interval-preserved c =
    let l = c.loop-interval in
    let one = c.interval-item.result in
    let here = drop_more c.args.intervals.now l.interval-index one c.loop-interval-test.true in
    record {
      before = c.in_ok-put_interval.ensures.has.0 ∙ l.invariant.before;
      so_far =
          ap (intervals_behind (drop (l.interval-index + 1) c.args.intervals.now)) (c.in_ok-put_interval.ensures.has.1 ∙ ap (interval_behind l.out.tokens) c.interval-item.is)
          ∙ sym (ap (λ rest. intervals_behind rest l.out.tokens) here)
          ∙ l.invariant.so_far;
      kept = All-more IsShownInterval c.args.intervals.now l.interval-index one c.loop-interval-test.true l.invariant.kept (subst IsShownInterval c.interval-item.is c.in_ok-put_interval.ensures.kept);
    }

pub returns-clause-kept : goal.returns-clause-kept
returns-clause-kept c = subst (All IsShownInterval) (take_all c.loop-interval.interval-index c.args.intervals.now c.loop-interval-test.false) c.loop-interval.invariant.kept
