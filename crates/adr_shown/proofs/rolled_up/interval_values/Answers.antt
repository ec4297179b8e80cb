use Rattle.std.proofs.Common.{◌≡◌, ◌+◌, [], ◌∷◌, ◌++◌, map, take, sym, ap, ap₂, subst, ◌∙◌}
use Rattle.std.specs.Prelude.{List}
use Rattle.std.proofs.lemmas.List.{map-append, take_more, take_all}
use Rattle.std.proofs.lemmas.List.Elements.{All-more}
use Rattle.serde_json.specs.Data.{Data}
use Rattle.serde_json.specs.View.{view}
use Rattle.adr_written.specs.WrittenReports.{rollup_interval_data}
use Rattle.adr_shown.specs.Types.{IsRollupInterval}
use Rattle.adr_shown.proofs.rolled_up.interval_values.Goals as goal

pub loop-interval-preserved : goal.loop-interval-preserved
loop-interval-preserved c =
    let intervals = c.args.intervals.now in
    let l = c.loop-interval in
    let one = c.interval-item.result in
    let more : take (l.interval-index + 1) intervals ≡ take l.interval-index intervals ++ one ∷ [] = take_more intervals l.interval-index one c.loop-interval-test.true ∙ ap (λ y. take l.interval-index intervals ++ y ∷ []) (sym c.interval-item.is) in
    record {
      values =
          ap (map view) c.in_ok-push.ensures.items
          ∙ map-append view l.values.items _
          ∙ ap₂ (λ (front : List Data) (value : Data). front ++ value ∷ []) l.invariant.values c.in_ok-interval_value.ensures.value
          ∙ sym (ap (map rollup_interval_data) more ∙ map-append rollup_interval_data (take l.interval-index intervals) (one ∷ []));
      kept = All-more IsRollupInterval intervals l.interval-index one c.loop-interval-test.true l.invariant.kept (subst IsRollupInterval c.interval-item.is c.in_ok-interval_value.ensures.kept);
    }

pub returns-clause-values : goal.returns-clause-values
returns-clause-values c = c.loop-interval.invariant.values ∙ ap (map rollup_interval_data) (take_all c.loop-interval.interval-index c.args.intervals.now c.loop-interval-test.false)
