use Rattle.std.proofs.Common.{false, ◌≡◌, ◌+◌, take, drop, ◌∷◌, [], ◌++◌, sym, ap, ◌∙◌, subst, append_assoc, take-append-drop}
use Rattle.std.proofs.lemmas.List.{take_more}
use Rattle.adr_lock.specs.Halting.{is_stores}
use Rattle.adr_work.proofs.Halting.{ends_none, ends_both, ends_handed}
use Rattle.adr_work.proofs.Probing.{Probed, probed_none, probed_more, probed_cut}
use Rattle.adr_work.proofs.polling.probe_each.Goals as goal

pub loop-key-init : goal.loop-key-init
loop-key-init g c = record {
  probed = probed_none c.args.upstream.now (g.G.Gate.exchanges c.args.gate.now) (g.T.Teller.memory c.args.teller.now);
  ends = ends_none (g.T.Teller.steps c.args.teller.now);
}

pub returns-in_err-probe-clause-round : goal.returns-in_err-probe-clause-round
returns-in_err-probe-clause-round g c =
    let keys = c.args.keys.now in
    let i = c.loop-key.key-index in
    let key = c.key-item.result in
    let more : take (i + 1) keys ≡ take i keys ++ key ∷ [] = take_more keys i key c.loop-key-test.true ∙ ap (λ k. take i keys ++ k ∷ []) (sym c.key-item.is) in
    probed_cut c.args.upstream.now (g.G.Gate.exchanges c.args.gate.now) (g.G.Gate.exchanges c.loop-key.gate) (g.G.Gate.exchanges c.probe.new.gate)
    (g.T.Teller.memory c.args.teller.now) (g.T.Teller.memory c.loop-key.teller) (g.T.Teller.memory c.probe.new.teller)
    (take i keys) key (drop (i + 1) keys) keys c.in_err-probe.field-0.0 c.from_residual.result c.loop-key.invariant.probed
    (sym (take-append-drop (i + 1) keys) ∙ ap (λ front. front ++ drop (i + 1) keys) more ∙ append_assoc (take i keys) (key ∷ []) (drop (i + 1) keys))
    c.in_err-probe.ensures.round c.from_residual.ensures.0

pub loop-key-preserved : goal.loop-key-preserved
loop-key-preserved g c =
    let keys = c.args.keys.now in
    let i = c.loop-key.key-index in
    let key = c.key-item.result in
    let more : take (i + 1) keys ≡ take i keys ++ key ∷ [] = take_more keys i key c.loop-key-test.true ∙ ap (λ k. take i keys ++ k ∷ []) (sym c.key-item.is) in
    let u = c.args.upstream.now in
    let before = g.G.Gate.exchanges c.args.gate.now in
    let after = g.G.Gate.exchanges c.probe.new.gate in
    let was = g.T.Teller.memory c.args.teller.now in
    let is = g.T.Teller.memory c.probe.new.teller in
    record {
      probed =
          subst (λ front. Probed u before after was is front) (sym more)
          (probed_more u before (g.G.Gate.exchanges c.loop-key.gate) after was (g.T.Teller.memory c.loop-key.teller) is (take i keys) key
          c.loop-key.invariant.probed c.in_ok-probe.ensures.round);
      ends =
          ends_both false (g.T.Teller.steps c.args.teller.now) (g.T.Teller.steps c.loop-key.teller) (g.T.Teller.steps c.probe.new.teller)
          c.loop-key.invariant.ends c.in_ok-probe.ensures.ends;
    }

pub returns-in_err-probe-clause-ends : goal.returns-in_err-probe-clause-ends
returns-in_err-probe-clause-ends g c =
    let e = c.in_err-probe.field-0.0 in
    let before = g.T.Teller.steps c.args.teller.now in
    let after = g.T.Teller.steps c.probe.new.teller in
    ends_handed c.from_residual.result e before after c.from_residual.ensures.1
    (ends_both (is_stores e) before (g.T.Teller.steps c.loop-key.teller) after c.loop-key.invariant.ends c.in_err-probe.ensures.ends)
