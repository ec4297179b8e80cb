use Rattle.std.proofs.Common.{◌↔◌, ℕ, Bool, IfOk, IsTrue, List, sym, subst}
use Rattle.adr_network.specs.Addresses.{AllowsEndpoint}
use Rattle.adr_work.specs.declared.request.Callee.{Callee}
use Rattle.adr_work.specs.Deliveries.{MayCall}
use Rattle.adr_work.proofs.delivery.may_call.Goals as goal

-- a callback's endpoint
pub returns-in-Callback : goal.returns-in-Callback
returns-in-Callback c =
    let networks = c.args.networks.now in
    let result = c.allow_endpoint.result in
    subst (λ (callee : Callee). IfOk result (λ (may : Bool). IsTrue may ↔ MayCall networks callee)) (sym c.in-Callback.is)
    (subst (λ (endpoint : List ℕ). IfOk result (λ (may : Bool). IsTrue may ↔ AllowsEndpoint networks endpoint)) c.as_str.ensures.value c.allow_endpoint.ensures)
