use Rattle.std.proofs.Common.{Option, ap, subst, ◌∙◌}
use Rattle.std.specs.declared.net.ip_addr.IpAddr.{IpAddr}
use Rattle.std.specs.declared.net.socket_addr.SocketAddr.{SocketAddr}
use Rattle.adr_network.specs.Networks.{allows}
use Rattle.adr_network.specs.Addresses.{FindsAddress}
use Rattle.adr_network.proofs.Naming.{of_address, of_none}
use Rattle.adr_network.proofs.networks.Networks.allow_endpoint.Goals as goal

-- the address that was found
pub returns-in-Some : goal.returns-in-Some
returns-in-Some c =
    let networks = c.args.self.now in
    let endpoint = c.args.endpoint.now in
    of_address networks endpoint c.in-Some.address c.allow.result
    (subst (λ (found : Option SocketAddr). FindsAddress endpoint found) c.in-Some.is c.in_ok-address.ensures)
    (c.allow.ensures ∙ ap (λ (ip : IpAddr). allows networks ip) c.ip.ensures)

-- there is none
pub returns-in-None : goal.returns-in-None
returns-in-None c =
    let endpoint = c.args.endpoint.now in
    of_none c.args.self.now endpoint (subst (λ (found : Option SocketAddr). FindsAddress endpoint found) c.in-None.is c.in_ok-address.ensures)
