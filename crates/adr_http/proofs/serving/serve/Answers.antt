use Rattle.adr_http.specs.Serving.{outgoing_bytes}
use Rattle.adr_http.proofs.Served.{reading_at, of_known}
use Rattle.adr_http.proofs.serving.serve.Goals as goal

pub returns-in-Ok-clause-all : goal.returns-in-Ok-clause-all
returns-in-Ok-clause-all g c =
    let left = g.S.Source.left c.args.source.now in
    of_known left (λ bytes known.
    record {
      out = outgoing_bytes c.in_ok-out.out;
      served = c.in_ok-out.ensures.served bytes (reading_at c.read_request-reading.result left c.read_request-reading.ensures.reading bytes known);
      written = rw c.bytes.ensures at c.in-Ok.ensures.ok;
    })

pub returns-clause-part : goal.returns-clause-part
returns-clause-part g c = λ is.
    let left = g.S.Source.left c.args.source.now in
    of_known left (λ bytes known.
    record {
      out = outgoing_bytes c.in_ok-out.out;
      served = c.in_ok-out.ensures.served bytes (reading_at c.read_request-reading.result left c.read_request-reading.ensures.reading bytes known);
      written = rw c.bytes.ensures at c.in-Err.ensures.err;
    })
