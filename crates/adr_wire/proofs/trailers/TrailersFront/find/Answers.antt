use Rattle.std.proofs.Common.{rules, ◌≡◌, length}
use Rattle.adr_wire.proofs.TrailerSections.{trailers_found, no_trailers_full}
use Rattle.adr_wire.proofs.trailers.TrailersFront.find.Goals as goal

pub returns-in-Ok-Complete-clause-found : goal.returns-in-Ok-Complete-clause-found
returns-in-Ok-Complete-clause-found c = λ is.
    let room : length c.parse_headers.new.headers ≡ 64 = search rules in
    trailers_found c.args.bytes.now c.parse_headers.new.headers _ room
    (rw c.in-Ok-Complete.field-0-is at c.in-Ok-Complete.ensures.within) (rw c.in-Ok-Complete.field-0-is at c.in-Ok-Complete.ensures.complete)

pub returns-in-Ok-Partial-clause-full : goal.returns-in-Ok-Partial-clause-full
returns-in-Ok-Partial-clause-full c = λ is full more. no_trailers_full c.args.bytes.now more (rw c.in-Ok-Partial.field-0-is at c.in-Ok-Partial.ensures.partial) full
