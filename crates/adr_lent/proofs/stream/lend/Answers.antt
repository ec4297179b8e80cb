use Rattle.std.proofs.Common.{refl}
use Rattle.sqlite.specs.Values.{bound}
use Rattle.adr_lent.proofs.Streams.{begun_lends, refused_stands}
use Rattle.adr_lent.proofs.stream.lend.Goals as goal

pub returns : goal.returns
returns g c =
    let sql = c.args.sql.now in
    let params = bound c.args.params.now in
    let old = c.args.conn.now in
    let none = refused_stands sql params c.requires g.S.Store old c.query.follows.lender-at-none c.query.result c.query.follows.holds-at-none in
    ((refl, c.query.follows.holds, none), (c.query.ensures.same_reference, begun_lends sql params c.requires g.S.Store old (λ rows. rows.conn.now) c.query.result c.query.ensures.begun c.query.ensures.mode c.query.ensures.survives))
