use Rattle.std.proofs.Common.{[], ◌∷◌, ◌++◌, ap, sym, ◌∙◌, rules}
use Rattle.std.proofs.lemmas.List.Sums.{fold-append}
use Rattle.sqlite_rules.proofs.PlaceLemmas.{zip_more}
use Rattle.sqlite.specs.Held.{state}
use Rattle.adr_lent.proofs.Streams.{clean_before, stands_then}
use Rattle.adr_lent_image.proofs.gathering.gather_all.Goals as goal

pub returns-in_default-clause-lends : goal.returns-in_default-clause-lends
returns-in_default-clause-lends g c clean sql params before h =
    let mid = state g.S.Store c.rows.rows.conn.now in
    let now = state g.S.Store c.next_of.new.rows.conn.now in
    let it = c.rows.invariant.lent (clean_before mid now _ c.next_of.ensures.stands.crash clean) sql params before h in
    let whole = (rw (c.in_ok-value.was, c.in_default.is) at (c.next_of.ensures.lends clean)) sql params before it.0 it.2 in
    (it.0, it.1, it.3, whole.0, whole.1, it.4)

pub rows-preserved : goal.rows-preserved
rows-preserved g c =
    let mid = state g.S.Store c.rows.rows.conn.now in
    let now = state g.S.Store c.next_of.new.rows.conn.now in
    let after = g.G.Gathering.after in
    record {
      same_reference = search rules;
      stands = stands_then g.S.Store c.args.rows.now.conn.now c.rows.rows.conn.now c.next_of.new.rows.conn.now c.rows.invariant.stands c.next_of.ensures.stands;
      lent = λ clean sql params before h.
          let it = c.rows.invariant.lent (clean_before mid now _ c.next_of.ensures.stands.crash clean) sql params before h in
          let one = (rw (c.in_ok-value.was, c.in-Some.is) at (c.next_of.ensures.lends clean)) sql params before it.0 it.2 in (
            it.0 ++ one.0 ∷ [],
            it.1 ++ c.in-Some.value ∷ [],
            one.2,
            zip_more g.T.FromRow.reads it.0 it.1 one.0 c.in-Some.value it.3 one.1,
            (rw c.in_ok-gather.was at c.gather.ensures.gathered) ∙ ap (λ found. after found c.in-Some.value) it.4 ∙ sym (fold-append after c.args.start it.1 (c.in-Some.value ∷ [])),
          );
    }
