use Rattle.std.proofs.Common.{◌<◌, inl, inr, [], ◌∷◌, ◌++◌, length, drop, filter, refl, ap, subst, arith, rules}
use Rattle.sqlite_rules.proofs.PlaceLemmas.{zip_more}
use Rattle.sqlite.specs.Held.{state}
use Rattle.adr_lent.specs.Pages.{IsCut}
use Rattle.adr_lent.proofs.Streams.{clean_before, stands_then}
use Rattle.adr_lent.proofs.Cuts.{wanted_more}
use Rattle.adr_lent.proofs.cut.lent_page.Goals as goal

pub returns-then-len-page-clause-lends : goal.returns-then-len-page-clause-lends
returns-then-len-page-clause-lends g c clean sql params before h =
    let it = c.rows.invariant.lent clean sql params before h in
    rw c.from_vec.ensures (it.0, it.1, c.rows.left, it.3, it.4, c.rows.invariant.most, it.2.same, inr (it.2, omega arith, it.5))

pub returns-in_default-clause-lends : goal.returns-in_default-clause-lends
returns-in_default-clause-lends g c clean sql params before h =
    let mid = state g.S.Store c.rows.rows.conn.now in
    let now = state g.S.Store c.next_of.new.rows.conn.now in
    let it = c.rows.invariant.lent (clean_before mid now _ c.next_of.ensures.stands.crash clean) sql params before h in
    let whole = (rw (c.in_ok-value.was, c.in_default.is) at (c.next_of.ensures.lends clean)) sql params before it.0 it.2 in
    rw c.from_vec-in_default.ensures (it.0, it.1, c.rows.left, it.3, it.4, c.rows.invariant.most, whole.1, inl whole.0)

pub rows-preserved : goal.rows-preserved
rows-preserved g c =
    let mid = state g.S.Store c.rows.rows.conn.now in
    let now = state g.S.Store c.next_of.new.rows.conn.now in
    let wanted = g.W.Wanting.wanted c.args.wanting.now in
    record {
      same_reference = search rules;
      stands = stands_then g.S.Store c.args.rows.now.conn.now c.rows.rows.conn.now c.next_of.new.rows.conn.now c.rows.invariant.stands c.next_of.ensures.stands;
      most = let grown = rw c.in_ok-offer.was at c.offer.ensures.most in omega arith;
      lent = λ clean sql params before h.
          let it = c.rows.invariant.lent (clean_before mid now _ c.next_of.ensures.stands.crash clean) sql params before h in
          let one = (rw (c.in_ok-value.was, c.in-Some.is) at (c.next_of.ensures.lends clean)) sql params before it.0 it.2 in
          let cut = (rw c.in_ok-offer.was at c.offer.ensures.cut) c.args.page.skip _ it.4 in
          let fewer : length (drop c.args.page.skip (filter wanted it.1)) < c.args.page.limit = omega (arith, ap length it.4.found_is) in (
            it.0 ++ one.0 ∷ [],
            it.1 ++ c.in-Some.value ∷ [],
            one.2,
            zip_more g.T.FromRow.reads it.0 it.1 one.0 c.in-Some.value it.3 one.1,
            subst (λ w. IsCut c.args.page.skip w c.offer.new.found.items c.offer.new.left) (wanted_more wanted it.1 c.in-Some.value) cut,
            inr (it.1, c.in-Some.value, refl, fewer),
          );
    }
