use Rattle.std.proofs.Common.{◌≡◌, Some, inl, inr, [], ◌∷◌, ◌++◌, length, subst, sym, ap, ◌∙◌, rules}
use Rattle.std.proofs.lemmas.List.{length_push}
use Rattle.sqlite_rules.proofs.PlaceLemmas.{zip_more}
use Rattle.sqlite.specs.Held.{state}
use Rattle.adr_lent.proofs.Streams.{clean_before, stands_then}
use Rattle.adr_missed.specs.Taken.{IsAtMost}
use Rattle.adr_missed.proofs.Limits.{enough_is, one_more, zip_length}
use Rattle.adr_missed.proofs.taken.first_of.Goals as goal

pub returns-then-is_enough-clause-lends : goal.returns-then-is_enough-clause-lends
returns-then-is_enough-clause-lends g c clean sql params before h =
    let it = c.rows.invariant.lent clean sql params before h in
    let count : length it.0 ≡ length c.rows.found.items = zip_length g.T.FromRow.reads it.0 c.rows.found.items it.1 in
    let full = enough_is c.args.limit (length c.rows.found.items) c.rows.invariant.most (search rules) in
    rw c.from_vec.ensures (it.0, it.1, subst (IsAtMost c.args.limit) (sym count) c.rows.invariant.most, it.2.same, inr (it.2, full ∙ ap (λ n. Some n) (sym count)))

pub returns-in_default-clause-lends : goal.returns-in_default-clause-lends
returns-in_default-clause-lends g c clean sql params before h =
    let mid = state g.S.Store c.rows.rows.conn.now in
    let now = state g.S.Store c.next_of.new.rows.conn.now in
    let it = c.rows.invariant.lent (clean_before mid now _ c.next_of.ensures.stands.crash clean) sql params before h in
    let count : length it.0 ≡ length c.rows.found.items = zip_length g.T.FromRow.reads it.0 c.rows.found.items it.1 in
    let whole = (rw (c.in_ok-x.was, c.in_default.is) at (c.next_of.ensures.lends clean)) sql params before it.0 it.2 in
    rw c.from_vec-in_default.ensures (it.0, it.1, subst (IsAtMost c.args.limit) (sym count) c.rows.invariant.most, whole.1, inl whole.0)

pub rows-preserved : goal.rows-preserved
rows-preserved g c =
    let mid = state g.S.Store c.rows.rows.conn.now in
    let now = state g.S.Store c.next_of.new.rows.conn.now in
    let put = rw c.in_ok-push.was at c.push.ensures.items in
    record {
      same_reference = search rules;
      stands = stands_then g.S.Store c.args.rows.now.conn.now c.rows.rows.conn.now c.next_of.new.rows.conn.now c.rows.invariant.stands c.next_of.ensures.stands;
      most = one_more c.args.limit (length c.rows.found.items) (length c.push.new.self.items) (search rules) (ap length put ∙ length_push c.rows.found.items c.in-Some.x);
      lent = λ clean sql params before h.
          let it = c.rows.invariant.lent (clean_before mid now _ c.next_of.ensures.stands.crash clean) sql params before h in
          let one = (rw (c.in_ok-x.was, c.in-Some.is) at (c.next_of.ensures.lends clean)) sql params before it.0 it.2 in
          (it.0 ++ one.0 ∷ [], rw put (zip_more g.T.FromRow.reads it.0 c.rows.found.items one.0 c.in-Some.x it.1 one.1), one.2);
    }
