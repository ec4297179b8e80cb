use Rattle.std.proofs.Common.{◌≡◌, List, ℕ, Option, Result, Ok, refl, ◌∙◌}
use Rattle.std.specs.Prelude.{is_some}
use Rattle.adr_text.specs.declared.refusal.Refusal.{Refusal}
use Rattle.adr_db.specs.Admitted.{ReadsId}
use Rattle.adr_db.proofs.KeptMaps.{one_finds}
use Rattle.adr_db.proofs.Maps.{frozen_map}
use Rattle.adr_db_portfolio.proofs.FrozenStatements.{event_read}
use Rattle.adr_db_portfolio.proofs.frozen.is_frozen.Goals as goal

pub returns-clause-finds : goal.returns-clause-finds
returns-clause-finds g c clean kept was =
    let read : Result (Option (List ℕ)) Refusal = Ok c.in_ok-found.found in
    let found = one_finds frozen_map g.S.Store c.args.tx.now.conn.now c.first_of.new.tx.conn.now _ ReadsId (λ found there. is_some found ≡ is_some there) c.args.event.now read refl event_read refl (λ t v has. refl)
    (rw (c.to_sql.ensures, c.as_str.ensures.text) at c.in_ok-found.ensures.shows) clean kept was in
    (c.is_some.ensures ∙ found.0, found.1)
