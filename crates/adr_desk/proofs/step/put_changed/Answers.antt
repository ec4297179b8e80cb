use Rattle.std.proofs.Common.{◌≡◌, Bool, true, false, ◌&&◌, ◌==◌, eqb-true, refl, sym, subst, ◌∙◌}
use Rattle.std.proofs.Math.Bool.{beq}
use Rattle.sqlite.specs.Held.{state}
use Rattle.adr_delivery.specs.declared.outbox.EntryCounts.{EntryCounts}
use Rattle.adr_db.specs.declared.meta.Meta.{Meta}
use Rattle.adr_db.specs.Kept.{Keeps, with_meta}
use Rattle.adr_db.proofs.Results.{on_then}
use Rattle.adr_desk.proofs.step.put_changed.Goals as goal

both : (a b : Bool) → true ≡ (a && b) → (a ≡ true) × (true ≡ b)
both true b h = (refl, h)
both false b h = absurd cc

same_bool : (a b : Bool) → beq a b ≡ true → a ≡ b
same_bool true true h = refl
same_bool true false h = absurd cc
same_bool false true h = absurd cc
same_bool false false h = refl

-- what a test of counts tells
abbrev are_same : EntryCounts → EntryCounts → Bool
are_same a b = (a.made == b.made) && ((a.sent == b.sent) && ((a.given_up == b.given_up) && (a.dropped == b.dropped)))

-- counts that compare as equal are the same
same_counts : (a b : EntryCounts) → true ≡ are_same a b → a ≡ b
same_counts a b h =
    let last : Bool = a.dropped == b.dropped in
    let second : Bool = (a.given_up == b.given_up) && last in
    let first : Bool = (a.sent == b.sent) && second in
    let made = both (a.made == b.made) first h in
    let sent = both (a.sent == b.sent) second made.1 in
    let given_up = both (a.given_up == b.given_up) last sent.1 in
    λ i. record {
      made = eqb-true a.made b.made made.0 i;
      sent = eqb-true a.sent b.sent sent.0 i;
      given_up = eqb-true a.given_up b.given_up given_up.0 i;
      dropped = eqb-true a.dropped b.dropped (sym given_up.1) i;
    }

-- numbers that compare as equal are the same
same_numbers : (a b : Meta) → true ≡ ((a.serial == b.serial) && (beq a.scan b.scan && (are_same a.counts b.counts && ((a.pending == b.pending) && ((a.keys == b.keys) && ((a.vens == b.vens) && ((a.resources == b.resources) && ((a.shares == b.shares) && ((a.reports == b.reports) && ((a.subs == b.subs) && (a.frozen == b.frozen))))))))))) → a ≡ b
same_numbers a b h =
    let from_frozen : Bool = a.frozen == b.frozen in
    let from_subs : Bool = (a.subs == b.subs) && from_frozen in
    let from_reports : Bool = (a.reports == b.reports) && from_subs in
    let from_shares : Bool = (a.shares == b.shares) && from_reports in
    let from_resources : Bool = (a.resources == b.resources) && from_shares in
    let from_vens : Bool = (a.vens == b.vens) && from_resources in
    let from_keys : Bool = (a.keys == b.keys) && from_vens in
    let from_pending : Bool = (a.pending == b.pending) && from_keys in
    let from_counts : Bool = are_same a.counts b.counts && from_pending in
    let from_scan : Bool = beq a.scan b.scan && from_counts in
    let serial = both (a.serial == b.serial) from_scan h in
    let scan = both (beq a.scan b.scan) from_counts serial.1 in
    let counts = both (are_same a.counts b.counts) from_pending scan.1 in
    let pending = both (a.pending == b.pending) from_keys counts.1 in
    let keys = both (a.keys == b.keys) from_vens pending.1 in
    let vens = both (a.vens == b.vens) from_resources keys.1 in
    let resources = both (a.resources == b.resources) from_shares vens.1 in
    let shares = both (a.shares == b.shares) from_reports resources.1 in
    let reports = both (a.reports == b.reports) from_subs shares.1 in
    let subs = both (a.subs == b.subs) from_frozen reports.1 in
    λ i. record {
      serial = eqb-true a.serial b.serial serial.0 i;
      scan = same_bool a.scan b.scan scan.0 i;
      counts = same_counts a.counts b.counts (sym counts.0) i;
      pending = eqb-true a.pending b.pending pending.0 i;
      keys = eqb-true a.keys b.keys keys.0 i;
      vens = eqb-true a.vens b.vens vens.0 i;
      resources = eqb-true a.resources b.resources resources.0 i;
      shares = eqb-true a.shares b.shares shares.0 i;
      reports = eqb-true a.reports b.reports reports.0 i;
      subs = eqb-true a.subs b.subs subs.0 i;
      frozen = eqb-true a.frozen b.frozen (sym subs.1) i;
    }

pub returns-then-eq-clause-leaves : goal.returns-then-eq-clause-leaves
returns-then-eq-clause-leaves g c clean kept was same = subst (λ (m : Meta). Keeps (with_meta m kept) (state g.S.Store c.args.tx.now.conn.now)) (same ∙ same_numbers c.args.before.now c.args.after.now c.if-eq.ensures) was

pub returns-clause-leaves : goal.returns-clause-leaves
returns-clause-leaves g c clean = on_then c.put_meta.result (λ leaves kept was same. leaves kept was) (c.put_meta.ensures.leaves clean)
