-- What is told of a command, in the tables.
use Rattle.std.proofs.Common.{◌≡◌, ℕ, ◌+◌, ◌≤◌, List, [], Ok, refl, sym, ap, subst, ◌∙◌, arith}
use Rattle.std.specs.List.{All}
use Rattle.std.proofs.lemmas.List.Elements.{All-filter}
use Rattle.adr_text.specs.declared.refusal.Refusal.{Refusal}
use Rattle.adr_text.specs.Refusals.{IsRefusalOf}
use Rattle.sqlite.specs.State.{State}
use Rattle.adr_delivery.specs.declared.entry.Entry.{Entry}
use Rattle.adr_delivery.specs.declared.outbox.Outbox.{Outbox}
use Rattle.adr_delivery.specs.Outboxes.{has_addressee}
use Rattle.adr_delivery.specs.Tallies.{most_tally}
use Rattle.adr_state.specs.declared.base.Base.{Base}
use Rattle.adr_state.specs.declared.limits.Limits.{Limits}
use Rattle.adr_state.specs.declared.limits.Settings.{Settings}
use Rattle.adr_view.specs.Laws.{StandsInOrder}
use Rattle.adr_view.specs.Views.{view}
use Rattle.adr_notices.specs.Committed.{outbox_after}
use Rattle.adr_machine.specs.declared.command.Command.{Command}
use Rattle.adr_db.specs.declared.meta.Meta.{Meta}
use Rattle.adr_db.specs.Kept.{Kept, Keeps}
use Rattle.adr_db.specs.Bases.{Beside, kept_beside, counting}
use Rattle.adr_db.specs.Images.{outbox_of}
use Rattle.adr_outbox.specs.Turned.{with_outbox}
use Rattle.adr_outbox.specs.Appended.{further}
use Rattle.adr_outbox.specs.Dropped.{without_lost}
use Rattle.adr_touched.specs.declared.touched.Touched.{Touched}
use Rattle.adr_commit.specs.Commits.{IsEdited, IsCommitted, entries_told, outbox_told}
use Rattle.adr_commit.proofs.Ended.{plus_none}
use Rattle.adr_commit.proofs.Quiet.{untouched}
use Rattle.adr_told.specs.Commits.{IsAsComputed}
use Rattle.adr_desk.specs.Told.{outbox_then, IsTold, IsMade}

-- where nothing is told, what is lost is dropped and no more
untold_is : (limits : Limits) (before : Meta) (kept : Kept) → before.counts.made ≤ most_tally → outbox_after limits before.serial (outbox_of before kept) kept.portfolio.subs [] ≡ Ok (without_lost before kept, before.serial)
untold_is limits before kept within =
    let made = plus_none before.counts.made within in
    let serial : before.serial + 0 ≡ before.serial = omega arith in
    λ i. Ok (record (without_lost before kept) { counts = record (without_lost before kept).counts { made = made i } }, serial i)

module _ (settings : Settings) (before after : Base) (beside : Beside) (now : ℕ) (numbers : Meta) (command : Command) (touched : Touched) (it : IsMade before after beside numbers command touched) (stands : StandsInOrder after) where
  abbrev kept : Kept
  kept = kept_beside beside after

  abbrev left : Outbox
  left = without_lost numbers kept

  -- without what is lost
  abbrev pub beside_left : Beside
  beside_left = record beside { entries = left.entries; remotes = left.remotes }

  module _ (mid : Meta) (counted : mid ≡ counting left numbers) where
    pub edited_still : IsEdited before after beside_left mid touched
    edited_still =
        let was = it.edited in
        let shown = was.keeps.view in
        record {
          stood = was.stood;
          vens = was.vens;
          keeps = record {
            view = record { in_order = shown.in_order; reads = shown.reads; shown = shown.shown; rollups = shown.rollups; stamps_in_order = shown.stamps_in_order; stamped = shown.stamped };
            stamped = was.keeps.stamped;
          };
          stands = was.stands;
          all = was.all;
          waits = ap (λ (m : Meta). m.pending) counted;
          drawn = subst (λ (m : Meta). All (λ e. e.0 ≤ m.serial) left.entries) (sym counted) (All-filter (has_addressee after.portfolio.subs) (λ e. e.0 ≤ numbers.serial) beside.entries was.drawn);
        }

    -- what is appended after that is what is told
    outbox_so : outbox_told settings before after beside_left now mid ≡ outbox_then settings before after beside now numbers
    outbox_so = ap (λ (m : Meta). further settings.limits m.serial (entries_told settings.client before after beside.stamps now) (outbox_of m (with_outbox left kept))) counted

    pub told_so : (then : Meta) (many : ℕ) (s : State) → IsCommitted settings now before after beside_left mid then many s → IsTold settings now before after beside numbers then many s
    told_so then many s so = record {
      end = so.end;
      changed = so.computed.counted;
      stamped = so.computed.stamps;
      shown = so.computed.keeps;
      alone = ap (λ (b : Beside). b.numbers) so.computed.alone;
      outbox = so.outbox;
      serial = so.serial;
      decided = sym outbox_so ∙ so.decided;
      holds = so.holds;
      counted = so.counted ∙ ap (λ (m : Meta). let after : Meta = record (counting so.outbox m) { serial = so.serial } in after) counted;
    }

    pub refused_so : (e : Refusal) → IsRefusalOf e (outbox_told settings before after beside_left now mid) → IsRefusalOf e (outbox_then settings before after beside now numbers)
    refused_so e h = subst (IsRefusalOf e) outbox_so h

    -- of what leaves all that is shown nothing is told
    pub untold_so : (s : State) → view after ≡ view before → mid.counts.made ≤ most_tally → Keeps (with_outbox left kept) s → IsTold settings now before after beside numbers mid 0 s
    untold_so s same within keeps =
        let so : IsAsComputed settings.client after.portfolio.subs before after now beside_left beside_left [] 0 = untouched settings before after beside_left now mid touched edited_still stands same in
        record {
          end = beside_left;
          changed = so.counted;
          stamped = so.stamps;
          shown = so.keeps;
          alone = refl;
          outbox = left;
          serial = numbers.serial;
          decided =
              ap (λ (es : List Entry). outbox_after settings.limits numbers.serial (outbox_of numbers kept) after.portfolio.subs es) (sym so.entries)
              ∙ untold_is settings.limits numbers kept (subst (λ (m : Meta). m.counts.made ≤ most_tally) counted within);
          holds = keeps;
          counted = counted;
        }
