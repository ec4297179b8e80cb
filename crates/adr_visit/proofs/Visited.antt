-- A visit goes on: an item is refreshed behind entries that came so far.
use Rattle.std.proofs.Common.{◌≡◌, ◌==◌, eqb-true, inl, inr, ℕ, true, List, [], ◌∷◌, length, refl, subst, arith}
use Rattle.sqlite.specs.State.{State}
use Rattle.adr_delivery.specs.declared.entry.Entry.{Entry}
use Rattle.adr_delivery.specs.declared.outbox.Outbox.{Outbox}
use Rattle.adr_state.specs.declared.base.Base.{Base}
use Rattle.adr_state.specs.declared.keys.ViewKey.{ViewKey}
use Rattle.adr_state.specs.declared.limits.Limits.{Limits}
use Rattle.adr_view.specs.declared.view.Content.{Content}
use Rattle.adr_refresh.specs.Refresh.{Books}
use Rattle.adr_db.specs.declared.meta.Meta.{Meta}
use Rattle.adr_db.specs.Bases.{Beside, kept_beside, HoldsBeside}
use Rattle.adr_db.specs.Images.{outbox_of}
use Rattle.adr_db.specs.Kept.{Keeps}
use Rattle.adr_outbox.specs.Turned.{with_outbox}
use Rattle.adr_kept_view.specs.KeptViews.{KeepsView, Owns}
use Rattle.adr_kept_view.specs.Refreshed.{books_behind, with_books, Part, IsRefreshed}
use Rattle.adr_db_portfolio.specs.declared.participant.Sharers.{Sharers}
use Rattle.adr_db_portfolio.specs.KnownSharers.{AreThoseOf}
use Rattle.adr_room.specs.Rooms.{AreAppended}
use Rattle.adr_visit.specs.declared.visit.Visit.{Visit}
use Rattle.adr_visit.specs.Visits.{IsAt}

-- a list that has no item is empty
pub none_of : {A : Type 0} (xs : List A) → (length xs == 0) ≡ true → xs ≡ []
none_of [] is = refl
none_of (x ∷ xs) is = absurd (let none : length (x ∷ xs) ≡ 0 = eqb-true (length (x ∷ xs)) 0 is in omega (arith, none))

module _ {I C : Type 0} (part : Part I C) (limits : Limits) (first : Meta) (owner : ℕ → ℕ) (before base : Base) (rows : List (ViewKey × Content)) (beside : Beside) (es : List Entry) (visit : Visit) (after : Sharers) (numbers : Meta) (now : ℕ) (item : I) (changes : List C) (old new : State) where
  abbrev books : Books
  books = books_behind rows beside before base now (part.source item)

  abbrev middle : Beside
  middle = with_books owner books beside

  -- what a refresh says that is begun there
  abbrev pub Refreshes : Type 0
  Refreshes = (owner : ℕ → ℕ) (rows : List (ViewKey × Content)) (beside : Beside) (before base : Base) → HoldsBeside beside base old → KeepsView owner rows beside → Owns owner base → part.WasSo before item → AreThoseOf (kept_beside beside base) visit.sharers
      → (later : Beside) × HoldsBeside later base new × AreThoseOf (kept_beside later base) after × IsRefreshed part owner rows beside before base now item changes later

  module _ (at : IsAt limits first owner base rows beside es visit numbers old) (so_was : part.WasSo before item) (refreshes : Refreshes) where
    -- beside the entries of an outbox
    abbrev beside_with : Outbox → Beside
    beside_with o = record beside { entries = o.entries; remotes = o.remotes }

    keeps_with : (o : Outbox) → KeepsView owner rows (beside_with o)
    keeps_with o = record {
      in_order = at.keeps.in_order;
      reads = at.keeps.reads;
      shown = at.keeps.shown;
      rollups = at.keeps.rollups;
      stamps_in_order = at.keeps.stamps_in_order;
      stamped = at.keeps.stamped;
    }

    carry : (o : Outbox) → Keeps (with_outbox o (kept_beside beside base)) old → Keeps (with_outbox o (kept_beside middle base)) new
    carry o held =
        let so = refreshes owner rows (beside_with o) before base held (keeps_with o) at.owns so_was at.sharing in
        subst (λ (b : Beside). Keeps (kept_beside b base) new) so.3.tables so.1

    carried : AreAppended limits first numbers (kept_beside beside base) es old → AreAppended limits first numbers (kept_beside middle base) es new
    carried (inl none) = inl (none.0, none.1, carry (outbox_of first (kept_beside beside base)) none.2)
    carried (inr a) = inr (record { outbox = a.outbox; serial = a.serial; decided = a.decided; keeps = carry a.outbox a.keeps; counted = a.counted })

    abbrev some : Outbox
    some = at.come.tables.0

    refreshed : IsRefreshed part owner rows beside before base now item changes middle
    refreshed =
        let so = refreshes owner rows (beside_with some) before base at.come.tables.1 (keeps_with some) at.owns so_was at.sharing in
        let keeps : KeepsView owner books.kept (with_books owner books (beside_with some)) = subst (λ (b : Beside). KeepsView owner books.kept b) so.3.tables so.3.keeps in
        record {
          tables = refl;
          keeps = record { in_order = keeps.in_order; reads = keeps.reads; shown = keeps.shown; rollups = keeps.rollups; stamps_in_order = keeps.stamps_in_order; stamped = keeps.stamped };
          told = so.3.told;
          each = so.3.each;
        }

    pub visited_now : (m : Beside) × IsRefreshed part owner rows beside before base now item changes m × IsAt limits first owner base books.kept m es (record visit { sharers = after }) numbers new
    visited_now =
        let so = refreshes owner rows (beside_with some) before base at.come.tables.1 (keeps_with some) at.owns so_was at.sharing in (
          middle,
          refreshed,
          record {
            come = record {
              come = record { left = at.come.come.left; full = at.come.come.full };
              written = λ had. carried (at.come.written had);
              tables = (some, carry some at.come.tables.1);
            };
            keeps = refreshed.keeps;
            owns = at.owns;
            sharing = so.2;
            listening = at.listening;
            waits = at.waits;
            drawn = at.drawn;
          },
        )
