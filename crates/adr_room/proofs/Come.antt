-- Groups of entries one behind another are as all of them at once.
use Rattle.std.proofs.Common.{◌≡◌, ◌⊎◌, inl, inr, ◌≤◌, ◌<◌, ◌+◌, ◌-◌, ◌==◌, eqb-true, ◌&&◌, not, ℕ, zero, suc, Bool, true, false, cond, nat_lt, List, ◌++◌, length, Result, Ok, Err, refl, sym, ap, subst, arith, ◌∙◌}
use Rattle.std.specs.Result.{result_ok}
use Rattle.std.proofs.lemmas.Bool.{le-ltb, lt-ltb, ltb-true, ltb-false, ne_eqb, true≢false}
use Rattle.std.proofs.lemmas.List.{length-append}
use Rattle.std.proofs.lemmas.Option.{same_Some}
use Rattle.std.proofs.lemmas.List.FromFn.{length-enumerate_from}
use Rattle.sqlite.specs.State.{State}
use Rattle.adr_text.specs.declared.refusal.Refusal.{Refusal}
use Rattle.adr_text.specs.declared.refusal.Refusal.TheVariants.{Exhausted, OutboxFull}
use Rattle.adr_text.specs.Refusals.{◌>>=◌}
use Rattle.adr_delivery.specs.declared.entry.Entry.{Entry}
use Rattle.adr_delivery.specs.declared.outbox.Outbox.{Outbox}
use Rattle.adr_delivery.specs.Outboxes.{check_room, appended}
use Rattle.adr_delivery.specs.Tallies.{plus, most_tally}
use Rattle.adr_state.specs.declared.limits.Limits.{Limits}
use Rattle.adr_notices.specs.Committed.{numbered, with_further}
use Rattle.adr_db.specs.declared.meta.Meta.{Meta}
use Rattle.adr_db.specs.Kept.{Kept, Keeps}
use Rattle.adr_db.specs.Bases.{counting}
use Rattle.adr_db.specs.Images.{outbox_of}
use Rattle.adr_outbox.specs.Appended.{further, IsAppended}
use Rattle.adr_outbox.specs.Turned.{with_outbox}
use Rattle.adr_room.specs.declared.room.Room.{Room}
use Rattle.adr_room.specs.Rooms.{took, are_short, HasLeft, AreDrawn, AreAppended, AreSoFar}
use Rattle.adr_room.proofs.Fresh.{further_wait, with_more}

-- ---- counts

plus_more : (n a b : ℕ) → plus (plus n a) b ≡ plus n (a + b)
plus_more n a b = by (nat_lt most_tally (n + a)) refl
  where
    by : (x : Bool) → nat_lt most_tally (n + a) ≡ x → cond (nat_lt most_tally (cond (nat_lt most_tally (n + a)) most_tally (n + a) + b)) most_tally (cond (nat_lt most_tally (n + a)) most_tally (n + a) + b) ≡ plus n (a + b)
    by true over =
        let above : most_tally < n + a = ltb-true most_tally (n + a) over in
        let all : nat_lt most_tally (n + (a + b)) ≡ true = lt-ltb most_tally (n + (a + b)) (omega (arith, above)) in
        rw (over, all) (over_by b)
      where
        over_by : (b : ℕ) → cond (nat_lt most_tally (most_tally + b)) most_tally (most_tally + b) ≡ most_tally
        over_by b = at (nat_lt most_tally (most_tally + b)) refl
          where
            at : (y : Bool) → nat_lt most_tally (most_tally + b) ≡ y → cond y most_tally (most_tally + b) ≡ most_tally
            at true is = refl
            at false is = let none : most_tally + b ≤ most_tally = ltb-false most_tally (most_tally + b) is in omega (arith, none)
    by false within = let same : (n + a) + b ≡ n + (a + b) = omega arith in rw within (ap (λ m. cond (nat_lt most_tally m) most_tally m) same)

appended_more : (last : ℕ) (es fs : List Entry) (o : Outbox) → appended (numbered (last + length es) fs) (appended (numbered last es) o) ≡ appended (numbered last (es ++ fs)) o
appended_more last es fs o =
    let one : length (numbered last es) ≡ length es = length-enumerate_from (last + 1) es in
    let two : length (numbered (last + length es) fs) ≡ length fs = length-enumerate_from ((last + length es) + 1) fs in
    let all : length (numbered last (es ++ fs)) ≡ length es + length fs = length-enumerate_from (last + 1) (es ++ fs) ∙ length-append es fs in
    let made : plus (plus o.counts.made (length (numbered last es))) (length (numbered (last + length es) fs)) ≡ plus o.counts.made (length (numbered last (es ++ fs))) =
    plus_more o.counts.made (length (numbered last es)) (length (numbered (last + length es) fs)) ∙ ap (plus o.counts.made) (omega (arith, one, two, all)) in
    λ i. record o { entries = sym (with_more last es fs o.entries) i; counts = record o.counts { made = made i } }

-- ---- what is decided

-- so many further ones are refused for want of numbers, or of room, or there is room for them
data Decided (most pending last waiting n : ℕ) : Result Unit Refusal → Type 0 where
  none : n ≡ 0 → Decided most pending last waiting n (Ok tt)
  short : 0 < n → most < last + n → Decided most pending last waiting n (Err Exhausted)
  full : 0 < n → last + n ≤ most → pending < waiting + n → Decided most pending last waiting n (Err OutboxFull)
  room : 0 < n → last + n ≤ most → waiting + n ≤ pending → Decided most pending last waiting n (Ok tt)

pub positive : (n : ℕ) → (n == 0) ≡ false → 0 < n
positive zero is = absurd cc
positive (suc n) is = omega arith

decided : (most pending last waiting n : ℕ) → Decided most pending last waiting n (check_room most pending last waiting n)
decided most pending last waiting n = by (n == 0) (nat_lt most (last + n)) (nat_lt pending (waiting + n)) refl refl refl
  where
    by : (z a b : Bool) → (n == 0) ≡ z → nat_lt most (last + n) ≡ a → nat_lt pending (waiting + n) ≡ b → Decided most pending last waiting n (cond z (Ok tt) (cond a (Err Exhausted) (cond b (Err OutboxFull) (Ok tt))))
    by true a b is lacks fits = none (eqb-true n 0 is)
    by false true b is lacks fits = short (positive n is) (ltb-true most (last + n) lacks)
    by false false true is enough fits = full (positive n is) (ltb-false most (last + n) enough) (ltb-true pending (waiting + n) fits)
    by false false false is enough fits = room (positive n is) (ltb-false most (last + n) enough) (ltb-false pending (waiting + n) fits)

has_room : (most pending last waiting n : ℕ) → last + n ≤ most → waiting + n ≤ pending → check_room most pending last waiting n ≡ Ok tt
has_room most pending last waiting n enough fits = by (check_room most pending last waiting n) (decided most pending last waiting n)
  where
    by : (r : Result Unit Refusal) → Decided most pending last waiting n r → r ≡ Ok tt
    by r (none is) = refl
    by r (short some lacks) = absurd (omega (arith, lacks, enough))
    by r (full some left is) = absurd (omega (arith, is, fits))
    by r (room some left is) = refl

-- whether so many are short of numbers, or are too many
some_so : (n : ℕ) (b : Bool) → 0 < n → b ≡ true → (not (n == 0) && b) ≡ true
some_so n b some is = let there : (n == 0) ≡ false = ne_eqb n 0 (λ none. absurd (omega (arith, none, some))) in rw (there, is) refl

none_so : (n : ℕ) (b : Bool) → b ≡ false → (not (n == 0) && b) ≡ false
none_so n b is = rw is (by (not (n == 0)))
  where
    by : (x : Bool) → (x && false) ≡ false
    by true = refl
    by false = refl

module _ (limits : Limits) (first : Meta) (es fs : List Entry) (some : 0 < length fs) where
  abbrev both : List Entry
  both = es ++ fs

  many : length both ≡ length es + length fs
  many = length-append es fs

  -- ---- numbers

  pub took_left : (r : Room) → HasLeft limits first es r → HasLeft limits first both (took (length fs) r)
  took_left r h = by (nat_lt r.left (length fs)) refl
    where
      by : (b : Bool) → nat_lt r.left (length fs) ≡ b → HasLeft limits first both (cond b (record r { left = 0; is_short = true }) (record r { left = r.left - length fs }))
      by true is =
          let lacks : r.left < length fs = ltb-true r.left (length fs) is in
          let over : limits.serial < first.serial + length both = omega (arith, lacks, h.left, many, some) in
          record { left = omega (arith, over); short = sym (some_so (length both) (nat_lt limits.serial (first.serial + length both)) (omega (arith, many, some)) (lt-ltb limits.serial (first.serial + length both) over)) }
      by false is =
          let left : length fs ≤ r.left = ltb-false r.left (length fs) is in
          let enough : first.serial + length both ≤ limits.serial = omega (arith, left, h.left, many, some) in
          let before : are_short limits.serial first.serial es ≡ false = none_so (length es) (nat_lt limits.serial (first.serial + length es)) (le-ltb limits.serial (first.serial + length es) (omega (arith, enough, many))) in
          record {
            left = omega (arith, h.left, many);
            short = h.short ∙ before ∙ sym (none_so (length both) (nat_lt limits.serial (first.serial + length both)) (le-ltb limits.serial (first.serial + length both) enough));
          }

  pub was_enough : (r : Room) → (took (length fs) r).is_short ≡ false → r.is_short ≡ false
  was_enough r = by (nat_lt r.left (length fs))
    where
      by : (b : Bool) → (cond b (record r { left = 0; is_short = true }) (record r { left = r.left - length fs })).is_short ≡ false → r.is_short ≡ false
      by true is = absurd cc
      by false is = is

  pub was_fit : (r : Room) → (took (length fs) r).is_full ≡ false → r.is_full ≡ false
  was_fit r = by (nat_lt r.left (length fs))
    where
      by : (b : Bool) → (cond b (record r { left = 0; is_short = true }) (record r { left = r.left - length fs })).is_full ≡ false → r.is_full ≡ false
      by true is = is
      by false is = is

  -- ---- tables

  module _ (kept : Kept) (numbers later : Meta) (old new : State) where
    -- where entries came so far, what the tables keep and the numbers say: those are appended to what was kept
    pub record Now (held_there : Kept) : Type 0 where
      pub held : Keeps held_there old
      pub pending : numbers.pending ≡ length held_there.entries
      pub serial : numbers.serial ≡ first.serial + length es
      pub waiting : length held_there.entries ≡ length kept.entries + length es
      pub joined : appended (numbered numbers.serial fs) (outbox_of numbers held_there) ≡ appended (numbered first.serial both) (outbox_of first kept)
      pub again : (o : Outbox) → with_outbox o held_there ≡ with_outbox o kept
      pub there : Outbox
      pub same : held_there ≡ with_outbox there kept
      pub others : (o : Outbox) (n : ℕ) → record (counting o numbers) { serial = n } ≡ record (counting o first) { serial = n }

    appended_now : (there : Kept) → Now there → IsAppended limits fs numbers later there new → IsAppended limits both first later kept new
    appended_now there now b = by (check_room limits.serial limits.pending numbers.serial (length there.entries) (length fs)) (decided limits.serial limits.pending numbers.serial (length there.entries) (length fs)) b.decided
      where
        by : (r : Result Unit Refusal) → Decided limits.serial limits.pending numbers.serial (length there.entries) (length fs) r → (r >>= λ _. Ok (with_further numbers.serial fs (outbox_of numbers there))) ≡ Ok (b.outbox, b.serial) → IsAppended limits both first later kept new
        by r (none is) same = absurd (omega (arith, is, some))
        by r (short any lacks) same = absurd cc
        by r (full any left is) same = absurd cc
        by r (room any left fits) same =
            let further_ones : with_further numbers.serial fs (outbox_of numbers there) ≡ (b.outbox, b.serial) = same_Some (with_further numbers.serial fs (outbox_of numbers there)) (b.outbox, b.serial) (ap result_ok same) in
            let space : check_room limits.serial limits.pending first.serial (length kept.entries) (length both) ≡ Ok tt =
            has_room limits.serial limits.pending first.serial (length kept.entries) (length both) (omega (arith, left, now.serial, many)) (omega (arith, fits, now.waiting, many)) in
            let drawn : numbers.serial + length fs ≡ first.serial + length both = omega (arith, now.serial, many) in
            let whole : with_further first.serial both (outbox_of first kept) ≡ (b.outbox, b.serial) = sym (λ i. (now.joined i, drawn i)) ∙ further_ones in
            record {
              outbox = b.outbox;
              serial = b.serial;
              decided = ap (λ (r : Result Unit Refusal). r >>= λ _. Ok (with_further first.serial both (outbox_of first kept))) space ∙ ap (λ (x : Outbox × ℕ). Ok x) whole;
              keeps = subst (λ (k : Kept). Keeps k new) (now.again b.outbox) b.keeps;
              counted = b.counted ∙ now.others b.outbox b.serial;
            }

    is_full_so : (there : Kept) → Now there → further limits numbers.serial fs (outbox_of numbers there) ≡ Err OutboxFull → (not (length both == 0) && nat_lt limits.pending (length kept.entries + length both)) ≡ true
    is_full_so there now = by (check_room limits.serial limits.pending numbers.serial (length there.entries) (length fs)) (decided limits.serial limits.pending numbers.serial (length there.entries) (length fs))
      where
        by : (r : Result Unit Refusal) → Decided limits.serial limits.pending numbers.serial (length there.entries) (length fs) r → (r >>= λ _. Ok (with_further numbers.serial fs (outbox_of numbers there))) ≡ Err OutboxFull
            → (not (length both == 0) && nat_lt limits.pending (length kept.entries + length both)) ≡ true
        by r (none is) same = absurd cc
        by r (short any lacks) same = absurd cc
        by r (full any left is) same = some_so (length both) (nat_lt limits.pending (length kept.entries + length both)) (omega (arith, many, some)) (lt-ltb limits.pending (length kept.entries + length both) (omega (arith, is, now.waiting, many)))
        by r (room any left fits) same = absurd cc

    is_short_so : (there : Kept) → Now there → further limits numbers.serial fs (outbox_of numbers there) ≡ Err Exhausted → are_short limits.serial first.serial both ≡ true
    is_short_so there now = by (check_room limits.serial limits.pending numbers.serial (length there.entries) (length fs)) (decided limits.serial limits.pending numbers.serial (length there.entries) (length fs))
      where
        by : (r : Result Unit Refusal) → Decided limits.serial limits.pending numbers.serial (length there.entries) (length fs) r → (r >>= λ _. Ok (with_further numbers.serial fs (outbox_of numbers there))) ≡ Err Exhausted → are_short limits.serial first.serial both ≡ true
        by r (none is) same = absurd cc
        by r (short any lacks) same = some_so (length both) (nat_lt limits.serial (first.serial + length both)) (omega (arith, many, some)) (lt-ltb limits.serial (first.serial + length both) (omega (arith, lacks, now.serial, many)))
        by r (full any left is) same = absurd cc
        by r (room any left fits) same = absurd cc

    -- the entries behind those that came so far
    pub come_more : (r after : Room) (there : Kept) → HasLeft limits first es r → (took (length fs) r).is_full ≡ false → Now there
        → ((after ≡ took (length fs) r) × IsAppended limits fs numbers later there new)
        ⊎ ((after ≡ record (took (length fs) r) { is_full = true }) × (further limits numbers.serial fs (outbox_of numbers there) ≡ Err OutboxFull) × Keeps there new)
        ⊎ ((after ≡ record (took (length fs) r) { is_short = true }) × (further limits numbers.serial fs (outbox_of numbers there) ≡ Err Exhausted) × Keeps there new)
        → AreSoFar limits first kept both after later new
    come_more r after there h fit now (inl written) = subst (λ (room : Room). AreSoFar limits first kept both room later new) (sym written.0) (record {
      come = record { left = took_left r h; full = λ is. absurd (true≢false (sym is ∙ fit)) };
      written = λ had. inr (appended_now there now written.1);
      tables = let b = appended_now there now written.1 in (b.outbox, b.keeps);
    })
    come_more r after there h fit now (inr (inl many_wait)) = subst (λ (room : Room). AreSoFar limits first kept both room later new) (sym many_wait.0) (record {
      come = record { left = record { left = (took_left r h).left; short = (took_left r h).short }; full = λ is. is_full_so there now many_wait.1 };
      written = λ had. absurd (true≢false had.1);
      tables = (now.there, subst (λ (k : Kept). Keeps k new) now.same many_wait.2);
    })
    come_more r after there h fit now (inr (inr lacks)) = subst (λ (room : Room). AreSoFar limits first kept both room later new) (sym lacks.0) (record {
      come = record { left = record { left = (took_left r h).left; short = sym (is_short_so there now lacks.1) }; full = λ is. absurd (true≢false (sym is ∙ fit)) };
      written = λ had. absurd (true≢false had.0);
      tables = (now.there, subst (λ (k : Kept). Keeps k new) now.same lacks.2);
    })

    -- what the tables keep where entries came so far
    pub now_kept : AreDrawn first kept → first.pending ≡ length kept.entries → AreAppended limits first numbers kept es old → (there : Kept) × Now there
    now_kept drawn waits (inl (nothing, same, held)) = (
      kept,
      record {
        held = held;
        pending = ap (λ (n : Meta). n.pending) same ∙ waits;
        serial = let none : length es ≡ 0 = ap length nothing in let last : numbers.serial ≡ first.serial = ap (λ (n : Meta). n.serial) same in omega (arith, none, last);
        waiting = let none : length es ≡ 0 = ap length nothing in omega (arith, none);
        joined = λ i. appended (numbered (same i).serial (sym nothing_more i)) (outbox_of (same i) kept);
        again = λ o. refl;
        there = outbox_of numbers kept;
        same = refl;
        others = λ o n i. record (counting o (same i)) { serial = n };
      },
    )
      where
        nothing_more : es ++ fs ≡ fs
        nothing_more = ap (λ xs. xs ++ fs) nothing
    now_kept drawn waits (inr a) = by (check_room limits.serial limits.pending first.serial (length kept.entries) (length es)) a.decided
      where
        with_a : with_further first.serial es (outbox_of first kept) ≡ (a.outbox, a.serial) → (there : Kept) × Now there
        with_a whole =
            let outbox : appended (numbered first.serial es) (outbox_of first kept) ≡ a.outbox = ap (λ (x : Outbox × ℕ). x.0) whole in
            let last : first.serial + length es ≡ a.serial = ap (λ (x : Outbox × ℕ). x.1) whole in
            let drawn_last : numbers.serial ≡ first.serial + length es = ap (λ (n : Meta). n.serial) a.counted ∙ sym last in
            let counts : outbox_of numbers (with_outbox a.outbox kept) ≡ a.outbox = λ i. record { entries = a.outbox.entries; remotes = a.outbox.remotes; counts = (a.counted i).counts } in (
              with_outbox a.outbox kept,
              record {
                held = a.keeps;
                pending = ap (λ (n : Meta). n.pending) a.counted;
                serial = drawn_last;
                waiting = ap (λ (o : Outbox). length o.entries) (sym outbox) ∙ further_wait first.serial es kept.entries drawn;
                joined = (λ i. appended (numbered (drawn_last i) fs) ((counts ∙ sym outbox) i)) ∙ appended_more first.serial es fs (outbox_of first kept);
                again = λ o. refl;
                there = a.outbox;
                same = refl;
                others = λ o n i. record (counting o (a.counted i)) { serial = n };
              },
            )

        by : (r : Result Unit Refusal) → (r >>= λ _. Ok (with_further first.serial es (outbox_of first kept))) ≡ Ok (a.outbox, a.serial) → (there : Kept) × Now there
        by (Ok x) same = with_a (same_Some (with_further first.serial es (outbox_of first kept)) (a.outbox, a.serial) (ap result_ok same))
        by (Err e) same = absurd cc
