-- No entry that waits has the number of a ven, a resource, a report or a subscription.
use Rattle.std.proofs.Common.{◌≡◌, ◌≤◌, ◌+◌, ℕ, Bool, true, false, not, List, [], ◌++◌, ◌⊎◌, inl, inr, Result, IfOk, sym, ap, subst, arith}
use Rattle.std.specs.Prelude.{◌≢◌, IsSome, is_some}
use Rattle.std.specs.Map.{remove_entry}
use Rattle.std.proofs.lemmas.Bool.{cond_both}
use Rattle.adr_laws.proofs.Common.{All, All-append, Contains, exact_unsigned, insert_entry, is_at, keys_of, nat_cmp, Base, BaseChange, ChangePortfolio, JoinMarks, SetScan, Settings, State, Command, changed, empty, state_after, step_at, Refusal}
use Rattle.adr_subscription.specs.declared.kept_sub.Sub.{Sub}
use Rattle.adr_delivery.specs.declared.delivery.Delivery.{Delivery}
use Rattle.adr_delivery.specs.declared.entry.Entry.{Entry}
use Rattle.adr_delivery.specs.declared.outbox.Outbox.{Outbox}
use Rattle.adr_delivery.specs.Outboxes.{has_addressee, with_delivery}
use Rattle.adr_state.specs.declared.portfolio.Portfolio.{Portfolio}
use Rattle.adr_state.specs.Frozen.{is_frozen}
use Rattle.adr_view.proofs.FrozenLemmas.{frozen_now}
use Rattle.adr_state.specs.Portfolios.{is_sub_of, PortfolioChange, DropVen, PutSub, DropSub, Freeze, portfolio_after}
use Rattle.adr_view.proofs.ListLemmas.{from_map}
use Rattle.adr_view.proofs.RowLemmas.{from_filter, from_put, from_removal}
use Rattle.adr_queries.specs.declared.answer.Answer.{Answer}
use Rattle.adr_machine.specs.Edits.{Decision, draws_number}
use Rattle.adr_laws.specs.Entries.{reached, EntriesHaveNumbers}
use Rattle.adr_laws.specs.Laws.{numbers_of}
use Rattle.adr_laws.proofs.Decisions.{FitsBase, FitsPortfolio, IsAnswered, entries_by, state_by, after_step}
use Rattle.adr_laws.proofs.NumberLemmas.{each_number, serial_then}
use Rattle.adr_laws.proofs.OutboxLemmas.{AllWait, left_by, left_wait, made_fresh, step_waits}
use Rattle.adr_laws.proofs.PortfolioLemmas.{Whole, base_whole, none_whole, step_whole, used_low}
use Rattle.adr_laws.proofs.ReportLemmas.{IsOneOrNext, is_one, one_put}
use Rattle.adr_laws.proofs.RunLemmas.{run_keeps}
use Rattle.adr_laws.proofs.SubLemmas.{HasRow, IsUsed, one_of, used_after}
use Rattle.adr_laws.proofs.WaitLemmas.{First, IsLeased, Wait, none_wait, wait_from_here, more_wait, delivered_holds}

-- ---- numbers of rows

-- a ven, a resource, a report or a subscription has the number
abbrev IsNumbered : Portfolio → ℕ → Type 0
IsNumbered p n = IsUsed p n ⊎ HasRow p.subs n

subs_after : (serial : ℕ) (draws : Bool) (p : Portfolio) (change : PortfolioChange) → FitsPortfolio (serial + 1) draws p change → (s : ℕ × Sub) → Contains (portfolio_after change p).subs s → IsOneOrNext serial p.subs s.0
subs_after serial draws p (DropVen n) fits = λ s there. is_one serial p.subs s (from_filter (λ (s : ℕ × Sub). not (is_sub_of n s.1)) p.subs s there).0
subs_after serial true p (PutSub n sub) fits = one_put serial true n sub p.subs fits.0
subs_after serial false p (PutSub n sub) fits = one_put serial false n sub p.subs (ap is_some fits.1)
subs_after serial draws p (DropSub n) fits = λ s there. is_one serial p.subs s (from_removal (is_at (nat_cmp n)) p.subs s there)
subs_after serial draws p (Freeze id pairs) fits = cond_both (is_frozen p id) p (frozen_now p id pairs) (λ (q : Portfolio). (s : ℕ × Sub) → Contains q.subs s → IsOneOrNext serial p.subs s.0) (λ frozen. is_one serial p.subs) (λ fresh. is_one serial p.subs)
subs_after serial draws p change fits = is_one serial p.subs

-- after a change each number of a row is one of before, or the next one
portfolio_numbered : (serial : ℕ) (draws : Bool) (p : Portfolio) (change : PortfolioChange) → FitsPortfolio (serial + 1) draws p change → (n : ℕ) → IsNumbered (portfolio_after change p) n → IsNumbered p n ⊎ (n ≡ serial + 1)
portfolio_numbered serial draws p change fits n (inl used) = elim (used_after serial draws p change fits n used) [ inl old ↦ inl (inl old) | inr next ↦ inr next ]
portfolio_numbered serial draws p change fits n (inr sub) = elim (one_of serial p.subs sub.0.0 n sub.2 (subs_after serial draws p change fits sub.0 sub.1)) [ inl old ↦ inl (inr old) | inr next ↦ inr next ]

base_numbered : (draws : Bool) (base : Base) (change : BaseChange) → FitsBase (base.serial + 1) draws base change → (n : ℕ) → IsNumbered (changed change base).portfolio n → IsNumbered base.portfolio n ⊎ (n ≡ base.serial + 1)
base_numbered draws base (JoinMarks marks scan) fits n numbered = inl numbered
base_numbered draws base (SetScan scan) fits n numbered = inl numbered
base_numbered draws base (ChangePortfolio change) fits n numbered = portfolio_numbered base.serial draws base.portfolio change fits n numbered

-- and was drawn
numbered_low : (base : Base) → Whole empty.base base → (n : ℕ) → IsNumbered base.portfolio n → n ≤ base.serial
numbered_low base h n (inl used) = used_low empty.base base.serial base.portfolio h.0 n used
numbered_low base h n (inr sub) = let low = (h.1.drawn sub.0 sub.1).up_to_the_serial in let same = sub.2 in omega (arith, low, same)

-- ---- entries

abbrev Apart : Portfolio → List (ℕ × Entry) → Type 0
Apart p entries = (e : ℕ × Entry) → Contains entries e → IsNumbered p e.0 → ⊥

abbrev AreApart : State → Type 0
AreApart s = Whole empty.base s.base × AllWait 0 [] s × Apart s.base.portfolio s.outbox.entries

step_apart : (settings : Settings) (s : State) (c : ℕ × Command) → AreApart s → AreApart (state_after s (step_at settings s c))
step_apart settings s c h = (
  step_whole empty.base settings s c h.0,
  step_waits 0 [] settings s c h.1,
  after_step settings s c (λ r. Apart (state_after s r).base.portfolio (state_after s r).outbox.entries) (λ refusal. apart)
      (λ a o is done. subst (λ (r : Result (Answer × Outbox) Refusal). IfOk r (λ d. Apart s.base.portfolio d.1.entries)) done (delivered_holds s.outbox h.1.in_order (λ o. Apart s.base.portfolio o.entries) apart again gone gone settings.limits c.0 c.1 is))
      edited,
)
  where
    apart : Apart s.base.portfolio s.outbox.entries
    apart = h.2

    again : (n : ℕ) (e : Entry) (d : Delivery) (remotes : List (List ℕ × List ℕ)) → Contains s.outbox.entries (n, e) → (IsSome d.lease → First s.outbox.entries (n, e)) → Apart s.base.portfolio (insert_entry nat_cmp s.outbox.entries n (with_delivery d e))
    again n e d remotes there leads x among = elim (from_put exact_unsigned n (with_delivery d e) s.outbox.entries x among) [
      | inl old ↦ apart x old
      | inr new ↦ subst (λ (x : ℕ × Entry). IsNumbered s.base.portfolio x.0 → ⊥) (sym new) (apart (n, e) there)
    ]

    gone : (n : ℕ) (e : Entry) (remotes : List (List ℕ × List ℕ)) → IsLeased n s.outbox.entries e → Apart s.base.portfolio (remove_entry (is_at (nat_cmp n)) s.outbox.entries)
    gone n e remotes is x among = apart x (from_removal (is_at (nat_cmp n)) s.outbox.entries x among)

    -- what is made has numbers behind those of all rows, and the others have those that they had
    edited : (d : Decision) (a : Answer) → IsAnswered settings s c d a → Apart (changed d.change s.base).portfolio (state_by settings s c d).outbox.entries
    edited d a is e there numbered =
        let serial : ℕ = serial_then s.base.serial (draws_number c.1) in
        let left : List (ℕ × Entry) = left_by s d in
        let waits : Wait serial (keys_of left) (state_by settings s c d).base.serial (state_by settings s c d).outbox.entries =
        more_wait (entries_by settings s c d) (made_fresh settings s c d) serial left (wait_from_here (left_wait 0 [] s c d h.1)) (omega arith) in
        let low : e.0 ≤ serial = numbered_low (record (changed d.change s.base) { serial = serial }) (base_whole empty.base (draws_number c.1) s.base d.change is.fits.fits h.0) e.0 numbered in
        let row = from_map (λ (x : ℕ × Entry). x.0) left e.0 ((waits.drawn e there).was_there low) in
        let old : Contains s.outbox.entries row.0 = (from_filter (has_addressee (changed d.change s.base).portfolio.subs) s.outbox.entries row.0 row.1).0 in
        elim (base_numbered (draws_number c.1) s.base d.change is.fits.fits e.0 numbered) [
          | inl before ↦ apart row.0 old (subst (IsNumbered s.base.portfolio) row.2 before)
          | inr next ↦ (let most = (h.1.drawn row.0 old).up_to_the_serial in let same = row.2 in absurd (omega (arith, most, same, next)))
        ]

apart_after : (settings : Settings) (cs : List (ℕ × Command)) → AreApart (reached settings cs)
apart_after settings cs = run_keeps (step_at settings) AreApart (step_apart settings) empty cs (none_whole, none_wait, λ e there. absurd (omega (arith, there.1)))

-- ---- as the law says it

pub entries_have_numbers : EntriesHaveNumbers
entries_have_numbers settings cs =
    let s : State = reached settings cs in
    let p : Portfolio = s.base.portfolio in
    let h : AreApart s = apart_after settings cs in
    record {
      at_least_one = each_number (λ n. 1 ≤ n) s.outbox.entries (λ e there. (h.1.drawn e there).at_least_one);
      up_to_the_serial = each_number (λ n. n ≤ s.base.serial) s.outbox.entries (λ e there. (h.1.drawn e there).up_to_the_serial);
      they_rise = h.1.in_order;
      of_nothing_else = each_number (λ m. All (λ n. m ≢ n) (numbers_of s.base)) s.outbox.entries (λ e there.
          let P : ℕ → Type 0 = λ n. e.0 ≢ n in
          All-append P ((keys_of p.vens ++ keys_of p.resources) ++ keys_of p.reports) (keys_of p.subs)
          (All-append P (keys_of p.vens ++ keys_of p.resources) (keys_of p.reports)
          (All-append P (keys_of p.vens) (keys_of p.resources) (each_number P p.vens (λ v one same. h.2 e there (inl (inl (v, one, sym same))))) (each_number P p.resources (λ r one same. h.2 e there (inl (inr (inl (r, one, sym same)))))))
          (each_number P p.reports (λ r one same. h.2 e there (inl (inr (inr (r, one, sym same)))))))
          (each_number P p.subs (λ r one same. h.2 e there (inr (r, one, sym same)))));
    }
