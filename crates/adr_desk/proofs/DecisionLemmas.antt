-- What the layers below carry out is what the command decides.
use Rattle.std.proofs.Common.{◌≡◌, ◌⊎◌, inl, inr, ℕ, ◌+◌, Bool, List, [], Option, Some, Result, Ok, Err, IfErr, refl, sym, ap, subst, ◌∙◌}
use Rattle.std.proofs.lemmas.Result.{IfErr-weaker}
use Rattle.std.specs.Result.{IsErrAnd}
use Rattle.adr_db.proofs.Common.{Ghosts, Held, state, IsRefusalOf, Refusal, OutOfMemory, Store, Base, PortfolioChange, BaseChange, JoinMarks, SetScan, ChangePortfolio, changed, MirrorKey, scan_begin, Limits}
use Rattle.adr_text.specs.Refusals.{◌>>=◌, Fails}
use Rattle.adr_subscription.specs.declared.subscription.SubIn.{SubIn}
use Rattle.adr_subscription.specs.Callbacks.{settled}
use Rattle.adr_state.specs.declared.portfolio.Portfolio.{Portfolio}
use Rattle.adr_state.specs.declared.state.State.{State}
use Rattle.sqlite.specs.State as sql
use Rattle.adr_db.specs.declared.meta.Meta.{Meta}
use Rattle.adr_db.specs.Bases.{Beside, meta_of, with_base, counting, kept_beside, HoldsBeside}
use Rattle.adr_db.specs.BaseCalls.{Carries, Makes, RefusesOn}
use Rattle.adr_db.specs.Calls.{IsOfStore}
use Rattle.adr_machine.specs.declared.outcome.Outcome.{Outcome}
use Rattle.adr_machine.specs.declared.outcome.Outcome.TheVariants as outcome
use Rattle.adr_db.proofs.Results.{refused_so, then_refused}
use Rattle.sqlite.specs.State.{HasCleanDisk}
use Rattle.adr_db.specs.Images.{image_kept}
use Rattle.adr_state.specs.declared.base.Mark.{Mark}
use Rattle.adr_view.specs.declared.sight.Sight.{Sight}
use Rattle.adr_queries.specs.declared.role.Role.{Role}
use Rattle.adr_queries.specs.declared.role.Role.TheVariants as role
use Rattle.adr_queries.specs.Roles.{sight_of}
use Rattle.adr_queries.specs.declared.answer.Answer.TheVariants as answer
use Rattle.adr_state.specs.Serials.{drawn}
use Rattle.adr_machine.specs.Edits.{draws_number, Decision, counted, answered, of_portfolio, decided, told_by, numbered, edit_of}
use Rattle.adr_machine.specs.declared.command.Command.{Command}
use Rattle.adr_machine.specs.declared.command.Command.TheVariants.{Lease, Sent, Failed}
use Rattle.adr_db.specs.Kept.{Kept, Keeps, first_meta}
use Rattle.adr_kept_view.proofs.OrderLemmas.{held_in_order}
use Rattle.adr_commit.proofs.Quiet.{same_rows}
use Rattle.adr_touched.specs.declared.touched.Touched.{Touched}
use Rattle.adr_touched.specs.Touched.{Covers, CoversWhatTouchesNothing}
use Rattle.adr_desk.specs.Steps.{IsEdited}
use Rattle.adr_desk.specs.Decisions.{IsDecided, CarriesOut, with_touched}

-- what reading gives where it fails
failed_refused : {A : Type 0} (e : Refusal) (r : Result A Refusal) → Fails e r → IsRefusalOf e r
failed_refused OutOfMemory r h = tt
failed_refused Store r h = tt
failed_refused e r h = h

-- whatever is told of what went well
pub told_refused : {A B C : Type 0} (e : Refusal) (first : Result A Refusal) (f : A → B) (h : A → C) → IsRefusalOf e (first >>= λ x. Ok (f x)) → IsRefusalOf e (first >>= λ x. Ok (h x))
told_refused OutOfMemory first f h is = tt
told_refused Store first f h is = tt
told_refused e (Ok x) f h is = absurd cc
told_refused e (Err d) f h is = cc

-- want of memory and the store's refusal stand in place of any
pub of_store : {A : Type 0} (e : Refusal) (r : Result A Refusal) → IsOfStore e → IsRefusalOf e r
of_store e r (inl is) = subst (λ (d : Refusal). IsRefusalOf d r) (sym is) tt
of_store e r (inr is) = subst (λ (d : Refusal). IsRefusalOf d r) (sym is) tt

-- what was asked of the tables before, which is right of the base and leaves them
abbrev pub Asks : {S : Type 0} → Ghosts S → Held S → Held S → (Base → Type 0) → Type 0
Asks g old asked Right = HasCleanDisk (state g asked) → (beside : Beside) (base : Base) → HoldsBeside beside base (state g old) → Right base × HoldsBeside beside base (state g asked)

-- nothing was
pub asks_nothing : {S : Type 0} (g : Ghosts S) (old : Held S) → Asks g old old (λ base. Unit {0})
asks_nothing g old clean beside base was = (tt, was)

module _ {S : Type 0} (g : Ghosts S) (old asked new : Held S) (Right : Base → Type 0) (asks : Asks g old asked Right) (early : HasCleanDisk (state g new) → HasCleanDisk (state g asked)) where
  -- a decision of a change of the portfolio, by the whole base
  pub change_carries : {A : Type 0} (comes : A → Outcome) (decide : Base → Result (A × PortfolioChange) Refusal) (touched : Touched) (before after : Meta) (r : Result A Refusal)
      → Carries g asked new decide before after r → RefusesOn g asked new decide before r
      → ((base : Base) → Right base → (x : A) (change : PortfolioChange) → decide base ≡ Ok (x, change) → Covers (ChangePortfolio change) base touched)
      → CarriesOut g old new (λ base. of_portfolio comes (decide base)) before after (told_by (with_touched touched) (told_by comes r))
  change_carries comes decide touched before after (Ok x) carries refuses covers = record {
    decides = λ clean beside base was same.
        let found = asks (early clean) beside base was in
        let it = carries clean beside base found.1 same in
        record {
          change = ChangePortfolio it.change;
          decided = ap (of_portfolio comes) it.decided;
          holds = it.left.holds;
          counted = it.left.counted;
          covers = covers base found.0 x it.change it.decided;
        };
    refuses = λ clean. tt;
  }
  change_carries comes decide touched before after (Err e) carries refuses covers = record {
    decides = λ clean. tt;
    refuses = λ clean beside base was same. then_refused e (decide base) _ (refuses clean beside base (asks (early clean) beside base was).1 same);
  }

  -- and by the portfolio alone
  pub portfolio_carries : {A : Type 0} (comes : A → Outcome) (decide : Portfolio → Result (A × PortfolioChange) Refusal) (touched : Touched) (before after : Meta) (r : Result A Refusal)
      → Carries g asked new (λ base. decide base.portfolio) before after r → RefusesOn g asked new (λ base. decide base.portfolio) before r
      → ((base : Base) → Right base → (x : A) (change : PortfolioChange) → decide base.portfolio ≡ Ok (x, change) → Covers (ChangePortfolio change) base touched)
      → CarriesOut g old new (λ base. of_portfolio comes (decide base.portfolio)) before after (told_by (with_touched touched) (told_by comes r))
  portfolio_carries comes decide = change_carries comes (λ base. decide base.portfolio)

module _ {S : Type 0} (g : Ghosts S) (old new : Held S) where
  -- one whose change is decided by itself, whose answer follows, and which touches nothing
  module _ {A : Type 0} (tell : A → Outcome) (part : Base → Result BaseChange Refusal) (whole : Base → Result Decision Refusal) (touched : Touched) (before after : Meta) (IsRight : Base → Base → A → Type 0)
      (follows : (base : Base) (change : BaseChange) (x : A) → part base ≡ Ok change → IsRight base (changed change base) x → whole base ≡ Ok (record { outcome = tell x; change = change }))
      (refused : (base : Base) (e : Refusal) → IsRefusalOf e (part base) → IsRefusalOf e (whole base))
      (covers : (base : Base) (change : BaseChange) (x : A) → part base ≡ Ok change → IsRight base (changed change base) x → Covers change base touched) where
    base_carries : (r : Result A Refusal) → Makes g old new part before after IsRight r → RefusesOn g old new part before r → CarriesOut g old new whole before after (told_by (with_touched touched) (told_by tell r))
    base_carries (Ok x) makes refuses = record {
      decides = λ clean beside base was same. let it = makes clean beside base was same in record {
        change = it.change;
        decided = follows base it.change x it.decided it.right;
        holds = it.holds;
        counted = it.counted;
        covers = covers base it.change x it.decided it.right;
      };
      refuses = λ clean. tt;
    }
    base_carries (Err e) makes refuses = record { decides = λ clean. tt; refuses = λ clean beside base was same. refused base e (refuses clean beside base was same) }

  -- a scan that is opened or closed touches nothing
  scan_covers : (touched : Touched) → CoversWhatTouchesNothing touched → (scan : Option (List MirrorKey)) (base : Base) (change : BaseChange) → SetScan scan ≡ change → Covers change base touched
  scan_covers touched none scan base change is = subst (λ (c : BaseChange). Covers c base touched) is (none (SetScan scan) base refl)

  -- a scan is opened
  pub begun_carries : (touched : Touched) → CoversWhatTouchesNothing touched → (before after : Meta) (r : Result Unit Refusal) → Makes g old new (λ base. Ok scan_begin) before after (λ base made x. Unit {0}) r → IfErr r IsOfStore
      → CarriesOut g old new (λ base. Ok (answered answer.Done scan_begin)) before after (told_by (with_touched touched) (told_by (λ x. outcome.Told answer.Done) r))
  begun_carries touched none before after r makes refused =
      base_carries (λ x. outcome.Told answer.Done) (λ base. Ok scan_begin) _ touched before after _ (λ base change x is right. ap (λ (r : Result BaseChange Refusal). r >>= λ change. Ok (answered answer.Done change)) is)
      (λ base e h. then_refused e (Ok scan_begin) (λ change. Ok (answered answer.Done change)) h)
      (λ base change x is right. let same : scan_begin ≡ change = cc is in scan_covers touched none (Some []) base change same)
      r makes (λ clean. IfErr-weaker r IsOfStore _ (λ e h beside base was same. of_store e _ h) refused)

-- want of memory and the store's refusal stand in place of any
module _ {S : Type 0} (g : Ghosts S) (old new : Held S) (decide : Base → Result Decision Refusal) (before after : Meta) where
  pub store_carries : (e : Refusal) (r : Result (Outcome × Touched) Refusal) → IsErrAnd r (λ x. x ≡ e) → IsOfStore e → CarriesOut g old new decide before after r
  store_carries e (Ok x) is store = absurd is
  store_carries e (Err x) is store = record { decides = λ clean. tt; refuses = λ clean beside base was same. of_store x (decide base) (subst IsOfStore (sym is) store) }

-- a refusal is handed on
pub passed_carries : {S : Type 0} (g : Ghosts S) (old new : Held S) (decide : Base → Result Decision Refusal) (before after : Meta) (e : Refusal) (r : Result (Outcome × Touched) Refusal) → IsErrAnd r (λ x. x ≡ e) → CarriesOut g old new decide before after (Err e) → CarriesOut g old new decide before after r
passed_carries g old new decide before after e (Ok x) is carries = absurd is
passed_carries g old new decide before after e (Err x) is carries = subst (λ (x : Refusal). CarriesOut g old new decide before after (Err x)) (sym is) carries

-- what is about an entry of the outbox leaves the base
module _ {S : Type 0} (g : Ghosts S) (old : Held S) (limits : Limits) (now n : ℕ) (meta : Meta) (touched : Touched) (none : CoversWhatTouchesNothing touched) where
  left_carries : (c : Command) → ((base : Base) → decided limits now n base c ≡ Ok (answered answer.Done (SetScan base.scan))) → CarriesOut g old old (λ base. decided limits now n base c) meta meta (Ok (outcome.Told answer.Done, touched))
  left_carries c is = record {
    decides = λ clean beside base was same. record { change = SetScan base.scan; decided = is base; holds = was; counted = same; covers = none (SetScan base.scan) base refl };
    refuses = λ clean. tt;
  }

  pub delivery_carries : (c : Command) → (c ≡ Lease) ⊎ (((entry : ℕ) × (lease : ℕ) × (remote : Option (List ℕ)) × (c ≡ Sent entry lease remote)) ⊎ ((entry : ℕ) × (lease : ℕ) × (forget : Bool) × (c ≡ Failed entry lease forget)))
      → CarriesOut g old old (λ base. decided limits now n base c) meta meta (Ok (outcome.Told answer.Done, touched))
  delivery_carries c (inl is) = rw is (left_carries Lease (λ base. refl))
  delivery_carries c (inr (inl sent)) = rw sent.3 (left_carries (Sent sent.0 sent.1 sent.2) (λ base. refl))
  delivery_carries c (inr (inr failed)) = rw failed.3 (left_carries (Failed failed.0 failed.1 failed.2) (λ base. refl))

-- a decision on reports, by who sees this much
module _ {S : Type 0} (g : Ghosts S) (old asked mid new : Held S) {A : Type 0} (comes : A → Outcome) (decide : Sight → List (MirrorKey × Mark) → Portfolio → Result (A × PortfolioChange) Refusal) (giver : Role) (Right : Base → Type 0) (asks : Asks g old asked Right) (asked_early : HasCleanDisk (state g mid) → HasCleanDisk (state g asked)) where
  abbrev whole : Base → Result Decision Refusal
  whole base = sight_of base giver >>= λ sight. of_portfolio comes (decide sight base.mirror base.portfolio)

  -- of the base nothing is looked at but its vens
  sight_kept : (r : Role) (beside : Beside) (base : Base) → sight_of (image_kept (kept_beside beside base)).base r ≡ sight_of base r
  sight_kept role.Operator beside base = refl
  sight_kept (role.Ven id) beside base = refl
  sight_kept role.Utility beside base = refl

  pub sight_carries : (sight : Sight) (before after : Meta) (r : Result A Refusal) → (HasCleanDisk (state g new) → HasCleanDisk (state g mid))
      → (HasCleanDisk (state g mid) → (kept : Kept) → Keeps kept (state g asked) → (sight_of (image_kept kept).base giver ≡ Ok sight) × Keeps kept (state g mid))
      → Carries g mid new (λ base. decide sight base.mirror base.portfolio) before after r → RefusesOn g mid new (λ base. decide sight base.mirror base.portfolio) before r
      → (touched : Touched) → ((base : Base) → Right base → (x : A) (change : PortfolioChange) → r ≡ Ok x → decide sight base.mirror base.portfolio ≡ Ok (x, change) → Covers (ChangePortfolio change) base touched)
      → CarriesOut g old new whole before after (told_by (with_touched touched) (told_by comes r))
  sight_carries sight before after (Ok x) early sees carries refuses touched covers = record {
    decides = λ clean beside base was same.
        let found = asks (asked_early (early clean)) beside base was in
        let seen = sees (early clean) (kept_beside beside base) found.1 in
        let it = carries clean beside base seen.1 same in
        record {
          change = ChangePortfolio it.change;
          decided = ap (λ (s : Result Sight Refusal). s >>= λ sight. of_portfolio comes (decide sight base.mirror base.portfolio)) (sym (sight_kept giver beside base) ∙ seen.0) ∙ ap (of_portfolio comes) it.decided;
          holds = it.left.holds;
          counted = it.left.counted;
          covers = covers base found.0 x it.change refl it.decided;
        };
    refuses = λ clean. tt;
  }
  sight_carries sight before after (Err e) early sees carries refuses touched covers = record {
    decides = λ clean. tt;
    refuses = λ clean beside base was same.
        let found = asks (asked_early (early clean)) beside base was in
        let seen = sees (early clean) (kept_beside beside base) found.1 in
        subst (λ (s : Result Sight Refusal). IsRefusalOf e (s >>= λ sight. of_portfolio comes (decide sight base.mirror base.portfolio))) (sym (sym (sight_kept giver beside base) ∙ seen.0))
        (then_refused e (decide sight base.mirror base.portfolio) _ (refuses clean beside base seen.1 same));
  }

  -- who sees nothing is refused
  pub unseen_carries : (before after : Meta) (e : Refusal) (r : Result (Outcome × Touched) Refusal) → IsErrAnd r (λ x. x ≡ e) → (HasCleanDisk (state g new) → HasCleanDisk (state g mid)) → (HasCleanDisk (state g mid) → (kept : Kept) → Keeps kept (state g asked) → IsRefusalOf e (sight_of (image_kept kept).base giver)) → CarriesOut g old new whole before after r
  unseen_carries before after e (Ok x) is early refuses = absurd is
  unseen_carries before after e (Err x) is early refuses = record {
    decides = λ clean. tt;
    refuses = λ clean beside base was same.
        let found = asks (asked_early (early clean)) beside base was in
        subst (λ (x : Refusal). IsRefusalOf x (whole base)) (sym is) (then_refused e (sight_of base giver) _ (subst (IsRefusalOf e) (sight_kept giver beside base) (refuses (early clean) (kept_beside beside base) found.1)));
  }

-- what is not settled is refused, whatever the tables hold
module _ {S : Type 0} (g : Ghosts S) (old new : Held S) (sub : SubIn) (f : SubIn → Base → Result Decision Refusal) (before after : Meta) where
  pub unsettled_carries : (e : Refusal) (r : Result (Outcome × Touched) Refusal) → IsErrAnd r (λ x. x ≡ e) → Fails e (settled sub) → CarriesOut g old new (λ base. settled sub >>= λ body. f body base) before after r
  unsettled_carries e (Ok x) is fails = absurd is
  unsettled_carries e (Err x) is fails = record {
    decides = λ clean. tt;
    refuses = λ clean beside base was same. subst (λ (x : Refusal). IsRefusalOf x (settled sub >>= λ body. f body base)) (sym is) (then_refused e (settled sub) (λ body. f body base) (failed_refused e (settled sub) fails));
  }

  -- of what is settled, what follows is what is decided
  pub settled_carries : (body : SubIn) (r : Result (Outcome × Touched) Refusal) → settled sub ≡ Ok body → CarriesOut g old new (f body) before after r → CarriesOut g old new (λ base. settled sub >>= λ body. f body base) before after r
  settled_carries body r is carries = subst (λ (s : Result SubIn Refusal). CarriesOut g old new (λ base. s >>= λ body. f body base) before after r) (sym is) carries

-- no change draws a number
pub serial_stays : (change : BaseChange) (base : Base) → (changed change base).serial ≡ base.serial
serial_stays (JoinMarks marks scan) base = refl
serial_stays (SetScan scan) base = refl
serial_stays (ChangePortfolio change) base = refl

-- numbers with those of a base have them
pub numbers_own : (first : Meta) (base : Base) (numbers : Meta) → numbers ≡ with_base first base → numbers ≡ with_base numbers base
numbers_own first base numbers is = is ∙ ap (λ (m : Meta). with_base m base) (sym is)

-- so have numbers that were read of a state
pub numbers_read : (held : State) (numbers : Meta) → numbers ≡ meta_of held → numbers ≡ with_base numbers held.base
numbers_read held numbers is = numbers_own (counting held.outbox first_meta) held.base numbers is

-- what was decided, and its number drawn, is the edit
module _ (limits : Limits) (now : ℕ) (command : Command) (base : Base) (n : ℕ) (next : n ≡ base.serial + 1) where
  pub decision_refused : (e : Refusal) → IsRefusalOf e (decided limits now n base command) → IsRefusalOf e (edit_of limits now base command)
  decision_refused e h = then_refused e (decided limits now (base.serial + 1) base command) (numbered limits (draws_number command) base) (subst (λ (m : ℕ). IsRefusalOf e (decided limits now m base command)) next h)

  module _ (beside : Beside) (before meta : Meta) (said : Outcome) (touched : Touched) (s : sql.State) (it : IsDecided (λ base. decided limits now n base command) beside base before meta said touched s) where
    -- the edit, when it is known what is drawn
    drawn_is : (r : Result ℕ Refusal) → drawn limits meta.serial (draws_number command) ≡ r → edit_of limits now base command ≡ (r >>= λ serial. Ok (said, record (changed it.change base) { serial = serial }))
    drawn_is r is =
        let same : base.serial ≡ meta.serial = sym (ap (λ (m : Meta). m.serial) it.counted ∙ serial_stays it.change base) in
        ap (λ (r : Result Decision Refusal). r >>= numbered limits (draws_number command) base) (ap (λ (m : ℕ). decided limits now m base command) (sym next) ∙ it.decided)
        ∙ ap (λ (r : Result ℕ Refusal). r >>= λ serial. Ok (said, record (changed it.change base) { serial = serial })) (ap (λ (serial : ℕ). drawn limits serial (draws_number command)) same ∙ is)

    pub draw_refused : (e : Refusal) → drawn limits meta.serial (draws_number command) ≡ Err e → IsRefusalOf e (edit_of limits now base command)
    draw_refused e is = refused_so e _ (drawn_is (Err e) is)

    pub is_edited : (serial : ℕ) → drawn limits meta.serial (draws_number command) ≡ Ok serial → IsEdited (λ base. edit_of limits now base command) beside base before (record meta { serial = serial }) said touched s
    is_edited serial left = record {
      next = record (changed it.change base) { serial = serial };
      edited = drawn_is (Ok serial) left;
      holds = it.holds;
      counted = ap (λ (m : Meta). let after : Meta = record m { serial = serial } in after) it.counted;
      stands = it.covers.stands;
      all = λ source out. it.covers.all source out ∙ sym (same_rows (changed it.change base) serial (held_in_order beside (changed it.change base) s it.holds) source);
    }
