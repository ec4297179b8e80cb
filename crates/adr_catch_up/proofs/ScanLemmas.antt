-- What the scan is after a command: after a `ScanBegin` it is open and empty, only pages add to it, and a `ScanEnd` answers what it lacks.
use Rattle.std.proofs.Common.{◌≡◌, ℕ, ◌+◌, true, false, List, [], ◌∷◌, Option, Some, None, Result, Ok, Err, IfOk, refl, sym, ap, subst, ◌∙◌}
use Rattle.adr_text.specs.Refusals.{◌>>=◌}
use Rattle.adr_text.specs.declared.refusal.Refusal.TheVariants as refusal
use Rattle.adr_objects.specs.declared.body.Found.{Found}
use Rattle.adr_state.specs.BaseChanges.{BaseChange, JoinMarks, changed}
use Rattle.adr_state.specs.Evidence.{adds_beyond, joining, scan_with, open_scan, scan_end}
use Rattle.adr_state.specs.Mirror.{evidence_of, joined, key_of, mark_of}
use Rattle.adr_state.specs.Portfolios.{PortfolioChange}
use Rattle.adr_state.specs.Scans.{keys_found}
use Rattle.adr_state.specs.Serials.{drawn}
use Rattle.adr_state.specs.declared.limits.Limits.{Limits}
use Rattle.adr_subscription.specs.Callbacks.{settled}
use Rattle.adr_delivery.specs.declared.outbox.Outbox.{Outbox}
use Rattle.adr_view.specs.Changes.{changes}
use Rattle.adr_view.specs.Views.{view}
use Rattle.adr_view.proofs.Quiet.{nothing_changes}
use Rattle.adr_queries.specs.Roles.{sight_of}
use Rattle.adr_queries.specs.declared.answer.Answer.TheVariants as answer
use Rattle.adr_machine.specs.declared.command.Command.TheVariants.{Evidence, Gone, ScanBegin, ScanEnd, VenAdd, VenPut, VenRemove, ResourceAdd, ResourcePut, ResourceRemove, ShareSet, Freeze, ReportPost, ReportPut, ReportDelete, SubPost, SubPut, SubDelete, Lease, Sent, Failed}
use Rattle.adr_machine.specs.declared.outcome.Outcome.{Outcome}
use Rattle.adr_machine.specs.declared.outcome.Outcome.TheVariants as outcome
use Rattle.adr_machine.specs.Deliveries.{delivered}
use Rattle.adr_machine.specs.Edits.{Decision, counted, decided, draws_number, edit, edit_of, is_allowed, is_delivery, numbered, of_portfolio}
use Rattle.adr_machine.specs.Steps.{answered_by, committed, delivery_step, edit_step, outbox_then}
use Rattle.adr_machine.specs.Steps.{changed as restamped_by}
use Rattle.adr_machine.proofs.EditLemmas.{first_then, tested, whatever}
use Rattle.adr_catch_up.proofs.Common.{All, All-head, All-insert_key, All-nil, All-tail, Answer, Base, Command, Contains, Contains-from_any, Dead, Mark, MirrorKey, Refusal, Settings, State, cond_both, false≢true, has_key, mirror_cmp, mirror_exact, probes, state_after, state_of, step_at, tells_apart, told}
use Rattle.adr_catch_up.specs.QuietScans.{Given, commands, is_scan_end, page_in}

-- ---- what a command decides of the scan

abbrev scan_by : Command → Option (List MirrorKey) → Option (List MirrorKey)
scan_by (Evidence founds polled) scan = scan_with scan founds polled
scan_by ScanBegin scan = Some []
scan_by ScanEnd scan = None
scan_by _ scan = scan

module _ (limits : Limits) (now next : ℕ) (base : Base) where
  abbrev Leaves : Option (List MirrorKey) → Decision → Type 0
  Leaves scan d = (changed d.change base).scan ≡ scan

  portfolio_leaves : {A : Type 0} (comes : A → Outcome) (r : Result (A × PortfolioChange) Refusal) → IfOk (of_portfolio comes r) (Leaves base.scan)
  portfolio_leaves comes (Ok d) = refl
  portfolio_leaves comes (Err e) = tt

  behind : {B : Type 0} (r : Result B Refusal) (f : B → Result Decision Refusal) → ((x : B) → IfOk (f x) (Leaves base.scan)) → IfOk (r >>= f) (Leaves base.scan)
  behind r f h = first_then (Leaves base.scan) (λ x. Unit {0}) r f (whatever r) (λ x u. h x)

  joining_leaves : (marks : List (MirrorKey × Mark)) (scan : Option (List MirrorKey)) → IfOk (joining limits base marks scan >>= λ change. Ok (counted change)) (Leaves scan)
  joining_leaves marks scan =
      let leaves : BaseChange → Type 0 = λ change. (changed change base).scan ≡ scan in
      first_then (Leaves scan) leaves (joining limits base marks scan) _ (tested leaves (adds_beyond limits.keys base.mirror (joined base.mirror marks)) refusal.LimitReached (Ok (JoinMarks marks scan)) (λ within. refl)) (λ change h. h)

  decided_leaves : (c : Command) → IfOk (decided limits now next base c) (Leaves (scan_by c base.scan))
  decided_leaves (Evidence founds polled) = joining_leaves (evidence_of founds) (scan_with base.scan founds polled)
  decided_leaves (Gone kind id) = joining_leaves ((record { kind = kind; id = id }, Dead) ∷ []) base.scan
  decided_leaves ScanBegin = refl
  decided_leaves ScanEnd =
      let leaves : List MirrorKey × BaseChange → Type 0 = λ d. (changed d.1 base).scan ≡ None in
      first_then (Leaves None) leaves (scan_end base) _ (first_then leaves (λ polled. Unit {0}) (open_scan base.scan) _ (whatever (open_scan base.scan)) (λ polled u. refl)) (λ d h. h)
  decided_leaves (VenAdd role ven) = portfolio_leaves _ _
  decided_leaves (VenPut role id ven) = portfolio_leaves _ _
  decided_leaves (VenRemove role id) = portfolio_leaves _ _
  decided_leaves (ResourceAdd role ven resource) = portfolio_leaves _ _
  decided_leaves (ResourcePut role ven id resource) = portfolio_leaves _ _
  decided_leaves (ResourceRemove role ven id) = portfolio_leaves _ _
  decided_leaves (ShareSet role program resource share) = portfolio_leaves _ _
  decided_leaves (Freeze role event) = portfolio_leaves _ _
  decided_leaves (ReportPost role report) = behind (sight_of base role) _ (λ sight. portfolio_leaves _ _)
  decided_leaves (ReportPut role id report) = behind (sight_of base role) _ (λ sight. portfolio_leaves _ _)
  decided_leaves (ReportDelete role id) = behind (sight_of base role) _ (λ sight. portfolio_leaves _ _)
  decided_leaves (SubPost role sub) = behind (settled sub) _ (λ body. behind (sight_of base role) _ (λ sight. portfolio_leaves _ _))
  decided_leaves (SubPut role id sub) = behind (settled sub) _ (λ body. behind (sight_of base role) _ (λ sight. portfolio_leaves _ _))
  decided_leaves (SubDelete role id) = behind (sight_of base role) _ (λ sight. portfolio_leaves _ _)
  decided_leaves Lease = refl
  decided_leaves (Sent entry lease remote) = refl
  decided_leaves (Failed entry lease forget) = refl

-- ---- what a step makes of it

-- a step leaves the scan or makes of it what its command does
scan_after : (settings : Settings) (s : State) (c : ℕ × Command) (P : Option (List MirrorKey) → Type 0) → P s.base.scan → P (scan_by c.1 s.base.scan) → P (state_after s (step_at settings s c)).base.scan
unfolding edit
scan_after settings s c P kept made =
    cond_both (is_delivery c.1) (delivery_step settings s c.0 c.1) (edit_step settings s c.0 c.1) Then (λ is. by_delivered (delivered settings.limits c.0 s.outbox c.1))
    (λ edits. cond_both (is_allowed c.1) (edit_of settings.limits c.0 s.base c.1) (Err refusal.Forbidden) (λ r. Then (r >>= λ e. committed settings s c.0 e.0 e.1))
    (λ allowed. by_decision (decided settings.limits c.0 (s.base.serial + 1) s.base c.1) (decided_leaves settings.limits c.0 (s.base.serial + 1) s.base c.1)) (λ forbidden. kept))
  where
    Then : Result (Answer × State) Refusal → Type 0
    Then r = P (state_after s r).base.scan

    Makes : Decision → Type 0
    Makes d = (changed d.change s.base).scan ≡ scan_by c.1 s.base.scan

    by_delivered : (r : Result (Answer × Outbox) Refusal) → Then (r >>= λ d. Ok (d.0, record s { outbox = d.1 }))
    by_delivered (Ok d) = kept
    by_delivered (Err e) = kept

    base_of : Decision → ℕ → Base
    base_of d serial = record (changed d.change s.base) { serial = serial }

    -- the answer and the state, where the edit is answered
    state_with : Decision → ℕ → Outbox × ℕ → Answer → Result (Answer × State) Refusal
    state_with d serial next a = Ok (a, record { base = record (base_of d serial) { serial = next.1 }; stamps = (restamped_by s c.0 (base_of d serial)).1; outbox = next.0 })

    by_answer : (d : Decision) (serial : ℕ) (next : Outbox × ℕ) → Makes d → (r : Result Answer Refusal) → Then (r >>= state_with d serial next)
    by_answer d serial next is (Ok a) = subst P (sym is) made
    by_answer d serial next is (Err e) = kept

    by_room : (d : Decision) (serial : ℕ) → Makes d → (r : Result (Outbox × ℕ) Refusal) → Then (r >>= λ next. answered_by d.outcome s.stamps (restamped_by s c.0 (base_of d serial)) >>= state_with d serial next)
    by_room d serial is (Ok next) = by_answer d serial next is (answered_by d.outcome s.stamps (restamped_by s c.0 (base_of d serial)))
    by_room d serial is (Err e) = kept

    drawn_for : Decision → ℕ → Result (Outcome × Base) Refusal
    drawn_for d serial = Ok (d.outcome, base_of d serial)

    by_drawn : (d : Decision) → Makes d → (r : Result ℕ Refusal) → Then ((r >>= drawn_for d) >>= λ e. committed settings s c.0 e.0 e.1)
    by_drawn d is (Ok serial) = by_room d serial is (outbox_then settings s c.0 (base_of d serial))
    by_drawn d is (Err e) = kept

    by_decision : (r : Result Decision Refusal) → IfOk r Makes → Then ((r >>= numbered settings.limits (draws_number c.1) s.base) >>= λ e. committed settings s c.0 e.0 e.1)
    by_decision (Ok d) is = by_drawn d is (drawn settings.limits s.base.serial (draws_number c.1))
    by_decision (Err e) is = kept

-- what leaves all that is shown finds numbers and room
quiet_outbox : (settings : Settings) (s : State) (now : ℕ) (after : Base) → view after ≡ view s.base → (next : Outbox × ℕ) × (outbox_then settings s now after ≡ Ok next)
quiet_outbox settings s now after same = rw (ap (changes (view s.base)) same ∙ nothing_changes (view s.base)) (_, refl)

-- a scan leaves all that is shown
scan_is_quiet : (scan : Option (List MirrorKey)) (base : Base) → view (record base { scan = scan }) ≡ view base
unfolding view
scan_is_quiet scan base = refl

module _ (settings : Settings) (s : State) (now : ℕ) where
  -- a `ScanBegin` is accepted
  begin_edits : edit settings.limits now s.base ScanBegin ≡ Ok (outcome.Told answer.Done, record s.base { scan = Some [] })
  unfolding edit
  begin_edits = refl

  pub begin_opens : (state_after s (step_at settings s (now, ScanBegin))).base.scan ≡ Some []
  begin_opens = let room = quiet_outbox settings s now (record s.base { scan = Some [] }) (scan_is_quiet (Some []) s.base) in rw (begin_edits, room.1) refl

  -- and so is a `ScanEnd`, where a scan is open: it answers what that lacks
  end_edits : (polled : List MirrorKey) → s.base.scan ≡ Some polled → edit settings.limits now s.base ScanEnd ≡ Ok (outcome.Told (answer.Probes (probes s.base.mirror polled)), record s.base { scan = None })
  unfolding edit
  end_edits polled is = rw is refl

  pub end_answers : (polled : List MirrorKey) → s.base.scan ≡ Some polled → told (step_at settings s (now, ScanEnd)) ≡ Ok (answer.Probes (probes s.base.mirror polled))
  end_answers polled is = let room = quiet_outbox settings s now (record s.base { scan = None }) (scan_is_quiet None s.base) in rw (end_edits polled is, room.1) refl

-- ---- the keys of an open scan

module _ (P : MirrorKey → Type 0) where
  abbrev pub IsNoted : Option (List MirrorKey) → Type 0
  IsNoted scan = (polled : List MirrorKey) × (scan ≡ Some polled) × All P polled

  keys_noted : (founds : List Found) (polled : List MirrorKey) → All P polled → All (λ e. P e.0) (evidence_of founds) → All P (keys_found polled founds)
  keys_noted [] polled old new = old
  keys_noted (f ∷ founds) polled old new =
      keys_noted founds _ (All-insert_key mirror_cmp (key_of f) P polled old (All-head (λ e. P e.0) (key_of f, mark_of f) (evidence_of founds) new)) (All-tail (λ e. P e.0) (key_of f, mark_of f) (evidence_of founds) new)

  noted_by : (c : Command) (scan : Option (List MirrorKey)) → IsNoted scan → is_scan_end c ≡ false → All (λ e. P e.0) (page_in c) → IsNoted (scan_by c scan)
  noted_by (Evidence founds true) scan noted goes_on pages = (keys_found noted.0 founds, ap (λ o. scan_with o founds true) noted.1, keys_noted founds noted.0 noted.2 pages)
  noted_by (Evidence founds false) scan noted goes_on pages = noted
  noted_by ScanBegin scan noted goes_on pages = ([], refl, All-nil P)
  noted_by ScanEnd scan noted goes_on pages = absurd (false≢true (sym goes_on))
  noted_by c scan noted goes_on pages = noted

  abbrev pub GoesOn : Given → Type 0
  GoesOn g = (is_scan_end g.command.1 ≡ false) × All (λ e. P e.0) (page_in g.command.1)

  pub stays_noted : (settings : Settings) (s : State) (gs : List Given) → IsNoted s.base.scan → All GoesOn gs → IsNoted (state_of (step_at settings) s (commands gs)).base.scan
  stays_noted settings s [] noted go_on = noted
  stays_noted settings s (g ∷ gs) noted go_on =
      let goes_on : GoesOn g = All-head GoesOn g gs go_on in
      stays_noted settings (state_after s (step_at settings s g.command)) gs (scan_after settings s g.command IsNoted noted (noted_by g.command.1 s.base.scan noted goes_on.0 goes_on.1)) (All-tail GoesOn g gs go_on)

-- a key of the set is one that it contains
pub in_set : (key : MirrorKey) (polled : List MirrorKey) → has_key polled key ≡ true → Contains polled key
in_set key polled = Contains-from_any (tells_apart mirror_exact) key polled
