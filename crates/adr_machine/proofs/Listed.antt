-- That the machine refuses a command only as is listed.
use Rattle.std.proofs.Common.{◌≡◌, ℕ, ◌+◌, ◌&&◌, Bool, true, false, cond, List, [], ◌∷◌, ◌++◌, Contains, Option, Some, None, Result, Ok, Err, IfErr, IfOk, refl, sym, subst, ◌∙◌, arith}
use Rattle.std.specs.List.{list_all}
use Rattle.std.specs.Option.{option_map_or}
use Rattle.std.proofs.lemmas.Bool.{cond_both}
use Rattle.std.proofs.lemmas.Result.{IfErr-weaker}
use Rattle.std.proofs.lemmas.List.Elements.{Contains-append_left, Contains-append_right}
use Rattle.adr_text.specs.Refusals.{◌>>=◌}
use Rattle.adr_text.specs.declared.refusal.Refusal.{Refusal}
use Rattle.adr_text.specs.declared.refusal.Refusal.TheVariants.{OutboxFull, Exhausted, NotFound, Conflict, Forbidden, BadShare, LimitReached, ResourceNotOfEvent, NoScan, BadShape}
use Rattle.adr_state.specs.declared.base.Base.{Base}
use Rattle.adr_state.specs.declared.state.State.{State}
use Rattle.adr_state.specs.declared.limits.Limits.{Limits}
use Rattle.adr_state.specs.declared.limits.Settings.{Settings}
use Rattle.adr_state.specs.declared.base.Mark.{Mark}
use Rattle.adr_state.specs.declared.base.Mark.TheVariants.{Dead}
use Rattle.adr_state.specs.declared.keys.MirrorKey.{MirrorKey}
use Rattle.adr_objects.specs.declared.shown.Stamps.{Stamps}
use Rattle.adr_objects.specs.declared.site.ReportIn.{ReportIn}
use Rattle.adr_state.specs.declared.keys.ViewKey.{ViewKey}
use Rattle.adr_state.specs.declared.keys.ViewKey.TheVariants as key
use Rattle.adr_state.specs.declared.keys.ShareKey.{ShareKey}
use Rattle.adr_state.specs.Evidence.{joining, scan_with, evidence, gone, open_scan, scan_end}
use Rattle.adr_state.specs.Mirror.{evidence_of}
use Rattle.adr_state.specs.Names.{ven_name, resource_name, is_taken, is_taken_by_another, is_full, if_new, if_free}
use Rattle.adr_state.specs.Participants.{participants}
use Rattle.adr_state.specs.Portfolios.{PortfolioChange}
use Rattle.adr_state.specs.BaseChanges.{ChangePortfolio, changed as changed_by}
use Rattle.adr_state.specs.Frozen.{is_frozen}
use Rattle.adr_state.specs.Serials.{drawn}
use Rattle.adr_state.specs.Shares.{weight_set, share_of, share_set}
use Rattle.adr_state.specs.Resources.{resource_at, resource_under, resource_add, resource_put, resource_remove}
use Rattle.adr_state.specs.Vens.{ven_with_id, ven_at, ven_add, ven_put, ven_remove}
use Rattle.adr_queries.specs.declared.answer.Answer.{Answer}
use Rattle.adr_queries.specs.declared.answer.Answer.TheVariants as answer
use Rattle.adr_queries.specs.declared.answer.Object.{Object}
use Rattle.adr_machine.specs.declared.command.Command.{Command}
use Rattle.adr_machine.specs.declared.command.Command.TheVariants.{Evidence, Gone, ScanBegin, ScanEnd, VenAdd, VenPut, VenRemove, ResourceAdd, ResourcePut, ResourceRemove, ShareSet, Freeze, ReportPost, ReportPut, ReportDelete, SubPost, SubPut, SubDelete, Lease, Sent, Failed}
use Rattle.adr_machine.specs.declared.outcome.Outcome.{Outcome}
use Rattle.adr_machine.specs.declared.outcome.Outcome.TheVariants as outcome
use Rattle.adr_queries.specs.declared.role.Role.{Role}
use Rattle.adr_queries.specs.Roles.{is_operator, sight_of}
use Rattle.adr_machine.specs.Edits.{Decision, is_allowed, draws_number, counted, answered, of_portfolio, ven_outcome, resource_outcome, share_outcome, frozen_outcome, sub_outcome, post_decided, put_decided, delete_decided, sub_post_decided, sub_put_decided, sub_delete_decided, is_delivery, is_quiet, decided, edit_of, edit}
use Rattle.adr_queries.specs.Listed.{is_of_machine, IsListed}
use Rattle.adr_machine.specs.Commands.{Traits, traits_of}
use Rattle.adr_machine.specs.Listed.{gate, wants, refusals, listed}
use Rattle.adr_queries.specs.Shown.{object_at, told}
use Rattle.adr_view.specs.declared.view.Content.TheVariants as content
use Rattle.adr_view.specs.Frozen.{can_not_keep, freeze, pairs_of}
use Rattle.adr_view.specs.Rollups.{event_at}
use Rattle.adr_view.specs.Reports.{reported, fits, report_on, report_with_id, may_report, may_change, report_post, report_put, report_delete}
use Rattle.adr_machine.specs.Runs.{AreListed}
use Rattle.adr_machine.specs.Steps.{answered_by, changed, outbox_then, committed, delivery_step, edit_step, step}
use Rattle.adr_machine.specs.Deliveries.{delivered}
use Rattle.adr_machine.proofs.Delivered.{delivered_listed}
use Rattle.adr_machine.proofs.Quiet.{IsQuiet, scan_is_quiet, put_is_quiet, drop_is_quiet, room_so, quiet_so, unseen_serial}
use Rattle.adr_view.specs.Views.{view}
use Rattle.adr_view.proofs.FrozenLemmas.{freezing_leaves}
use Rattle.adr_subscription.specs.declared.object.SubObject.{SubObject}
use Rattle.adr_subscription.specs.declared.subscription.SubIn.{SubIn}
use Rattle.adr_subscription.specs.Callbacks.{settled}
use Rattle.adr_subscription.proofs.Unsettled.{settled_refused}
use Rattle.adr_state.specs.Subs.{sub_post, sub_with_id}
use Rattle.adr_view.specs.declared.sight.Sight.{Sight}
use Rattle.adr_view.specs.Sights.{sees_owner, owner_in}
use Rattle.adr_view.specs.Subs.{sub_in_sight, sub_put, sub_delete}
use Rattle.adr_queries.proofs.Refuses.{Refuses, never, either, tested, first_then, found_then, sight_so}

-- ---- what is listed

module _ (t : Traits) where
  -- its own refusals
  pub own_listed : (e : Refusal) → Contains t.own e → Contains (refusals t) e
  own_listed e own = Contains-append_right (gate t) (t.own ++ wants t) e (Contains-append_left t.own (wants t) e own)

  wants_listed : (e : Refusal) → Contains (wants t) e → Contains (refusals t) e
  wants_listed e wanted = Contains-append_right (gate t) (t.own ++ wants t) e (Contains-append_right t.own (wants t) e wanted)

  exhausted_listed : t.draws ≡ true → Contains (refusals t) Exhausted
  exhausted_listed draws =
      wants_listed Exhausted (cond_both t.quiet (cond t.draws (Exhausted ∷ []) []) (Exhausted ∷ OutboxFull ∷ []) (λ these. Contains these Exhausted) (λ quiet. rw draws (0, omega arith, refl)) (λ told. (0, omega arith, refl)))

  -- what may be told of is refused for want of numbers or of room
  pub room_listed : t.quiet ≡ false → Contains (refusals t) Exhausted × Contains (refusals t) OutboxFull
  room_listed told = (wants_listed Exhausted (rw told (0, omega arith, refl)), wants_listed OutboxFull (rw told (1, omega arith, refl)))

  -- and who may not give it is refused first
  pub forbidden_listed : option_map_or is_operator t.giver true ≡ false → Contains (refusals t) Forbidden
  forbidden_listed other = Contains-append_left (gate t) (t.own ++ wants t) Forbidden (by t.giver other)
    where
      by : (giver : Option Role) → option_map_or is_operator giver true ≡ false → Contains (option_map_or (λ role. Forbidden ∷ []) giver []) Forbidden
      by None other = absurd (let yes : true ≡ false = other in cc)
      by (Some role) other = (0, omega arith, refl)

-- ---- names

module _ (P : Refusal → Type 0) where
  new : {A : Type 0} (taken full : Bool) (made : A) → P Conflict → P LimitReached → Refuses P (if_new taken full made)
  new taken full made conflict limit = tested P taken Conflict (cond full (Err LimitReached) (Ok made)) conflict (tested P full LimitReached (Ok made) limit (never P made))

  free : {A : Type 0} (taken : Bool) (made : A) → P Conflict → Refuses P (if_free taken made)
  free taken made conflict = tested P taken Conflict (Ok made) conflict (never P made)

-- ---- commands

module _ (P : Refusal → Type 0) (limits : Limits) (base : Base) where
  joined_so : (marks : List (MirrorKey × Mark)) (scan : Option (List MirrorKey)) → P LimitReached → Refuses P (joining limits base marks scan)
  joined_so marks scan limit = tested P _ LimitReached (Ok _) limit (never P _)

  portfolio_so : {A : Type 0} (told : A → Outcome) (r : Result (A × PortfolioChange) Refusal) → Refuses P r → Refuses P (of_portfolio told r)
  portfolio_so told r first = first_then P r _ first (λ d. never P _)

  share_so : (key : ShareKey) (weight : ℕ) → P BadShare → P LimitReached → Refuses P (share_of limits key weight base.portfolio)
  share_so key weight bad limit =
      tested P _ BadShare _ bad (first_then P (weight_set limits key weight base.portfolio) _ (either P _ _ _ (never P _) (tested P _ LimitReached _ limit (never P _))) (λ change. never P _))

  scan_so : (scan : Option (List MirrorKey)) → P NoScan → Refuses P (open_scan scan)
  scan_so None no_scan = record { so = no_scan }
  scan_so (Some polled) no_scan = never P polled

module _ (P : Refusal → Type 0) (limits : Limits) (base : Base) (forbidden : P Forbidden) (missing : P NotFound) where
  delete_so : (role : Role) (id : List ℕ) → Refuses P (delete_decided role id base)
  delete_so role id =
      first_then P (sight_of base role) _ (sight_so P base forbidden role)
      (λ sight. portfolio_so P limits base _ (report_delete sight id base.portfolio) (either P (may_change sight id base.portfolio) _ _ (found_then P NotFound (report_with_id id base.portfolio) _ missing (λ r. never P _)) (record { so = forbidden })))

  module _ (unfit : P ResourceNotOfEvent) where
    on_so : (report : ReportIn) → Refuses P (report_on report base.mirror base.portfolio)
    on_so report = found_then P NotFound (reported base.mirror base.portfolio report.event) _ missing (λ on. either P (fits on report) _ _ (never P _) (record { so = unfit }))

    post_so : (n : ℕ) (role : Role) (report : ReportIn) → P LimitReached → Refuses P (post_decided limits n role report base)
    post_so n role report limit =
        first_then P (sight_of base role) _ (sight_so P base forbidden role)
        (λ sight. portfolio_so P limits base _ (report_post limits sight n report base.mirror base.portfolio)
        (either P (may_report sight report base.portfolio) _ _ (first_then P (report_on report base.mirror base.portfolio) _ (on_so report) (λ on. tested P (is_full limits.reports base.portfolio.reports) LimitReached _ limit (never P _))) (record { so = forbidden })))

    put_so : (n : ℕ) (role : Role) (id : List ℕ) (report : ReportIn) → Refuses P (put_decided n role id report base)
    put_so n role id report =
        first_then P (sight_of base role) _ (sight_so P base forbidden role)
        (λ sight. portfolio_so P limits base _ (report_put sight n id report base.mirror base.portfolio)
        (either P (may_change sight id base.portfolio && may_report sight report base.portfolio) _ _
        (found_then P NotFound (report_with_id id base.portfolio) _ missing (λ old. first_then P (report_on report base.mirror base.portfolio) _ (on_so report) (λ on. never P _))) (record { so = forbidden })))

-- what is decided of subscriptions
module _ (P : Refusal → Type 0) (base : Base) (forbidden : P Forbidden) where
  in_sight_so : (sight : Sight) (id : List ℕ) → P NotFound → Refuses P (sub_in_sight sight id base.portfolio)
  in_sight_so sight id missing = found_then P NotFound (sub_with_id id base.portfolio) _ missing (λ s. either P (sees_owner sight s.1.owner) (Ok s) (Err Forbidden) (never P s) (record { so = forbidden }))

  sub_delete_so : (role : Role) (id : List ℕ) → P NotFound → Refuses P (sub_delete_decided role id base)
  sub_delete_so role id missing =
      first_then P (sight_of base role) _ (sight_so P base forbidden role)
      (λ sight. first_then P (sub_delete sight id base.portfolio) _ (first_then P (sub_in_sight sight id base.portfolio) _ (in_sight_so sight id missing) (λ s. never P _)) (λ d. never P _))

  module _ (bad : P BadShape) where
    settled_so : (sub : SubIn) → Refuses P (settled sub)
    settled_so sub = record { so = IfErr-weaker (settled sub) (λ e. e ≡ BadShape) P (λ e is. subst P (sym is) bad) (settled_refused sub) }

    sub_post_so : (limits : Limits) (now n : ℕ) (role : Role) (sub : SubIn) → P LimitReached → Refuses P (sub_post_decided limits now n role sub base)
    sub_post_so limits now n role sub limit =
        first_then P (settled sub) _ (settled_so sub) (λ body. first_then P (sight_of base role) _ (sight_so P base forbidden role)
        (λ sight. first_then P (sub_post limits now n (owner_in sight) body base.portfolio) _ (tested P (is_full limits.subs base.portfolio.subs) LimitReached (Ok _) limit (never P _)) (λ d. never P _)))

    sub_put_so : (now : ℕ) (role : Role) (id : List ℕ) (sub : SubIn) → P NotFound → Refuses P (sub_put_decided now role id sub base)
    sub_put_so now role id sub missing =
        first_then P (settled sub) _ (settled_so sub) (λ body. first_then P (sight_of base role) _ (sight_so P base forbidden role)
        (λ sight. first_then P (sub_put sight now id body base.portfolio) _ (first_then P (sub_in_sight sight id base.portfolio) _ (in_sight_so sight id missing) (λ s. never P _)) (λ d. never P _)))

-- what is decided is refused by nothing but its own refusals
decided_own : (limits : Limits) (now n : ℕ) (base : Base) (c : Command) → Refuses (Contains (traits_of c).own) (decided limits now n base c)
decided_own limits now n base (Evidence founds polled) = first_then _ (evidence limits founds polled base) _ (joined_so _ limits base (evidence_of founds) (scan_with base.scan founds polled) (0, omega arith, refl)) (λ change. never _ _)
decided_own limits now n base (Gone kind id) =
    let key : MirrorKey = record { kind = kind; id = id } in first_then _ (gone limits key base) _ (joined_so _ limits base ((key, Dead) ∷ []) base.scan (0, omega arith, refl)) (λ change. never _ _)
decided_own limits now n base ScanEnd = first_then _ (scan_end base) _ (first_then _ (open_scan base.scan) _ (scan_so _ limits base base.scan (0, omega arith, refl)) (λ polled. never _ _)) (λ d. never _ _)
decided_own limits now n base (VenAdd role ven) = portfolio_so _ limits base _ (ven_add limits now n ven.name base.portfolio) (new _ _ _ _ (0, omega arith, refl) (1, omega arith, refl))
decided_own limits now n base (VenPut role id ven) =
    let p = base.portfolio in
    portfolio_so _ limits base _ (ven_put now id ven.name p) (found_then _ NotFound (ven_with_id id p) _ (0, omega arith, refl) (λ v. free _ (is_taken_by_another ven_name v.0 ven.name p.vens) _ (1, omega arith, refl)))
decided_own limits now n base (VenRemove role id) = portfolio_so _ limits base _ (ven_remove id base.portfolio) (found_then _ NotFound _ _ (0, omega arith, refl) (λ v. never _ _))
decided_own limits now n base (ResourceAdd role ven resource) =
    let p = base.portfolio in
    portfolio_so _ limits base _ (resource_add limits now n ven resource.name p)
    (found_then _ NotFound (ven_at ven p) _ (0, omega arith, refl) (λ v. new _ (is_taken resource_name resource.name p.resources) (is_full limits.resources p.resources) _ (1, omega arith, refl) (2, omega arith, refl)))
decided_own limits now n base (ResourcePut role ven id resource) =
    let p = base.portfolio in
    portfolio_so _ limits base _ (resource_put now ven id resource.name p)
    (found_then _ NotFound (resource_under ven id p) _ (0, omega arith, refl) (λ r. free _ (is_taken_by_another resource_name r.0 resource.name p.resources) _ (1, omega arith, refl)))
decided_own limits now n base (ResourceRemove role ven id) = portfolio_so _ limits base _ (resource_remove ven id base.portfolio) (found_then _ NotFound _ _ (0, omega arith, refl) (λ r. never _ _))
decided_own limits now n base (ShareSet role program resource share) =
    portfolio_so _ limits base _ (share_set limits program resource share.share base.portfolio)
    (found_then _ NotFound (resource_at resource base.portfolio) _ (0, omega arith, refl) (λ m. share_so _ limits base (record { program = program; resource = m }) share.share (1, omega arith, refl) (2, omega arith, refl)))
decided_own limits now n base (Freeze role event) =
    let p = base.portfolio in
    portfolio_so _ limits base _ (freeze limits event base.mirror p)
    (found_then _ NotFound (event_at base.mirror event) _ (0, omega arith, refl) (λ body. either _ (is_frozen p event) _ _ (never _ _) (tested _ (can_not_keep limits event (pairs_of (participants p event body)) base.mirror p) LimitReached (Ok _) (1, omega arith, refl) (never _ _))))
decided_own limits now n base (ReportPost role report) = post_so _ limits base (0, omega arith, refl) (1, omega arith, refl) (2, omega arith, refl) n role report (3, omega arith, refl)
decided_own limits now n base (ReportPut role id report) = put_so _ limits base (0, omega arith, refl) (1, omega arith, refl) (2, omega arith, refl) n role id report
decided_own limits now n base (ReportDelete role id) = delete_so _ limits base (0, omega arith, refl) (1, omega arith, refl) role id
decided_own limits now n base (SubPost role sub) = sub_post_so _ base (1, omega arith, refl) (0, omega arith, refl) limits now n role sub (2, omega arith, refl)
decided_own limits now n base (SubPut role id sub) = sub_put_so _ base (1, omega arith, refl) (0, omega arith, refl) now role id sub (2, omega arith, refl)
decided_own limits now n base (SubDelete role id) = sub_delete_so _ base (0, omega arith, refl) role id (1, omega arith, refl)
decided_own limits now n base c = never _ _

decided_listed : (limits : Limits) (now n : ℕ) (base : Base) (c : Command) → Refuses (Contains (listed c)) (decided limits now n base c)
decided_listed limits now n base c = record { so = IfErr-weaker (decided limits now n base c) _ _ (own_listed (traits_of c)) (decided_own limits now n base c).so }

drawn_so : (P : Refusal → Type 0) (limits : Limits) (serial : ℕ) (draws : Bool) → (draws ≡ true → P Exhausted) → Refuses P (drawn limits serial draws)
drawn_so P limits serial false exhausted = never P serial
drawn_so P limits serial true exhausted = tested P _ Exhausted (Ok _) (exhausted refl) (never P _)

edit_so : (limits : Limits) (now : ℕ) (base : Base) (c : Command) → Refuses (Contains (listed c)) (edit limits now base c)
unfolding edit
edit_so limits now base c =
    let P = Contains (listed c) in
    cond_both (is_allowed c) (edit_of limits now base c) (Err Forbidden) (λ r. Refuses P r)
    (λ allowed. first_then P _ _ (decided_listed limits now (base.serial + 1) base c) (λ d. first_then P _ _ (drawn_so P limits base.serial (draws_number c) (exhausted_listed (traits_of c))) (λ serial. never P _)))
    (λ other. record { so = forbidden_listed (traits_of c) other })

-- ---- answers

-- what comes of a command is answered, or refused as is listed: a report that lacks stamps counts as not there
abbrev IsAnswered : Command → Outcome → Type 0
IsAnswered c comes = (before : List (ViewKey × Stamps)) (after : ℕ × List (ViewKey × Stamps)) → Refuses (Contains (listed c)) (answered_by comes before after)

answered_so : (P : Refusal → Type 0) → P NotFound → (comes : Outcome) (before : List (ViewKey × Stamps)) (after : ℕ × List (ViewKey × Stamps)) → Refuses P (answered_by comes before after)
answered_so P missing (outcome.Told a) before after = never P a
answered_so P missing outcome.Counted before after = never P _
answered_so P missing (outcome.ReportKept n body) before after = by (object_at after.1 (key.Report n, content.Report body))
  where
    by : (o : Option Object) → Refuses P (told o)
    by None = record { so = missing }
    by (Some o) = never P _
answered_so P missing (outcome.ReportGone n body) before after = by (object_at before (key.Report n, content.Report body))
  where
    by : (o : Option Object) → Refuses P (told o)
    by None = record { so = missing }
    by (Some o) = never P _

any : {A : Type 0} (Q : A → Type 0) (r : Result A Refusal) → ((x : A) → Q x) → IfOk r Q
any Q (Ok x) h = h x
any Q (Err e) h = tt

module _ {A B : Type 0} (Q : A → Type 0) where
  made : (r : Result B Refusal) (f : B → A) → ((x : B) → Q (f x)) → IfOk (r >>= λ x. Ok (f x)) Q
  made (Ok x) f h = h x
  made (Err e) f h = tt

  made_with : (P : B → Type 0) (r : Result B Refusal) (f : B → Result A Refusal) → IfOk r P → ((x : B) → P x → IfOk (f x) Q) → IfOk (r >>= f) Q
  made_with P (Ok x) f first h = h x first
  made_with P (Err e) f first h = tt

-- whatever is told of the portfolio
portfolio_answered : {A : Type 0} (c : Command) (comes : A → Outcome) → ((x : A) → IsAnswered c (comes x)) → (r : Result (A × PortfolioChange) Refusal) → IfOk (of_portfolio comes r) (λ d. IsAnswered c d.outcome)
portfolio_answered c comes each r = made (λ d. IsAnswered c d.outcome) r (λ d. record { outcome = comes d.0; change = ChangePortfolio d.1 }) (λ d. each d.0)

-- by who sees this much
seen_answered : {A B : Type 0} (c : Command) (comes : A → Outcome) → ((x : A) → IsAnswered c (comes x)) → (seen : Result B Refusal) (decide : B → Result (A × PortfolioChange) Refusal)
    → IfOk (seen >>= λ sight. of_portfolio comes (decide sight)) (λ d. IsAnswered c d.outcome)
seen_answered c comes each (Ok sight) decide = portfolio_answered c comes each (decide sight)
seen_answered c comes each (Err e) decide = tt

-- a subscription is told, once its addresses are known
sub_answered : {A B : Type 0} (c : Command) (body : Result A Refusal) (seen : Result B Refusal) (decide : A → B → Result (SubObject × PortfolioChange) Refusal)
    → IfOk (body >>= λ body. seen >>= λ sight. of_portfolio sub_outcome (decide body sight)) (λ d. IsAnswered c d.outcome)
sub_answered c (Ok body) seen decide = seen_answered c sub_outcome (λ x before after. never _ _) seen (decide body)
sub_answered c (Err e) seen decide = tt

decided_answered : (limits : Limits) (now n : ℕ) (base : Base) (c : Command) → IfOk (decided limits now n base c) (λ d. IsAnswered c d.outcome)
decided_answered limits now n base (Evidence founds polled) = made _ (evidence limits founds polled base) (λ change. counted change) (λ x before after. never _ _)
decided_answered limits now n base (Gone kind id) = made _ (gone limits (record { kind = kind; id = id }) base) (λ change. counted change) (λ x before after. never _ _)
decided_answered limits now n base ScanEnd = made _ (scan_end base) (λ d. answered (answer.Probes d.0) d.1) (λ x before after. never _ _)
decided_answered limits now n base (VenAdd role ven) = portfolio_answered (VenAdd role ven) ven_outcome (λ x before after. never _ _) (ven_add limits now n ven.name base.portfolio)
decided_answered limits now n base (VenPut role id ven) = portfolio_answered (VenPut role id ven) ven_outcome (λ x before after. never _ _) (ven_put now id ven.name base.portfolio)
decided_answered limits now n base (VenRemove role id) = portfolio_answered (VenRemove role id) ven_outcome (λ x before after. never _ _) (ven_remove id base.portfolio)
decided_answered limits now n base (ResourceAdd role ven resource) = portfolio_answered (ResourceAdd role ven resource) resource_outcome (λ x before after. never _ _) (resource_add limits now n ven resource.name base.portfolio)
decided_answered limits now n base (ResourcePut role ven id resource) = portfolio_answered (ResourcePut role ven id resource) resource_outcome (λ x before after. never _ _) (resource_put now ven id resource.name base.portfolio)
decided_answered limits now n base (ResourceRemove role ven id) = portfolio_answered (ResourceRemove role ven id) resource_outcome (λ x before after. never _ _) (resource_remove ven id base.portfolio)
decided_answered limits now n base (ShareSet role program resource share) = portfolio_answered (ShareSet role program resource share) share_outcome (λ x before after. never _ _) (share_set limits program resource share.share base.portfolio)
decided_answered limits now n base (Freeze role event) = portfolio_answered (Freeze role event) (frozen_outcome event) (λ x before after. never _ _) (freeze limits event base.mirror base.portfolio)
decided_answered limits now n base (ReportPost role report) = any _ _ (λ d. answered_so _ (1, omega arith, refl) d.outcome)
decided_answered limits now n base (ReportPut role id report) = any _ _ (λ d. answered_so _ (1, omega arith, refl) d.outcome)
decided_answered limits now n base (ReportDelete role id) = any _ _ (λ d. answered_so _ (1, omega arith, refl) d.outcome)
decided_answered limits now n base (SubPost role sub) = sub_answered (SubPost role sub) (settled sub) (sight_of base role) (λ body sight. sub_post limits now n (owner_in sight) body base.portfolio)
decided_answered limits now n base (SubPut role id sub) = sub_answered (SubPut role id sub) (settled sub) (sight_of base role) (λ body sight. sub_put sight now id body base.portfolio)
decided_answered limits now n base (SubDelete role id) = seen_answered (SubDelete role id) sub_outcome (λ x before after. never _ _) (sight_of base role) (λ sight. sub_delete sight id base.portfolio)
decided_answered limits now n base c = λ before after. never _ _

edit_answered : (limits : Limits) (now : ℕ) (base : Base) (c : Command) → IfOk (edit limits now base c) (λ e. IsAnswered c e.0)
unfolding edit
edit_answered limits now base c =
    cond_both (is_allowed c) (edit_of limits now base c) (Err Forbidden) (λ r. IfOk r (λ e. IsAnswered c e.0))
    (λ allowed. made_with (λ e. IsAnswered c e.0) (λ d. IsAnswered c d.outcome) (decided limits now (base.serial + 1) base c) _ (decided_answered limits now (base.serial + 1) base c) (λ d is. made _ (drawn limits base.serial (draws_number c)) _ (λ serial. is)))
    (λ other. tt)

pub drawn_listed : (limits : Limits) (serial : ℕ) (c : Command) → IfErr (drawn limits serial (draws_number c)) (Contains (listed c))
drawn_listed limits serial c = (drawn_so _ limits serial (draws_number c) (exhausted_listed (traits_of c))).so

pub edit_listed : (limits : Limits) (now : ℕ) (base : Base) (c : Command) → IfErr (edit limits now base c) (Contains (listed c))
edit_listed limits now base c = (edit_so limits now base c).so

-- ---- what is told

abbrev Stays : Base → Decision → Type 0
Stays base d = (serial : ℕ) → view (record (changed_by d.change base) { serial = serial }) ≡ view base

-- what it makes of the base is shown as before
abbrev ShowsAs : Base → Result (Outcome × Base) Refusal → Type 0
ShowsAs base r = IfOk r (λ e. view e.1 ≡ view base)

-- a quiet command leaves all that is shown
pub edit_of_quiet : (limits : Limits) (now : ℕ) (base : Base) (c : Command) → is_quiet c ≡ true → ShowsAs base (edit_of limits now base c)
edit_of_quiet limits now base c is = by c is
  where
    drawn_so : (c : Command) → IfOk (decided limits now (base.serial + 1) base c) (Stays base) → ShowsAs base (edit_of limits now base c)
    drawn_so c quiet = made_with (λ e. view e.1 ≡ view base) (Stays base) (decided limits now (base.serial + 1) base c) _ quiet (λ d is. made (λ e. view e.1 ≡ view base) (drawn limits base.serial (draws_number c)) _ is)

    unseen : {B : Type 0} (r : Result B Refusal) (f : B → Result Decision Refusal) → ((x : B) → IfOk (f x) (Stays base)) → IfOk (r >>= f) (Stays base)
    unseen r f h = made_with (Stays base) (λ x. Unit {0}) r f (any (λ x. Unit {0}) r (λ x. tt)) (λ x u. h x)

    by : (c : Command) → is_quiet c ≡ true → ShowsAs base (edit_of limits now base c)
    by ScanBegin is = drawn_so ScanBegin (scan_is_quiet _ base)
    by ScanEnd is = drawn_so ScanEnd (made_with (Stays base) (λ d. IsQuiet d.1) (scan_end base) _ (made (λ d. IsQuiet d.1) (open_scan base.scan) _ (λ polled. scan_is_quiet None)) (λ d is. is base))
    by (Freeze role event) is =
        drawn_so (Freeze role event) (made_with (Stays base) (λ d. view base ≡ view (changed_by (ChangePortfolio d.1) base)) (freeze limits event base.mirror base.portfolio) _ (freezing_leaves.what_is_shown limits event base) (λ d shown serial.
        unseen_serial (changed_by (ChangePortfolio d.1) base) serial ∙ sym shown))
    by (SubPost role sub) is =
        drawn_so (SubPost role sub) (unseen (settled sub) _ (λ body. unseen (sight_of base role) _ (λ sight.
        cond_both (is_full limits.subs base.portfolio.subs) (Err LimitReached) (Ok _) (λ r. IfOk (of_portfolio sub_outcome r) (Stays base)) (λ full. tt) (λ room. put_is_quiet _ _ base))))
    by (SubPut role id sub) is =
        drawn_so (SubPut role id sub) (unseen (settled sub) _ (λ body. unseen (sight_of base role) _ (λ sight.
        made_with (Stays base) (λ d. IsQuiet (ChangePortfolio d.1)) (sub_put sight now id body base.portfolio) _ (made (λ d. IsQuiet (ChangePortfolio d.1)) (sub_in_sight sight id base.portfolio) _ (λ old. put_is_quiet _ _)) (λ d is. is base))))
    by (SubDelete role id) is =
        drawn_so (SubDelete role id) (unseen (sight_of base role) _ (λ sight.
        made_with (Stays base) (λ d. IsQuiet (ChangePortfolio d.1)) (sub_delete sight id base.portfolio) _ (made (λ d. IsQuiet (ChangePortfolio d.1)) (sub_in_sight sight id base.portfolio) _ (λ old. drop_is_quiet _)) (λ d is. is base)))
    by Lease is = drawn_so Lease (scan_is_quiet _ base)
    by (Sent entry lease remote) is = drawn_so (Sent entry lease remote) (scan_is_quiet _ base)
    by (Failed entry lease forget) is = drawn_so (Failed entry lease forget) (scan_is_quiet _ base)
    by c is = absurd (let no : false ≡ true = is in cc)

-- so does its edit, where who gives it may not too
edit_quiet : (limits : Limits) (now : ℕ) (base : Base) (c : Command) → is_quiet c ≡ true → ShowsAs base (edit limits now base c)
unfolding edit
edit_quiet limits now base c is =
    cond_both (is_allowed c) (edit_of limits now base c) (Err Forbidden) (ShowsAs base) (λ allowed. edit_of_quiet limits now base c is) (λ other. tt)

-- what is told of it finds numbers and room, or is refused as is listed
then_so : (settings : Settings) (s : State) (now : ℕ) (c : Command) (e : Outcome × Base) → edit settings.limits now s.base c ≡ Ok e → Refuses (Contains (listed c)) (outbox_then settings s now e.1)
then_so settings s now c e is = by (is_quiet c) refl
  where
    by : (quiet : Bool) → is_quiet c ≡ quiet → Refuses (Contains (listed c)) (outbox_then settings s now e.1)
    by true quiet = quiet_so (Contains (listed c)) settings s now e.1 (subst (ShowsAs s.base) is (edit_quiet settings.limits now s.base c quiet))
    by false other = let room = room_listed (traits_of c) other in room_so _ settings s now e.1 room.0 room.1

-- ---- steps

then_found : {A B : Type 0} (P : Refusal → Type 0) (r : Result B Refusal) (f : B → Result A Refusal) → Refuses P r → ((x : B) → r ≡ Ok x → Refuses P (f x)) → Refuses P (r >>= f)
then_found P (Ok x) f first others = others x refl
then_found P (Err e) f first others = record { so = first.so }

-- the commit of what an edit makes
committed_so : (settings : Settings) (s : State) (now : ℕ) (c : Command) (e : Outcome × Base) → edit settings.limits now s.base c ≡ Ok e → Refuses (Contains (listed c)) (committed settings s now e.0 e.1)
committed_so settings s now c e is =
    let P = Contains (listed c) in
    first_then P (outbox_then settings s now e.1) _ (then_so settings s now c e is)
    (λ next. first_then P (answered_by e.0 s.stamps (changed s now e.1)) _ (subst (λ (r : Result (Outcome × Base) Refusal). IfOk r (λ e. IsAnswered c e.0)) is (edit_answered settings.limits now s.base c) s.stamps (changed s now e.1)) (λ a. never P _))

pub step_listed : (settings : Settings) (s : State) (now : ℕ) (c : Command) → IfErr (step settings s now c) (Contains (listed c))
step_listed settings s now c =
    let P = Contains (listed c) in
    cond_both (is_delivery c) (delivery_step settings s now c) (edit_step settings s now c) (λ r. IfErr r P)
    (λ is. (first_then P (delivered settings.limits now s.outbox c) _ (delivered_listed settings.limits now s.outbox c is) (λ d. never P _)).so)
    (λ other. (then_found P (edit settings.limits now s.base c) _ (edit_so settings.limits now s.base c) (committed_so settings s now c)).so)

pub listed_of_machine : (c : Command) → list_all is_of_machine (listed c) ≡ true
listed_of_machine ScanBegin = refl
listed_of_machine c = refl

-- ---- runs

-- one answer more
pub AreListed-push : (P : Type 0) (cs : List (ℕ × Command)) (rs : List (Result Answer Refusal)) (c : ℕ × Command) (r : Result Answer Refusal) → AreListed P cs rs → IfErr r (IsListed P (listed c.1)) → AreListed P (cs ++ c ∷ []) (rs ++ r ∷ [])
AreListed-push P [] [] c r all one = (one, tt)
AreListed-push P [] (q ∷ rs) c r all one = absurd all
AreListed-push P (d ∷ cs) [] c r all one = absurd all
AreListed-push P (d ∷ cs) (q ∷ rs) c r all one = (all.0, AreListed-push P cs rs c r all.1 one)
