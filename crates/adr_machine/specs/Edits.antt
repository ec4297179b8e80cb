-- What each command decides, and what its edit makes of the base; or the first refusal whose condition holds.
use Rattle.std.specs.Prelude.{ℕ, ◌+◌, Bool, true, List, Option, Result, Ok, Err, if◌then◌else◌}
use Rattle.std.specs.Option.{option_map_or}
use Rattle.adr_text.specs.Refusals.{◌>>=◌}
use Rattle.adr_text.specs.declared.refusal.Refusal.{Refusal}
use Rattle.adr_text.specs.declared.refusal.Refusal.TheVariants.{Forbidden}
use Rattle.adr_state.specs.declared.base.Base.{Base}
use Rattle.adr_state.specs.declared.limits.Limits.{Limits}
use Rattle.adr_state.specs.BaseChanges.{BaseChange, SetScan, ChangePortfolio, changed}
use Rattle.adr_state.specs.Portfolios.{PortfolioChange}
use Rattle.adr_state.specs.Serials.{drawn}
use Rattle.adr_state.specs.declared.portfolio.Report.{Report}
use Rattle.adr_state.specs.Evidence.{evidence, gone, scan_begin, scan_end}
use Rattle.adr_state.specs.Vens.{ven_add, ven_put, ven_remove}
use Rattle.adr_state.specs.Resources.{resource_add, resource_put, resource_remove}
use Rattle.adr_state.specs.Shares.{share_set}
use Rattle.adr_objects.specs.declared.shown.VenObject.{VenObject}
use Rattle.adr_objects.specs.declared.site.ReportIn.{ReportIn}
use Rattle.adr_objects.specs.declared.shown.ResourceObject.{ResourceObject}
use Rattle.adr_objects.specs.declared.shown.ShareObject.{ShareObject}
use Rattle.adr_subscription.specs.declared.object.SubObject.{SubObject}
use Rattle.adr_subscription.specs.declared.subscription.SubIn.{SubIn}
use Rattle.adr_subscription.specs.Callbacks.{settled}
use Rattle.adr_state.specs.Subs.{sub_post}
use Rattle.adr_view.specs.Frozen.{freeze}
use Rattle.adr_view.specs.Sights.{owner_in}
use Rattle.adr_view.specs.Subs.{sub_put, sub_delete}
use Rattle.adr_view.specs.Reports.{report_post, report_put, report_delete}
use Rattle.adr_queries.specs.declared.role.Role.{Role}
use Rattle.adr_machine.specs.declared.command.Command.{Command}
use Rattle.adr_machine.specs.declared.command.Command.TheVariants.{Evidence, Gone, ScanBegin, ScanEnd, VenAdd, VenPut, VenRemove, ResourceAdd, ResourcePut, ResourceRemove, ShareSet, Freeze, ReportPost, ReportPut, ReportDelete, SubPost, SubPut, SubDelete}
use Rattle.adr_machine.specs.Commands.{traits_of}
use Rattle.adr_queries.specs.declared.answer.Object.TheVariants as object
use Rattle.adr_queries.specs.declared.answer.Answer.{Answer}
use Rattle.adr_queries.specs.declared.answer.Answer.TheVariants as answer
use Rattle.adr_machine.specs.declared.outcome.Outcome.{Outcome}
use Rattle.adr_machine.specs.declared.outcome.Outcome.TheVariants as outcome
use Rattle.adr_queries.specs.Frozen.{frozen_object}
use Rattle.adr_queries.specs.Roles.{is_operator, sight_of}

-- ---- who may give it

-- who gives a command that the operator alone may give
abbrev pub giver_of : Command → Option Role
giver_of command = (traits_of command).giver

-- the operator gives it, where the operator alone may
abbrev pub is_allowed : Command → Bool
is_allowed command = option_map_or is_operator (giver_of command) true

-- ---- what it decides

-- whether the next number is drawn for it: what it makes is new, a subscription too, or a report is given another
-- revision
abbrev pub draws_number : Command → Bool
draws_number command = (traits_of command).draws

-- whether it is about an entry of the outbox, and leaves all else
abbrev pub is_delivery : Command → Bool
is_delivery command = (traits_of command).delivers

-- whether it leaves all that is shown, whatever is decided: so nothing is told of it
abbrev pub is_quiet : Command → Bool
is_quiet command = (traits_of command).quiet

-- whether a subscription may go by it: entries that wait for one that went are dropped
abbrev pub unsubscribes : Command → Bool
unsubscribes command = (traits_of command).unsubscribes

-- what comes of it, and the change of the base
pub record Decision : Type 0 where
  pub outcome : Outcome
  pub change : BaseChange

-- the changes are counted, and that is the answer
abbrev pub counted : BaseChange → Decision
counted change = record { outcome = outcome.Counted; change = change }

-- what comes of it is this answer, with the change of the base
abbrev pub answered : Answer → BaseChange → Decision
answered a change = record { outcome = outcome.Told a; change = change }

-- the portfolio is changed, and what comes of it is of what was decided
abbrev pub of_portfolio : {A : Type 0} → (A → Outcome) → Result (A × PortfolioChange) Refusal → Result Decision Refusal
of_portfolio comes decision = decision >>= λ d. Ok (record { outcome = comes d.0; change = ChangePortfolio d.1 })

-- what comes of a ven: it is answered
abbrev pub ven_outcome : VenObject → Outcome
ven_outcome ven = outcome.Told (answer.Object (object.Ven ven))

-- what comes of a resource: it is answered
abbrev pub resource_outcome : ResourceObject → Outcome
resource_outcome resource = outcome.Told (answer.Object (object.Resource resource))

-- what comes of a share: it is answered
abbrev pub share_outcome : ShareObject → Outcome
share_outcome share = outcome.Told (answer.Share share)

-- what comes of an event that is frozen: the pairs that are kept for it are answered
abbrev pub frozen_outcome : List ℕ → List (ℕ × ℕ) → Outcome
frozen_outcome event pairs = outcome.Told (answer.Frozen (frozen_object event pairs))

-- what comes of a report that is kept: its number and what it says
abbrev pub report_kept : ℕ × Report → Outcome
report_kept r = outcome.ReportKept r.0 r.1.body

-- what comes of a report that went: its number and what it said
abbrev pub report_gone : ℕ × Report → Outcome
report_gone r = outcome.ReportGone r.0 r.1.body

-- what comes of a subscription: it is answered
abbrev pub sub_outcome : SubObject → Outcome
sub_outcome sub = outcome.Told (answer.Object (object.Sub sub))

-- what is decided of a new subscription, by who gives the command: first whether the addresses may be called, which
-- is 14 otherwise, and then what the role sees: one that sees nothing is 8
abbrev pub sub_post_decided : Limits → ℕ → ℕ → Role → SubIn → Base → Result Decision Refusal
sub_post_decided limits now n role sub base = settled sub >>= λ body. sight_of base role >>= λ sight. of_portfolio sub_outcome (sub_post limits now n (owner_in sight) body base.portfolio)

-- what is decided of a subscription that is put again: first whether the addresses may be called, which is 14
-- otherwise, and then what the role sees: one that sees nothing is 8
abbrev pub sub_put_decided : ℕ → Role → List ℕ → SubIn → Base → Result Decision Refusal
sub_put_decided now role id sub base = settled sub >>= λ body. sight_of base role >>= λ sight. of_portfolio sub_outcome (sub_put sight now id body base.portfolio)

-- what is decided of a subscription that goes, by what the role sees: one that sees nothing is 8
abbrev pub sub_delete_decided : Role → List ℕ → Base → Result Decision Refusal
sub_delete_decided role id base = sight_of base role >>= λ sight. of_portfolio sub_outcome (sub_delete sight id base.portfolio)

-- what is decided of a new report, by what the role sees: one that sees nothing is 8
abbrev pub post_decided : Limits → ℕ → Role → ReportIn → Base → Result Decision Refusal
post_decided limits n role report base = sight_of base role >>= λ sight. of_portfolio report_kept (report_post limits sight n report base.mirror base.portfolio)

-- what is decided of a report that is put again, by what the role sees: one that sees nothing is 8
abbrev pub put_decided : ℕ → Role → List ℕ → ReportIn → Base → Result Decision Refusal
put_decided n role id report base = sight_of base role >>= λ sight. of_portfolio report_kept (report_put sight n id report base.mirror base.portfolio)

-- what is decided of a report that goes, by what the role sees: one that sees nothing is 8
abbrev pub delete_decided : Role → List ℕ → Base → Result Decision Refusal
delete_decided role id base = sight_of base role >>= λ sight. of_portfolio report_gone (report_delete sight id base.portfolio)

-- what a command decides, where the next number is n
abbrev pub decided : Limits → ℕ → ℕ → Base → Command → Result Decision Refusal
decided limits now n base (Evidence founds polled) = evidence limits founds polled base >>= λ change. Ok (counted change)
decided limits now n base (Gone kind id) = gone limits (record { kind = kind; id = id }) base >>= λ change. Ok (counted change)
decided limits now n base ScanBegin = Ok (answered answer.Done scan_begin)
decided limits now n base ScanEnd = scan_end base >>= λ d. Ok (answered (answer.Probes d.0) d.1)
decided limits now n base (VenAdd role ven) = of_portfolio ven_outcome (ven_add limits now n ven.name base.portfolio)
decided limits now n base (VenPut role id ven) = of_portfolio ven_outcome (ven_put now id ven.name base.portfolio)
decided limits now n base (VenRemove role id) = of_portfolio ven_outcome (ven_remove id base.portfolio)
decided limits now n base (ResourceAdd role ven resource) = of_portfolio resource_outcome (resource_add limits now n ven resource.name base.portfolio)
decided limits now n base (ResourcePut role ven id resource) = of_portfolio resource_outcome (resource_put now ven id resource.name base.portfolio)
decided limits now n base (ResourceRemove role ven id) = of_portfolio resource_outcome (resource_remove ven id base.portfolio)
decided limits now n base (ShareSet role program resource share) = of_portfolio share_outcome (share_set limits program resource share.share base.portfolio)
decided limits now n base (Freeze role event) = of_portfolio (frozen_outcome event) (freeze limits event base.mirror base.portfolio)
decided limits now n base (ReportPost role report) = post_decided limits n role report base
decided limits now n base (ReportPut role id report) = put_decided n role id report base
decided limits now n base (ReportDelete role id) = delete_decided role id base
decided limits now n base (SubPost role sub) = sub_post_decided limits now n role sub base
decided limits now n base (SubPut role id sub) = sub_put_decided now role id sub base
decided limits now n base (SubDelete role id) = sub_delete_decided role id base
-- what is about an entry leaves the base
decided limits now n base _ = Ok (answered answer.Done (SetScan base.scan))

-- what is told of what was carried out
abbrev pub told_by : {A B : Type 0} → (A → B) → Result A Refusal → Result B Refusal
told_by told (Ok x) = Ok (told x)
told_by told (Err refusal) = Err refusal

-- what comes of a decision, with the base after its change
abbrev pub carried_out_on : Base → Result Decision Refusal → Result (Outcome × Base) Refusal
carried_out_on base decision = decision >>= λ d. Ok (d.outcome, changed d.change base)

-- ---- what its edit makes

-- the change is made, and the number is drawn, where one is left
abbrev pub numbered : Limits → Bool → Base → Decision → Result (Outcome × Base) Refusal
numbered limits draws base d = drawn limits base.serial draws >>= λ serial. Ok (d.outcome, record (changed d.change base) { serial = serial })

-- what is decided is carried out, and the next number is drawn where the command draws one
abbrev pub edit_of : Limits → ℕ → Base → Command → Result (Outcome × Base) Refusal
edit_of limits now base command = decided limits now (base.serial + 1) base command >>= numbered limits (draws_number command) base

-- what a command makes of the base, or the first refusal whose condition holds, that of the role first
unfoldable pub edit : Limits → ℕ → Base → Command → Result (Outcome × Base) Refusal
edit limits now base command = if is_allowed command then edit_of limits now base command else Err Forbidden
