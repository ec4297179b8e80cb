use Rattle.std.proofs.Common.{[], ◌∷◌, ◌++◌, ◌+◌, length, refl, sym, ap, ◌∙◌}
use Rattle.adr_text.specs.declared.refusal.Refusal.TheVariants.{TrailFull, Stale}
use Rattle.adr_queries.specs.Listed.{IsListed}
use Rattle.adr_machine.specs.Listed.{listed}
use Rattle.adr_machine.proofs.Listed.{listed_of_machine}
use Rattle.adr_book.specs.Entry.{entry_to_step, IsOfDesk}
use Rattle.adr_book.specs.Receipts.{receipt_of}
use Rattle.adr_book.proofs.Leading.{led_more, led_moved}
use Rattle.adr_book.proofs.Placed.{step_places, step_confirms, place_moved}
use Rattle.adr_book.proofs.Listing.{handed_on, listed_behind, of_desk, ends_after, entry_listed}
use Rattle.adr_book.proofs.kept.Book.take.Goals as goal

-- the trail with this command leads to the desk's new state
pub invariant_of-self-2-clause-leads : goal.invariant_of-self-2-clause-leads
invariant_of-self-2-clause-leads g c =
    λ sound.
    let book = c.args.self.now in
    let t = g.T.Trail in
    let settings = g.D.Desk.settings book.desk in
    let settings' = g.D.Desk.settings c.apply.new.self in
    let trail = t.commands book.trail in
    let noted = t.commands c.note.new.self in
    let more = c.note.ensures.commands ∙ ap (λ cs. cs ++ (c.args.now, c.args.command.now) ∷ []) c.ready.ensures.commands in
    led_moved settings' (t.base book.trail) (t.base c.note.new.self) (g.D.Desk.state c.apply.new.self) noted noted (c.note.ensures.base.0 ∙ c.ready.ensures.base.0) refl
    (led_more settings settings' (t.base book.trail) (g.D.Desk.state book.desk) (g.D.Desk.state c.apply.new.self)
    trail noted (c.args.now, c.args.command.now) c.in_ok-answer.answer
    c.apply.ensures.same_settings (book.leads (c.apply.ensures.was_sound sound)) (c.in_ok-answer.ensures.ok sound) more)

-- the answer has its place, and what was told before keeps it

pub returns-clause-placed : goal.returns-clause-placed
returns-clause-placed g c =
    λ sound.
    let book = c.args.self.now in
    let t = g.T.Trail in
    let settings = g.D.Desk.settings book.desk in
    let settings' = g.D.Desk.settings c.apply.new.self in
    let r = receipt_of (book.turn + 1) c.args.command.now c.in_ok-answer.answer in
    let more = c.note.ensures.commands ∙ ap (λ cs. cs ++ (c.args.now, c.args.command.now) ∷ []) c.ready.ensures.commands in
    place_moved settings' (t.base book.trail) (t.base c.note.new.self) (t.since book.trail) (t.since c.note.new.self) (t.commands c.note.new.self) r
    (c.note.ensures.base.0 ∙ c.ready.ensures.base.0) (c.note.ensures.base.1 ∙ c.ready.ensures.base.1)
    (step_places settings settings' (t.base book.trail) (g.D.Desk.state book.desk) (g.D.Desk.state c.apply.new.self) (t.since book.trail)
    (t.commands book.trail) (t.commands c.note.new.self) (c.args.now, c.args.command.now) c.in_ok-answer.answer
    c.apply.ensures.same_settings (book.leads (c.apply.ensures.was_sound sound)) (c.in_ok-answer.ensures.ok sound) more
    r (ap (λ n. n + 1) book.turn_is) refl refl)

pub returns-clause-confirms : goal.returns-clause-confirms
returns-clause-confirms g c =
    λ sound r place.
    let book = c.args.self.now in
    let t = g.T.Trail in
    let settings = g.D.Desk.settings book.desk in
    let settings' = g.D.Desk.settings c.apply.new.self in
    let more = c.note.ensures.commands ∙ ap (λ cs. cs ++ (c.args.now, c.args.command.now) ∷ []) c.ready.ensures.commands in
    place_moved settings' (t.base book.trail) (t.base c.note.new.self) (t.since book.trail) (t.since c.note.new.self) (t.commands c.note.new.self) r
    (c.note.ensures.base.0 ∙ c.ready.ensures.base.0) (c.note.ensures.base.1 ∙ c.ready.ensures.base.1)
    (step_confirms settings settings' (t.base book.trail) (g.D.Desk.state book.desk) (g.D.Desk.state c.apply.new.self) (t.since book.trail)
    (t.commands book.trail) (t.commands c.note.new.self) (c.args.now, c.args.command.now) c.in_ok-answer.answer
    c.apply.ensures.same_settings (book.leads (c.apply.ensures.was_sound sound)) (c.in_ok-answer.ensures.ok sound) more
    r place)

-- who is not let in is refused for the pass or for the trail
pub returns-in_err-admit_step-clause-listed : goal.returns-in_err-admit_step-clause-listed
returns-in_err-admit_step-clause-listed g c =
    let P = g.D.Desk.may_refuse in
    let book = c.args.self.now in
    let seen = c.args.pass.now.turn in
    let these = listed c.args.command.now in
    let e = c.in_err-admit_step.field-0.0 in
    handed_on (IsListed P (Stale seen ∷ TrailFull ∷ these)) c.from_residual.result e c.from_residual.ensures.1
    (entry_listed P these seen e g.T.Trail.keeps book.turn (g.D.Desk.settings book.desk).limits.trail (length (g.T.Trail.commands book.trail)) (sym c.admit_step.ensures ∙ c.in_err-admit_step.was))

-- the desk's refusal is handed on
pub returns-in_err-answer-clause-listed : goal.returns-in_err-answer-clause-listed
returns-in_err-answer-clause-listed g c =
    let P = g.D.Desk.may_refuse in
    let first = Stale c.args.pass.now.turn ∷ TrailFull ∷ [] in
    let these = listed c.args.command.now in
    let e = c.in_err-answer.field-0.0 in
    handed_on (IsListed P (first ++ these)) c.from_residual-in_err-answer.result e c.from_residual-in_err-answer.ensures.1
    (listed_behind P first these e c.in_err-answer.ensures.listed)

pub returns-in_err-answer-clause-entry : goal.returns-in_err-answer-clause-entry
returns-in_err-answer-clause-entry g c =
    let command = c.args.command.now in
    let e = c.in_err-answer.field-0.0 in
    ends_after (entry_to_step c.args.self.now c.args.pass.now) c.in_ok-admit_step.field-0 c.from_residual-in_err-answer.result (sym c.admit_step.ensures ∙ c.in_ok-admit_step.was)
    (handed_on IsOfDesk c.from_residual-in_err-answer.result e c.from_residual-in_err-answer.ensures.1 (of_desk g.D.Desk.may_refuse (listed command) (listed_of_machine command) e c.in_err-answer.ensures.listed))
