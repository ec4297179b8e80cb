use Rattle.std.proofs.Common.{[], ◌∷◌, refl, arith}
use Rattle.std.specs.List.{AllByRecursion, Contains}
use Rattle.adr_db.proofs.Common.{Forbidden}
use Rattle.adr_text.specs.declared.refusal.Refusal.TheVariants.{NotFound}
use Rattle.adr_queries.specs.Frozen.{frozen_reply}
use Rattle.adr_queries.specs.Listings.{ven_reply, resources_reply, resource_reply, shares_reply}
use Rattle.adr_queries.specs.Replies.{reply}
use Rattle.adr_queries.specs.Reported.{report_reply}
use Rattle.adr_queries.specs.Shown.{programs_reply, program_reply}
use Rattle.adr_queries.specs.Subscribed.{sub_reply}
use Rattle.adr_desk.proofs.AskLemmas.{looked_up, refused_up, each_listed}
use Rattle.adr_desk.proofs.ask.asked.Goals as goal

-- those of which one may be out of sight, or not there
both : AllByRecursion (Contains (Forbidden ∷ NotFound ∷ [])) (Forbidden ∷ NotFound ∷ [])
both = ((0, omega arith, refl), ((1, omega arith, refl), tt))

-- ---- the reply

pub returns-in-Programs-clause-tells : goal.returns-in-Programs-clause-tells
unfolding reply
returns-in-Programs-clause-tells g c = rw c.in-Programs.is (looked_up g.S.Store c.args.tx.now.conn.now c.programs.new.tx.conn.now (λ s. programs_reply s c.in-Programs.role c.in-Programs.page) c.programs.result c.programs.ensures.finds)

pub returns-in-Program-clause-tells : goal.returns-in-Program-clause-tells
unfolding reply
returns-in-Program-clause-tells g c = rw c.in-Program.is (looked_up g.S.Store c.args.tx.now.conn.now c.program.new.tx.conn.now (λ s. program_reply s c.in-Program.role c.in-Program.id) c.program.result c.program.ensures.finds)

pub returns-in-Ven-clause-tells : goal.returns-in-Ven-clause-tells
unfolding reply
returns-in-Ven-clause-tells g c = rw c.in-Ven.is (looked_up g.S.Store c.args.tx.now.conn.now c.ven.new.tx.conn.now (λ s. ven_reply s.base c.in-Ven.role c.in-Ven.id) c.ven.result c.ven.ensures.finds)

pub returns-in-Resources-clause-tells : goal.returns-in-Resources-clause-tells
unfolding reply
returns-in-Resources-clause-tells g c = rw c.in-Resources.is (looked_up g.S.Store c.args.tx.now.conn.now c.resources.new.tx.conn.now (λ s. resources_reply s.base c.in-Resources.role c.in-Resources.ven c.in-Resources.page) c.resources.result c.resources.ensures.finds)

pub returns-in-Resource-clause-tells : goal.returns-in-Resource-clause-tells
unfolding reply
returns-in-Resource-clause-tells g c = rw c.in-Resource.is (looked_up g.S.Store c.args.tx.now.conn.now c.resource.new.tx.conn.now (λ s. resource_reply s.base c.in-Resource.role c.in-Resource.ven c.in-Resource.id) c.resource.result c.resource.ensures.finds)

pub returns-in-Shares-clause-tells : goal.returns-in-Shares-clause-tells
unfolding reply
returns-in-Shares-clause-tells g c = rw c.in-Shares.is (looked_up g.S.Store c.args.tx.now.conn.now c.shares.new.tx.conn.now (λ s. shares_reply s.base c.in-Shares.role c.in-Shares.program) c.shares.result c.shares.ensures.finds)

pub returns-in-Frozen-clause-tells : goal.returns-in-Frozen-clause-tells
unfolding reply
returns-in-Frozen-clause-tells g c = rw c.in-Frozen.is (looked_up g.S.Store c.args.tx.now.conn.now c.frozen.new.tx.conn.now (λ s. frozen_reply s.base c.in-Frozen.role c.in-Frozen.event) c.frozen.result c.frozen.ensures.finds)

pub returns-in-Report-clause-tells : goal.returns-in-Report-clause-tells
unfolding reply
returns-in-Report-clause-tells g c = rw c.in-Report.is (looked_up g.S.Store c.args.tx.now.conn.now c.report.new.tx.conn.now (λ s. report_reply s c.in-Report.role c.in-Report.id) c.report.result c.report.ensures.finds)

pub returns-in-Sub-clause-tells : goal.returns-in-Sub-clause-tells
unfolding reply
returns-in-Sub-clause-tells g c = rw c.in-Sub.is (looked_up g.S.Store c.args.tx.now.conn.now c.sub.new.tx.conn.now (λ s. sub_reply s.base c.in-Sub.role c.in-Sub.id) c.sub.result c.sub.ensures.finds)

-- ---- refusals

pub returns-in-Programs-clause-refuses : goal.returns-in-Programs-clause-refuses
unfolding reply
returns-in-Programs-clause-refuses g c = rw c.in-Programs.is (refused_up g.S.Store c.args.tx.now.conn.now c.programs.new.tx.conn.now (λ s. programs_reply s c.in-Programs.role c.in-Programs.page) c.programs.result c.programs.ensures.refuses)

pub returns-in-Program-clause-refuses : goal.returns-in-Program-clause-refuses
unfolding reply
returns-in-Program-clause-refuses g c = rw c.in-Program.is (refused_up g.S.Store c.args.tx.now.conn.now c.program.new.tx.conn.now (λ s. program_reply s c.in-Program.role c.in-Program.id) c.program.result c.program.ensures.refuses)

pub returns-in-Ven-clause-refuses : goal.returns-in-Ven-clause-refuses
unfolding reply
returns-in-Ven-clause-refuses g c = rw c.in-Ven.is (refused_up g.S.Store c.args.tx.now.conn.now c.ven.new.tx.conn.now (λ s. ven_reply s.base c.in-Ven.role c.in-Ven.id) c.ven.result c.ven.ensures.refuses)

pub returns-in-Resources-clause-refuses : goal.returns-in-Resources-clause-refuses
unfolding reply
returns-in-Resources-clause-refuses g c = rw c.in-Resources.is (refused_up g.S.Store c.args.tx.now.conn.now c.resources.new.tx.conn.now (λ s. resources_reply s.base c.in-Resources.role c.in-Resources.ven c.in-Resources.page) c.resources.result c.resources.ensures.refuses)

pub returns-in-Resource-clause-refuses : goal.returns-in-Resource-clause-refuses
unfolding reply
returns-in-Resource-clause-refuses g c = rw c.in-Resource.is (refused_up g.S.Store c.args.tx.now.conn.now c.resource.new.tx.conn.now (λ s. resource_reply s.base c.in-Resource.role c.in-Resource.ven c.in-Resource.id) c.resource.result c.resource.ensures.refuses)

pub returns-in-Shares-clause-refuses : goal.returns-in-Shares-clause-refuses
unfolding reply
returns-in-Shares-clause-refuses g c = rw c.in-Shares.is (refused_up g.S.Store c.args.tx.now.conn.now c.shares.new.tx.conn.now (λ s. shares_reply s.base c.in-Shares.role c.in-Shares.program) c.shares.result c.shares.ensures.refuses)

pub returns-in-Frozen-clause-refuses : goal.returns-in-Frozen-clause-refuses
unfolding reply
returns-in-Frozen-clause-refuses g c = rw c.in-Frozen.is (refused_up g.S.Store c.args.tx.now.conn.now c.frozen.new.tx.conn.now (λ s. frozen_reply s.base c.in-Frozen.role c.in-Frozen.event) c.frozen.result c.frozen.ensures.refuses)

pub returns-in-Report-clause-refuses : goal.returns-in-Report-clause-refuses
unfolding reply
returns-in-Report-clause-refuses g c = rw c.in-Report.is (refused_up g.S.Store c.args.tx.now.conn.now c.report.new.tx.conn.now (λ s. report_reply s c.in-Report.role c.in-Report.id) c.report.result c.report.ensures.refuses)

pub returns-in-Sub-clause-refuses : goal.returns-in-Sub-clause-refuses
unfolding reply
returns-in-Sub-clause-refuses g c = rw c.in-Sub.is (refused_up g.S.Store c.args.tx.now.conn.now c.sub.new.tx.conn.now (λ s. sub_reply s.base c.in-Sub.role c.in-Sub.id) c.sub.result c.sub.ensures.refuses)

-- ---- which refusals

pub returns-in-Program-clause-listed : goal.returns-in-Program-clause-listed
returns-in-Program-clause-listed g c = rw c.in-Program.is (each_listed (Forbidden ∷ NotFound ∷ []) (Forbidden ∷ NotFound ∷ []) both c.program.result c.program.ensures.listed)

pub returns-in-Ven-clause-listed : goal.returns-in-Ven-clause-listed
returns-in-Ven-clause-listed g c = rw c.in-Ven.is (each_listed (Forbidden ∷ NotFound ∷ []) (Forbidden ∷ NotFound ∷ []) both c.ven.result c.ven.ensures.listed)

pub returns-in-Resources-clause-listed : goal.returns-in-Resources-clause-listed
returns-in-Resources-clause-listed g c = rw c.in-Resources.is (each_listed (Forbidden ∷ NotFound ∷ []) (Forbidden ∷ NotFound ∷ []) both c.resources.result c.resources.ensures.listed)

pub returns-in-Resource-clause-listed : goal.returns-in-Resource-clause-listed
returns-in-Resource-clause-listed g c = rw c.in-Resource.is (each_listed (Forbidden ∷ NotFound ∷ []) (Forbidden ∷ NotFound ∷ []) both c.resource.result c.resource.ensures.listed)

pub returns-in-Frozen-clause-listed : goal.returns-in-Frozen-clause-listed
returns-in-Frozen-clause-listed g c = rw c.in-Frozen.is (each_listed (Forbidden ∷ NotFound ∷ []) (Forbidden ∷ NotFound ∷ []) both c.frozen.result c.frozen.ensures.listed)

pub returns-in-Report-clause-listed : goal.returns-in-Report-clause-listed
returns-in-Report-clause-listed g c = rw c.in-Report.is (each_listed (Forbidden ∷ NotFound ∷ []) (Forbidden ∷ NotFound ∷ []) both c.report.result c.report.ensures.listed)

pub returns-in-Sub-clause-listed : goal.returns-in-Sub-clause-listed
returns-in-Sub-clause-listed g c = rw c.in-Sub.is (each_listed (Forbidden ∷ NotFound ∷ []) (Forbidden ∷ NotFound ∷ []) both c.sub.result c.sub.ensures.listed)

pub returns-in-Event-clause-listed : goal.returns-in-Event-clause-listed
returns-in-Event-clause-listed g c = rw c.in-Event.is c.one_event.ensures.listed

pub returns-in-Rollup-clause-listed : goal.returns-in-Rollup-clause-listed
returns-in-Rollup-clause-listed g c = rw c.in-Rollup.is c.rolled_up.ensures.listed
