use Rattle.adr_server.proofs.office_taker.ask_office.Goals as goal

-- a page is a command
pub returns-in-Page-clause-outcome : goal.returns-in-Page-clause-outcome
returns-in-Page-clause-outcome g c = rw c.in-Page.is c.take_step-in-Page.ensures.outcome
