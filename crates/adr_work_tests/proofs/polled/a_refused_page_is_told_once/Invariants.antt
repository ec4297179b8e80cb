use Rattle.adr_work_tests.proofs.polled.a_refused_page_is_told_once.Given as goal

abbrev pub ghosts-steps_to_refusal : goal.ghosts-steps_to_refusal
ghosts-steps_to_refusal g a = record { name = a.blank.name; parts = a.blank.parts }
