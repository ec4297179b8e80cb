use Rattle.std.proofs.Common.{inl, inr, arith}
use Rattle.adr_desk.proofs.restart.over_left.Goals as goal

pub returns-in-Ok : goal.returns-in-Ok
returns-in-Ok g c clean is_open =
    (omega (arith, c.in-Ok.ensures.crash.clean), λ was_open held left. c.in-Ok.ensures.made clean is_open held (elim left [ inl today ↦ inl (c.left_is_held.ensures was_open held today) | inr first ↦ inr (c.first_left_is_held.ensures was_open held first) ]))
