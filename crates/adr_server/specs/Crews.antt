-- The threads that serve connections.
use Rattle.std.specs.Prelude.{ℕ, length}
use Rattle.adr_server.specs.declared.crew.Crew.{Crew}

-- how many there are
abbrev pub threads_of : {L : Type 0} → Crew L → ℕ
threads_of crew = length crew.threads.items
