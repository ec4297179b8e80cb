use Rattle.std.proofs.Common.{inl, inr, refl}
use Rattle.std.proofs.lemmas.Result.{IfErr-weaker}
use Rattle.adr_db.proofs.Common.{state, over_memory, memory_is_clean}
use Rattle.adr_state.specs.States.{empty}
use Rattle.adr_db.proofs.Results.{ok_then}
use Rattle.adr_desk.proofs.Empty.{holds_none}
use Rattle.adr_desk.proofs.desk.SqlDesk+MemStore.open_memory.Goals as goal

pub returns-clause-state : goal.returns-clause-state
returns-clause-state c =
    let none = holds_none (state over_memory c.in_ok-conn.conn) c.in_ok-conn.ensures.empty in
    ok_then c.adopt.result (λ desk made. (made (memory_is_clean desk.conn) refl empty (refl, none)).1) c.adopt.ensures.made

pub returns-clause-sound : goal.returns-clause-sound
returns-clause-sound c =
    let none = holds_none (state over_memory c.in_ok-conn.conn) c.in_ok-conn.ensures.empty in
    ok_then c.adopt.result (λ desk made. (made (memory_is_clean desk.conn) refl empty (refl, none)).0) c.adopt.ensures.made

pub returns-clause-committed : goal.returns-clause-committed
returns-clause-committed c = ok_then c.adopt.result (λ desk same. same (memory_is_clean desk.conn)) c.adopt.ensures.committed

pub returns-clause-refused : goal.returns-clause-refused
returns-clause-refused c = IfErr-weaker c.adopt.result _ _ (λ refusal listed. elim listed [ inl store ↦ store | inr kept ↦ (let no = kept.1 in absurd cc) ]) c.adopt.ensures.listed
