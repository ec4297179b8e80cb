-- What is kept of a state tells what an open scan missed.
use Rattle.std.proofs.Common.{◌≡◌, ℕ, List, Option, None, Some, Ok, refl, sym, ap, ◌∙◌}
use Rattle.sqlite.specs.State as sql
use Rattle.adr_text.specs.Refusals.{◌>>=◌}
use Rattle.adr_db.proofs.Common.{MirrorKey, SetScan, scan_end}
use Rattle.adr_state.specs.declared.state.State.{State}
use Rattle.adr_queries.specs.declared.answer.Answer.TheVariants as answer
use Rattle.adr_queries.specs.Replies.{reply, probes_reply}
use Rattle.adr_db.specs.Kept.{Kept, Keeps}
use Rattle.adr_db.proofs.ReadBack.{kept_again}
use Rattle.adr_held.specs.Held.{kept_of, HoldsState}
use Rattle.adr_missed.specs.Unseen.{unseen_kept}
use Rattle.adr_missed.specs.Laws.{FirstAreTold, AllAreTold}

-- what the tables keep is what is kept of the state that they hold
kept_is : (s : sql.State) (held : State) (kept : Kept) → HoldsState held s → Keeps kept s → kept_of held ≡ kept
kept_is s held kept holds keeps = sym (kept_again (kept_of held) s holds.keeps) ∙ kept_again kept s keeps

first_by : (held : State) (limit : ℕ) (scan : Option (List MirrorKey)) → held.base.scan ≡ scan → probes_reply limit held.base held.base.scan ≡ (unseen_kept (Some limit) (kept_of held) >>= λ keys. Ok (answer.Probes keys))
first_by held limit None is = rw is refl
first_by held limit (Some polled) is = rw is refl

all_by : (held : State) (scan : Option (List MirrorKey)) → held.base.scan ≡ scan → scan_end held.base ≡ (unseen_kept None (kept_of held) >>= λ keys. Ok (keys, SetScan None))
all_by held None is = rw is refl
all_by held (Some polled) is = rw is refl

pub first_told : (s : sql.State) → FirstAreTold s
unfolding reply
first_told s held kept limit holds keeps = first_by held limit held.base.scan refl ∙ ap (λ (k : Kept). unseen_kept (Some limit) k >>= λ keys. Ok (answer.Probes keys)) (kept_is s held kept holds keeps)

pub all_told : (s : sql.State) → AllAreTold s
all_told s held kept holds keeps = all_by held held.base.scan refl ∙ ap (λ (k : Kept). unseen_kept None k >>= λ keys. Ok (keys, SetScan None)) (kept_is s held kept holds keeps)
