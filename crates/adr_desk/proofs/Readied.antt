-- A database that is made ready for a desk.
use Rattle.std.proofs.Common.{◌≡◌, inl, inr, true, Ok, Err, Result, IfErr, refl, sym, subst}
use Rattle.adr_text.specs.declared.refusal.Refusal.TheVariants.{BadFile}
use Rattle.adr_db.proofs.Common.{Trees, Ghosts, Held, state, HasCleanDisk, Refusal, Contents, Holds, rows_of_table, Stays, Commits, holds_now}
use Rattle.sqlite.specs.State.{Survives}
use Rattle.sqlite.specs.State as sql
use Rattle.adr_state.specs.declared.state.State.{State}
use Rattle.adr_db.specs.Tables.{schema, first_schema}
use Rattle.adr_db.specs.Kept.{Kept, Keeps, contents_of}
use Rattle.adr_db.specs.FirstVersion.{first_contents}
use Rattle.adr_db.specs.declared.version.Version.{Version}
use Rattle.adr_db.specs.declared.version.Version.TheVariants.{First, Second}
use Rattle.adr_db.specs.Versions.{SayKnown, KeepsInEither, schema_of_version}
use Rattle.adr_held.specs.Held.{kept_of, HoldsState, HoldsInEither, AreLeftWith}
use Rattle.adr_desk.specs.Preparing.{AreKnown, UpgradedFrom}
use Rattle.adr_desk.specs.Transactions.{Ends}
use Rattle.adr_desk.proofs.Transactions.{ends_whole, held_now, left_now}

-- where a crash may leave something, it may leave what is more
pub survives_as : (old new : sql.State) (P Q : Trees → Type 0) → ((trees : Trees) → P trees → Q trees) → Survives old new P → Survives old new Q
survives_as old new P Q more h = record {
  clean = h.clean;
  shield = h.shield;
  counts = h.counts;
  limit = h.limit;
  closes = h.closes;
  crash = λ clean trees left. elim (h.crash clean trees left) [ inl before ↦ inl before | inr after ↦ inr (more trees after) ];
}

-- what tables of either version keep, they keep where all is as it was
either_now : (kept : Kept) (a b : sql.State) → b.now ≡ a.now → KeepsInEither kept a → KeepsInEither kept b
either_now kept a b same (inl today) = inl (record { rows = holds_now schema (contents_of kept) a b same today.rows; marks = today.marks; subs = today.subs })
either_now kept a b same (inr first) = inr (record { rows = holds_now first_schema (first_contents kept) a b same first.rows; marks = first.marks; subs = first.subs; unfrozen = first.unfrozen })

-- a state that tables of either version held is held, where what they kept is kept by those of today
held_on : (old new : sql.State) → ((kept : Kept) → KeepsInEither kept old → Keeps kept new) → (held : State) → HoldsInEither held old → HoldsState held new
held_on old new up held (inl today) = record { keeps = up (kept_of held) (inl today.keeps); reads = today.reads; right = today.right }
held_on old new up held (inr first) = record { keeps = up (kept_of held) (inr first.keeps); reads = first.reads; right = first.right }

module _ {S : Type 0} (g : Ghosts S) (old begun last end : Held S) (ended : Result Unit Refusal) where
  pub upgraded_whole : begun ≡ record old { in_transaction = true } → Stays g begun last {T = Unit {0}} {E = Refusal} (Ok tt)
      → (HasCleanDisk (state g last) → (kept : Kept) → KeepsInEither kept (state g begun) → Keeps kept (state g last)) → (HasCleanDisk (state g last) → AreKnown (state g begun)) → Ends g last end ended
      → Commits g old end (UpgradedFrom (state g old)) (λ trees. (held : State) → HoldsInEither held (state g old) → AreLeftWith held trees) ended
  upgraded_whole is stays up known ends =
      ends_whole g old last end {T = Unit {0}} tt ended _ _ (subst (λ (b : Held S). Stays g b last {T = Unit {0}} {E = Refusal} (Ok tt)) is stays)
      (λ clean. record {
        holds = held_on (state g old) (state g last) (λ kept was. up clean kept (subst (λ (b : Held S). KeepsInEither kept (state g b)) (sym is) (either_now kept (state g old) _ refl was)));
        known = λ of all was. known clean of all (subst (λ (b : Held S). Holds (schema_of_version of) all (state g b)) (sym is) (holds_now (schema_of_version of) all (state g old) _ refl was));
      })
      (λ a b same done. record { holds = λ held was. held_now held a b same (done.holds held was); known = done.known })
      (λ s done held was. left_now held s (done.holds held was))
      ends

-- a refusal of a file that isn't known is one of tables that say no such version
abbrev pub IsOfUnknown : {T : Type 0} → sql.State → Result T Refusal → Type 0
IsOfUnknown old r = IfErr r (λ refusal. refusal ≡ BadFile → (of : Version) (all : Contents) → Holds (schema_of_version of) all old → ¬ SayKnown (rows_of_table all 0))

-- so it is where it is handed on, and of the tables as they were before a transaction began
pub handed_on : {T : Type 0} (r : Result T Refusal) (e : Refusal) (old begun : sql.State) → r ≡ Err e → begun.now ≡ old.now
    → (e ≡ BadFile → (of : Version) (all : Contents) → Holds (schema_of_version of) all begun → ¬ SayKnown (rows_of_table all 0)) → IsOfUnknown old r
handed_on r e old begun is same unknown = rw is (λ bad of all was. unknown bad of all (holds_now (schema_of_version of) all old begun same was))

-- tables that hold a state say one of the versions
pub state_known : (held : State) (s : sql.State) → ((of : Version) (all : Contents) → Holds (schema_of_version of) all s → ¬ SayKnown (rows_of_table all 0)) → ¬ HoldsInEither held s
state_known held s unknown (inl today) = unknown Second (contents_of (kept_of held)) today.keeps.rows (inr refl)
state_known held s unknown (inr first) = unknown First (first_contents (kept_of held)) first.keeps.rows (inl refl)
