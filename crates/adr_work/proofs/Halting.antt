-- Further steps, up to one that the store refuses.
use Rattle.std.proofs.Common.{◌≡◌, inl, inr, Bool, true, false, ◌&&◌, true≢false, List, [], ◌∷◌, ◌++◌, Result, Ok, Err, refl, sym, ap, ◌∙◌, subst, append_assoc, append-nil}
use Rattle.std.specs.Result.{IsErrAnd}
use Rattle.std.proofs.lemmas.List.Elements.{All-append, All-nil, All-push}
use Rattle.adr_text.specs.declared.refusal.Refusal.{Refusal}
use Rattle.adr_text.specs.declared.refusal.Refusal.TheVariants.{OutOfMemory}
use Rattle.adr_lock.specs.Steps.{Step}
use Rattle.adr_lock.specs.Halting.{is_stores, by_store, IsQuiet, EndsByStore, EndsByCall, HaltsByStep, HaltsByCall}
use Rattle.adr_work.proofs.Behind.{behind}

-- none
pub ends_none : (before : List Step) → EndsByStore false before before
ends_none before = record { quiet = []; end = []; steps = sym (append-nil before); each = All-nil IsQuiet; end_is = refl }

-- one
pub ends_one : (ended : Bool) (before after : List Step) (step : Step) → after ≡ before ++ step ∷ [] → by_store step.1 ≡ ended → EndsByStore ended before after
ends_one false before after step is so = record { quiet = step ∷ []; end = []; steps = is; each = All-push IsQuiet [] step (All-nil IsQuiet) so; end_is = refl }
ends_one true before after step is so = record { quiet = []; end = step ∷ []; steps = is; each = All-nil IsQuiet; end_is = (step, refl, so) }

-- these, and then those
pub ends_both : (ended : Bool) (before between after : List Step) → EndsByStore false before between → EndsByStore ended between after → EndsByStore ended before after
ends_both ended before between after s t =
    let none : s.end ≡ [] = s.end_is in
    let first : between ≡ before ++ s.quiet = s.steps ∙ ap (λ xs. before ++ (s.quiet ++ xs)) none ∙ ap (λ xs. before ++ xs) (append-nil s.quiet) in record {
      quiet = s.quiet ++ t.quiet;
      end = t.end;
      steps = behind before s.quiet (t.quiet ++ t.end) first t.steps (append_assoc s.quiet t.quiet t.end);
      each = All-append IsQuiet s.quiet t.quiet s.each t.each;
      end_is = t.end_is;
    }

-- these, and then one
pub ends_more : (ended : Bool) (before between after : List Step) (step : Step) → EndsByStore false before between → after ≡ between ++ step ∷ [] → by_store step.1 ≡ ended → EndsByStore ended before after
ends_more ended before between after step s is so = ends_both ended before between after s (ends_one ended between after step is so)

-- the same steps, by other names
pub ends_same : (ended : Bool) (first last other more : List Step) → EndsByStore ended first last → other ≡ first → more ≡ last → EndsByStore ended other more
ends_same ended first last other more s is are = subst (λ xs. EndsByStore ended xs more) (sym is) (subst (λ xs. EndsByStore ended first xs) (sym are) s)

-- a refusal that is handed on ends as it says
pub ends_handed : {A : Type 0} (r : Result A Refusal) (refusal : Refusal) (before after : List Step) → IsErrAnd r (λ x. x ≡ refusal) → EndsByStore (is_stores refusal) before after → EndsByStore (by_store r) before after
ends_handed (Ok x) refusal before after is s = absurd is
ends_handed (Err x) refusal before after is s = subst (λ y. EndsByStore (is_stores y) before after) (sym is) s

-- want of memory ends nothing
pub ends_memory : {A : Type 0} (r : Result A Refusal) (refusal : Refusal) (before after : List Step)
    → IsErrAnd r (λ x. x ≡ refusal) → refusal ≡ OutOfMemory → EndsByStore false before after → EndsByStore (by_store r) before after
ends_memory r refusal before after handed is s = ends_handed r refusal before after handed (subst (λ y. EndsByStore (is_stores y) before after) (sym is) s)

-- ---- who halts

-- who asked for nothing
pub halts_none : (has_flag : Bool) (before : List Step) → HaltsByStep has_flag false before before
halts_none has_flag before = record { ends = λ has. ends_none before; only = λ halted. absurd (true≢false (sym halted)) }

-- by what came, or not
pub halts_one : (has_flag ended halted : Bool) (before after : List Step) → EndsByStore ended before after → halted ≡ (has_flag && ended) → HaltsByStep has_flag halted before after
halts_one true ended halted before after s is = record { ends = λ has. subst (λ e. EndsByStore e before after) (sym is) s; only = λ halted. refl }
halts_one false ended halted before after s is = record { ends = λ has. absurd (true≢false (sym has)); only = λ it. absurd (true≢false (sym it ∙ is)) }

-- these, and then those
pub halts_then : (has_flag ended halted : Bool) (before between after : List Step) → HaltsByStep has_flag false before between → HaltsByStep has_flag ended between after → ended ≡ halted → HaltsByStep has_flag halted before after
halts_then has_flag ended halted before between after s t is =
    let h : HaltsByStep has_flag ended before after = record { ends = λ has. ends_both ended before between after (s.ends has) (t.ends has); only = t.only } in
    subst (λ e. HaltsByStep has_flag e before after) is h

-- these, and then what came of more
pub halts_more : (has_flag ended halted : Bool) (before between after : List Step) → HaltsByStep has_flag false before between → EndsByStore ended between after → halted ≡ (has_flag && ended) → HaltsByStep has_flag halted before after
halts_more has_flag ended halted before between after s t is =
    halts_then has_flag halted halted before between after s (halts_one has_flag ended halted between after t is) refl

-- ---- and looks too

pub calls_none : (has_flag : Bool) (before : List Step) → HaltsByCall has_flag false before before
calls_none has_flag before = record { ends = λ has. inl (ends_none before); only = λ halted. absurd (true≢false (sym halted)) }

-- a look was refused by the store
pub calls_looked : (has_flag ended : Bool) (before after : List Step) → after ≡ before → true ≡ (has_flag && ended) → HaltsByCall has_flag true before after
calls_looked true ended before after same is = record { ends = λ has. inr (refl, ends_same false before before before after (ends_none before) refl same); only = λ halted. refl }
calls_looked false ended before after same is = absurd (true≢false is)

-- by what came, or not
pub calls_one : (has_flag ended halted : Bool) (before between after : List Step) → between ≡ before → EndsByStore ended between after → halted ≡ (has_flag && ended) → HaltsByCall has_flag halted before after
calls_one has_flag ended halted before between after same s is =
    let h = halts_one has_flag ended halted before after (ends_same ended between after before after s (sym same) refl) is in record { ends = λ has. inl (h.ends has); only = h.only }

joined : (ended : Bool) (before between after : List Step) → EndsByCall false before between → EndsByCall ended between after → EndsByCall ended before after
joined ended before between after (inl s) (inl t) = inl (ends_both ended before between after s t)
joined ended before between after (inl s) (inr t) = inr (t.0, ends_both false before between after s t.1)
joined ended before between after (inr s) t = absurd (true≢false (sym s.0))

-- these, and then those
pub calls_then : (has_flag ended halted : Bool) (before between after : List Step) → HaltsByCall has_flag false before between → HaltsByCall has_flag ended between after → ended ≡ halted → HaltsByCall has_flag halted before after
calls_then has_flag ended halted before between after s t is =
    let h : HaltsByCall has_flag ended before after = record { ends = λ has. joined ended before between after (s.ends has) (t.ends has); only = t.only } in
    subst (λ e. HaltsByCall has_flag e before after) is h
