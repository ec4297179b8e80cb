use Rattle.std.proofs.Common.{◌≡◌, ◌++◌, map, filter}
use Rattle.std.specs.Str.{bytes_eq}
use Rattle.adr_queries.specs.declared.answer.Object.TheVariants as object
use Rattle.adr_state.specs.Shares.{share_object}
use Rattle.adr_answers.proofs.of_share.shares_of.Given as goal

-- the shares so far, and those that are left
abbrev pub invariant-loop-key : goal.invariant-loop-key
invariant-loop-key l =
    l.all.items ++ map (λ s. object.Share (share_object s)) (filter (λ s. bytes_eq s.0.program l.program) l.key-iterator) ≡ map (λ s. object.Share (share_object s)) (filter (λ s. bytes_eq s.0.program l.program) l.shares)
