use Rattle.std.proofs.Common.{◌≡◌, true, false, cond, [], ◌∷◌, ◌++◌, sym, ap, ◌∙◌, rules}
use Rattle.std.specs.Prelude.{◌==◌}
use Rattle.std.proofs.lemmas.List.{append-nil}
use Rattle.adr_lent_image.specs.Merged.{last_for, before_last}
use Rattle.adr_lent_image.proofs.MergeLemmas.{last_added, before_added}
use Rattle.adr_lent_image.proofs.groups.Waiting.taken_last.Goals as goal

pub returns-then-eq-clause-those : goal.returns-then-eq-clause-those
returns-then-eq-clause-those g c =
    let n = c.args.report in
    let gs = c.pop_back.new.self.items in
    let last = c.in-Some.last in
    let items : c.args.self.now ≡ gs ++ last ∷ [] = search rules in
    let same : (last.0 == n) ≡ true = search rules in
    sym (ap (last_for n) items ∙ last_added n gs last ∙ ap (λ b. cond b last.1 []) same)

pub returns-then-eq-clause-left : goal.returns-then-eq-clause-left
returns-then-eq-clause-left g c =
    let n = c.args.report in
    let gs = c.pop_back.new.self.items in
    let last = c.in-Some.last in
    let items : c.args.self.now ≡ gs ++ last ∷ [] = search rules in
    let same : (last.0 == n) ≡ true = search rules in
    sym (ap (before_last n) items ∙ before_added n gs last ∙ ap (λ b. gs ++ cond b [] (last ∷ [])) same ∙ append-nil gs)

pub returns-clause-those : goal.returns-clause-those
returns-clause-those g c =
    let n = c.args.report in
    let gs = c.pop_back.new.self.items in
    let last = c.in-Some.last in
    let items : c.args.self.now ≡ gs ++ last ∷ [] = search rules in
    let other : (last.0 == n) ≡ false = search rules in
    c.new-2.ensures ∙ sym (ap (last_for n) items ∙ last_added n gs last ∙ ap (λ b. cond b last.1 []) other)

pub returns-clause-left : goal.returns-clause-left
returns-clause-left g c =
    let n = c.args.report in
    let gs = c.pop_back.new.self.items in
    let last = c.in-Some.last in
    let items : c.args.self.now ≡ gs ++ last ∷ [] = search rules in
    let other : (last.0 == n) ≡ false = search rules in
    let put : c.push_back.new.self.items ≡ gs ++ last ∷ [] = search rules in
    put ∙ sym (ap (before_last n) items ∙ before_added n gs last ∙ ap (λ b. gs ++ cond b [] (last ∷ [])) other)
