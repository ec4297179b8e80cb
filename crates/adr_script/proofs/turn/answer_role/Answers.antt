use Rattle.std.proofs.lemmas.Result.{MatchResult-weaker, IfOk-weaker}
use Rattle.adr_script.specs.Turns.{words_asked}
use Rattle.adr_script.proofs.Turns.{read_is_a_turn, read_leaves}
use Rattle.adr_script.proofs.turn.answer_role.Goals as goal

-- the words were read so
pub returns-clause-ok : goal.returns-clause-ok
returns-clause-ok g c =
    rw c.without.ensures (IfOk-weaker c.answer_words-text.result _ _ (λ out takes sound. read_is_a_turn (g.D.Desk.settings c.args.desk.now) (g.D.Desk.state c.args.desk.now) _ c.args.now c.args.role.now (words_asked c.args.role.now c.args.rest.now) _ c.words_asked-words.result _ c.words_asked-words.ensures (takes sound)) c.answer_words-text.ensures.ok)

pub returns-clause-err : goal.returns-clause-err
returns-clause-err g c =
    rw c.without.ensures (MatchResult-weaker c.answer_words-text.result c.answer_words-text.ensures.err (λ out h. tt) (λ fault leaves sound. read_leaves (g.D.Desk.settings c.args.desk.now) (g.D.Desk.state c.args.desk.now) _ c.args.now c.args.role.now (words_asked c.args.role.now c.args.rest.now) c.words_asked-words.result c.words_asked-words.ensures (leaves sound)))
