-- What had come as a reader failed was no whole reply, or one whose body goes on to the end of input.
use Rattle.std.proofs.Common.{◌≡◌, List, ℕ, ◌++◌, refl, sym, ◌∙◌, ap, subst, Result, Ok, Err}
use Rattle.httparse.specs.Grammar.{print_response}
use Rattle.httparse.proofs.GrammarLemmas.{response_unique}
use Rattle.adr_wire.specs.declared.end.MessageFault.{MessageFault}
use Rattle.adr_link.specs.declared.reply.HttpReply.{HttpReply}
use Rattle.adr_link.specs.declared.reply.LinkFault.{LinkFault}
use Rattle.adr_link.specs.declared.reply_head.ReplyHead.{ReplyHead}
use Rattle.adr_link.specs.ReplyHeads.{HeadAt, HasNoHead, head_in, IsHead}
use Rattle.adr_link.specs.Replies.{IsBody, linked, reply_with, IsReply, refused, reply, GoesToEnd, AwaitsMore}

-- no head came
pub no_head_awaits : (bytes : List ℕ) → HasNoHead bytes → AwaitsMore bytes
no_head_awaits bytes none = λ r is. by r (Ok r) refl is
  where
    by : (r : HttpReply) (read : Result HttpReply LinkFault) → read ≡ Ok r → IsReply bytes read → (head : ReplyHead) × (rest : List ℕ) × IsHead bytes head rest × GoesToEnd head
    by r read e (refused f x) = absurd cc
    by r read e (reply head rest body is has) = absurd (none is.0 rest is.1)

-- behind the same head, where a whole body that came goes on to the end of input
pub body_awaits : (bytes rest came : List ℕ) (head : ReplyHead) (is : IsHead bytes head rest) → ((body : List ℕ) → IsBody head came (Ok body) → GoesToEnd head)
    → AwaitsMore (print_response is.0 ++ came)
body_awaits bytes rest came head is goes = λ r whole. (head, came, (is.0, here, is.2), by r (Ok r) refl whole)
  where
    here : HeadAt (print_response is.0 ++ came) is.0 came
    here = record { reads = (is.1.reads.0, refl); within = is.1.within; few = is.1.few }

    on : (r : HttpReply) (other : ReplyHead) (content : Result (List ℕ) MessageFault) → linked (reply_with other content) ≡ Ok r → head ≡ other → IsBody other came content → GoesToEnd head
    on r other (Ok body) e same has = goes body (subst (λ h. IsBody h came (Ok body)) (sym same) has)
    on r other (Err f) e same has = absurd cc

    by : (r : HttpReply) (read : Result HttpReply LinkFault) → read ≡ Ok r → IsReply (print_response is.0 ++ came) read → GoesToEnd head
    by r read e (refused f x) = absurd cc
    by r read e (reply other next content y was) =
        let same = response_unique (print_response is.0 ++ came) is.0 y.0 came next here.reads y.1.reads in
        let says : head_in is.0 ≡ head_in y.0 = ap head_in same.0 in
        let d : ◌≡◌ {A = Result ReplyHead MessageFault} (Ok head) (Ok other) = sym is.2 ∙ says ∙ y.2 in
        let heads : head ≡ other = cc d in
        on r other content e heads (subst (λ b. IsBody other b content) (sym same.1) was)
