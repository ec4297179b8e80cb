-- The bytes are read in one way.
use Rattle.std.proofs.Common.{◌≡◌, inl, inr, List, ℕ, [], Bool, true, false, MatchBool, sym, ◌∙◌, ap, subst, arith, Result, Ok, Err}
use Rattle.httparse.proofs.GrammarLemmas.{response_unique}
use Rattle.adr_wire.specs.declared.end.MessageFault.{MessageFault}
use Rattle.adr_wire.specs.declared.extent.Extent.{Extent}
use Rattle.adr_wire.specs.declared.extent.Extent.TheVariants.{Unsaid, Length, Chunked}
use Rattle.adr_wire.proofs.OneChunked.{one_chunked}
use Rattle.adr_link.specs.declared.reply.HttpReply.{HttpReply}
use Rattle.adr_link.specs.declared.reply.LinkFault.{LinkFault}
use Rattle.adr_link.specs.declared.reply_head.ReplyHead.{ReplyHead}
use Rattle.adr_link.specs.ReplyHeads.{is_bodiless, head_in, IsHead, IsRefusedHead}
use Rattle.adr_link.specs.Replies.{IsBodyBy, IsBody, link_fault, linked, reply_with, IsReply, refused, reply}

one_by_extent : (extent : Extent) (bytes : List ℕ) (a b : Result (List ℕ) MessageFault) → IsBodyBy extent bytes a → IsBodyBy extent bytes b → a ≡ b
one_by_extent Unsaid bytes a b x y = x ∙ sym y
one_by_extent (Length n) bytes a b x y = x ∙ sym y
one_by_extent Chunked bytes a b x y = one_chunked 8388608 0 bytes a b (omega arith) x y

one_body : (head : ReplyHead) (bytes : List ℕ) (a b : Result (List ℕ) MessageFault) → IsBody head bytes a → IsBody head bytes b → a ≡ b
one_body head bytes a b x y = by (is_bodiless head.status) x y
  where
    by : (none : Bool) → MatchBool none (a ≡ Ok []) (IsBodyBy head.extent bytes a) → MatchBool none (b ≡ Ok []) (IsBodyBy head.extent bytes b) → a ≡ b
    by true p q = p ∙ sym q
    by false p q = one_by_extent head.extent bytes a b p q

one_refusal : (bytes : List ℕ) (f g : MessageFault) → IsRefusedHead bytes f → IsRefusedHead bytes g → f ≡ g
one_refusal bytes f g (inl x) (inl y) = x.1 ∙ sym y.1
one_refusal bytes f g (inl x) (inr y) = absurd (x.0 y.0 y.1 y.2)
one_refusal bytes f g (inr x) (inl y) = absurd (y.0 x.0 x.1 x.2)
one_refusal bytes f g (inr x) (inr y) =
    let same = response_unique bytes x.0 y.0 x.1 y.1 x.2.reads y.2.reads in
    let e : head_in x.0 ≡ head_in y.0 = ap head_in same.0 in
    let d : ◌≡◌ {A = Result ReplyHead MessageFault} (Err f) (Err g) = sym x.3 ∙ e ∙ y.3 in
    cc d

not_both : (bytes : List ℕ) (f : MessageFault) (head : ReplyHead) (rest : List ℕ) → IsRefusedHead bytes f → IsHead bytes head rest → ⊥
not_both bytes f head rest (inl x) y = x.0 y.0 rest y.1
not_both bytes f head rest (inr x) y =
    let same = response_unique bytes x.0 y.0 x.1 rest x.2.reads y.1.reads in
    let e : head_in x.0 ≡ head_in y.0 = ap head_in same.0 in
    let d : ◌≡◌ {A = Result ReplyHead MessageFault} (Err f) (Ok head) = sym x.3 ∙ e ∙ y.2 in
    cc d

pub one_reply : (bytes : List ℕ) (a b : Result HttpReply LinkFault) → IsReply bytes a → IsReply bytes b → a ≡ b
one_reply bytes a b (refused f x) (refused g y) = ap (λ r. Err (link_fault r)) (one_refusal bytes f g x y)
one_reply bytes a b (refused f x) (reply head rest body y is) = absurd (not_both bytes f head rest x y)
one_reply bytes a b (reply head rest body x is) (refused g y) = absurd (not_both bytes g head rest y x)
one_reply bytes a b (reply head rest body x is) (reply other next content y was) =
    let same = response_unique bytes x.0 y.0 rest next x.1.reads y.1.reads in
    let e : head_in x.0 ≡ head_in y.0 = ap head_in same.0 in
    let d : ◌≡◌ {A = Result ReplyHead MessageFault} (Ok head) (Ok other) = sym x.2 ∙ e ∙ y.2 in
    let heads : head ≡ other = cc d in
    let P : ReplyHead → Type 0 = λ h. IsBody h rest body in
    let Q : List ℕ → Type 0 = λ r. IsBody other r body in
    let bodies = one_body other next body content (subst Q same.1 (subst P heads is)) was in
    ap (λ h. linked (reply_with h body)) heads ∙ ap (λ c. linked (reply_with other c)) bodies
