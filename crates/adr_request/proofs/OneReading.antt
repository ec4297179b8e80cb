-- The bytes are read in one way.
use Rattle.std.proofs.Common.{◌≡◌, inl, inr, List, ℕ, sym, ◌∙◌, ap, subst, arith, Result, Ok, Err}
use Rattle.httparse.proofs.GrammarLemmas.{request_unique}
use Rattle.adr_wire.specs.declared.end.MessageFault.{MessageFault}
use Rattle.adr_wire.specs.declared.extent.Extent.{Extent}
use Rattle.adr_wire.specs.declared.extent.Extent.TheVariants.{Unsaid, Length, Chunked}
use Rattle.adr_request.specs.Heads.{HeadParts, head_in, IsHead, IsRefusedHead}
use Rattle.adr_wire.proofs.OneChunked.{one_chunked}
use Rattle.adr_request.specs.Requests.{IsBody, RequestParts, request_with, IsRequest, refused, request}

one_body : (extent : Extent) (bytes : List ℕ) (a b : Result (List ℕ) MessageFault) → IsBody extent bytes a → IsBody extent bytes b → a ≡ b
one_body Unsaid bytes a b x y = x ∙ sym y
one_body (Length n) bytes a b x y = x ∙ sym y
one_body Chunked bytes a b x y = one_chunked 1048576 0 bytes a b (omega arith) x y

one_refusal : (bytes : List ℕ) (f g : MessageFault) → IsRefusedHead bytes f → IsRefusedHead bytes g → f ≡ g
one_refusal bytes f g (inl x) (inl y) = x.1 ∙ sym y.1
one_refusal bytes f g (inl x) (inr y) = absurd (x.0 y.0 y.1 y.2)
one_refusal bytes f g (inr x) (inl y) = absurd (y.0 x.0 x.1 x.2)
one_refusal bytes f g (inr x) (inr y) =
    let same = request_unique bytes x.0 y.0 x.1 y.1 x.2.reads y.2.reads in
    let e : head_in x.0 ≡ head_in y.0 = ap head_in same.0 in
    let d : ◌≡◌ {A = Result HeadParts MessageFault} (Err f) (Err g) = sym x.3 ∙ e ∙ y.3 in
    cc d

not_both : (bytes : List ℕ) (f : MessageFault) (head : HeadParts) (rest : List ℕ) → IsRefusedHead bytes f → IsHead bytes head rest → ⊥
not_both bytes f head rest (inl x) y = x.0 y.0 rest y.1
not_both bytes f head rest (inr x) y =
    let same = request_unique bytes x.0 y.0 x.1 rest x.2.reads y.1.reads in
    let e : head_in x.0 ≡ head_in y.0 = ap head_in same.0 in
    let d : ◌≡◌ {A = Result HeadParts MessageFault} (Err f) (Ok head) = sym x.3 ∙ e ∙ y.2 in
    cc d

pub one_request : (bytes : List ℕ) (a b : Result RequestParts MessageFault) → IsRequest bytes a → IsRequest bytes b → a ≡ b
one_request bytes a b (refused f x) (refused g y) = ap Err (one_refusal bytes f g x y)
one_request bytes a b (refused f x) (request head rest body y is) = absurd (not_both bytes f head rest x y)
one_request bytes a b (request head rest body x is) (refused g y) = absurd (not_both bytes g head rest y x)
one_request bytes a b (request head rest body x is) (request other next content y was) =
    let same = request_unique bytes x.0 y.0 rest next x.1.reads y.1.reads in
    let e : head_in x.0 ≡ head_in y.0 = ap head_in same.0 in
    let d : ◌≡◌ {A = Result HeadParts MessageFault} (Ok head) (Ok other) = sym x.2 ∙ e ∙ y.2 in
    let heads : head ≡ other = cc d in
    let P : HeadParts → Type 0 = λ h. IsBody h.extent rest body in
    let Q : List ℕ → Type 0 = λ r. IsBody other.extent r body in
    let bodies = one_body other.extent next body content (subst Q same.1 (subst P heads is)) was in
    ap (λ h. request_with h body) heads ∙ ap (request_with other) bodies
