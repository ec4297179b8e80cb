-- What had come as a reader failed was no whole request.
use Rattle.std.proofs.Common.{◌≡◌, List, ℕ, ◌++◌, refl, sym, ◌∙◌, ap, subst, Result, Ok, Err}
use Rattle.httparse.specs.Grammar.{print_request}
use Rattle.httparse.proofs.GrammarLemmas.{request_unique}
use Rattle.adr_wire.specs.declared.end.MessageFault.{MessageFault}
use Rattle.adr_request.specs.Heads.{HeadAt, HasNoHead, HeadParts, head_in, IsHead}
use Rattle.adr_request.specs.Requests.{IsBody, RequestParts, request_with, IsRequest, refused, request}

pub no_head_is_no_request : (bytes : List ℕ) (r : RequestParts) → HasNoHead bytes → ¬ (IsRequest bytes (Ok r))
no_head_is_no_request bytes r none = λ is. by (Ok r) refl is
  where
    by : (read : Result RequestParts MessageFault) → read ≡ Ok r → IsRequest bytes read → ⊥
    by read e (refused f x) = absurd cc
    by read e (request head rest body is has) = none is.0 rest is.1

-- behind the same head, where no whole body came
pub no_body_is_no_request : (bytes rest came : List ℕ) (head : HeadParts) (is : IsHead bytes head rest) → ((body : List ℕ) → ¬ (IsBody head.extent came (Ok body)))
    → (r : RequestParts) → ¬ (IsRequest (print_request is.0 ++ came) (Ok r))
no_body_is_no_request bytes rest came head is none r = λ whole. by (Ok r) refl whole
  where
    here : HeadAt (print_request is.0 ++ came) is.0 came
    here = record { reads = (is.1.reads.0, refl); within = is.1.within; few = is.1.few }

    on : (other : HeadParts) (content : Result (List ℕ) MessageFault) → request_with other content ≡ Ok r → head ≡ other → IsBody other.extent came content → ⊥
    on other (Ok body) e same has = none body (subst (λ h. IsBody h.extent came (Ok body)) (sym same) has)
    on other (Err f) e same has = absurd cc

    by : (read : Result RequestParts MessageFault) → read ≡ Ok r → IsRequest (print_request is.0 ++ came) read → ⊥
    by read e (refused f x) = absurd cc
    by read e (request other next content y was) =
        let same = request_unique (print_request is.0 ++ came) is.0 y.0 came next here.reads y.1.reads in
        let says : head_in is.0 ≡ head_in y.0 = ap head_in same.0 in
        let d : ◌≡◌ {A = Result HeadParts MessageFault} (Ok head) (Ok other) = sym is.2 ∙ says ∙ y.2 in
        let heads : head ≡ other = cc d in
        on other content e heads (subst (λ b. IsBody other.extent b content) (sym same.1) was)
