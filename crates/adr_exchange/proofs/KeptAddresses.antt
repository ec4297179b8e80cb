-- An address as it is kept is read again as the URL that it was.
use Rattle.std.proofs.Common.{◌≡◌, ℕ, Bool, true, false, if◌then◌else◌, List, length, nat_le, refl, ap, subst, None, Result, Ok, Err}
use Rattle.url.specs.Parts.{Parts, IsValid, serialize}
use Rattle.url.specs.Parser.{Parsed, parse_url}
use Rattle.url.proofs.Theorems.{parse_url_idempotent}
use Rattle.adr_text.specs.Refusals.{◌>>=◌}
use Rattle.adr_text.specs.declared.refusal.Refusal.{Refusal}
use Rattle.adr_text.specs.declared.refusal.Refusal.TheVariants.{BadShape}
use Rattle.adr_subscription.specs.Callbacks.{is_callback, address_as, callable, callable_address, callback_address}

from_callable : (u url : Parts) → callable u ≡ Ok url → (u ≡ url) × (is_callback url ≡ true)
from_callable u url e = by (is_callback u) refl e
  where
    by : (b : Bool) → is_callback u ≡ b → ◌≡◌ {A = Result Parts Refusal} (if b then Ok u else Err BadShape) (Ok url) → (u ≡ url) × (is_callback url ≡ true)
    by true is e = let same : u ≡ url = cc e in (same, subst (λ z. is_callback z ≡ true) same is)
    by false is e = absurd cc

from_parsed : (p : Parsed Parts) (url : Parts) → (address_as p >>= callable) ≡ Ok url → (p ≡ Ok url) × (is_callback url ≡ true)
from_parsed (Ok u) url e = let h = from_callable u url e in (ap Ok h.0, h.1)
from_parsed (Err x) url e = absurd cc

from_short : (b : Bool) (text : List ℕ) (url : Parts) → ◌≡◌ {A = Result Parts Refusal} (if b then callable_address text else Err BadShape) (Ok url) → callable_address text ≡ Ok url
from_short true text url e = e
from_short false text url e = absurd cc

pub kept_is_called : (text : List ℕ) (url : Parts) → IsValid url → callback_address text ≡ Ok url → callable_address (serialize url) ≡ Ok url
kept_is_called text url valid is =
    let h = from_parsed (parse_url None text) url (from_short (nat_le (length text) 1024) text url is) in
    let again = parse_url_idempotent None None text url tt valid h.0 in
    rw (again, h.1) refl
