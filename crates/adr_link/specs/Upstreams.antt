-- The utility that is asked and reported to.
use Rattle.std.specs.Prelude.{ℕ, List, Option, Some, None, Result, Ok}
use Rattle.url.specs.Parts.{Parts}
use Rattle.adr_text.specs.Refusals.{◌>>=◌}
use Rattle.adr_text.specs.declared.refusal.Refusal.{Refusal}
use Rattle.adr_objects.specs.ReadBack.{as_bad_shape}
use Rattle.adr_subscription.specs.Callbacks.{callback_address}
use Rattle.adr_subscription.specs.Tokens.{token_of}

-- its address, and the token that it is shown, where there is one
pub record UpstreamParts : Type 0 where
  pub url : Parts
  pub token : Option (List ℕ)

-- a token that is to be shown, which has to be a bearer token
abbrev pub token_shown : Option (List ℕ) → Result (Option (List ℕ)) Refusal
token_shown None = Ok None
token_shown (Some text) = as_bad_shape (token_of text) >>= λ token. Ok (Some token)

-- the utility at an address, which has to be one that a notification may be sent to, with a token, where there is
-- one, which has to be a bearer token; else the refusal 14
abbrev pub upstream_of : List ℕ → Option (List ℕ) → Result UpstreamParts Refusal
upstream_of address token = do
  url ← callback_address address
  shown ← token_shown token
  Ok (record { url = url; token = shown })
