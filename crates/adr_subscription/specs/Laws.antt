-- That kept subscriptions read back.
use Rattle.std.specs.Prelude.{◌≡◌, ℕ, List, Ok}
use Rattle.std.specs.Str.{IsUtf8}
use Rattle.adr_subscription.specs.declared.subscription.SubIn.{SubIn}
use Rattle.adr_subscription.specs.Types.{IsSub}
use Rattle.adr_subscription.specs.Subscriptions.{sub_of}
use Rattle.adr_subscription.specs.Kept.{kept_text, kept_of}

-- the text that is kept of a subscription that the types admit reads back as that subscription
abbrev pub KeptTextsReadBack : Type 0
KeptTextsReadBack = (s : SubIn) → IsSub s → kept_of (kept_text s) ≡ Ok s

-- a text is read as its bytes are where they are posted
abbrev pub KeptIsPosted : Type 0
KeptIsPosted = (text : List ℕ) → IsUtf8 text → sub_of text ≡ kept_of text
