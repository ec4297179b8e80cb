-- Addresses that a notification may be sent to, and subscriptions as they are kept.
use Rattle.std.specs.Prelude.{ℕ, nat_le, List, [], ◌∷◌, length, codes, Bool, true, false, ◌&&◌, Option, Some, None, Result, Ok, Err, if◌then◌else◌}
use Rattle.std.specs.Str.{bytes_eq}
use Rattle.url.specs.Parts.{Parts, nonempty_host, serialize}
use Rattle.url.specs.Parser.{Parsed, parse_url}
use Rattle.url.specs.Input.{is_empty}
use Rattle.url.specs.declared.host.Host.{Host}
use Rattle.url.specs.declared.host.Host.TheVariants.{Domain, Ipv4, Ipv6}
use Rattle.adr_text.specs.Refusals.{◌>>=◌}
use Rattle.adr_text.specs.declared.refusal.Refusal.{Refusal}
use Rattle.adr_text.specs.declared.refusal.Refusal.TheVariants.{BadShape}
use Rattle.adr_subscription.specs.declared.item.SubscriptionItem.{SubscriptionItem}
use Rattle.adr_subscription.specs.declared.subscription.SubIn.{SubIn}

-- an IP address, or this machine
abbrev pub is_near : Option (Host (List ℕ)) → Bool
is_near None = false
is_near (Some (Domain name)) = bytes_eq name (codes "localhost")
is_near (Some (Ipv4 address)) = true
is_near (Some (Ipv6 address)) = true

-- by the parts that the URL Standard's parser reads: http, no user and no password, and an IP address or `localhost`
-- as its host
abbrev pub is_callback : Parts → Bool
is_callback url = bytes_eq url.scheme (codes "http") && (is_empty url.username && (is_empty url.password && is_near (nonempty_host url)))

-- the URL, where the parser reads one
abbrev pub address_as : Parsed Parts → Result Parts Refusal
address_as (Ok url) = Ok url
address_as (Err e) = Err BadShape

-- the URL, where it may be called
abbrev pub callable : Parts → Result Parts Refusal
callable url = if is_callback url then Ok url else Err BadShape

-- the URL that a text is, where it may be called, else 14
abbrev pub callable_address : List ℕ → Result Parts Refusal
callable_address text = address_as (parse_url None text) >>= callable

-- the same, of a text of at most 1,024 bytes
abbrev pub callback_address : List ℕ → Result Parts Refusal
callback_address text = if nat_le (length text) 1024 then callable_address text else Err BadShape

-- such an address as it is kept: as the URL is written
abbrev pub settled_address : List ℕ → Result (List ℕ) Refusal
settled_address text = callback_address text >>= λ url. Ok (serialize url)

-- the item with its address as that URL is written, where it may be called
abbrev pub settled_item : SubscriptionItem → Result SubscriptionItem Refusal
settled_item item = settled_address item.callback_url >>= λ address. Ok (record item { callback_url = address })

-- each in turn, up to the first refusal
abbrev pub settled_items : List SubscriptionItem → Result (List SubscriptionItem) Refusal
settled_items [] = Ok []
settled_items (item ∷ items) = settled_item item >>= λ kept. settled_items items >>= λ rest. Ok (kept ∷ rest)

-- the subscription as it is kept, with each address as that URL is written, where it has at most 1,024 bytes and may
-- be called, else 14
unfoldable pub settled : SubIn → Result SubIn Refusal
settled sub = settled_items sub.items >>= λ items. Ok (record sub { items = items })
