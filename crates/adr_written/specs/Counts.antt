-- How many notifications there were, as it is written.
use Rattle.std.specs.Prelude.{ℕ, List, [], ◌∷◌, codes, Option, Some}
use Rattle.serde_json.specs.Data.{Data}
use Rattle.serde_json.specs.Written.{compact_text}
use Rattle.adr_text.specs.Objects.{object_of}
use Rattle.adr_objects.specs.declared.counts.OutboxCounts.{OutboxCounts}
use Rattle.adr_objects.specs.Canonical.{natural_data}

abbrev pub counts_fields : OutboxCounts → List (List ℕ × Option Data)
counts_fields c =
    (codes "dropped", Some (natural_data c.dropped))
    ∷ (codes "givenUp", Some (natural_data c.given_up))
    ∷ (codes "made", Some (natural_data c.made))
    ∷ (codes "pending", Some (natural_data c.pending))
    ∷ (codes "sent", Some (natural_data c.sent))
    ∷ []

-- `dropped`, `givenUp`, `made`, `pending` and `sent`
unfoldable pub counts_data : OutboxCounts → Data
counts_data c = object_of (counts_fields c)

-- how many notifications were dropped, given up, made and sent, and how many are pending, as compact JSON
unfoldable pub counts_text : OutboxCounts → List ℕ
counts_text c = compact_text (counts_data c)
