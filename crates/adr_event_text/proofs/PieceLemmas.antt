-- The pieces of the text that is kept of a shown event, with its id and its stamps between them, are the event's text.
use Rattle.std.proofs.Common.{◌≡◌, ℕ, true, false, List, [], ◌∷◌, ◌++◌, length, take, drop, map, codes, Option, Some, None, option_map, refl, sym, ap, ◌∙◌, arith, append_assoc, length-append}
use Rattle.std.proofs.lemmas.Bool.{lt-ltb}
use Rattle.std.proofs.Math.Seq.{take-append_seam, drop-append_seam}
use Rattle.json.specs.Print.{escape_byte, quoted}
use Rattle.serde_json.specs.Data.{Data, string, no_members}
use Rattle.serde_json.specs.Written.{compact_text, members_text}
use Rattle.adr_text.specs.Moments.{moment_text}
use Rattle.adr_text.specs.Objects.{add_all, array_of}
use Rattle.adr_objects.specs.declared.interval.Period.{Period}
use Rattle.adr_objects.specs.declared.shown.ShownInterval.{ShownInterval}
use Rattle.adr_objects.specs.declared.shown.EventObject.{EventObject}
use Rattle.adr_objects.specs.declared.shown.Stamps.{Stamps}
use Rattle.adr_objects.specs.Canonical.{natural_data, period_data}
use Rattle.adr_written.specs.Ids.{shown_id}
use Rattle.adr_subscription.specs.declared.words.OperationKind.{OperationKind}
use Rattle.adr_subscription.specs.Words.{operation_word}
use Rattle.adr_written.specs.WrittenNotices.{notice_data, event_notice_text}
use Rattle.adr_written.specs.Objects.{shown_interval_data, targets_data, event_object_data, event_text}
use Rattle.adr_shown.specs.ShownTexts.{shown_data, shown_text}
use Rattle.adr_event_text.specs.Walks.{member_len}
use Rattle.adr_event_text.specs.Pieces.{begins, named_len, name_of, middle_of, tail_of, middle_len, member_text, spliced, notice_text}
use Rattle.adr_event_text.proofs.WalkLemmas.{Passes, passes_both, quoted_passes, value_passes, member_is}

-- a member with the comma behind it, where there is one
abbrev maybe_text : List ℕ → Option Data → List ℕ
maybe_text name None = []
maybe_text name (Some d) = (name ++ compact_text d) ++ 44 ∷ []

abbrev name_text : Option (List ℕ) → List ℕ
name_text name = maybe_text (codes "\"eventName\":") (option_map string name)

abbrev period_text : Option Period → List ℕ
period_text period = maybe_text (codes "\"intervalPeriod\":") (option_map period_data period)

abbrev intervals_text : List ShownInterval → List ℕ
intervals_text intervals = codes "\"intervals\":" ++ compact_text (array_of (map shown_interval_data intervals))

-- the members behind the intervals
abbrev tail_text : Option ℕ → List ℕ → List ℕ → List ℕ → List ℕ
tail_text priority program ven resource =
    members_text true (add_all no_members (
    (codes "objectType", Some (string (codes "EVENT")))
    ∷ (codes "priority", option_map natural_data priority)
    ∷ (codes "programID", Some (string program))
    ∷ (codes "targets", Some (targets_data ven resource))
    ∷ []
    ))

maybe_is : (name : List ℕ) (d : Data) (rest : List ℕ) → name ++ (compact_text d ++ 44 ∷ rest) ≡ maybe_text name (Some d) ++ rest
maybe_is name d rest = sym (append_assoc (name ++ compact_text d) (44 ∷ []) rest ∙ append_assoc name (compact_text d) (44 ∷ rest))

abbrev from_name : List ℕ → List ℕ → List ℕ
from_name name rest = codes "\"eventName\":" ++ (compact_text (string name) ++ 44 ∷ rest)

abbrev from_period : Period → List ℕ → List ℕ
from_period period rest = codes "\"intervalPeriod\":" ++ (compact_text (period_data period) ++ 44 ∷ rest)

kept_by : (program : List ℕ) (name : Option (List ℕ)) (priority : Option ℕ) (period : Option Period) (intervals : List ShownInterval) (ven resource : List ℕ)
    → shown_text (record { program = program; name = name; priority = priority; period = period; intervals = intervals; ven_name = ven; resource_name = resource })
    ≡ 123 ∷ (name_text name ++ (period_text period ++ (intervals_text intervals ++ tail_text priority program ven resource)))
unfolding shown_text shown_data escape_byte
kept_by program None None None intervals ven resource = refl
kept_by program None (Some rank) None intervals ven resource = refl
kept_by program None None (Some period) intervals ven resource = ap (λ t. 123 ∷ t) (maybe_is (codes "\"intervalPeriod\":") (period_data period) _)
kept_by program None (Some rank) (Some period) intervals ven resource = ap (λ t. 123 ∷ t) (maybe_is (codes "\"intervalPeriod\":") (period_data period) _)
kept_by program (Some name) None None intervals ven resource = ap (λ t. 123 ∷ t) (maybe_is (codes "\"eventName\":") (string name) _)
kept_by program (Some name) (Some rank) None intervals ven resource = ap (λ t. 123 ∷ t) (maybe_is (codes "\"eventName\":") (string name) _)
kept_by program (Some name) None (Some period) intervals ven resource =
    ap (λ t. 123 ∷ from_name name t) (maybe_is (codes "\"intervalPeriod\":") (period_data period) _) ∙ ap (λ t. 123 ∷ t) (maybe_is (codes "\"eventName\":") (string name) _)
kept_by program (Some name) (Some rank) (Some period) intervals ven resource =
    ap (λ t. 123 ∷ from_name name t) (maybe_is (codes "\"intervalPeriod\":") (period_data period) _) ∙ ap (λ t. 123 ∷ t) (maybe_is (codes "\"eventName\":") (string name) _)

-- an event's text: what stands before its name, before its period, and behind its intervals, in turn
abbrev told : List ℕ → List ℕ → List ℕ → List ℕ → List ℕ → List ℕ → List ℕ
told created id modified name middle tail =
    codes "{\"createdDateTime\":" ++ (quoted created ++ 44 ∷ (name ++ (codes "\"id\":" ++ (quoted id ++ 44 ∷ (middle ++ (codes ",\"modificationDateTime\":" ++ (quoted modified ++ tail)))))))

abbrev told_by : Stamps → List ℕ → Option (List ℕ) → Option Period → List ShownInterval → List ℕ → List ℕ
told_by stamps id name period intervals tail =
    told (moment_text stamps.created) id (moment_text stamps.modified) (name_text name) (period_text period ++ intervals_text intervals) tail

abbrev from_created : Stamps → List ℕ → List ℕ
from_created stamps rest = codes "{\"createdDateTime\":" ++ (quoted (moment_text stamps.created) ++ 44 ∷ rest)

abbrev from_id : Stamps → List ℕ → List ℕ → List ℕ
from_id stamps id rest = from_created stamps (codes "\"id\":" ++ (quoted id ++ 44 ∷ rest))

middle_is : (period : Period) (intervals : List ShownInterval) (rest : List ℕ) → from_period period (intervals_text intervals ++ rest) ≡ (period_text (Some period) ++ intervals_text intervals) ++ rest
middle_is period intervals rest =
    maybe_is (codes "\"intervalPeriod\":") (period_data period) (intervals_text intervals ++ rest) ∙ sym (append_assoc (period_text (Some period)) (intervals_text intervals) rest)

event_by : (number : ℕ) (event : List ℕ) (stamps : Stamps) (program : List ℕ) (name : Option (List ℕ)) (priority : Option ℕ) (period : Option Period) (intervals : List ShownInterval) (ven resource : List ℕ)
    → event_text (record { resource = number; event = event; shown = record { program = program; name = name; priority = priority; period = period; intervals = intervals; ven_name = ven; resource_name = resource }; stamps = stamps })
    ≡ told_by stamps (shown_id number event) name period intervals (tail_text priority program ven resource)
unfolding event_text event_object_data escape_byte
event_by number event stamps program None None None intervals ven resource = refl
event_by number event stamps program None (Some rank) None intervals ven resource = refl
event_by number event stamps program None None (Some period) intervals ven resource = ap (λ t. from_id stamps (shown_id number event) t) (middle_is period intervals _)
event_by number event stamps program None (Some rank) (Some period) intervals ven resource = ap (λ t. from_id stamps (shown_id number event) t) (middle_is period intervals _)
event_by number event stamps program (Some name) None None intervals ven resource = ap (λ t. from_created stamps t) (maybe_is (codes "\"eventName\":") (string name) _)
event_by number event stamps program (Some name) (Some rank) None intervals ven resource = ap (λ t. from_created stamps t) (maybe_is (codes "\"eventName\":") (string name) _)
event_by number event stamps program (Some name) None (Some period) intervals ven resource =
    ap (λ t. from_created stamps (from_name name (codes "\"id\":" ++ (quoted (shown_id number event) ++ 44 ∷ t)))) (middle_is period intervals _)
    ∙ ap (λ t. from_created stamps t) (maybe_is (codes "\"eventName\":") (string name) _)
event_by number event stamps program (Some name) (Some rank) (Some period) intervals ven resource =
    ap (λ t. from_created stamps (from_name name (codes "\"id\":" ++ (quoted (shown_id number event) ++ 44 ∷ t)))) (middle_is period intervals _)
    ∙ ap (λ t. from_created stamps t) (maybe_is (codes "\"eventName\":") (string name) _)

-- ---- where they are cut

named_none : (name text : List ℕ) → begins name text ≡ false → named_len name text ≡ 0
named_none name text h = rw h refl

-- a member that has the name, and the comma behind it
named_some : (name value rest : List ℕ) → Passes name → Passes value → begins name (((name ++ value) ++ 44 ∷ []) ++ rest) ≡ true → named_len name (((name ++ value) ++ 44 ∷ []) ++ rest) ≡ length ((name ++ value) ++ 44 ∷ [])
named_some name value rest h g is =
    let apart : ((name ++ value) ++ 44 ∷ []) ++ rest ≡ (name ++ value) ++ 44 ∷ rest = append_assoc (name ++ value) (44 ∷ []) rest in
    let far : member_len (((name ++ value) ++ 44 ∷ []) ++ rest) ≡ length (name ++ value) = ap member_len apart ∙ member_is (name ++ value) rest (passes_both name value h g) in
    let whole = length-append ((name ++ value) ++ 44 ∷ []) rest in
    let one = length-append (name ++ value) (44 ∷ []) in
    rw (is, far, lt-ltb (length (name ++ value)) (length (((name ++ value) ++ 44 ∷ []) ++ rest)) (omega (arith, whole, one))) (omega (arith, one))

name_len_is : (name : Option (List ℕ)) (rest : List ℕ) → begins (codes "\"eventName\":") rest ≡ false → named_len (codes "\"eventName\":") (name_text name ++ rest) ≡ length (name_text name)
unfolding escape_byte
name_len_is None rest h = named_none (codes "\"eventName\":") rest h
name_len_is (Some name) rest h = named_some (codes "\"eventName\":") (compact_text (string name)) rest (λ k. refl) (quoted_passes name) refl

period_len_is : (period : Option Period) (rest : List ℕ) → begins (codes "\"intervalPeriod\":") rest ≡ false → named_len (codes "\"intervalPeriod\":") (period_text period ++ rest) ≡ length (period_text period)
period_len_is None rest h = named_none (codes "\"intervalPeriod\":") rest h
period_len_is (Some period) rest h = named_some (codes "\"intervalPeriod\":") (compact_text (period_data period)) rest (λ k. refl) (value_passes (period_data period)) refl

-- what is behind the name has another one
other_name : (period : Option Period) (intervals : List ShownInterval) (rest : List ℕ) → begins (codes "\"eventName\":") (period_text period ++ (intervals_text intervals ++ rest)) ≡ false
other_name None intervals rest = refl
other_name (Some period) intervals rest = refl

cut_at : (front rest : List ℕ) (n : ℕ) → n ≡ length front → (take n (front ++ rest) ≡ front) × (drop n (front ++ rest) ≡ rest)
cut_at front rest n is = (ap (λ k. take k (front ++ rest)) is ∙ take-append_seam front rest, ap (λ k. drop k (front ++ rest)) is ∙ drop-append_seam front rest)

tail_is : (priority : Option ℕ) (program ven resource : List ℕ) → (rest : List ℕ) × (tail_text priority program ven resource ≡ 44 ∷ rest)
tail_is None program ven resource = (_, refl)
tail_is (Some rank) program ven resource = (_, refl)

-- the pieces of a text that is made of such
record Cut (kept name middle tail : List ℕ) : Type 0 where
  name_is : name_of kept ≡ name
  middle_is : middle_of kept ≡ middle
  tail_is : tail_of kept ≡ tail

intervals_pass : (intervals : List ShownInterval) → Passes (intervals_text intervals)
intervals_pass intervals =
    passes_both (codes "\"intervals\":") (compact_text (array_of (map shown_interval_data intervals))) (λ k. refl) (value_passes (array_of (map shown_interval_data intervals)))

middle_len_is : (period : Option Period) (intervals : List ShownInterval) (rest : List ℕ)
    → middle_len (period_text period ++ (intervals_text intervals ++ 44 ∷ rest)) ≡ length (period_text period ++ intervals_text intervals)
middle_len_is period intervals rest =
    let behind : List ℕ = intervals_text intervals ++ 44 ∷ rest in
    let first = period_len_is period behind refl in
    let second = ap member_len (cut_at (period_text period) behind _ first).1 ∙ member_is (intervals_text intervals) rest (intervals_pass intervals) in
    omega (arith, first, second, length-append (period_text period) (intervals_text intervals))

cut : (name : Option (List ℕ)) (period : Option Period) (intervals : List ShownInterval) (rest : List ℕ)
    → Cut (123 ∷ (name_text name ++ (period_text period ++ (intervals_text intervals ++ 44 ∷ rest)))) (name_text name) (period_text period ++ intervals_text intervals) (44 ∷ rest)
unfolding name_of middle_of tail_of
cut name period intervals rest =
    let behind : List ℕ = period_text period ++ (intervals_text intervals ++ 44 ∷ rest) in
    let first = cut_at (name_text name) behind _ (name_len_is name behind (other_name period intervals (44 ∷ rest))) in
    let apart : behind ≡ (period_text period ++ intervals_text intervals) ++ 44 ∷ rest = sym (append_assoc (period_text period) (intervals_text intervals) (44 ∷ rest)) in
    let second = cut_at (period_text period ++ intervals_text intervals) (44 ∷ rest) (middle_len behind) (middle_len_is period intervals rest) in
    record {
      name_is = first.0;
      middle_is = ap (λ text. take (middle_len text) text) first.1 ∙ ap (take (middle_len behind)) apart ∙ second.0;
      tail_is = ap (λ text. drop (middle_len text) text) first.1 ∙ ap (drop (middle_len behind)) apart ∙ second.1;
    }

-- seven lists in turn, the comma among them twice
in_turn : (a comma b c d e f : List ℕ) → ((((((a ++ comma) ++ b) ++ c) ++ comma) ++ d) ++ e) ++ f ≡ a ++ (comma ++ (b ++ (c ++ (comma ++ (d ++ (e ++ f))))))
in_turn a comma b c d e f =
    append_assoc (((((a ++ comma) ++ b) ++ c) ++ comma) ++ d) e f
    ∙ append_assoc ((((a ++ comma) ++ b) ++ c) ++ comma) d (e ++ f)
    ∙ append_assoc (((a ++ comma) ++ b) ++ c) comma (d ++ (e ++ f))
    ∙ append_assoc ((a ++ comma) ++ b) c (comma ++ (d ++ (e ++ f)))
    ∙ append_assoc (a ++ comma) b (c ++ (comma ++ (d ++ (e ++ f))))
    ∙ append_assoc a comma (b ++ (c ++ (comma ++ (d ++ (e ++ f)))))

-- the pieces with what stands between them
spliced_is : (created id modified kept name middle tail : List ℕ) → Cut kept name middle tail → spliced created id modified kept ≡ told created id modified name middle tail
unfolding spliced
spliced_is created id modified kept name middle tail c =
    rw (c.name_is, c.middle_is, c.tail_is)
    (in_turn (member_text (codes "{\"createdDateTime\":") created) (codes ",") name (member_text (codes "\"id\":") id) middle (member_text (codes ",\"modificationDateTime\":") modified) tail)

pub spliced_as_told : (o : EventObject) → spliced (moment_text o.stamps.created) (shown_id o.resource o.event) (moment_text o.stamps.modified) (shown_text o.shown) ≡ event_text o
spliced_as_told o =
    let e = o.shown in
    let tail = tail_is e.priority e.program e.ven_name e.resource_name in
    let kept : shown_text e ≡ 123 ∷ (name_text e.name ++ (period_text e.period ++ (intervals_text e.intervals ++ 44 ∷ tail.0))) =
    kept_by e.program e.name e.priority e.period e.intervals e.ven_name e.resource_name
    ∙ ap (λ rest. 123 ∷ (name_text e.name ++ (period_text e.period ++ (intervals_text e.intervals ++ rest)))) tail.1 in
    ap (spliced (moment_text o.stamps.created) (shown_id o.resource o.event) (moment_text o.stamps.modified)) kept
    ∙ spliced_is (moment_text o.stamps.created) (shown_id o.resource o.event) (moment_text o.stamps.modified) _ _ _ _ (cut e.name e.period e.intervals tail.0)
    ∙ ap (told_by o.stamps (shown_id o.resource o.event) e.name e.period e.intervals) (sym tail.1)
    ∙ sym (event_by o.resource o.event o.stamps e.program e.name e.priority e.period e.intervals e.ven_name e.resource_name)

pub notice_as_told : (operation : OperationKind) (o : EventObject) → notice_text operation (event_text o) ≡ event_notice_text operation o
unfolding notice_text event_notice_text notice_data event_text escape_byte
notice_as_told operation o =
    let front : List ℕ = codes "{\"object\":" ++ event_text o in
    let kind : List ℕ = codes ",\"objectType\":\"EVENT\"" in
    let done : List ℕ = member_text (codes ",\"operation\":") (operation_word operation) in
    append_assoc (front ++ kind) done (codes "}") ∙ append_assoc front kind (done ++ codes "}")
