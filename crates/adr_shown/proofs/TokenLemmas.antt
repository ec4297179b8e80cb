-- The tokens that are written of a shown event are those of what is kept of it.
use Rattle.std.proofs.Common.{◌≡◌, ℕ, ℤ, pos, negsuc, List, [], ◌∷◌, ◌++◌, map, codes, Option, Some, None, refl, sym, ap, ap₂, ◌∙◌, append_assoc, append-nil}
use Rattle.json.specs.Token.{Token, begin_object, end_object, begin_array, end_array, key, string, number}
use Rattle.json.specs.Print.{print}
use Rattle.serde_json.proofs.Texts.{print-outline}
use Rattle.json.specs.Tree.{json_tokens, items_tokens}
use Rattle.serde_json.specs.View.{items_of}
use Rattle.serde_json.specs.Written.{outline, items_outline, number_text}
use Rattle.serde_json.specs.Find.{of_integer}
use Rattle.std.specs.Fmt.{decimal, signed_decimal}
use Rattle.adr_objects.specs.declared.interval.Period.{Period}
use Rattle.adr_objects.specs.declared.shown.ShownInterval.{ShownInterval}
use Rattle.adr_objects.specs.declared.shown.ShownEvent.{ShownEvent}
use Rattle.adr_objects.specs.Canonical.{period_data}
use Rattle.adr_written.specs.Objects.{values_data, shown_interval_data}
use Rattle.adr_shown.specs.ShownTexts.{shown_data, shown_text}
use Rattle.adr_shown.specs.Tokens.{text_behind, maybe_text_behind, times_behind, period_behind, maybe_period_behind, values_behind, ended_behind, part_behind, target_behind, targets_behind, interval_behind, intervals_behind, priority_behind, head_behind, list_behind, tail_behind, shown_behind}

-- what is written is the same behind other tokens
abbrev Same : (List Token → List Token) → Type 0
Same f = (ts us : List Token) → f (ts ++ us) ≡ ts ++ f us

one : (t : Token) → Same (λ ts. ts ++ t ∷ [])
one t ts us = append_assoc ts us (t ∷ [])

then : (f g : List Token → List Token) → Same f → Same g → Same (λ ts. g (f ts))
then f g h k ts us = ap g (h ts us) ∙ k ts (f us)

text_same : (name text : List ℕ) → Same (text_behind name text)
text_same name text = then (λ ts. ts ++ key name ∷ []) (λ ts. ts ++ string text ∷ []) (one (key name)) (one (string text))

maybe_text_same : (name : List ℕ) (o : Option (List ℕ)) → Same (maybe_text_behind name o)
maybe_text_same name None ts us = refl
maybe_text_same name (Some text) ts us = text_same name text ts us

times_same : (p : Period) → Same (times_behind p)
times_same p =
    then _ (text_behind (codes "start") p.start)
    (then (maybe_text_behind (codes "duration") p.duration) (maybe_text_behind (codes "randomizeStart") p.randomize_start) (maybe_text_same _ p.duration) (maybe_text_same _ p.randomize_start))
    (text_same (codes "start") p.start)

period_same : (p : Period) → Same (period_behind p)
period_same p = then (λ ts. times_behind p (ts ++ begin_object ∷ [])) (λ ts. ts ++ end_object ∷ []) (then (λ ts. ts ++ begin_object ∷ []) (times_behind p) (one begin_object) (times_same p)) (one end_object)

maybe_period_same : (o : Option Period) → Same (maybe_period_behind o)
maybe_period_same None ts us = refl
maybe_period_same (Some p) ts us = then (λ ts. ts ++ key (codes "intervalPeriod") ∷ []) (period_behind p) (one (key (codes "intervalPeriod"))) (period_same p) ts us

values_same : (type : List ℕ) → Same (values_behind type)
values_same type =
    then (λ ts. text_behind (codes "type") type (ts ++ begin_object ∷ []) ++ key (codes "values") ∷ []) (λ ts. ts ++ begin_array ∷ [])
    (then (λ ts. text_behind (codes "type") type (ts ++ begin_object ∷ [])) (λ ts. ts ++ key (codes "values") ∷ []) (then (λ ts. ts ++ begin_object ∷ []) (text_behind (codes "type") type) (one begin_object) (text_same (codes "type") type)) (one (key (codes "values"))))
    (one begin_array)

ended_same : Same ended_behind
ended_same = then (λ ts. ts ++ end_array ∷ []) (λ ts. ts ++ end_object ∷ []) (one end_array) (one end_object)

with_values : (type : List ℕ) (t : Token) → Same (λ ts. ended_behind (values_behind type ts ++ t ∷ []))
with_values type t = then (λ ts. values_behind type ts ++ t ∷ []) ended_behind (then (values_behind type) (λ ts. ts ++ t ∷ []) (values_same type) (one t)) ended_same

part_same : (o : Option ℤ) → Same (part_behind o)
part_same None ts us = refl
part_same (Some z) ts us = with_values (codes "DISPATCH_SETPOINT") (number (signed_decimal z)) ts us

interval_same : (i : ShownInterval) → Same (λ ts. interval_behind ts i)
interval_same i =
    let start : List Token → List Token = λ ts. ((ts ++ begin_object ∷ []) ++ key (codes "id") ∷ []) ++ number (signed_decimal i.id) ∷ [] in
    let begun : Same start = then _ (λ ts. ts ++ number (signed_decimal i.id) ∷ []) (then (λ ts. ts ++ begin_object ∷ []) (λ ts. ts ++ key (codes "id") ∷ []) (one begin_object) (one (key (codes "id")))) (one (number (signed_decimal i.id))) in
    let dated : Same (λ ts. maybe_period_behind i.period (start ts)) = then start (maybe_period_behind i.period) begun (maybe_period_same i.period) in
    let opened : Same (λ ts. (maybe_period_behind i.period (start ts) ++ key (codes "payloads") ∷ []) ++ begin_array ∷ []) =
    then _ (λ ts. ts ++ begin_array ∷ []) (then (λ ts. maybe_period_behind i.period (start ts)) (λ ts. ts ++ key (codes "payloads") ∷ []) dated (one (key (codes "payloads")))) (one begin_array) in
    then (λ ts. part_behind i.part ((maybe_period_behind i.period (start ts) ++ key (codes "payloads") ∷ []) ++ begin_array ∷ [])) ended_behind (then _ (part_behind i.part) opened (part_same i.part)) ended_same

intervals_same : (is : List ShownInterval) → Same (intervals_behind is)
intervals_same [] ts us = refl
intervals_same (i ∷ is) ts us = then (λ ts. interval_behind ts i) (intervals_behind is) (interval_same i) (intervals_same is) ts us

priority_same : (o : Option ℕ) → Same (priority_behind o)
priority_same None ts us = refl
priority_same (Some rank) ts us = then (λ ts. ts ++ key (codes "priority") ∷ []) (λ ts. ts ++ number (decimal rank) ∷ []) (one (key (codes "priority"))) (one (number (decimal rank))) ts us

target_same : (type name : List ℕ) → Same (target_behind type name)
target_same type name = with_values type (string name)

targets_same : (ven resource : List ℕ) → Same (targets_behind ven resource)
targets_same ven resource =
    let opened : Same (λ ts. (ts ++ key (codes "targets") ∷ []) ++ begin_array ∷ []) = then (λ ts. ts ++ key (codes "targets") ∷ []) (λ ts. ts ++ begin_array ∷ []) (one (key (codes "targets"))) (one begin_array) in
    let first : Same (λ ts. target_behind (codes "VEN_NAME") ven ((ts ++ key (codes "targets") ∷ []) ++ begin_array ∷ [])) = then _ (target_behind (codes "VEN_NAME") ven) opened (target_same (codes "VEN_NAME") ven) in
    then _ ended_behind (then _ (target_behind (codes "RESOURCE_NAME") resource) first (target_same (codes "RESOURCE_NAME") resource)) ended_same

tail_same : (e : ShownEvent) → Same (tail_behind e)
tail_same e =
    let kind : Same (λ ts. priority_behind e.priority (text_behind (codes "objectType") (codes "EVENT") ts)) = then (text_behind (codes "objectType") (codes "EVENT")) (priority_behind e.priority) (text_same (codes "objectType") (codes "EVENT")) (priority_same e.priority) in
    then _ (targets_behind e.ven_name e.resource_name) (then _ (text_behind (codes "programID") e.program) kind (text_same (codes "programID") e.program)) (targets_same e.ven_name e.resource_name)

list_same : (e : ShownEvent) → Same (list_behind e)
list_same e =
    let opened : Same (λ ts. (ts ++ key (codes "intervals") ∷ []) ++ begin_array ∷ []) = then (λ ts. ts ++ key (codes "intervals") ∷ []) (λ ts. ts ++ begin_array ∷ []) (one (key (codes "intervals"))) (one begin_array) in
    then _ (λ ts. ts ++ end_array ∷ []) (then _ (intervals_behind e.intervals) opened (intervals_same e.intervals)) (one end_array)

-- behind other tokens stands what is written alone
alone : (f : List Token → List Token) → Same f → (ts : List Token) → f ts ≡ ts ++ f []
alone f h ts = ap f (sym (append-nil ts)) ∙ h ts []

-- ---- they are those of the JSON value

period_by : (start : List ℕ) (duration random : Option (List ℕ)) → period_behind (record { start = start; duration = duration; randomize_start = random }) [] ≡ json_tokens (outline (period_data (record { start = start; duration = duration; randomize_start = random })))
unfolding period_data
period_by start None None = refl
period_by start None (Some random) = refl
period_by start (Some long) None = refl
period_by start (Some long) (Some random) = refl

period_tokens : (p : Period) → period_behind p [] ≡ json_tokens (outline (period_data p))
period_tokens p = period_by p.start p.duration p.randomize_start

number_is : (z : ℤ) → number_text (of_integer z) ≡ signed_decimal z
number_is (pos n) = refl
number_is (negsuc n) = refl

period_at : (p : Period) (ts : List Token) → period_behind p ts ≡ ts ++ json_tokens (outline (period_data p))
period_at p ts = alone (period_behind p) (period_same p) ts ∙ ap (λ more. ts ++ more) (period_tokens p)

-- an interval from its payloads on
abbrev rest_behind : Option ℤ → List Token → List Token
rest_behind part ts = ended_behind (part_behind part ((ts ++ key (codes "payloads") ∷ []) ++ begin_array ∷ []))

rest_same : (part : Option ℤ) → Same (rest_behind part)
rest_same part =
    let opened : Same (λ ts. (ts ++ key (codes "payloads") ∷ []) ++ begin_array ∷ []) = then (λ ts. ts ++ key (codes "payloads") ∷ []) (λ ts. ts ++ begin_array ∷ []) (one (key (codes "payloads"))) (one begin_array) in
    then _ ended_behind (then _ (part_behind part) opened (part_same part)) ended_same

-- up to its period
abbrev dated : ℤ → List Token
dated id = begin_object ∷ key (codes "id") ∷ number (signed_decimal id) ∷ key (codes "intervalPeriod") ∷ []

with_period : (id : ℤ) (p : Period) (part : Option ℤ) → interval_behind [] (record { id = id; period = Some p; part = part }) ≡ dated id ++ (json_tokens (outline (period_data p)) ++ rest_behind part [])
with_period id p part = ap (rest_behind part) (period_at p (dated id)) ∙ alone (rest_behind part) (rest_same part) (dated id ++ json_tokens (outline (period_data p)))

interval_by : (id : ℤ) (period : Option Period) (part : Option ℤ) → interval_behind [] (record { id = id; period = period; part = part }) ≡ json_tokens (outline (shown_interval_data (record { id = id; period = period; part = part })))
unfolding shown_interval_data values_data
interval_by id None None = rw (number_is id) refl
interval_by id None (Some z) = rw (number_is id, number_is z) refl
interval_by id (Some p) None = rw (number_is id) (with_period id p None)
interval_by id (Some p) (Some z) = rw (number_is id, number_is z) (with_period id p (Some z))

interval_tokens : (i : ShownInterval) → interval_behind [] i ≡ json_tokens (outline (shown_interval_data i))
interval_tokens i = interval_by i.id i.period i.part

intervals_tokens : (is : List ShownInterval) → intervals_behind is [] ++ end_array ∷ [] ≡ items_tokens (items_outline (items_of (map shown_interval_data is)))
intervals_tokens [] = refl
intervals_tokens (i ∷ is) =
    ap (λ (ts : List Token). ts ++ end_array ∷ []) (alone (intervals_behind is) (intervals_same is) (interval_behind [] i))
    ∙ append_assoc (interval_behind [] i) (intervals_behind is []) (end_array ∷ [])
    ∙ ap₂ (λ (xs ys : List Token). xs ++ ys) (interval_tokens i) (intervals_tokens is)

-- the member `intervals`
list_is : (e : ShownEvent) → list_behind e [] ≡ key (codes "intervals") ∷ begin_array ∷ items_tokens (items_outline (items_of (map shown_interval_data e.intervals)))
list_is e =
    ap (λ (ts : List Token). ts ++ end_array ∷ []) (alone (intervals_behind e.intervals) (intervals_same e.intervals) (key (codes "intervals") ∷ begin_array ∷ []))
    ∙ ap (λ (ts : List Token). key (codes "intervals") ∷ begin_array ∷ ts) (intervals_tokens e.intervals)

-- what stands before the intervals, they, and what stands behind them
in_three : (e : ShownEvent) → shown_behind e [] ≡ (head_behind e [] ++ list_behind e []) ++ tail_behind e []
in_three e = alone (tail_behind e) (tail_same e) (list_behind e (head_behind e [])) ∙ ap (λ (ts : List Token). ts ++ tail_behind e []) (alone (list_behind e) (list_same e) (head_behind e []))

-- with the intervals as they are in JSON
with_list : (e : ShownEvent) → shown_behind e [] ≡ (head_behind e [] ++ key (codes "intervals") ∷ begin_array ∷ items_tokens (items_outline (items_of (map shown_interval_data e.intervals)))) ++ tail_behind e []
with_list e = in_three e ∙ ap (λ (ts : List Token). (head_behind e [] ++ ts) ++ tail_behind e []) (list_is e)

-- with a period, behind what stands before it
dated_head : (p : Period) (before list tail : List Token) → (period_behind p before ++ list) ++ tail ≡ before ++ (json_tokens (outline (period_data p)) ++ (list ++ tail))
dated_head p before list tail =
    ap (λ (ts : List Token). (ts ++ list) ++ tail) (period_at p before)
    ∙ append_assoc (before ++ json_tokens (outline (period_data p))) list tail
    ∙ append_assoc before (json_tokens (outline (period_data p))) (list ++ tail)

abbrev event : List ℕ → Option (List ℕ) → Option ℕ → Option Period → List ShownInterval → List ℕ → List ℕ → ShownEvent
event program name priority period intervals ven resource = record { program = program; name = name; priority = priority; period = period; intervals = intervals; ven_name = ven; resource_name = resource }

abbrev listed : List ShownInterval → List Token
listed intervals = key (codes "intervals") ∷ begin_array ∷ items_tokens (items_outline (items_of (map shown_interval_data intervals)))

-- what stands before the period
abbrev undated : Option (List ℕ) → List Token
undated name = maybe_text_behind (codes "eventName") name (begin_object ∷ []) ++ key (codes "intervalPeriod") ∷ []

with_date : (program : List ℕ) (name : Option (List ℕ)) (priority : Option ℕ) (p : Period) (intervals : List ShownInterval) (ven resource : List ℕ)
    → shown_behind (event program name priority (Some p) intervals ven resource) []
    ≡ undated name ++ (json_tokens (outline (period_data p)) ++ (listed intervals ++ tail_behind (event program name priority (Some p) intervals ven resource) []))
with_date program name priority p intervals ven resource =
    with_list (event program name priority (Some p) intervals ven resource) ∙ dated_head p (undated name) (listed intervals) (tail_behind (event program name priority (Some p) intervals ven resource) [])

shown_by : (program : List ℕ) (name : Option (List ℕ)) (priority : Option ℕ) (period : Option Period) (intervals : List ShownInterval) (ven resource : List ℕ)
    → shown_behind (event program name priority period intervals ven resource) [] ≡ json_tokens (outline (shown_data (event program name priority period intervals ven resource)))
unfolding shown_data values_data
shown_by program None None None intervals ven resource = with_list (event program None None None intervals ven resource)
shown_by program None (Some rank) None intervals ven resource = with_list (event program None (Some rank) None intervals ven resource)
shown_by program (Some name) None None intervals ven resource = with_list (event program (Some name) None None intervals ven resource)
shown_by program (Some name) (Some rank) None intervals ven resource = with_list (event program (Some name) (Some rank) None intervals ven resource)
shown_by program None None (Some p) intervals ven resource = with_date program None None p intervals ven resource
shown_by program None (Some rank) (Some p) intervals ven resource = with_date program None (Some rank) p intervals ven resource
shown_by program (Some name) None (Some p) intervals ven resource = with_date program (Some name) None p intervals ven resource
shown_by program (Some name) (Some rank) (Some p) intervals ven resource = with_date program (Some name) (Some rank) p intervals ven resource

pub shown_tokens : (e : ShownEvent) → shown_behind e [] ≡ json_tokens (outline (shown_data e))
shown_tokens e = shown_by e.program e.name e.priority e.period e.intervals e.ven_name e.resource_name

pub shown_printed : (e : ShownEvent) → print (shown_behind e []) ≡ shown_text e
unfolding shown_text
shown_printed e = ap print (shown_tokens e) ∙ print-outline (shown_data e)
