-- A shown event as it is written, token behind token.
use Rattle.std.specs.Prelude.{◌≡◌, ℕ, ℤ, List, [], ◌∷◌, ◌++◌, codes, decimal, Option, None, Some}
use Rattle.std.specs.Fmt.{signed_decimal}
use Rattle.json.specs.Token.{Token, begin_object, end_object, begin_array, end_array, key, string, number}
use Rattle.json.specs.Written.{Written}
use Rattle.adr_objects.specs.declared.interval.Period.{Period}
use Rattle.adr_objects.specs.declared.shown.ShownInterval.{ShownInterval}
use Rattle.adr_objects.specs.declared.shown.ShownEvent.{ShownEvent}

-- a writer has these tokens now, and before them what it had
abbrev pub Has : Written → Written → List Token → Type 0
Has old new tokens = (new.before ≡ old.before) × (new.tokens ≡ tokens)

-- each of these is what stands behind other tokens once this was written
abbrev pub text_behind : List ℕ → List ℕ → List Token → List Token
text_behind name text ts = (ts ++ key name ∷ []) ++ string text ∷ []

abbrev pub maybe_text_behind : List ℕ → Option (List ℕ) → List Token → List Token
maybe_text_behind name None ts = ts
maybe_text_behind name (Some text) ts = text_behind name text ts

abbrev pub times_behind : Period → List Token → List Token
times_behind p ts = text_behind (codes "start") p.start (maybe_text_behind (codes "randomizeStart") p.randomize_start (maybe_text_behind (codes "duration") p.duration ts))

abbrev pub period_behind : Period → List Token → List Token
period_behind p ts = times_behind p (ts ++ begin_object ∷ []) ++ end_object ∷ []

abbrev pub maybe_period_behind : Option Period → List Token → List Token
maybe_period_behind None ts = ts
maybe_period_behind (Some p) ts = period_behind p (ts ++ key (codes "intervalPeriod") ∷ [])

-- the start of a payload or a target: its type, and that values follow
abbrev pub values_behind : List ℕ → List Token → List Token
values_behind type ts = (text_behind (codes "type") type (ts ++ begin_object ∷ []) ++ key (codes "values") ∷ []) ++ begin_array ∷ []

-- its end
abbrev pub ended_behind : List Token → List Token
ended_behind ts = (ts ++ end_array ∷ []) ++ end_object ∷ []

abbrev pub part_behind : Option ℤ → List Token → List Token
part_behind None ts = ts
part_behind (Some part) ts = ended_behind (values_behind (codes "DISPATCH_SETPOINT") ts ++ number (signed_decimal part) ∷ [])

abbrev pub target_behind : List ℕ → List ℕ → List Token → List Token
target_behind type name ts = ended_behind (values_behind type ts ++ string name ∷ [])

abbrev pub interval_behind : List Token → ShownInterval → List Token
interval_behind ts i =
    ended_behind (part_behind i.part ((maybe_period_behind i.period (((ts ++ begin_object ∷ []) ++ key (codes "id") ∷ []) ++ number (signed_decimal i.id) ∷ []) ++ key (codes "payloads") ∷ []) ++ begin_array ∷ []))

abbrev pub intervals_behind : List ShownInterval → List Token → List Token
intervals_behind [] ts = ts
intervals_behind (i ∷ intervals) ts = intervals_behind intervals (interval_behind ts i)

abbrev pub priority_behind : Option ℕ → List Token → List Token
priority_behind None ts = ts
priority_behind (Some rank) ts = (ts ++ key (codes "priority") ∷ []) ++ number (decimal rank) ∷ []

-- the members before the intervals, and from `objectType` on
abbrev pub head_behind : ShownEvent → List Token → List Token
head_behind e ts = maybe_period_behind e.period (maybe_text_behind (codes "eventName") e.name (ts ++ begin_object ∷ []))

abbrev pub list_behind : ShownEvent → List Token → List Token
list_behind e ts = intervals_behind e.intervals ((ts ++ key (codes "intervals") ∷ []) ++ begin_array ∷ []) ++ end_array ∷ []

abbrev pub targets_behind : List ℕ → List ℕ → List Token → List Token
targets_behind ven resource ts =
    ended_behind (target_behind (codes "RESOURCE_NAME") resource (target_behind (codes "VEN_NAME") ven ((ts ++ key (codes "targets") ∷ []) ++ begin_array ∷ [])))

abbrev pub tail_behind : ShownEvent → List Token → List Token
tail_behind e ts = targets_behind e.ven_name e.resource_name (text_behind (codes "programID") e.program (priority_behind e.priority (text_behind (codes "objectType") (codes "EVENT") ts)))

abbrev pub shown_behind : ShownEvent → List Token → List Token
shown_behind e ts = tail_behind e (list_behind e (head_behind e ts))
