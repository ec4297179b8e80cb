-- The text that is kept of a subscription reads back as that subscription.
use Rattle.std.proofs.Common.{◌≡◌, ℕ, suc, true, false, List, length, map, codes, None, Result, Ok, refl, arith, IsTrue}
use Rattle.std.specs.Prelude.{⊤}
use Rattle.std.specs.Str.{IsUtf8}
use Rattle.std.proofs.lemmas.Bool.{le-leb}
use Rattle.std.proofs.lemmas.Str.{is_utf8-from_IsUtf8}
use Rattle.std.proofs.lemmas.List.Elements.{recursion_from_All}
use Rattle.serde_json.specs.Data.{Data, string}
use Rattle.serde_json.specs.Find.{get}
use Rattle.serde_json.specs.Written.{has_float}
use Rattle.adr_text.specs.Ids.{is_id}
use Rattle.adr_text.specs.Fields.{text_of, id_in}
use Rattle.adr_text.specs.Objects.{array_of}
use Rattle.adr_text.specs.declared.fault.Fault.{Fault}
use Rattle.adr_text.proofs.FieldLemmas.{list_of-items_of}
use Rattle.adr_text.proofs.ObjectLemmas.{get-object_of, found_after}
use Rattle.adr_objects.proofs.RoundTrips.{id_reads_back, name_reads_back, optional_reads_back, each_reads_back, field_written}
use Rattle.adr_objects.proofs.Written.{IsWritten, read_back, string_written, array_written, object_written}
use Rattle.adr_subscription.specs.declared.words.ObjectKind.{ObjectKind}
use Rattle.adr_subscription.specs.declared.words.ObjectKind.TheVariants.{Program, Event, Report, Subscription, Ven, Resource}
use Rattle.adr_subscription.specs.declared.words.OperationKind.{OperationKind}
use Rattle.adr_subscription.specs.declared.words.OperationKind.TheVariants.{Get, Post, Put, Delete}
use Rattle.adr_subscription.specs.declared.item.SubscriptionItem.{SubscriptionItem}
use Rattle.adr_subscription.specs.declared.target.Target.{Target}
use Rattle.adr_subscription.specs.declared.subscription.SubIn.{SubIn}
use Rattle.adr_subscription.specs.Bounds.{bounded_in}
use Rattle.adr_subscription.specs.Words.{kind_word, kind_in, operation_word, operation_in}
use Rattle.adr_subscription.specs.Tokens.{is_token, token_in}
use Rattle.adr_subscription.specs.Subscriptions.{item_in, target_in, sub_in, sub_of}
use Rattle.adr_subscription.specs.Kept.{kind_data, operation_data, item_fields, item_data, target_fields, target_data, targets_data, sub_fields, sub_data, kept_text, kept_of}
use Rattle.adr_subscription.specs.Types.{AreWithin, IsItem, IsTarget, IsSub}

-- ---- one value reads back

kind_reads_back : (kind : ObjectKind) → kind_in (kind_data kind) ≡ Ok kind
unfolding kind_in
kind_reads_back Program = refl
kind_reads_back Event = refl
kind_reads_back Report = refl
kind_reads_back Subscription = refl
kind_reads_back Ven = refl
kind_reads_back Resource = refl

operation_reads_back : (operation : OperationKind) → operation_in (operation_data operation) ≡ Ok operation
unfolding operation_in
operation_reads_back Get = refl
operation_reads_back Post = refl
operation_reads_back Put = refl
operation_reads_back Delete = refl

token_reads_back : (text : List ℕ) → is_token text ≡ true → token_in (string text) ≡ Ok text
unfolding token_in
token_reads_back text h = rw h refl

-- a list whose items read back
bounded_reads_back : {A : Type 0} (least most : ℕ) (P : A → Type 0) (write : A → Data) (reading : Data → Result A Fault) → ((x : A) → P x → reading (write x) ≡ Ok x) → (xs : List A) → AreWithin least most P xs → bounded_in least most reading (array_of (map write xs)) ≡ Ok xs
unfolding bounded_in
bounded_reads_back least most P write reading again xs h =
    rw (list_of-items_of (map write xs), each_reads_back P write reading again xs (recursion_from_All P xs h.each), le-leb least (length xs) h.enough, le-leb (length xs) most h.few) refl

-- ---- an item

item_at : (name : List ℕ) (i : SubscriptionItem) → get name (item_data i) ≡ found_after name None (item_fields i)
unfolding item_data
item_at name i = get-object_of name (item_fields i)

item_reads_back : (i : SubscriptionItem) → IsItem i → item_in (item_data i) ≡ Ok i
unfolding item_in
item_reads_back i h =
    let objects = bounded_reads_back 1 6 (λ _. ⊤) kind_data kind_in (λ kind k. kind_reads_back kind) i.objects h.objects in
    let operations = bounded_reads_back 1 4 (λ _. ⊤) operation_data operation_in (λ operation k. operation_reads_back operation) i.operations h.operations in
    let token = optional_reads_back (λ text. IsTrue (is_token text)) string token_in (λ text k. refl) token_reads_back i.bearer_token h.bearer_token in
    rw (item_at (codes "objects") i, item_at (codes "operations") i, item_at (codes "callbackUrl") i, item_at (codes "bearerToken") i, objects, operations, token) refl

-- ---- a target

target_at : (name : List ℕ) (t : Target) → get name (target_data t) ≡ found_after name None (target_fields t)
unfolding target_data
target_at name t = get-object_of name (target_fields t)

target_reads_back : (t : Target) → IsTarget t → target_in (target_data t) ≡ Ok t
unfolding target_in
target_reads_back t h =
    let values = bounded_reads_back 0 1000 (λ _. ⊤) string text_of (λ text k. refl) t.values h.values in
    rw (target_at (codes "type") t, target_at (codes "values") t, values) refl

-- ---- a subscription

sub_at : (name : List ℕ) (s : SubIn) → get name (sub_data s) ≡ found_after name None (sub_fields s)
unfolding sub_data
sub_at name s = get-object_of name (sub_fields s)

sub_reads_back : (s : SubIn) → IsSub s → sub_in (sub_data s) ≡ Ok s
unfolding sub_in
sub_reads_back s h =
    let program = optional_reads_back (λ text. IsTrue (is_id text)) string id_in (λ text k. refl) id_reads_back s.program h.program in
    let items = bounded_reads_back 1 16 IsItem item_data item_in item_reads_back s.items h.items in
    let targets = optional_reads_back (AreWithin 0 100 IsTarget) targets_data (bounded_in 0 100 target_in) (λ ts k. refl) (bounded_reads_back 0 100 IsTarget target_data target_in target_reads_back) s.targets h.targets in
    rw (sub_at (codes "clientName") s, sub_at (codes "programID") s, sub_at (codes "objectOperations") s, sub_at (codes "targets") s, name_reads_back s.client_name h.client_name, program, items, targets) refl

-- ---- what is written

texts_written : {A : Type 0} (n least most : ℕ) (text : A → List ℕ) (xs : List A) → AreWithin least most (λ _. ⊤) xs → IsWritten (suc n) (array_of (map (λ x. string (text x)) xs))
texts_written n least most text xs h = array_written n (λ x. string (text x)) (λ _. ⊤) (λ x k. string_written n (text x)) xs (recursion_from_All (λ _. ⊤) xs h.each)

item_written : (i : SubscriptionItem) → IsItem i → IsWritten 2 (item_data i)
unfolding item_data
item_written i h =
    object_written 1 (item_fields i) refl
    (field_written 1 (λ text. IsTrue (is_token text)) string (λ text k. string_written 1 text) i.bearer_token h.bearer_token, (string_written 1 i.callback_url, (texts_written 0 1 6 kind_word i.objects h.objects, (texts_written 0 1 4 operation_word i.operations h.operations, tt))))

target_written : (t : Target) → IsTarget t → IsWritten 2 (target_data t)
unfolding target_data
target_written t h = object_written 1 (target_fields t) refl (string_written 1 t.kind, (texts_written 0 0 1000 (λ text. text) t.values h.values, tt))

targets_written : (ts : List Target) → AreWithin 0 100 IsTarget ts → IsWritten 3 (targets_data ts)
targets_written ts h = array_written 2 target_data IsTarget target_written ts (recursion_from_All IsTarget ts h.each)

items_written : (is : List SubscriptionItem) → AreWithin 1 16 IsItem is → IsWritten 3 (array_of (map item_data is))
items_written is h = array_written 2 item_data IsItem item_written is (recursion_from_All IsItem is h.each)

sub_written : (s : SubIn) → IsSub s → IsWritten 4 (sub_data s)
unfolding sub_data
sub_written s h =
    object_written 3 (sub_fields s) refl
    (string_written 3 s.client_name, (items_written s.items h.items, (field_written 3 (λ text. IsTrue (is_id text)) string (λ text k. string_written 3 text) s.program h.program, (field_written 3 (AreWithin 0 100 IsTarget) targets_data targets_written s.targets h.targets, tt))))

pub sub_whole : (s : SubIn) → IsSub s → has_float (sub_data s) ≡ false
sub_whole s h = (sub_written s h).no_float

pub kept_reads_back : (s : SubIn) → IsSub s → kept_of (kept_text s) ≡ Ok s
unfolding kept_of kept_text
kept_reads_back s h = rw (read_back 4 (sub_data s) (sub_written s h) (omega arith), sub_reads_back s h) refl

pub kept_is_posted : (text : List ℕ) → IsUtf8 text → sub_of text ≡ kept_of text
unfolding sub_of kept_of
kept_is_posted text utf8 = rw (is_utf8-from_IsUtf8 text utf8) refl
