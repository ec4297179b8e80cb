-- Keys and marks as rows, and back.
use Rattle.std.proofs.Common.{◌≡◌, ◌<◌, ◌<ℤ◌, sym, ℕ, ℤ, pos, arith, Bool, true, false, Option, None, Some, List, [], ◌∷◌, ◌++◌, refl, ap, ap₂, ◌∙◌, Ordering, Less, Equal, Greater}
use Rattle.adr_db.proofs.Common.{int_cmp, nat_cmp, ordering_then, MatchOrdering, ranked, Text, Row, column, Mark, Live, Dead, Ven, Resource, Stamps, MirrorKey, ShareKey, ViewKey, Participant, kind_cmp, id_cmp, mirror_cmp, share_cmp, view_cmp, cells, key_order, number_key, text_number_key, number_text_key, number_text_number_key, text_key, text_same, then_none}
use Rattle.std.specs.Cmp.{int_cmp_is}
use Rattle.std.proofs.lemmas.Int.{ints}
use Rattle.adr_objects.specs.declared.kind.Kind.{Kind}
use Rattle.adr_objects.specs.declared.kind.Kind.TheVariants.{Program, Event}
use Rattle.adr_state.specs.declared.keys.FrozenKey.{FrozenKey}
use Rattle.adr_state.specs.declared.keys.ViewKey.TheVariants as view
use Rattle.adr_state.specs.Keys.{frozen_cmp}
use Rattle.adr_sql.specs.Codecs.{IsCodec}
use Rattle.adr_objects.specs.declared.report.ReportHead.{ReportHead}
use Rattle.adr_objects.specs.declared.report.UsageInterval.{UsageInterval}
use Rattle.adr_db.specs.declared.meta.Meta.{Meta}
use Rattle.adr_db.specs.declared.report_columns.ReportColumns.{ReportColumns}
use Rattle.adr_db.specs.declared.shown.ShownKey.{ShownKey}
use Rattle.adr_db.specs.ShownKeys.{shown_cmp}
use Rattle.adr_db.specs.Rows.{number, kind_number, meta_row, key_row, mark_columns, known_columns, mark_row, number_row, ven_columns, resource_columns, share_key_row, share_row, frozen_key_row, frozen_share_row, stamps_columns, view_kind, view_id, view_number, view_key_row, stamp_row, participant_row, name_cell, head_columns, report_columns_row, usage_cell, interval_columns, owner_cell, flag_cell, event_key_row, remote_row, shown_key_row, shown_columns, shown_row}
use Rattle.adr_db.specs.ReadBack.{number_of, text_of, integer_of, name_of, usage_of, owner_of, flag_of, kind_of, meta_in, key_in, ven_in, resource_in, share_key_in, frozen_key_in, view_key_in, stamps_in, head_in}

-- ---- keys

kinds_as_numbers : (a b : Kind) → int_cmp (pos (kind_number a)) (pos (kind_number b)) ≡ kind_cmp a b
kinds_as_numbers Program Program = refl
kinds_as_numbers Program Event = refl
kinds_as_numbers Event Program = refl
kinds_as_numbers Event Event = refl

pub keys_as_rows : (j k : MirrorKey) (a b : Row) → key_order 2 (number (kind_number j.kind) ∷ Text j.id ∷ a) (number (kind_number k.kind) ∷ Text k.id ∷ b) ≡ mirror_cmp j k
keys_as_rows j k a b = number_text_key (pos (kind_number j.kind)) (pos (kind_number k.kind)) j.id k.id a b ∙ ap (λ o. ordering_then o (id_cmp j.id k.id)) (kinds_as_numbers j.kind k.kind)

kind_same : (a b : Kind) → kind_cmp a b ≡ Equal → a ≡ b
kind_same Program Program h = refl
kind_same Program Event h = absurd cc
kind_same Event Program h = absurd cc
kind_same Event Event h = refl

both_tie : (o p : Ordering) → ordering_then o p ≡ Equal → (o ≡ Equal) × (p ≡ Equal)
both_tie Less p h = absurd cc
both_tie Equal p h = (refl, h)
both_tie Greater p h = absurd cc

key_same : (j k : MirrorKey) → mirror_cmp k j ≡ Equal → k ≡ j
key_same j k h =
    let both = both_tie (kind_cmp k.kind j.kind) (id_cmp k.id j.id) h in
    ap₂ (λ (kind : Kind) (id : List ℕ). record { kind = kind; id = id }) (kind_same k.kind j.kind both.0) (text_same j.id k.id both.1)

pub mirror_codec : IsCodec 2 mirror_cmp mark_row key_row
mirror_codec = record {
  named = λ k e. keys_as_rows k e.0 [] (known_columns e.1);
  keyed = λ k v e. keys_as_rows k e.0 (known_columns v) (known_columns e.1);
  same = λ j k v e. ap (λ key. mark_row (key, v)) (key_same j k e);
}

pub polled_codec : IsCodec {K = MirrorKey} {V = Unit {0}} 2 mirror_cmp (λ e. key_row e.0) key_row
polled_codec = record {
  named = λ k e. keys_as_rows k e.0 [] [];
  keyed = λ k v e. keys_as_rows k e.0 [] [];
  same = λ j k v e. ap key_row (key_same j k e);
}

-- ---- vens, resources and shares

pub number_kept : (m n : ℕ) → number m ≡ number n → m ≡ n
number_kept m n h = cc

-- numbers are ordered as their values are
pub numbers_as_values : (j k : ℕ) → int_cmp (pos j) (pos k) ≡ nat_cmp j k
numbers_as_values j k = sym (int_cmp_is (pos j) (pos k) (nat_cmp j k) (go (nat_cmp j k) (ranked j k (nat_cmp j k) refl)))
  where
    go : (r : Ordering) → MatchOrdering r (j < k) (j ≡ k) (k < j) → MatchOrdering r (pos j <ℤ pos k) (pos j ≡ pos k) (pos k <ℤ pos j)
    go Less h = omega (arith, ints, h)
    go Equal h = ap pos h
    go Greater h = omega (arith, ints, h)

pub number_same_is : (j k : ℕ) → nat_cmp j k ≡ Equal → j ≡ k
number_same_is j k h = ranked j k Equal (sym h)

value_same : (j k : ℕ) → int_cmp (pos j) (pos k) ≡ Equal → j ≡ k
value_same j k h = number_same_is j k (sym (numbers_as_values j k) ∙ h)

pub numbers_as_rows : (j k : ℕ) (a b : Row) → key_order 1 (number j ∷ a) (number k ∷ b) ≡ nat_cmp j k
numbers_as_rows j k a b = number_key (pos j) (pos k) a b ∙ numbers_as_values j k

pub number_codec : {V : Type 0} (columns : V → Row) → IsCodec {K = ℕ} {V = V} 1 nat_cmp (λ e. number e.0 ∷ columns e.1) number_row
number_codec columns = record {
  named = λ k e. numbers_as_rows k e.0 [] (columns e.1);
  keyed = λ k v e. numbers_as_rows k e.0 (columns v) (columns e.1);
  same = λ j k v e. ap (λ n. number n ∷ columns v) (number_same_is k j e);
}

shares_as_rows : (j k : ShareKey) (a b : Row) → key_order 2 (Text j.program ∷ number j.resource ∷ a) (Text k.program ∷ number k.resource ∷ b) ≡ share_cmp j k
shares_as_rows j k a b = text_number_key j.program k.program (pos j.resource) (pos k.resource) a b ∙ ap (ordering_then (id_cmp j.program k.program)) (numbers_as_values j.resource k.resource)

share_same : (j k : ShareKey) → share_cmp k j ≡ Equal → k ≡ j
share_same j k h =
    let both = both_tie (id_cmp k.program j.program) (nat_cmp k.resource j.resource) h in
    ap₂ (λ (program : List ℕ) (resource : ℕ). record { program = program; resource = resource }) (text_same j.program k.program both.0) (number_same_is k.resource j.resource both.1)

pub share_codec : IsCodec 2 share_cmp share_row share_key_row
share_codec = record {
  named = λ k e. shares_as_rows k e.0 [] (number e.1 ∷ []);
  keyed = λ k v e. shares_as_rows k e.0 (number v ∷ []) (number e.1 ∷ []);
  same = λ j k v e. ap (λ key. share_row (key, v)) (share_same j k e);
}

frozen_as_rows : (j k : FrozenKey) (a b : Row) → key_order 2 (Text j.event ∷ number j.resource ∷ a) (Text k.event ∷ number k.resource ∷ b) ≡ frozen_cmp j k
frozen_as_rows j k a b = text_number_key j.event k.event (pos j.resource) (pos k.resource) a b ∙ ap (ordering_then (id_cmp j.event k.event)) (numbers_as_values j.resource k.resource)

frozen_same : (j k : FrozenKey) → frozen_cmp k j ≡ Equal → k ≡ j
frozen_same j k h =
    let both = both_tie (id_cmp k.event j.event) (nat_cmp k.resource j.resource) h in
    ap₂ (λ (event : List ℕ) (resource : ℕ). record { event = event; resource = resource }) (text_same j.event k.event both.0) (number_same_is k.resource j.resource both.1)

pub frozen_share_codec : IsCodec 2 frozen_cmp frozen_share_row frozen_key_row
frozen_share_codec = record {
  named = λ k e. frozen_as_rows k e.0 [] (number e.1 ∷ []);
  keyed = λ k v e. frozen_as_rows k e.0 (number v ∷ []) (number e.1 ∷ []);
  same = λ j k v e. ap (λ key. frozen_share_row (key, v)) (frozen_same j k e);
}

-- ---- what is shown

shown_as_rows : (j k : ShownKey) (a b : Row) → key_order 2 (Text j.event ∷ number j.resource ∷ a) (Text k.event ∷ number k.resource ∷ b) ≡ shown_cmp j k
shown_as_rows j k a b = text_number_key j.event k.event (pos j.resource) (pos k.resource) a b ∙ ap (ordering_then (id_cmp j.event k.event)) (numbers_as_values j.resource k.resource)

shown_same : (j k : ShownKey) → shown_cmp k j ≡ Equal → k ≡ j
shown_same j k h =
    let both = both_tie (id_cmp k.event j.event) (nat_cmp k.resource j.resource) h in
    ap₂ (λ (event : List ℕ) (resource : ℕ). record { event = event; resource = resource }) (text_same j.event k.event both.0) (number_same_is k.resource j.resource both.1)

pub shown_codec : IsCodec 2 shown_cmp shown_row shown_key_row
shown_codec = record {
  named = λ k e. shown_as_rows k e.0 [] (shown_columns e.1);
  keyed = λ k v e. shown_as_rows k e.0 (shown_columns v) (shown_columns e.1);
  same = λ j k v e. ap (λ key. shown_row (key, v)) (shown_same j k e);
}

-- rows behind a text alone, as the utility's ids and roll-ups are
pub text_codec : {V : Type 0} (columns : V → Row) → IsCodec {K = List ℕ} {V = V} 1 id_cmp (λ e. Text e.0 ∷ columns e.1) event_key_row
text_codec columns = record {
  named = λ k e. text_key k e.0 [] (columns e.1);
  keyed = λ k v e. text_key k e.0 (columns v) (columns e.1);
  same = λ j k v e. ap (λ event. Text event ∷ columns v) (text_same j k e);
}

-- ---- the outbox

pub remote_codec : IsCodec 1 id_cmp remote_row event_key_row
remote_codec = text_codec (λ id. Text id ∷ [])

-- ---- a row is read back

pub flag_again : (b : Bool) → flag_of (flag_cell b) ≡ b
flag_again true = refl
flag_again false = refl

kind_again : (kind : Kind) → kind_of (number (kind_number kind)) ≡ kind
kind_again Program = refl
kind_again Event = refl

pub meta_again : (meta : Meta) → meta_in (meta_row meta) ≡ meta
meta_again meta = ap (λ scan. record meta { scan = scan }) (flag_again meta.scan)

pub key_again : (key : MirrorKey) → key_in (key_row key) ≡ key
key_again key = ap (λ kind. record key { kind = kind }) (kind_again key.kind)

pub view_key_again : (key : ViewKey) → view_key_in (view_key_row key) ≡ key
view_key_again (view.Program id) = refl
view_key_again (view.Event id resource) = refl
view_key_again (view.Report n) = refl
view_key_again (view.Rollup id) = refl

pub name_again : (name : Option (List ℕ)) → name_of (name_cell name) ≡ name
name_again None = refl
name_again (Some text) = refl

usage_again : (usage : Option ℤ) → usage_of (usage_cell usage) ≡ usage
usage_again None = refl
usage_again (Some amount) = refl

pub owner_again : (owner : Option ℕ) → owner_of (owner_cell owner) ≡ owner
owner_again None = refl
owner_again (Some n) = refl

pub head_again : (head : ReportHead) (revision : ℕ) → head_in (head_columns head revision) ≡ head
head_again head revision = ap (λ name. record head { name = name }) (name_again head.name)

abbrev interval_back : Row → UsageInterval
interval_back columns = record { id = integer_of (column columns 0); usage = usage_of (column columns 1) }

pub interval_again : (interval : UsageInterval) → interval_back (interval_columns interval) ≡ interval
interval_again interval = ap (λ usage. record interval { usage = usage }) (usage_again interval.usage)

-- ---- so rows that are equal stand for equal things

stands_for_one : {X : Type 0} (row_of : X → Row) (back : Row → X) → ((x : X) → back (row_of x) ≡ x) → (a b : X) → row_of a ≡ row_of b → a ≡ b
stands_for_one row_of back again a b h = sym (again a) ∙ ap back h ∙ again b

pub meta_kept : (a b : Meta) → meta_row a ≡ meta_row b → a ≡ b
meta_kept = stands_for_one meta_row meta_in meta_again

pub key_kept : (j k : MirrorKey) → key_row j ≡ key_row k → j ≡ k
key_kept = stands_for_one key_row key_in key_again

pub ven_kept : (a b : Ven) → ven_columns a ≡ ven_columns b → a ≡ b
ven_kept = stands_for_one ven_columns ven_in (λ _. refl)

pub resource_kept : (a b : Resource) → resource_columns a ≡ resource_columns b → a ≡ b
resource_kept = stands_for_one resource_columns resource_in (λ _. refl)

pub frozen_key_kept : (j k : FrozenKey) → frozen_key_row j ≡ frozen_key_row k → j ≡ k
frozen_key_kept = stands_for_one frozen_key_row frozen_key_in (λ _. refl)

pub share_key_kept : (j k : ShareKey) → share_key_row j ≡ share_key_row k → j ≡ k
share_key_kept = stands_for_one share_key_row share_key_in (λ _. refl)

abbrev report_columns_back : Row → ReportColumns
report_columns_back columns = record { head = head_in columns; revision = number_of (column columns 6) }

report_columns_again : (columns : ReportColumns) → report_columns_back (report_columns_row columns) ≡ columns
report_columns_again columns = ap (λ head. record columns { head = head }) (head_again columns.head columns.revision)

pub report_columns_kept : (a b : ReportColumns) → report_columns_row a ≡ report_columns_row b → a ≡ b
report_columns_kept = stands_for_one report_columns_row report_columns_back report_columns_again

pub interval_kept : (a b : UsageInterval) → interval_columns a ≡ interval_columns b → a ≡ b
interval_kept = stands_for_one interval_columns interval_back interval_again

pub owner_kept : (a b : Option ℕ) → owner_cell a ≡ owner_cell b → a ≡ b
owner_kept a b h = sym (owner_again a) ∙ ap owner_of h ∙ owner_again b

pub view_key_kept : (j k : ViewKey) → view_key_row j ≡ view_key_row k → j ≡ k
view_key_kept = stands_for_one view_key_row view_key_in view_key_again

pub stamps_kept : (a b : Stamps) → stamps_columns a ≡ stamps_columns b → a ≡ b
stamps_kept = stands_for_one stamps_columns stamps_in (λ _. refl)

pub participant_kept : (p q : Participant) → participant_row p ≡ participant_row q → p ≡ q
participant_kept p q h = λ i. record { resource = number_of (column (h i) 0); weight = number_of (column (h i) 1); name = text_of (column (h i) 2); ven_name = text_of (column (h i) 3) }

-- ---- the stamps of what is shown

-- by kind, then by id and then by number
views_as_numbers : (j k : ViewKey) → ordering_then (int_cmp (pos (view_kind j)) (pos (view_kind k))) (ordering_then (id_cmp (view_id j) (view_id k)) (int_cmp (pos (view_number j)) (pos (view_number k)))) ≡ view_cmp j k
views_as_numbers (view.Program a) (view.Program b) = then_none (id_cmp a b)
views_as_numbers (view.Event a m) (view.Event b n) = ap (ordering_then (id_cmp a b)) (numbers_as_values m n)
views_as_numbers (view.Report m) (view.Report n) = numbers_as_values m n
views_as_numbers (view.Rollup a) (view.Rollup b) = then_none (id_cmp a b)
views_as_numbers j k = refl

views_as_rows : (j k : ViewKey) (a b : Row) → key_order 3 (view_key_row j ++ a) (view_key_row k ++ b) ≡ view_cmp j k
views_as_rows j k a b = number_text_number_key (pos (view_kind j)) (pos (view_kind k)) (view_id j) (view_id k) (pos (view_number j)) (pos (view_number k)) a b ∙ views_as_numbers j k

-- so keys that tie have the same kind, id and number
view_same : (j k : ViewKey) → view_cmp k j ≡ Equal → k ≡ j
view_same j k h =
    let whole = both_tie (int_cmp (pos (view_kind k)) (pos (view_kind j))) _ (views_as_numbers k j ∙ h) in
    let rest = both_tie (id_cmp (view_id k) (view_id j)) (int_cmp (pos (view_number k)) (pos (view_number j))) whole.1 in
    view_key_kept k j (λ i. number (value_same (view_kind k) (view_kind j) whole.0 i) ∷ Text (text_same (view_id j) (view_id k) rest.0 i) ∷ number (value_same (view_number k) (view_number j) rest.1 i) ∷ [])

pub stamp_codec : IsCodec 3 view_cmp stamp_row view_key_row
stamp_codec = record {
  named = λ k e. views_as_rows k e.0 [] (stamps_columns e.1);
  keyed = λ k v e. views_as_rows k e.0 (stamps_columns v) (stamps_columns e.1);
  same = λ j k v e. ap (λ key. stamp_row (key, v)) (view_same j k e);
}

-- ---- a row as it is read

pub columns_are : (key : MirrorKey) (mark : Mark) → cells 2 3 (mark_row (key, mark)) ≡ mark_columns mark
columns_are key (Live moment body) = refl
columns_are key Dead = refl
