-- A subscription that is kept reads back.
use Rattle.std.proofs.Common.{◌≡◌, ℕ, List, map, Result, Ok, sym, ap, ap₂, ◌∙◌}
use Rattle.adr_db.proofs.Common.{Text, Has, Refusal, Sub}
use Rattle.sqlite_rules.proofs.ListLemmas.{all_has}
use Rattle.adr_subscription.specs.declared.subscription.SubIn.{SubIn}
use Rattle.adr_subscription.specs.Types.{IsSub}
use Rattle.adr_subscription.specs.Kept.{kept_text, kept_of}
use Rattle.adr_subscription.proofs.KeptTexts.{kept_reads_back}
use Rattle.adr_db.specs.Rows.{sub_row}
use Rattle.adr_db.specs.Kept.{AreSubs}
use Rattle.adr_db.specs.Admitted.{ReadsSub, ReadsSubEntry}
use Rattle.adr_db.specs.ReadBack.{body_in, numbered_in, sub_in}
use Rattle.adr_db.proofs.Rows.{number_kept, owner_again, owner_kept, stamps_kept}
use Rattle.adr_db.proofs.Entries.{entries_again}

text_kept : (a b : List ℕ) → Text a ≡ Text b → a ≡ b
text_kept a b h = cc

-- what is read of the text of a valid body is that body
body_read : (text : List ℕ) (read body : SubIn) → kept_of text ≡ Ok read → IsSub body → text ≡ kept_text body → read ≡ body
body_read text read body reads valid is =
    let both : ◌≡◌ {A = Result SubIn Refusal} (Ok read) (Ok body) = sym reads ∙ ap kept_of is ∙ kept_reads_back body valid in cc

-- and what is read of the row of a subscription is that subscription
pub sub_read : (n : ℕ) (read sub : Sub) → IsSub sub.body → ReadsSub (sub_row (n, sub)) read → read ≡ sub
sub_read n read sub valid reads =
    let owner = owner_kept read.owner sub.owner reads.0 in
    let it = reads.1.0 in
    let body = body_read it.0 read.body sub.body it.3 valid (sym (text_kept (kept_text sub.body) it.0 it.2)) in
    let stamps = stamps_kept read.stamps sub.stamps reads.1.1 in
    λ i. record { owner = owner i; body = body i; stamps = stamps i }

pub sub_entry_read : (subs : List (ℕ × Sub)) → AreSubs subs → (e kept : ℕ × Sub) → Has subs kept → ReadsSubEntry (sub_row kept) e → e ≡ kept
sub_entry_read subs are e kept has reads =
    let valid = all_has (λ s. IsSub s.1.body) subs kept are has in
    ap₂ (λ (n : ℕ) (sub : Sub). (n, sub)) (number_kept e.0 kept.0 reads.0) (sub_read kept.0 e.1 kept.1 valid reads.1)

-- ---- as the tables are read back

sub_again : (e : ℕ × Sub) → IsSub e.1.body → numbered_in sub_in (sub_row e) ≡ e
sub_again e valid =
    let owner = owner_again e.1.owner in
    let body = ap body_in (kept_reads_back e.1.body valid) in
    λ i. (e.0, record { owner = owner i; body = body i; stamps = e.1.stamps })

pub subs_again : (subs : List (ℕ × Sub)) → AreSubs subs → map (numbered_in sub_in) (map sub_row subs) ≡ subs
subs_again = entries_again (λ sub. IsSub sub.body) sub_row (numbered_in sub_in) sub_again
