-- Entries that were leased at most so often, as their rows are walked.
use Rattle.std.proofs.Common.{◌≡◌, ℕ, Bool, true, List, ◌∙◌, sym}
use Rattle.std.specs.Prelude.{nat_le}
use Rattle.std.specs.List.{All, list_all}
use Rattle.std.specs.Map.{values_of}
use Rattle.std.proofs.lemmas.Bool.{leb-true, le-leb}
use Rattle.std.proofs.lemmas.List.Elements.{All-weaker}
use Rattle.std.proofs.lemmas.List.Folds.{list_all-map}
use Rattle.std.proofs.lemmas.List.Sums.{AllPass-from_list_all, list_all-from_AllPass}
use Rattle.adr_delivery.specs.declared.entry.Entry.{Entry}
use Rattle.adr_state.specs.Digits.{most_number}
use Rattle.adr_state.specs.Fitting.{HasFewLeases}

module _ (entries : List (ℕ × Entry)) where
  abbrev is_few : Entry → Bool
  is_few e = nat_le e.delivery.leases most_number

  walked : list_all is_few (values_of entries) ≡ list_all (λ e. nat_le e.1.delivery.leases most_number) entries
  walked = list_all-map is_few (λ (e : ℕ × Entry). e.1) entries

  pub few_from : list_all (λ e. nat_le e.1.delivery.leases most_number) entries ≡ true → All HasFewLeases (values_of entries)
  few_from all = All-weaker (λ e. is_few e ≡ true) HasFewLeases (λ e few. leb-true e.delivery.leases most_number few) (values_of entries) (AllPass-from_list_all is_few (values_of entries) (walked ∙ all))

  pub few_to : All HasFewLeases (values_of entries) → list_all (λ e. nat_le e.1.delivery.leases most_number) entries ≡ true
  few_to few = sym walked ∙ list_all-from_AllPass is_few (values_of entries) (All-weaker HasFewLeases (λ e. is_few e ≡ true) (λ e few. le-leb e.delivery.leases most_number few) (values_of entries) few)
