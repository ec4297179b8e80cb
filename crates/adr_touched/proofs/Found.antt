-- The events and reports that are touched, from the programs and the resources that were found.
use Rattle.std.proofs.Common.{◌≡◌, ℕ, true, false, List, filter, Option, None, Some, refl, ◌∙◌, eq-eqb}
use Rattle.std.specs.Prelude.{◌==◌, bytes_eq, is_some}
use Rattle.adr_state.specs.declared.keys.ShareKey.{ShareKey}
use Rattle.adr_state.specs.declared.portfolio.Portfolio.{Portfolio}
use Rattle.adr_state.specs.declared.portfolio.Resource.{Resource}
use Rattle.adr_state.specs.Portfolios.{is_of_ven}
use Rattle.adr_refresh.specs.Touched.{shares_in, one_shares}
use Rattle.adr_refresh.proofs.Common.{Contains-from_lookup, at, bytes_eq-Decides, exact_unsigned, list_any, nat_cmp, option_map_or, share_cmp, share_exact, tells_apart}
use Rattle.adr_view.proofs.ListLemmas.{in_filter, in_map}
use Rattle.adr_touched.specs.Answers.{programs_of, resources_of}
use Rattle.adr_touched.proofs.Gathered.{any_passing, any_there}

-- the key of a share
abbrev share_of : List ℕ → ℕ → ShareKey
share_of program n = record { program = program; resource = n }

module _ (p : Portfolio) where
  -- a program in which a resource has a share is among its programs
  pub shares_are : (n : ℕ) (program : List ℕ) → shares_in p n program ≡ true → list_any (λ its. bytes_eq program its) (programs_of n p) ≡ true
  shares_are n program is = by (at share_cmp (share_of program n) p.shares) refl is
    where
      by : (o : Option ℕ) → at share_cmp (share_of program n) p.shares ≡ o → is_some o ≡ true → list_any (λ its. bytes_eq program its) (programs_of n p) ≡ true
      by None found h = absurd cc
      by (Some weight) found h =
          let there = Contains-from_lookup (tells_apart share_exact) (share_of program n) weight p.shares found in
          let mine = in_filter (λ s. s.0.resource == n) p.shares (share_of program n, weight) (eq-eqb n n refl) there in
          any_there (λ its. bytes_eq program its) (programs_of n p) program (in_map (λ s. s.0.program) (filter (λ s. s.0.resource == n) p.shares) (share_of program n, weight) mine) ((bytes_eq-Decides program program).1 refl)

  -- a resource of a ven that has a share in a program is among its resources
  pub one_of_resources : (ven : ℕ) (program : List ℕ) → one_shares p ven program ≡ true → list_any (λ n. shares_in p n program) (resources_of ven p) ≡ true
  one_of_resources ven program is = any_passing (λ n. shares_in p n program) (λ r. r.1.ven == ven) (λ r. r.0) p.resources ∙ is

  -- so is a resource that is there and of the ven
  pub resource_there : (ven m : ℕ) → is_of_ven ven p.resources m ≡ true → list_any (λ n. m == n) (resources_of ven p) ≡ true
  resource_there ven m is = by (at nat_cmp m p.resources) refl is
    where
      by : (o : Option Resource) → at nat_cmp m p.resources ≡ o → option_map_or (λ r. r.ven == ven) o false ≡ true → list_any (λ n. m == n) (resources_of ven p) ≡ true
      by None found h = absurd cc
      by (Some r) found h =
          let there = Contains-from_lookup (tells_apart exact_unsigned) m r p.resources found in
          let mine = in_filter (λ r. r.1.ven == ven) p.resources (m, r) h there in
          any_there (λ n. m == n) (resources_of ven p) m (in_map (λ r. r.0) (filter (λ r. r.1.ven == ven) p.resources) (m, r) mine) (eq-eqb m m refl)
