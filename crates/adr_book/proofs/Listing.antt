-- Refusals of a desk among those of a book.
use Rattle.std.proofs.Common.{◌≡◌, arith, ℕ, nat_lt, Bool, true, false, List, ◌∷◌, ◌++◌, Contains, refl, if◌then◌else◌, Result, Ok, Err, IfErr, subst, sym}
use Rattle.std.specs.List.{list_all}
use Rattle.std.specs.Result.{IsErrAnd}
use Rattle.std.proofs.lemmas.List.Elements.{All-contains, Contains-append_right}
use Rattle.std.proofs.lemmas.List.Sums.{AllPass-from_list_all}
use Rattle.adr_text.specs.declared.refusal.Refusal.{Refusal}
use Rattle.adr_text.specs.declared.refusal.Refusal.TheVariants.{OutOfMemory, Store, TrailFull, Stale}
use Rattle.adr_queries.specs.Listed.{is_of_machine, IsListed}
use Rattle.adr_text.specs.Refusals.{◌>>=◌}
use Rattle.adr_book.specs.Entry.{not_ahead, is_full_at, with_room, IsOfDesk, EndsAfter}

-- a refusal that is handed on
pub handed_on : {T : Type 0} (P : Refusal → Type 0) (r : Result T Refusal) (e : Refusal) → IsErrAnd r (λ x. x ≡ e) → P e → IfErr r P
handed_on P (Ok x) e is so = absurd is
handed_on P (Err x) e is so = subst P (sym is) so

-- what is listed for a desk is listed behind further ones
pub listed_behind : (P : Type 0) (first these : List Refusal) (e : Refusal) → IsListed P these e → IsListed P (first ++ these) e
listed_behind P first these OutOfMemory is = tt
listed_behind P first these Store is = is
listed_behind P first these e is = Contains-append_right first these e is

module _ (P : Type 0) (these : List Refusal) (all : list_all is_of_machine these ≡ true) where
  of_machine : (e : Refusal) → Contains these e → is_of_machine e ≡ true
  of_machine e is = All-contains (λ e. is_of_machine e ≡ true) these e (AllPass-from_list_all is_of_machine these all) is

  -- where the machine's alone are listed, none is for a pass or a trail
  pub of_desk : (e : Refusal) → IsListed P these e → IsOfDesk e
  of_desk (Stale turn) is = absurd (let no : false ≡ true = of_machine (Stale turn) is in cc)
  of_desk TrailFull is = absurd (let no : false ≡ true = of_machine TrailFull is in cc)
  of_desk e is = tt

-- who was let in is refused as the desk refuses
pub ends_after : {A : Type 0} (tested : Result (Unit {0}) Refusal) (u : Unit {0}) (r : Result A Refusal) → tested ≡ Ok u → IfErr r IsOfDesk → EndsAfter tested r
ends_after (Ok v) u r is so = so
ends_after (Err e) u r is so = absurd (cc)

-- who is not let in for a step is refused for the pass or for the trail
module _ (P : Type 0) (these : List Refusal) (seen : ℕ) (e : Refusal) where
  abbrev by_ahead : Bool → Result (Unit {0}) Refusal
  by_ahead ahead = if ahead then Err (Stale seen) else Ok tt

  abbrev by_full : Bool → Result (Unit {0}) Refusal
  by_full full = if full then Err TrailFull else Ok tt

  by_tests : (ahead full : Bool) → (by_ahead ahead >>= λ _. by_full full) ≡ Err e
      → IsListed P (Stale seen ∷ TrailFull ∷ these) e
  by_tests true full is = let this : Stale seen ≡ e = cc is in subst (IsListed P (Stale seen ∷ TrailFull ∷ these)) this (0, omega arith, refl)
  by_tests false true is = let this : TrailFull ≡ e = cc is in subst (IsListed P (Stale seen ∷ TrailFull ∷ these)) this (1, omega arith, refl)
  by_tests false false is = absurd cc

  pub entry_listed : (keeps : Bool) (turn limit count : ℕ) → (not_ahead seen turn >>= λ _. with_room keeps limit count turn) ≡ Err e → IsListed P (Stale seen ∷ TrailFull ∷ these) e
  entry_listed keeps turn limit count is = by_tests (nat_lt turn seen) (is_full_at keeps limit count turn) is
