-- An open scan, what it missed, and its end, by the base.
use Rattle.std.proofs.Common.{◌≡◌, true, false, List, ℕ, Option, Some, None, Result, Ok, Err, refl, sym, ap}
use Rattle.std.specs.Prelude.{is_some}
use Rattle.adr_text.specs.Refusals.{◌>>=◌}
use Rattle.adr_db.proofs.Common.{IsRefusalOf, Refusal, OutOfMemory, Store, NoScan, Base, MirrorKey, probes, BaseChange, SetScan, open_scan, scan_end}
use Rattle.adr_db.specs.Kept.{at_most}
use Rattle.adr_db.specs.Bases.{keys_polled}
use Rattle.adr_missed.specs.Missed.{missed, closing}

-- none is missed where no scan is open
pub none_open : (limit : Option ℕ) (base : Base) → is_some base.scan ≡ false → missed limit base ≡ Err NoScan
none_open limit base h = by base.scan h
  where
    by : (scan : Option (List MirrorKey)) → is_some scan ≡ false → (open_scan scan >>= λ polled. Ok (at_most limit (probes base.mirror polled))) ≡ Err NoScan
    by None h = refl
    by (Some keys) h = absurd cc

pub missed_open : (limit : Option ℕ) (base : Base) (keys : List MirrorKey) → is_some base.scan ≡ true → keys ≡ at_most limit (probes base.mirror (keys_polled base.scan)) → missed limit base ≡ Ok keys
missed_open limit base keys h is = by base.scan h is
  where
    by : (scan : Option (List MirrorKey)) → is_some scan ≡ true → keys ≡ at_most limit (probes base.mirror (keys_polled scan)) → (open_scan scan >>= λ polled. Ok (at_most limit (probes base.mirror polled))) ≡ Ok keys
    by None h is = absurd cc
    by (Some polled) h is = ap Ok (sym is)

-- the end of a scan closes it, with what it missed
abbrev ended : Base → Option (List MirrorKey) → Result (List MirrorKey × BaseChange) Refusal
ended base scan = open_scan scan >>= λ polled. Ok (probes base.mirror polled, SetScan None)

pub scan_closes : (base : Base) (keys : List MirrorKey) → missed None base ≡ Ok keys → scan_end base ≡ Ok (keys, SetScan None)
scan_closes base keys h = by base.scan h
  where
    by : (scan : Option (List MirrorKey)) → (open_scan scan >>= λ polled. Ok (at_most None (probes base.mirror polled))) ≡ Ok keys → ended base scan ≡ Ok (keys, SetScan None)
    by None h = absurd cc
    by (Some polled) h = cc

-- and is refused as what it missed is
pub end_refused : (base : Base) (e : Refusal) → IsRefusalOf e (missed None base) → IsRefusalOf e (closing base)
end_refused base e h = by e base.scan h
  where
    by : (e : Refusal) (scan : Option (List MirrorKey)) → IsRefusalOf e (open_scan scan >>= λ polled. Ok (at_most None (probes base.mirror polled))) → IsRefusalOf e (ended base scan >>= λ d. Ok d.1)
    by OutOfMemory scan h = tt
    by Store scan h = tt
    by e None h = cc
    by e (Some polled) h = absurd cc

pub closing_is : (base : Base) (keys : List MirrorKey) → scan_end base ≡ Ok (keys, SetScan None) → closing base ≡ Ok (SetScan None)
closing_is base keys is = ap (λ (r : Result (List MirrorKey × BaseChange) Refusal). r >>= λ d. Ok d.1) is
