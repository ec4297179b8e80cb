-- A configuration says in one way where it listens.
use Rattle.std.proofs.Common.{◌≡◌, ◌⊎◌, inl, inr, codes, false, is_some, List, ℕ, Result, Ok, Err, IfOk, IfErr, refl, sym, subst}
use Rattle.std.specs.declared.net.socket_addr.SocketAddr.{SocketAddr}
use Rattle.std.specs.Net.Grammar.{IsSocketText}
use Rattle.std.proofs.NetLemmas.Theorems.{IsSocketText_unique}
use Rattle.serde_json.specs.Data.{Data, null, boolean, number, string, array, object}
use Rattle.serde_json.specs.Find.{as_object}
use Rattle.adr_text.specs.Faults.{Lacks}
use Rattle.adr_text.specs.Fields.{member_of, required, text_of, value_in}
use Rattle.adr_text.specs.declared.fault.Fault.{Fault}
use Rattle.adr_text.specs.declared.fault.Fault.TheVariants as fault
use Rattle.adr_config.specs.declared.config.Config.{Config}
use Rattle.adr_config.specs.declared.fault.ConfigFault.{ConfigFault}
use Rattle.adr_config.specs.declared.fault.ConfigFault.TheVariants.{OutOfMemory}
use Rattle.adr_config.specs.Callbacks.{FindsNone}
use Rattle.adr_config.specs.Configs.{IsConfig, Listens, Says, SaysAt}

one_listens : (d : Data) (a b : SocketAddr) → Listens d a → Listens d b → a ≡ b
one_listens d a b (t, is, text) (u, was, other) = let same : t ≡ u = cc in IsSocketText_unique t a b text (subst (λ v. IsSocketText v b) (sym same) other)

-- where none is said, no configuration is
pub none_listens : (e : ConfigFault) (d : Data) → (e ≡ OutOfMemory) ⊎ ((a : SocketAddr) → ¬ (Listens d a)) → (e ≡ OutOfMemory) ⊎ ((config : Config) → ¬ (Says d config))
none_listens e d (inl h) = inl h
none_listens e d (inr h) = inr none
  where
    none : (config : Config) → ¬ (Says d config)
    none config (listen, at, said) = h listen at

-- where one is, the configuration is one that listens there
pub says_by : (listen : SocketAddr) (d : Data) → Listens d listen → (r : Result Config ConfigFault) → IfOk r (SaysAt listen d) → IfOk r (Says d)
says_by listen d at (Ok c) found = (listen, at, found)
says_by listen d at (Err e) found = tt

pub says_none : (listen : SocketAddr) (d : Data) → Listens d listen → (r : Result Config ConfigFault) → IfErr r (λ e. FindsNone e (SaysAt listen d)) → IfErr r (λ e. FindsNone e (Says d))
says_none listen d at (Ok c) found = tt
says_none listen d at (Err e) found = by found
  where
    no_other : ((config : Config) → ¬ (SaysAt listen d config)) → (config : Config) → ¬ (Says d config)
    no_other none config (other, there, said) =
        let same : other ≡ listen = one_listens d other listen there at in
        none config (subst (λ l. SaysAt l d config) same said)

    by : FindsNone e (SaysAt listen d) → FindsNone e (Says d)
    by (inl wanting) = inl wanting
    by (inr none) = inr (no_other none)

-- what is no object says none
pub no_object : (d : Data) → is_some (as_object d) ≡ false → (config : Config) → ¬ (Says d config)
no_object d is_none config (listen, (text, is, at), said) = nowhere d text is_none is
  where
    nowhere : (d : Data) (text : List ℕ) → is_some (as_object d) ≡ false → ¬ (required (member_of (codes "listen") d) text_of ≡ Ok text)
    nowhere null text none is = absurd cc
    nowhere (boolean b) text none is = absurd cc
    nowhere (number n) text none is = absurd cc
    nowhere (string s) text none is = absurd cc
    nowhere (array ds) text none is = absurd cc
    nowhere (object ms) text none is = absurd cc

-- bytes that are no value are no configuration
pub no_value : (e : Fault) (bytes : List ℕ) → Lacks e (value_in bytes) → (e ≡ fault.OutOfMemory) ⊎ ((config : Config) → ¬ (IsConfig bytes config))
no_value fault.OutOfMemory bytes lacks = inl refl
no_value e bytes fails = inr none
  where
    none : (config : Config) → ¬ (IsConfig bytes config)
    none config (d, is, says) = absurd cc

-- nor are those of a value that says none
pub of_value : (bytes : List ℕ) (d : Data) → value_in bytes ≡ Ok d → (r : Result Config ConfigFault) → IfErr r (λ e. (e ≡ OutOfMemory) ⊎ ((config : Config) → ¬ (Says d config))) → IfErr r (λ e. (e ≡ OutOfMemory) ⊎ ((config : Config) → ¬ (IsConfig bytes config)))
of_value bytes d read (Ok c) h = tt
of_value bytes d read (Err e) h = by h
  where
    none : ((config : Config) → ¬ (Says d config)) → (config : Config) → ¬ (IsConfig bytes config)
    none h config (other, is, says) = let same : other ≡ d = cc in h config (subst (λ d. Says d config) same says)

    by : (e ≡ OutOfMemory) ⊎ ((config : Config) → ¬ (Says d config)) → (e ≡ OutOfMemory) ⊎ ((config : Config) → ¬ (IsConfig bytes config))
    by (inl h) = inl h
    by (inr h) = inr (none h)
