-- A configuration says in one way in which networks addresses may be called.
use Rattle.std.proofs.Common.{◌≡◌, inl, inr, ℕ, ◌+◌, ◌<◌, ◌≤◌, length, get_or, map, drop, drop-cons, add-one, ap, ap₂, ◌∙◌, codes, List, [], ◌∷◌, ◌++◌, append_assoc, append-nil, Option, Some, None, Result, Ok, Err, IfOk, IfErr, IsErr, refl, sym, subst}
use Rattle.std.proofs.lemmas.List.{drop_all}
use Rattle.std.specs.declared.net.socket_addr.SocketAddr.{SocketAddr}
use Rattle.serde_json.specs.Data.{Data}
use Rattle.adr_text.specs.Fields.{items_in, member_of, text_of}
use Rattle.adr_text.specs.Faults.{Lacks}
use Rattle.adr_text.specs.declared.fault.Fault.{Fault}
use Rattle.adr_text.specs.declared.fault.Fault.TheVariants as fault
use Rattle.adr_network.specs.declared.network.Network.{Network}
use Rattle.adr_network.specs.Texts.{IsNetworkText}
use Rattle.adr_network.proofs.Reading.{one_network}
use Rattle.adr_config.specs.declared.config.Config.{Config}
use Rattle.adr_config.specs.Configs.{Calls, SaysAt, config_at}
use Rattle.adr_config.specs.Callbacks.{FindsNone, IsNetworkIn, AreNetworks, AreNetworksIn, CallsBack}
use Rattle.adr_config.specs.Tellings.{told, Misses, Tells}
use Rattle.adr_config.specs.declared.fault.ConfigFault.{ConfigFault}
use Rattle.adr_config.specs.declared.fault.ConfigFault.TheVariants.{OutOfMemory}
use Rattle.adr_config.specs.declared.wrong.Wrong.{Wrong}

-- ---- one

-- what a text writes is what its value does
pub in_text_ok : (d : Data) (text : List ℕ) (r : Result Network ConfigFault) → text_of d ≡ Ok text → IfOk r (IsNetworkText text) → IfOk r (IsNetworkIn d)
in_text_ok d text (Ok network) is writes = (text, is, writes)
in_text_ok d text (Err e) is writes = tt

pub in_text_err : (d : Data) (text : List ℕ) (r : Result Network ConfigFault) → text_of d ≡ Ok text → IfErr r (λ e. FindsNone e (IsNetworkText text)) → IfErr r (λ e. FindsNone e (IsNetworkIn d))
in_text_err d text (Ok network) is lacks = tt
in_text_err d text (Err e) is lacks = by lacks
  where
    never : ((network : Network) → ¬ (IsNetworkText text network)) → (network : Network) → ¬ (IsNetworkIn d network)
    never none network (other, was, writes) =
        let same : other ≡ text = cc in none network (subst (λ t. IsNetworkText t network) same writes)

    by : FindsNone e (IsNetworkText text) → FindsNone e (IsNetworkIn d)
    by (inl wanting) = inl wanting
    by (inr none) = inr (never none)

-- what is no text writes none
pub no_text : (d : Data) (e : Fault) (wrong : Wrong) → Lacks e (text_of d) → FindsNone (told e wrong) (IsNetworkIn d)
no_text d fault.OutOfMemory wrong lacks = inl refl
no_text d e wrong fails = inr none
  where
    none : (network : Network) → ¬ (IsNetworkIn d network)
    none network (text, is, writes) = absurd cc

-- ---- several

-- these networks are those of the values that were read, and the others are left
pub record Reads (ds left : List Data) (networks : List Network) : Type 0 where
  pub forward : (rest : List Network) → AreNetworks left rest → AreNetworks ds (networks ++ rest)
  pub back : (whole : List Network) → AreNetworks ds whole → (rest : List Network) × AreNetworks left rest

pub reads_none : (ds : List Data) → Reads ds ds []
reads_none ds = record { forward = λ rest h. h; back = λ whole h. (whole, h) }

pub reads_more : (ds left : List Data) (d : Data) (networks : List Network) (network : Network) → Reads ds (d ∷ left) networks → IsNetworkIn d network → Reads ds left (networks ++ network ∷ [])
reads_more ds left d networks network reads writes = record { forward = forward; back = λ whole h. back (reads.back whole h) }
  where
    forward : (rest : List Network) → AreNetworks left rest → AreNetworks ds ((networks ++ network ∷ []) ++ rest)
    forward rest h = subst (λ ns. AreNetworks ds ns) (sym (append_assoc networks (network ∷ []) rest)) (reads.forward (network ∷ rest) (writes, h))

    back : (rest : List Network) × AreNetworks (d ∷ left) rest → (rest : List Network) × AreNetworks left rest
    back ([], h) = absurd h
    back (n ∷ rest, h) = (rest, h.1)

pub reads_all : (ds : List Data) (networks : List Network) → Reads ds [] networks → AreNetworks ds networks
reads_all ds networks reads = subst (λ ns. AreNetworks ds ns) (append-nil networks) (reads.forward [] tt)

pub reads_not : (ds left : List Data) (d : Data) (networks : List Network) (e : ConfigFault) → Reads ds (d ∷ left) networks → FindsNone e (IsNetworkIn d) → FindsNone e (AreNetworks ds)
reads_not ds left d networks e reads (inl wanting) = inl wanting
reads_not ds left d networks e reads (inr none) = inr (λ whole h. never (reads.back whole h))
  where
    never : ¬ ((rest : List Network) × AreNetworks (d ∷ left) rest)
    never ([], h) = h
    never (n ∷ rest, h) = none n h.0

-- the first of those that are left
pub reads_at : {V : Type 0} (f : V → Data) (vs : List V) (i : ℕ) (v : V) (ds : List Data) (networks : List Network) → i < length vs → v ≡ get_or vs i v → Reads ds (map f (drop i vs)) networks → Reads ds (f v ∷ map f (drop (i + 1) vs)) networks
reads_at f vs i v ds networks within is reads =
    let front : drop i vs ≡ v ∷ drop (i + 1) vs = drop-cons vs i v within ∙ ap (λ j. get_or vs i v ∷ drop j vs) (sym (add-one i)) ∙ ap (λ w. w ∷ drop (i + 1) vs) (sym is) in
    subst (λ left. Reads ds (map f left) networks) front reads

-- none are left
pub reads_end : {V : Type 0} (f : V → Data) (vs : List V) (i : ℕ) (ds : List Data) (networks : List Network) → length vs ≤ i → Reads ds (map f (drop i vs)) networks → AreNetworks ds networks
reads_end f vs i ds networks past reads = reads_all ds networks (subst (λ left. Reads ds (map f left) networks) (drop_all i vs past) reads)

-- ---- a list, and the member

pub no_list : (d : Data) (e : Fault) (wrong : Wrong) → Lacks e (items_in d) → FindsNone (told e wrong) (AreNetworksIn d)
no_list d fault.OutOfMemory wrong lacks = inl refl
no_list d e wrong fails = inr none
  where
    none : (networks : List Network) → ¬ (AreNetworksIn d networks)
    none networks (ds, is, writes) = absurd cc

pub in_list_err : (d : Data) (ds : List Data) (r : Result (List Network) ConfigFault) → items_in d ≡ Ok ds → IfErr r (λ e. FindsNone e (AreNetworks ds)) → IfErr r (λ e. FindsNone e (AreNetworksIn d))
in_list_err d ds (Ok networks) is lacks = tt
in_list_err d ds (Err e) is lacks = by lacks
  where
    never : ((networks : List Network) → ¬ (AreNetworks ds networks)) → (networks : List Network) → ¬ (AreNetworksIn d networks)
    never none networks (other, was, writes) =
        let same : other ≡ ds = cc in none networks (subst (λ t. AreNetworks t networks) same writes)

    by : FindsNone e (AreNetworks ds) → FindsNone e (AreNetworksIn d)
    by (inl wanting) = inl wanting
    by (inr none) = inr (never none)

pub none_called : (d : Data) (e : ConfigFault) → FindsNone e (AreNetworksIn d) → FindsNone e (CallsBack (Some d))
none_called d e (inl wanting) = inl wanting
none_called d e (inr none) = inr never
  where
    never : (networks : Option (List Network)) → ¬ (CallsBack (Some d) networks)
    never networks (listed, writes, is) = none listed writes

pub called_err : (said : Option Data) (d : Data) (r : Result (Option (List Network)) ConfigFault) → said ≡ Some d → IfErr r (λ e. FindsNone e (CallsBack (Some d))) → IfErr r (λ e. FindsNone e (CallsBack said))
called_err said d r is h = subst (λ s. IfErr r (λ e. FindsNone e (CallsBack s))) (sym is) h

-- ---- a configuration

one : (d : Data) (a b : Network) → IsNetworkIn d a → IsNetworkIn d b → a ≡ b
one d a b (text, is, writes) (other, was, there) =
    let same : other ≡ text = cc in one_network text a b writes (subst (λ t. IsNetworkText t b) same there)

one_list : (ds : List Data) (a b : List Network) → AreNetworks ds a → AreNetworks ds b → a ≡ b
one_list [] [] [] h k = refl
one_list [] [] (y ∷ b) h k = absurd k
one_list [] (x ∷ a) b h k = absurd h
one_list (d ∷ ds) [] b h k = absurd h
one_list (d ∷ ds) (x ∷ a) [] h k = absurd k
one_list (d ∷ ds) (x ∷ a) (y ∷ b) h k = ap₂ (λ n ns. n ∷ ns) (one d x y h.0 k.0) (one_list ds a b h.1 k.1)

one_calls : (said : Option Data) (a b : Option (List Network)) → CallsBack said a → CallsBack said b → a ≡ b
one_calls None a b h k = h ∙ sym k
one_calls (Some d) a b (x, (ds, is, at), h) (y, (es, was, there), k) =
    let same : es ≡ ds = cc in
    h ∙ ap (λ ns. Some ns) (one_list ds x y at (subst (λ t. AreNetworks t y) same there)) ∙ sym k

-- where networks are said, the configuration is what the rest gives
pub says_at : (listen : SocketAddr) (callbacks : Option (List Network)) (d : Data) → Calls d callbacks → (r : Result Config ConfigFault) → Tells (λ c. c) r (config_at listen callbacks d) → IfOk r (SaysAt listen d)
says_at listen callbacks d calls (Ok c) found = (callbacks, calls, found)
says_at listen callbacks d calls (Err e) found = tt

pub says_none_at : (listen : SocketAddr) (callbacks : Option (List Network)) (d : Data) → Calls d callbacks → (r : Result Config ConfigFault) → Tells (λ c. c) r (config_at listen callbacks d) → IfErr r (λ e. FindsNone e (SaysAt listen d))
says_none_at listen callbacks d calls (Ok c) found = tt
says_none_at listen callbacks d calls (Err e) found = by e found
  where
    no_other : IsErr (config_at listen callbacks d) → (config : Config) → ¬ (SaysAt listen d config)
    no_other fails config (other, there, said) =
        let same : other ≡ callbacks = one_calls (member_of (codes "callbacks") d) other callbacks there calls in
        let here : config_at listen callbacks d ≡ Ok config = subst (λ ns. config_at listen ns d ≡ Ok config) same said in
        let failed : IsErr {T = Config} {E = Fault} (Ok config) = subst (λ r. IsErr r) here fails in
        absurd cc

    by : (e : ConfigFault) → Misses e (config_at listen callbacks d) → FindsNone e (SaysAt listen d)
    by OutOfMemory misses = inl refl
    by e fails = inr (no_other fails)

-- where none are, no configuration is
pub none_calls : (listen : SocketAddr) (e : ConfigFault) (d : Data) → FindsNone e (Calls d) → FindsNone e (SaysAt listen d)
none_calls listen e d (inl wanting) = inl wanting
none_calls listen e d (inr none) = inr never
  where
    never : (config : Config) → ¬ (SaysAt listen d config)
    never config (callbacks, calls, said) = none callbacks calls
