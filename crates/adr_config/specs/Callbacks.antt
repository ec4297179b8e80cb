-- The networks in which addresses may be called.
use Rattle.std.specs.Prelude.{◌≡◌, ◌⊎◌, ℕ, List, [], ◌∷◌, Option, Some, None, Ok, ⊤}
use Rattle.serde_json.specs.Data.{Data}
use Rattle.adr_text.specs.Fields.{items_in, text_of}
use Rattle.adr_network.specs.declared.network.Network.{Network}
use Rattle.adr_network.specs.Texts.{IsNetworkText}
use Rattle.adr_config.specs.declared.fault.ConfigFault.{ConfigFault}
use Rattle.adr_config.specs.declared.fault.ConfigFault.TheVariants.{OutOfMemory}

-- memory was wanting, or nothing is one
abbrev pub FindsNone : {A : Type 0} → ConfigFault → (A → Type 0) → Type 0
FindsNone {A} e P = (e ≡ OutOfMemory) ⊎ ((a : A) → ¬ (P a))

-- a text that writes the network
abbrev pub IsNetworkIn : Data → Network → Type 0
IsNetworkIn d network = (text : List ℕ) × (text_of d ≡ Ok text) × IsNetworkText text network

-- each value writes the network in its place
abbrev pub AreNetworks : List Data → List Network → Type 0
AreNetworks [] [] = ⊤
AreNetworks [] (network ∷ networks) = ⊥
AreNetworks (d ∷ ds) [] = ⊥
AreNetworks (d ∷ ds) (network ∷ networks) = IsNetworkIn d network × AreNetworks ds networks

-- a list whose items do
abbrev pub AreNetworksIn : Data → List Network → Type 0
AreNetworksIn d networks = (ds : List Data) × (items_in d ≡ Ok ds) × AreNetworks ds networks

-- those of the list, where one is said; without one addresses in any network may be called
abbrev pub CallsBack : Option Data → Option (List Network) → Type 0
CallsBack None networks = networks ≡ None
CallsBack (Some d) networks = (listed : List Network) × AreNetworksIn d listed × (networks ≡ Some listed)
