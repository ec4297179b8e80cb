-- Keys that are probed in turn.
use Rattle.std.proofs.Common.{IsErr, None, Some, ◌≡◌, List, [], ◌∷◌, ◌++◌, Result, Ok, Err, refl, sym, ap, ap₂, ◌∙◌, append_assoc, append-nil}
use Rattle.std.specs.List.{cons_option}
use Rattle.std.proofs.lemmas.List.{map-append}
use Rattle.std.proofs.lemmas.List.Elements.{filter_map-append}
use Rattle.adr_text.specs.declared.refusal.Refusal.{Refusal}
use Rattle.adr_state.specs.declared.keys.MirrorKey.{MirrorKey}
use Rattle.adr_link.specs.Requests.{request_bytes}
use Rattle.adr_link.specs.Targets.{probe_request}
use Rattle.adr_link.specs.Upstreams.{UpstreamParts}
use Rattle.adr_work.specs.declared.request.Request.{Request}
use Rattle.adr_work.specs.Exchanges.{Came, Exchange, to_utility}
use Rattle.adr_work.specs.Probes.{Probe, probe_told, probe_asked, probes_asked, probes_told, keys_of}
use Rattle.adr_work.specs.Tellings.{Memory, Told, commands_of, with_told}
use Rattle.adr_work.specs.Rounds.{AreFirstOf, Goes, TellsProbe, IsProbe, TellsProbes, IsProbing}
use Rattle.adr_work.proofs.Behind.{behind}
use Rattle.adr_work.proofs.Memories.{when_err, with_none, heard}

told_append : (xs ys : List Probe) → probes_told (xs ++ ys) ≡ probes_told xs ++ probes_told ys
told_append xs ys = filter_map-append (λ (p : Probe). probe_told p.0 p.1) xs ys

asked_append : (u : UpstreamParts) (xs ys : List Probe) → probes_asked u (xs ++ ys) ≡ probes_asked u xs ++ probes_asked u ys
asked_append u xs ys = map-append (probe_asked u) xs ys

keys_append : (xs ys : List Probe) → keys_of (xs ++ ys) ≡ keys_of xs ++ keys_of ys
keys_append xs ys = map-append (λ (p : Probe). p.0) xs ys

-- these keys were probed, and what came stands for was told
pub record Probed (u : UpstreamParts) (before after : List Exchange) (was is : Memory) (keys : List MirrorKey) : Type 0 where
  pub probes : List Probe
  pub told : List Told
  pub exchanges : after ≡ before ++ probes_asked u probes
  pub memory : is ≡ with_told was told
  pub commands : commands_of told ≡ probes_told probes
  pub keys_are : keys_of probes ≡ keys

pub probed_none : (u : UpstreamParts) (before : List Exchange) (was : Memory) → Probed u before before was was []
probed_none u before was = record {
  probes = [];
  told = [];
  exchanges = sym (append-nil before);
  memory = sym (with_none was);
  commands = refl;
  keys_are = refl;
}

pub probed_more : (u : UpstreamParts) (before after after' : List Exchange) (was is is' : Memory) (keys : List MirrorKey) (key : MirrorKey)
    → Probed u before after was is keys → Goes after after' is is' (IsProbe u key (Ok tt)) → Probed u before after' was is' (keys ++ key ∷ [])
probed_more u before after after' was is is' keys key p g = record {
  probes = p.probes ++ g.holds.probes;
  told = p.told ++ g.told;
  exchanges = behind before _ _ p.exchanges (g.exchanges ∙ ap (λ xs. after ++ xs) g.holds.asked_is) (asked_append u p.probes g.holds.probes);
  memory = heard was is is' p.told g.told p.memory g.memory;
  commands = map-append (λ (t : Told). t.0) p.told g.told ∙ ap₂ (λ xs ys. xs ++ ys) p.commands g.holds.tells.0 ∙ sym (told_append p.probes g.holds.probes);
  keys_are = keys_append p.probes g.holds.probes ∙ ap₂ (λ xs ys. xs ++ ys) p.keys_are g.holds.tells.1;
}

pub probed_cut : (u : UpstreamParts) (before after after' : List Exchange) (was is is' : Memory) (keys : List MirrorKey) (key : MirrorKey) (rest all : List MirrorKey) (refusal : Refusal) (r : Result (Unit {0}) Refusal)
    → Probed u before after was is keys → all ≡ keys ++ key ∷ rest → Goes after after' is is' (IsProbe u key (Err refusal)) → IsErr r
    → Goes before after' was is' (IsProbing u all r)
probed_cut u before after after' was is is' keys key rest all refusal r p are g err =
    let more = g.holds.probes in
    let left = g.holds.tells.1.0 in record {
      asked = probes_asked u (p.probes ++ more);
      told = p.told ++ g.told;
      exchanges = behind before _ _ p.exchanges (g.exchanges ∙ ap (λ xs. after ++ xs) g.holds.asked_is) (asked_append u p.probes more);
      memory = heard was is is' p.told g.told p.memory g.memory;
      holds = record {
        probes = p.probes ++ more;
        asked_is = refl;
        tells = when_err (λ x. TellsProbes all (p.probes ++ more) x (commands_of (p.told ++ g.told))) r err (λ e. (
          (
            probes_told more,
            told_append p.probes more ∙ ap (λ xs. xs ++ probes_told more) (sym (append-nil (probes_told p.probes)))
                ∙ ap₂ (λ xs ys. (xs ++ ys) ++ probes_told more) (sym p.commands) (sym g.holds.tells.0)
                ∙ ap (λ xs. xs ++ probes_told more) (sym (map-append (λ (t : Told). t.0) p.told g.told)),
          ),
          (
            left ++ rest,
            are ∙ ap (λ xs. keys ++ (xs ++ rest)) g.holds.tells.1.1 ∙ ap (λ xs. keys ++ xs) (append_assoc (keys_of more) left rest)
                ∙ sym (append_assoc keys (keys_of more) (left ++ rest)) ∙ ap (λ xs. (xs ++ keys_of more) ++ (left ++ rest)) (sym p.keys_are)
                ∙ ap (λ xs. xs ++ (left ++ rest)) (sym (keys_append p.probes more)),
          ),
        ));
      };
    }

-- ---- one request

-- nothing was told
tells_none : (key : MirrorKey) (probes : List Probe) (r : Result (Unit {0}) Refusal) → IsErr r → AreFirstOf (keys_of probes) (key ∷ []) → TellsProbe key probes r []
tells_none key probes r err first = when_err (λ x. TellsProbe key probes x []) r err (λ e. (refl, first))

-- nothing was asked
pub probe_none : (u : UpstreamParts) (key : MirrorKey) (before : List Exchange) (was : Memory) (r : Result (Unit {0}) Refusal) → IsErr r
    → Goes before before was was (IsProbe u key r)
probe_none u key before was r err = record {
  asked = [];
  told = [];
  exchanges = sym (append-nil before);
  memory = sym (with_none was);
  holds = record { probes = []; asked_is = refl; tells = tells_none key [] r err (key ∷ [], refl) };
}

module _ (u : UpstreamParts) (key : MirrorKey) (before after : List Exchange) (was : Memory) (request : Request) (came : Came)
    (wanted : request ≡ to_utility (request_bytes (probe_request u key.kind key.id))) (asked : after ≡ before ++ (request, came) ∷ []) where
  abbrev one : List Probe
  one = (key, came) ∷ []

  asked_one : after ≡ before ++ probes_asked u one
  asked_one = asked ∙ ap (λ (it : Request). before ++ (it, came) ∷ []) wanted

  -- what came was not told
  pub probe_cut : (is : Memory) (r : Result (Unit {0}) Refusal) → is ≡ was → IsErr r → Goes before after was is (IsProbe u key r)
  probe_cut is r same err = record {
    asked = probes_asked u one;
    told = [];
    exchanges = asked_one;
    memory = same ∙ sym (with_none was);
    holds = record { probes = one; asked_is = refl; tells = tells_none key one r err ([], refl) };
  }

  -- what came stands for nothing
  pub probe_passed : None ≡ probe_told key came → Goes before after was was (IsProbe u key (Ok tt))
  probe_passed is = record {
    asked = probes_asked u one;
    told = [];
    exchanges = asked_one;
    memory = sym (with_none was);
    holds = record { probes = one; asked_is = refl; tells = (ap (λ o. cons_option o []) is, refl) };
  }

  -- what came was told
  pub probe_heard : (is : Memory) (told : Told) → Some told.0 ≡ probe_told key came → is ≡ with_told was (told ∷ []) → Goes before after was is (IsProbe u key (Ok tt))
  probe_heard is told stands same = record {
    asked = probes_asked u one;
    told = told ∷ [];
    exchanges = asked_one;
    memory = same;
    holds = record { probes = one; asked_is = refl; tells = (ap (λ o. cons_option o []) stands, refl) };
  }
