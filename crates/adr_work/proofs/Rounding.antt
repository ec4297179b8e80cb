-- A round from its parts.
use Rattle.std.proofs.Common.{IsErr, ◌≡◌, List, [], ◌∷◌, ◌++◌, Some, Result, Ok, Err, refl, sym, ap, ap₂, ◌∙◌, append_assoc, append-nil, inl, inr}
use Rattle.std.proofs.lemmas.List.{map-append}
use Rattle.adr_text.specs.declared.refusal.Refusal.{Refusal}
use Rattle.adr_objects.specs.declared.kind.Kind.TheVariants.{Program, Event}
use Rattle.adr_queries.specs.declared.answer.Answer.{Answer}
use Rattle.adr_link.specs.Upstreams.{UpstreamParts}
use Rattle.adr_machine.specs.declared.command.Command.TheVariants.{ScanBegin, ScanEnd}
use Rattle.adr_work.specs.declared.page.PollEnd.{PollEnd}
use Rattle.adr_work.specs.declared.page.PollEnd.TheVariants.{Whole, Broken}
use Rattle.adr_work.specs.Exchanges.{Came, Exchange}
use Rattle.adr_work.specs.Pages.{most_pages, pages_asked, pages_told, pages_end}
use Rattle.adr_work.specs.Probes.{Probe, probes_asked}
use Rattle.adr_work.specs.Tellings.{Memory, Told, commands_of, with_told}
use Rattle.adr_work.specs.Rounds.{Goes, TellsPages, IsPaging, TellsBoth, IsListing, IsEnding, IsRound, both_asked}
use Rattle.adr_work.proofs.Behind.{behind}
use Rattle.adr_work.proofs.Memories.{when_err, with_none, heard}

told_both : (xs ys : List Told) → commands_of (xs ++ ys) ≡ commands_of xs ++ commands_of ys
told_both xs ys = map-append (λ (t : Told). t.0) xs ys

-- ---- programs and events

pub listed_cut : (u : UpstreamParts) (before after : List Exchange) (was is : Memory) (refusal : Refusal) (r : Result PollEnd Refusal)
    → Goes before after was is (IsPaging u Program (Err refusal)) → IsErr r → Goes before after was is (IsListing u r)
listed_cut u before after was is refusal r g err =
    let programs = g.holds.pages in
    let tells = g.holds.tells in record {
      asked = g.asked;
      told = g.told;
      exchanges = g.exchanges;
      memory = g.memory;
      holds = record {
        programs = programs;
        events = [];
        asked_is = g.holds.asked_is ∙ sym (append-nil (pages_asked u Program 0 programs));
        tells = when_err (λ x. TellsBoth programs [] x (commands_of g.told)) r err (λ e. (tells.0, append-nil (pages_told Program programs) ∙ tells.1));
      };
    }

pub listed_broken : (u : UpstreamParts) (before after : List Exchange) (was is : Memory)
    → Goes before after was is (IsPaging u Program (Ok Broken)) → Goes before after was is (IsListing u (Ok Broken))
listed_broken u before after was is g =
    let programs = g.holds.pages in record {
      asked = g.asked;
      told = g.told;
      exchanges = g.exchanges;
      memory = g.memory;
      holds = record {
        programs = programs;
        events = [];
        asked_is = g.holds.asked_is ∙ sym (append-nil (pages_asked u Program 0 programs));
        tells = (g.holds.tells.0 ∙ sym (append-nil (pages_told Program programs)), inl (g.holds.tells.1, refl));
      };
    }

both_tell : (programs events : List Came) (first next : List Told) (r : Result PollEnd Refusal)
    → commands_of first ≡ pages_told Program programs → pages_end Program most_pages programs ≡ Some Whole → TellsPages Event events r (commands_of next)
    → TellsBoth programs events r (commands_of (first ++ next))
both_tell programs events first next (Ok Whole) told whole t = (told_both first next ∙ ap₂ (λ xs ys. xs ++ ys) told t.0, (whole, t.1))
both_tell programs events first next (Ok Broken) told whole t = (told_both first next ∙ ap₂ (λ xs ys. xs ++ ys) told t.0, inr (whole, t.1))
both_tell programs events first next (Err refusal) told whole t = (
  t.0,
  ap (λ xs. pages_told Program programs ++ xs) t.1 ∙ sym (append_assoc (pages_told Program programs) (commands_of next) t.0)
      ∙ ap (λ xs. (xs ++ commands_of next) ++ t.0) (sym told) ∙ ap (λ xs. xs ++ t.0) (sym (told_both first next)),
)

pub listed_next : (u : UpstreamParts) (before after after' : List Exchange) (was is is' : Memory) (r : Result PollEnd Refusal)
    → Goes before after was is (IsPaging u Program (Ok Whole)) → Goes after after' is is' (IsPaging u Event r) → Goes before after' was is' (IsListing u r)
listed_next u before after after' was is is' r p e = record {
  asked = p.asked ++ e.asked;
  told = p.told ++ e.told;
  exchanges = behind before p.asked e.asked p.exchanges e.exchanges refl;
  memory = heard was is is' p.told e.told p.memory e.memory;
  holds = record {
    programs = p.holds.pages;
    events = e.holds.pages;
    asked_is = ap₂ (λ xs ys. xs ++ ys) p.holds.asked_is e.holds.asked_is;
    tells = both_tell p.holds.pages e.holds.pages p.told e.told r p.holds.tells.0 p.holds.tells.1 e.holds.tells;
  };
}

-- ---- the end of the scan

pub ended_cut : (u : UpstreamParts) (before : List Exchange) (was is : Memory) (r : Result (Unit {0}) Refusal) → is ≡ was → IsErr r → Goes before before was is (IsEnding u r)
ended_cut u before was is r same err = record {
  asked = [];
  told = [];
  exchanges = sym (append-nil before);
  memory = same ∙ sym (with_none was);
  holds = when_err (λ x. IsEnding u x [] []) r err (λ e. record { probes = []; asked_is = refl; tells = (ScanEnd ∷ [], refl) });
}

-- ---- the round

pub round_cut : (u : UpstreamParts) (before : List Exchange) (was is : Memory) (r : Result PollEnd Refusal) → is ≡ was → IsErr r → Goes before before was is (IsRound u r)
round_cut u before was is r same err = record {
  asked = [];
  told = [];
  exchanges = sym (append-nil before);
  memory = same ∙ sym (with_none was);
  holds =
      when_err (λ x. IsRound u x [] []) r err (λ e. inl (record { programs = []; events = []; asked_is = refl; told_is = (ScanBegin ∷ [], refl) }));
}

module _ (u : UpstreamParts) (before after : List Exchange) (was is is' : Memory) (begun : Answer) (first : is ≡ with_told was ((ScanBegin, begun) ∷ [])) where
  abbrev opening : List Told
  opening = (ScanBegin, begun) ∷ []

  pub round_list_cut : (refusal : Refusal) (r : Result PollEnd Refusal) → Goes before after is is' (IsListing u (Err refusal)) → IsErr r → Goes before after was is' (IsRound u r)
  round_list_cut refusal r g err =
      let programs = g.holds.programs in
      let events = g.holds.events in
      let rest = g.holds.tells in record {
        asked = g.asked;
        told = opening ++ g.told;
        exchanges = g.exchanges;
        memory = heard was is is' opening g.told first g.memory;
        holds = when_err (λ x. IsRound u x g.asked (opening ++ g.told)) r err (λ e.
            inl (record { programs = programs; events = events; asked_is = g.holds.asked_is; told_is = (rest.0, ap (λ xs. ScanBegin ∷ xs) rest.1) }));
      }

  pub round_broken : Goes before after is is' (IsListing u (Ok Broken)) → Goes before after was is' (IsRound u (Ok Broken))
  round_broken g = record {
    asked = g.asked;
    told = opening ++ g.told;
    exchanges = g.exchanges;
    memory = heard was is is' opening g.told first g.memory;
    holds = record {
      programs = g.holds.programs;
      events = g.holds.events;
      asked_is = g.holds.asked_is;
      told_is = ap (λ xs. ScanBegin ∷ xs) g.holds.tells.0;
      pages_are = g.holds.tells.1;
    };
  }

  module _ (after' : List Exchange) (is'' : Memory) (g : Goes before after is is' (IsListing u (Ok Whole))) where
    abbrev scanned : List Told
    scanned = opening ++ g.told

    heard_all : (more : List Told) → is'' ≡ with_told is' more → is'' ≡ with_told was (scanned ++ more)
    heard_all more next = heard was is' is'' scanned more (heard was is is' opening g.told first g.memory) next

    asked_all : (more : List Exchange) (probes : List Probe) → more ≡ probes_asked u probes → g.asked ++ more ≡ both_asked u g.holds.programs g.holds.events ++ probes_asked u probes
    asked_all more probes are = ap₂ (λ xs ys. xs ++ ys) g.holds.asked_is are

    pub round_end_cut : (refusal : Refusal) (r : Result PollEnd Refusal) → Goes after after' is' is'' (IsEnding u (Err refusal)) → IsErr r → Goes before after' was is'' (IsRound u r)
    round_end_cut refusal r e err =
        let rest = e.holds.tells in record {
          asked = g.asked ++ e.asked;
          told = scanned ++ e.told;
          exchanges = behind before g.asked e.asked g.exchanges e.exchanges refl;
          memory = heard_all e.told e.memory;
          holds = when_err (λ x. IsRound u x (g.asked ++ e.asked) (scanned ++ e.told)) r err (λ _. inr (record {
            programs = g.holds.programs;
            events = g.holds.events;
            probes = e.holds.probes;
            asked_is = asked_all e.asked e.holds.probes e.holds.asked_is;
            pages_are = g.holds.tells.1;
            told_is = (
              rest.0,
              ap₂ (λ xs ys. (ScanBegin ∷ xs) ++ ys) (sym g.holds.tells.0) rest.1
                  ∙ sym (append_assoc (commands_of scanned) (commands_of e.told) rest.0) ∙ ap (λ xs. xs ++ rest.0) (sym (told_both scanned e.told)),
            );
          }));
        }

    pub round_whole : Goes after after' is' is'' (IsEnding u (Ok tt)) → Goes before after' was is'' (IsRound u (Ok Whole))
    round_whole e = record {
      asked = g.asked ++ e.asked;
      told = scanned ++ e.told;
      exchanges = behind before g.asked e.asked g.exchanges e.exchanges refl;
      memory = heard_all e.told e.memory;
      holds = record {
        programs = g.holds.programs;
        events = g.holds.events;
        probes = e.holds.probes;
        begun = scanned;
        missed = e.holds.missed;
        ended = e.holds.ended;
        asked_is = asked_all e.asked e.holds.probes e.holds.asked_is;
        told_is = ap (λ xs. scanned ++ xs) e.holds.told_is;
        pages_are = g.holds.tells.1;
        begun_is = ap (λ xs. ScanBegin ∷ xs) g.holds.tells.0;
        keys_are = e.holds.keys_are;
        ended_is = e.holds.ended_is;
      };
    }
