-- Asking for pages, one after another.
use Rattle.std.proofs.Common.{IsErr, ◌≡◌, ℕ, suc, ◌+◌, ◌-◌, ◌*◌, ◌<◌, ◌≤◌, List, [], ◌∷◌, ◌++◌, Option, Some, Ok, Result, refl, sym, ap, ◌∙◌, subst, arith, append_assoc, append-nil}
use Rattle.std.proofs.lemmas.List.{map-append}
use Rattle.adr_text.specs.declared.refusal.Refusal.{Refusal}
use Rattle.adr_objects.specs.declared.kind.Kind.{Kind}
use Rattle.adr_link.specs.Requests.{request_bytes}
use Rattle.adr_link.specs.Targets.{page_request}
use Rattle.adr_link.specs.Upstreams.{UpstreamParts}
use Rattle.adr_machine.specs.declared.command.Command.{Command}
use Rattle.adr_work.specs.declared.page.PageRead.{PageRead}
use Rattle.adr_work.specs.declared.page.PageRead.TheVariants.{Filled, Empty, Failed}
use Rattle.adr_work.specs.declared.page.PollEnd.{PollEnd}
use Rattle.adr_work.specs.declared.page.PollEnd.TheVariants.{Whole, Broken}
use Rattle.adr_work.specs.declared.request.Request.{Request}
use Rattle.adr_work.specs.Exchanges.{Came, Exchange, to_utility}
use Rattle.adr_work.specs.Pages.{most_pages, most_elements, page_read, elements, command_of, pages_asked, pages_told, end_after, pages_end}
use Rattle.adr_work.specs.Tellings.{Memory, Told, commands_of, with_told}
use Rattle.adr_work.specs.Rounds.{Asks, Goes, ReadsPage, AsksPage, TellsPages, IsPaging}
use Rattle.adr_work.proofs.Behind.{behind}
use Rattle.adr_work.proofs.Memories.{when_err, with_none, heard}

-- so many pages with elements came, and the next is asked for behind their elements
pub record Going (u : UpstreamParts) (kind : Kind) (count skip : ℕ) (done : List Came) : Type 0 where
  pub asked : (rest : List Came) → pages_asked u kind 0 (done ++ rest) ≡ pages_asked u kind 0 done ++ pages_asked u kind skip rest
  pub told : (rest : List Came) → pages_told kind (done ++ rest) ≡ pages_told kind done ++ pages_told kind rest
  pub ends : (rest : List Came) → pages_end kind most_pages (done ++ rest) ≡ pages_end kind (most_pages - count) rest

going_first : (u : UpstreamParts) (kind : Kind) → Going u kind 0 0 []
going_first u kind = record { asked = λ rest. refl; told = λ rest. refl; ends = λ rest. refl }

going_on : (u : UpstreamParts) (kind : Kind) (count skip : ℕ) (done : List Came) (came : Came) (command : Command) (n : ℕ)
    → Going u kind count skip done → count < most_pages → page_read kind came ≡ Filled command n → Going u kind (count + 1) (skip + n) (done ++ came ∷ [])
going_on u kind count skip done came command n g few is = record {
  asked = λ rest.
      let page : Exchange = (to_utility (request_bytes (page_request u kind skip)), came) in
      let on = pages_asked u kind (skip + n) rest in
      ap (pages_asked u kind 0) (append_assoc done (came ∷ []) rest) ∙ g.asked (came ∷ rest)
      ∙ ap (λ p. pages_asked u kind 0 done ++ page ∷ pages_asked u kind (skip + elements p) rest) is
      ∙ sym (append_assoc (pages_asked u kind 0 done) (page ∷ []) on)
      ∙ ap (λ asked. asked ++ on) (sym (g.asked (came ∷ [])));
  told = λ rest.
      ap (pages_told kind) (append_assoc done (came ∷ []) rest) ∙ g.told (came ∷ rest)
      ∙ sym (append_assoc (pages_told kind done) (command_of (page_read kind came)) (pages_told kind rest))
      ∙ ap (λ cs. (pages_told kind done ++ cs) ++ pages_told kind rest) (sym (append-nil (command_of (page_read kind came))))
      ∙ ap (λ cs. cs ++ pages_told kind rest) (sym (g.told (came ∷ [])));
  ends = λ rest.
      let left = most_pages - (count + 1) in
      let more : most_pages - count ≡ suc left = omega (arith, few) in
      ap (pages_end kind most_pages) (append_assoc done (came ∷ []) rest) ∙ g.ends (came ∷ rest)
      ∙ ap (λ l. pages_end kind l (came ∷ rest)) more
      ∙ ap (λ p. end_after p rest (pages_end kind left rest)) is;
}

-- the asking ends with a page that none follows
ends_with : (u : UpstreamParts) (kind : Kind) (count skip : ℕ) (done : List Came) (came : Came) (end : PollEnd)
    → Going u kind count skip done → count < most_pages → ((on : Option PollEnd) → end_after (page_read kind came) [] on ≡ Some end)
    → pages_end kind most_pages (done ++ came ∷ []) ≡ Some end
ends_with u kind count skip done came end g few is =
    let more : most_pages - count ≡ suc (most_pages - (count + 1)) = omega (arith, few) in
    g.ends (came ∷ []) ∙ ap (λ l. pages_end kind l (came ∷ [])) more ∙ is _

-- it ends with too many
ends_full : (u : UpstreamParts) (kind : Kind) (count skip : ℕ) (done : List Came) → Going u kind count skip done → count ≡ most_pages → pages_end kind most_pages done ≡ Some Broken
ends_full u kind count skip done g full =
    let none : most_pages - count ≡ 0 = omega (arith, full) in
    ap (pages_end kind most_pages) (sym (append-nil done)) ∙ g.ends [] ∙ ap (λ l. pages_end kind l []) none

-- what was asked and told so far, while pages have elements
pub record SoFar (u : UpstreamParts) (kind : Kind) (before after : List Exchange) (was is : Memory) (count skip : ℕ) : Type 0 where
  pub done : List Came
  pub told : List Told
  pub going : Going u kind count skip done
  pub exchanges : after ≡ before ++ pages_asked u kind 0 done
  pub memory : is ≡ with_told was told
  pub commands : commands_of told ≡ pages_told kind done
  pub small : skip ≤ count * most_elements

pub sofar_none : (u : UpstreamParts) (kind : Kind) (before : List Exchange) (was : Memory) → SoFar u kind before before was was 0 0
sofar_none u kind before was = record {
  done = [];
  told = [];
  going = going_first u kind;
  exchanges = sym (append-nil before);
  memory = sym (with_none was);
  commands = refl;
  small = omega arith;
}

-- one page more, which has elements
sofar_on : (u : UpstreamParts) (kind : Kind) (before after after' : List Exchange) (was is is' : Memory) (count skip : ℕ) (came : Came) (told : Told) (n : ℕ)
    → SoFar u kind before after was is count skip → count < most_pages → after' ≡ after ++ pages_asked u kind skip (came ∷ []) → is' ≡ with_told is (told ∷ [])
    → page_read kind came ≡ Filled told.0 n → n ≤ most_elements → SoFar u kind before after' was is' (count + 1) (skip + n)
sofar_on u kind before after after' was is is' count skip came told n so few asked told_is page size = record {
  done = so.done ++ came ∷ [];
  told = so.told ++ told ∷ [];
  going = going_on u kind count skip so.done came told.0 n so.going few page;
  exchanges = behind before _ _ so.exchanges asked (so.going.asked (came ∷ []));
  memory = heard was is is' so.told (told ∷ []) so.memory told_is;
  commands =
      map-append (λ (t : Told). t.0) so.told (told ∷ []) ∙ ap (λ cs. cs ++ told.0 ∷ []) so.commands
      ∙ ap (λ p. pages_told kind so.done ++ (command_of p ++ [])) (sym page) ∙ sym (so.going.told (came ∷ []));
  small = let s = so.small in omega (arith, s, size);
}

-- a refusal, behind these further pages, none of which was told
pub paged_cut : (u : UpstreamParts) (kind : Kind) (before after after' : List Exchange) (was is is' : Memory) (count skip : ℕ) (q : Result PageRead Refusal) (r : Result PollEnd Refusal)
    → SoFar u kind before after was is count skip → Asks after after' (AsksPage u kind skip q) → is' ≡ is → IsErr r
    → Goes before after' was is' (IsPaging u kind r)
paged_cut u kind before after after' was is is' count skip q r so a same err =
    let pages = a.holds.pages in
    let done = so.done ++ pages in record {
      asked = pages_asked u kind 0 done;
      told = so.told;
      exchanges = behind before _ _ so.exchanges (a.exchanges ∙ ap (λ xs. after ++ xs) a.holds.asked_is) (so.going.asked pages);
      memory = same ∙ so.memory;
      holds = record {
        pages = done;
        asked_is = refl;
        tells =
            when_err (λ x. TellsPages kind done x (commands_of so.told)) r err
            (λ e. (pages_told kind pages, so.going.told pages ∙ ap (λ cs. cs ++ pages_told kind pages) (sym so.commands)));
      };
    }

-- a page that none follows
paged_with : (u : UpstreamParts) (kind : Kind) (before after after' : List Exchange) (was is : Memory) (count skip : ℕ) (came : Came) (page : PageRead) (end : PollEnd)
    → SoFar u kind before after was is count skip → count < most_pages → after' ≡ after ++ pages_asked u kind skip (came ∷ [])
    → page_read kind came ≡ page → command_of page ≡ [] → ((on : Option PollEnd) → end_after page [] on ≡ Some end)
    → Goes before after' was is (IsPaging u kind (Ok end))
paged_with u kind before after after' was is count skip came page end so few asked read none ends = record {
  asked = pages_asked u kind 0 (so.done ++ came ∷ []);
  told = so.told;
  exchanges = behind before _ _ so.exchanges asked (so.going.asked (came ∷ []));
  memory = so.memory;
  holds = record {
    pages = so.done ++ came ∷ [];
    asked_is = refl;
    tells = (
      so.commands ∙ sym (append-nil (pages_told kind so.done))
          ∙ ap (λ cs. pages_told kind so.done ++ (cs ++ [])) (sym (ap command_of read ∙ none)) ∙ sym (so.going.told (came ∷ [])),
      ends_with u kind count skip so.done came end so.going few (λ on. ap (λ p. end_after p [] on) read ∙ ends on),
    );
  };
}

-- what was asked of one page that was read
asked_one : (u : UpstreamParts) (kind : Kind) (skip : ℕ) (after after' : List Exchange) (page : PageRead) (a : Asks after after' (AsksPage u kind skip (Ok page)))
    → after' ≡ after ++ pages_asked u kind skip (a.holds.reads.0 ∷ [])
asked_one u kind skip after after' page a = a.exchanges ∙ ap (λ xs. after ++ xs) (a.holds.asked_is ∙ ap (pages_asked u kind skip) a.holds.reads.1)

pub sofar_more : (u : UpstreamParts) (kind : Kind) (before after after' : List Exchange) (was is is' : Memory) (count skip : ℕ) (page : PageRead) (told : Told) (n : ℕ)
    → SoFar u kind before after was is count skip → count < most_pages → Asks after after' (AsksPage u kind skip (Ok page)) → page ≡ Filled told.0 n
    → elements page ≤ most_elements → is' ≡ with_told is (told ∷ []) → SoFar u kind before after' was is' (count + 1) (skip + n)
sofar_more u kind before after after' was is is' count skip page told n so few a filled size told_is =
    sofar_on u kind before after after' was is is' count skip a.holds.reads.0 told n so few (asked_one u kind skip after after' page a) told_is
    (sym a.holds.reads.2 ∙ filled) (subst (λ p. elements p ≤ most_elements) filled size)

-- an empty page
pub paged_whole : (u : UpstreamParts) (kind : Kind) (before after after' : List Exchange) (was is : Memory) (count skip : ℕ) (page : PageRead)
    → SoFar u kind before after was is count skip → count < most_pages → Asks after after' (AsksPage u kind skip (Ok page)) → page ≡ Empty
    → Goes before after' was is (IsPaging u kind (Ok Whole))
paged_whole u kind before after after' was is count skip page so few a empty =
    paged_with u kind before after after' was is count skip a.holds.reads.0 Empty Whole so few (asked_one u kind skip after after' page a)
    (sym a.holds.reads.2 ∙ empty) refl (λ on. refl)

-- a page that failed
pub paged_broken : (u : UpstreamParts) (kind : Kind) (before after after' : List Exchange) (was is : Memory) (count skip : ℕ) (page : PageRead)
    → SoFar u kind before after was is count skip → count < most_pages → Asks after after' (AsksPage u kind skip (Ok page)) → page ≡ Failed
    → Goes before after' was is (IsPaging u kind (Ok Broken))
paged_broken u kind before after after' was is count skip page so few a failed =
    paged_with u kind before after after' was is count skip a.holds.reads.0 Failed Broken so few (asked_one u kind skip after after' page a)
    (sym a.holds.reads.2 ∙ failed) refl (λ on. refl)

-- no page more may be asked for
pub paged_full : (u : UpstreamParts) (kind : Kind) (before after : List Exchange) (was is : Memory) (count skip : ℕ)
    → SoFar u kind before after was is count skip → count ≡ most_pages → Goes before after was is (IsPaging u kind (Ok Broken))
paged_full u kind before after was is count skip so full = record {
  asked = pages_asked u kind 0 so.done;
  told = so.told;
  exchanges = so.exchanges;
  memory = so.memory;
  holds = record { pages = so.done; asked_is = refl; tells = (so.commands, ends_full u kind count skip so.done so.going full) };
}

-- ---- one request

-- nothing is said of what was read after a refusal
pub reads_none : (kind : Kind) (r : Result PageRead Refusal) (pages : List Came) → IsErr r → ReadsPage kind r pages
reads_none kind r pages err = when_err (λ x. ReadsPage kind x pages) r err (λ e. tt)

-- one page was asked for
pub page_asked : (u : UpstreamParts) (kind : Kind) (skip : ℕ) (before after : List Exchange) (request : Request) (came : Came) (r : Result PageRead Refusal)
    → request ≡ to_utility (request_bytes (page_request u kind skip)) → after ≡ before ++ (request, came) ∷ [] → ReadsPage kind r (came ∷ [])
    → Asks before after (AsksPage u kind skip r)
page_asked u kind skip before after request came r is asked reads = record {
  asked = pages_asked u kind skip (came ∷ []);
  exchanges = asked ∙ ap (λ (it : Request). before ++ (it, came) ∷ []) is;
  holds = record { pages = came ∷ []; asked_is = refl; reads = reads };
}
