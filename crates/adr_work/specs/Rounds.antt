-- What a round of polling asks and tells.
use Rattle.std.specs.Prelude.{◌≡◌, ℕ, ◌⊎◌, List, [], ◌∷◌, ◌++◌, Some, Result, Ok, Err}
use Rattle.adr_text.specs.declared.refusal.Refusal.{Refusal}
use Rattle.adr_objects.specs.declared.kind.Kind.{Kind}
use Rattle.adr_objects.specs.declared.kind.Kind.TheVariants.{Program, Event}
use Rattle.adr_state.specs.declared.keys.MirrorKey.{MirrorKey}
use Rattle.adr_queries.specs.declared.answer.Answer.{Answer}
use Rattle.adr_link.specs.Upstreams.{UpstreamParts}
use Rattle.adr_machine.specs.declared.command.Command.{Command}
use Rattle.adr_machine.specs.declared.command.Command.TheVariants.{ScanBegin, ScanEnd}
use Rattle.adr_work.specs.declared.page.PageRead.{PageRead}
use Rattle.adr_work.specs.declared.page.PollEnd.{PollEnd}
use Rattle.adr_work.specs.declared.page.PollEnd.TheVariants.{Whole, Broken}
use Rattle.adr_work.specs.Exchanges.{Came, Exchange}
use Rattle.adr_work.specs.Pages.{most_pages, page_read, pages_asked, pages_told, pages_end}
use Rattle.adr_work.specs.Probes.{Probe, probes_asked, probes_told, keys_of, keys_in}
use Rattle.adr_work.specs.Tellings.{Memory, Told, commands_of, with_told}

-- these are the first of all
abbrev pub AreFirstOf : {A : Type 0} → List A → List A → Type 0
AreFirstOf {A} first all = (rest : List A) × (all ≡ first ++ rest)

-- there were further exchanges, of which this is true
pub record Asks (before after : List Exchange) (P : List Exchange → Type 0) : Type 0 where
  pub asked : List Exchange
  pub exchanges : after ≡ before ++ asked
  pub holds : P asked

-- there were further exchanges and further commands were accepted, of which this is true
pub record Goes (before after : List Exchange) (was is : Memory) (P : List Exchange → List Told → Type 0) : Type 0 where
  pub asked : List Exchange
  pub told : List Told
  pub exchanges : after ≡ before ++ asked
  pub memory : is ≡ with_told was told
  pub holds : P asked told

-- ---- pages

-- what was read is what came as the one page that was asked for; nothing is said after a refusal
abbrev pub ReadsPage : Kind → Result PageRead Refusal → List Came → Type 0
ReadsPage kind (Ok page) pages = (came : Came) × (pages ≡ came ∷ []) × (page ≡ page_read kind came)
ReadsPage kind (Err refusal) pages = Unit {0}

-- one page was asked for, behind so many elements, or none where it was refused
pub record AsksPage (u : UpstreamParts) (kind : Kind) (skip : ℕ) (r : Result PageRead Refusal) (asked : List Exchange) : Type 0 where
  pub pages : List Came
  pub asked_is : asked ≡ pages_asked u kind skip pages
  pub reads : ReadsPage kind r pages

-- commands told of pages of a kind: all that they stand for, where the asking ended so; the first of them after a refusal
abbrev pub TellsPages : Kind → List Came → Result PollEnd Refusal → List Command → Type 0
TellsPages kind pages (Ok end) commands = (commands ≡ pages_told kind pages) × (pages_end kind most_pages pages ≡ Some end)
TellsPages kind pages (Err refusal) commands = AreFirstOf commands (pages_told kind pages)

-- the pages of a kind were asked for from the first on, and what they stand for was told
pub record IsPaging (u : UpstreamParts) (kind : Kind) (r : Result PollEnd Refusal) (asked : List Exchange) (told : List Told) : Type 0 where
  pub pages : List Came
  pub asked_is : asked ≡ pages_asked u kind 0 pages
  pub tells : TellsPages kind pages r (commands_of told)

-- the same of programs and then of events
abbrev pub both_asked : UpstreamParts → List Came → List Came → List Exchange
both_asked u programs events = pages_asked u Program 0 programs ++ pages_asked u Event 0 events

abbrev pub both_told : List Came → List Came → List Command
both_told programs events = pages_told Program programs ++ pages_told Event events

-- the asking ended so with the programs, or with the events, which are asked for where the programs were whole
abbrev pub BothEnd : List Came → List Came → PollEnd → Type 0
BothEnd programs events Whole = (pages_end Program most_pages programs ≡ Some Whole) × (pages_end Event most_pages events ≡ Some Whole)
BothEnd programs events Broken =
    ((pages_end Program most_pages programs ≡ Some Broken) × (events ≡ []))
    ⊎ ((pages_end Program most_pages programs ≡ Some Whole) × (pages_end Event most_pages events ≡ Some Broken))

abbrev pub TellsBoth : List Came → List Came → Result PollEnd Refusal → List Command → Type 0
TellsBoth programs events (Ok end) commands = (commands ≡ both_told programs events) × BothEnd programs events end
TellsBoth programs events (Err refusal) commands = AreFirstOf commands (both_told programs events)

-- the pages of programs and then of events were asked for, and what they stand for was told; the first of that, after
-- a refusal
pub record IsListing (u : UpstreamParts) (r : Result PollEnd Refusal) (asked : List Exchange) (told : List Told) : Type 0 where
  pub programs : List Came
  pub events : List Came
  pub asked_is : asked ≡ both_asked u programs events
  pub tells : TellsBoth programs events r (commands_of told)

-- ---- probes

-- a key was probed, or not where that was refused, and what came stands for was told; nothing was told after a refusal
abbrev pub TellsProbe : MirrorKey → List Probe → Result (Unit {0}) Refusal → List Command → Type 0
TellsProbe key probes (Ok _) commands = (commands ≡ probes_told probes) × (keys_of probes ≡ key ∷ [])
TellsProbe key probes (Err refusal) commands = (commands ≡ []) × AreFirstOf (keys_of probes) (key ∷ [])

-- a key was probed, and what came stands for was told; after a refusal nothing was told, and it may not be probed
pub record IsProbe (u : UpstreamParts) (key : MirrorKey) (r : Result (Unit {0}) Refusal) (asked : List Exchange) (told : List Told) : Type 0 where
  pub probes : List Probe
  pub asked_is : asked ≡ probes_asked u probes
  pub tells : TellsProbe key probes r (commands_of told)

-- commands told of probes of these keys: all that they stand for, of each key; the first of them after a refusal
abbrev pub TellsProbes : List MirrorKey → List Probe → Result (Unit {0}) Refusal → List Command → Type 0
TellsProbes keys probes (Ok _) commands = (commands ≡ probes_told probes) × (keys_of probes ≡ keys)
TellsProbes keys probes (Err refusal) commands = AreFirstOf commands (probes_told probes) × AreFirstOf (keys_of probes) keys

-- these keys were probed in turn, and what came stands for was told
pub record IsProbing (u : UpstreamParts) (keys : List MirrorKey) (r : Result (Unit {0}) Refusal) (asked : List Exchange) (told : List Told) : Type 0 where
  pub probes : List Probe
  pub asked_is : asked ≡ probes_asked u probes
  pub tells : TellsProbes keys probes r (commands_of told)

-- the end of the scan was told, each key that the answer to that lists was probed, and what came stands for was told
pub record EndsScan (u : UpstreamParts) (asked : List Exchange) (told : List Told) : Type 0 where
  pub missed : Answer
  pub probes : List Probe
  pub ended : List Told
  pub asked_is : asked ≡ probes_asked u probes
  pub told_is : told ≡ (ScanEnd, missed) ∷ ended
  pub keys_are : keys_of probes ≡ keys_in missed
  pub ended_is : commands_of ended ≡ probes_told probes

-- the first of this was told
pub record CutsEnd (u : UpstreamParts) (asked : List Exchange) (told : List Told) : Type 0 where
  pub probes : List Probe
  pub asked_is : asked ≡ probes_asked u probes
  pub tells : AreFirstOf (commands_of told) (ScanEnd ∷ probes_told probes)

-- the scan was ended, and the keys that its answer lists were probed; the first of that was told, after a refusal
abbrev pub IsEnding : UpstreamParts → Result (Unit {0}) Refusal → List Exchange → List Told → Type 0
IsEnding u (Ok ok) asked told = EndsScan u asked told
IsEnding u (Err refusal) asked told = CutsEnd u asked told

-- ---- a round

-- a round that saw all pages: what they stand for was told, the scan was ended, and the keys that the answer to that lists were probed
pub record IsWholeRound (u : UpstreamParts) (asked : List Exchange) (told : List Told) : Type 0 where
  pub programs : List Came
  pub events : List Came
  pub probes : List Probe
  pub begun : List Told
  pub missed : Answer
  pub ended : List Told
  pub asked_is : asked ≡ both_asked u programs events ++ probes_asked u probes
  pub told_is : told ≡ begun ++ (ScanEnd, missed) ∷ ended
  pub pages_are : BothEnd programs events Whole
  pub begun_is : commands_of begun ≡ ScanBegin ∷ both_told programs events
  pub keys_are : keys_of probes ≡ keys_in missed
  pub ended_is : commands_of ended ≡ probes_told probes

-- a round that did not see all pages: what came stands for was told, and the scan was not ended
pub record IsBrokenRound (u : UpstreamParts) (asked : List Exchange) (told : List Told) : Type 0 where
  pub programs : List Came
  pub events : List Came
  pub asked_is : asked ≡ both_asked u programs events
  pub told_is : commands_of told ≡ ScanBegin ∷ both_told programs events
  pub pages_are : BothEnd programs events Broken

-- a round that a refusal ended among the pages: the first of what these stand for was told, and the scan was not ended
pub record IsCutListing (u : UpstreamParts) (asked : List Exchange) (told : List Told) : Type 0 where
  pub programs : List Came
  pub events : List Came
  pub asked_is : asked ≡ both_asked u programs events
  pub told_is : AreFirstOf (commands_of told) (ScanBegin ∷ both_told programs events)

-- a round that a refusal ended behind all pages: the first of what a whole round tells was told
pub record IsCutRound (u : UpstreamParts) (asked : List Exchange) (told : List Told) : Type 0 where
  pub programs : List Came
  pub events : List Came
  pub probes : List Probe
  pub asked_is : asked ≡ both_asked u programs events ++ probes_asked u probes
  pub pages_are : BothEnd programs events Whole
  pub told_is : AreFirstOf (commands_of told) (ScanBegin ∷ both_told programs events ++ ScanEnd ∷ probes_told probes)

-- a round by how it ended: it saw all pages, or it did not, or a refusal ended it; the scan is ended behind all pages alone
abbrev pub IsRound : UpstreamParts → Result PollEnd Refusal → List Exchange → List Told → Type 0
IsRound u (Ok Whole) asked told = IsWholeRound u asked told
IsRound u (Ok Broken) asked told = IsBrokenRound u asked told
IsRound u (Err refusal) asked told = IsCutListing u asked told ⊎ IsCutRound u asked told
