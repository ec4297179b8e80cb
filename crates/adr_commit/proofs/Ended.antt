-- Where all that a command touched was visited, it is committed as the machine commits it.
use Rattle.std.proofs.Common.{◌≡◌, ◌≤◌, ◌+◌, ℕ, nat_lt, Bool, true, false, cond, List, [], ◌++◌, map, inl, inr, Ok, refl, sym, ap, subst, arith, ◌∙◌}
use Rattle.std.proofs.lemmas.Bool.{ltb-true}
use Rattle.std.proofs.lemmas.List.{append-nil, append_assoc}
use Rattle.sqlite.specs.State.{State}
use Rattle.adr_text.specs.declared.refusal.Refusal.{Refusal}
use Rattle.adr_text.specs.Refusals.{IsRefusalOf}
use Rattle.adr_delivery.specs.declared.entry.Entry.{Entry}
use Rattle.adr_delivery.specs.declared.outbox.Outbox.{Outbox}
use Rattle.adr_delivery.specs.Tallies.{most_tally, plus}
use Rattle.adr_state.specs.declared.base.Base.{Base}
use Rattle.adr_state.specs.declared.limits.Settings.{Settings}
use Rattle.adr_view.specs.Laws.{StandsInOrder}
use Rattle.adr_refresh.specs.Sources.{Source, RolledUp, source_cmp}
use Rattle.adr_refresh.proofs.Common.{IsStrictlySortedBy}
use Rattle.adr_refresh.specs.Touched.{upstream_event}
use Rattle.adr_kept_view.specs.Objects.{as_object}
use Rattle.adr_db.specs.declared.meta.Meta.{Meta}
use Rattle.adr_db.specs.Kept.{Kept, Keeps}
use Rattle.adr_db.specs.Bases.{Beside, kept_beside}
use Rattle.adr_db.specs.Images.{outbox_of}
use Rattle.adr_outbox.specs.Appended.{further}
use Rattle.adr_outbox.specs.Turned.{with_outbox}
use Rattle.adr_room.specs.Rooms.{AreAppended}
use Rattle.adr_touched.specs.declared.touched.Touched.{Touched}
use Rattle.adr_touched.specs.Touched.{sources_in}
use Rattle.adr_visit.specs.declared.visit.Visit.{Visit}
use Rattle.adr_told.specs.Commits.{IsAsComputed}
use Rattle.adr_told.proofs.Commits.{as_computed}
use Rattle.adr_room.specs.Rooms.{HaveCome}
use Rattle.adr_state.specs.declared.limits.Limits.{Limits}
use Rattle.adr_commit.specs.Commits.{IsEdited, IsCommitted, entries_told, outbox_told}
use Rattle.adr_commit.proofs.Sorted.{sorted_right}
use Rattle.std.specs.List.{All}
use Rattle.adr_objects.specs.declared.shown.Stamps.{Stamps}
use Rattle.adr_state.specs.declared.keys.ViewKey.{ViewKey}
use Rattle.adr_refresh.proofs.Common.{each_there}
use Rattle.adr_db.specs.Bases.{HoldsBeside}
use Rattle.adr_kept_view.specs.Refreshed.{as_shown, as_rolled_up}
use Rattle.adr_kept_base.proofs.OwnerLemmas.{as_it_changes}
use Rattle.adr_visit.specs.Visits.{Begins}
use Rattle.adr_told.specs.Laws.{IsUntouched}
use Rattle.adr_told.specs.Told.{object_entries, rollup_entries, shown_entries}
use Rattle.adr_told.proofs.Objects.{object_as_whole}
use Rattle.adr_told.proofs.RolledUp.{rollup_as_whole}
use Rattle.adr_told.proofs.Shown.{event_as_whole}
use Rattle.adr_told.proofs.Trails.{trail_as_whole}
use Rattle.adr_commit.proofs.Visited.{AsWhole, Goes, IsVisited, nothing_visited, owner, subs, then_visited}

-- none more are as many
pub plus_none : (n : ℕ) → n ≤ most_tally → plus n 0 ≡ n
plus_none n within = by (nat_lt most_tally (n + 0)) refl
  where
    by : (past : Bool) → nat_lt most_tally (n + 0) ≡ past → cond past most_tally (n + 0) ≡ n
    by false is = omega arith
    by true is = absurd (let over = ltb-true most_tally (n + 0) is in omega (arith, within, over))

module _ (settings : Settings) (before after : Base) (beside : Beside) (now : ℕ) (numbers : Meta) (touched : Touched) (it : IsEdited before after beside numbers touched) (stands : StandsInOrder after) where
  -- the kinds one behind the other
  abbrev pub in_turn : List Source
  in_turn = ((([] ++ map as_object.source touched.programs) ++ map upstream_event touched.events) ++ map as_object.source touched.reports) ++ map RolledUp touched.rollups

  abbrev ps : List Source
  ps = map as_object.source touched.programs

  abbrev es : List Source
  es = map upstream_event touched.events

  abbrev rs : List Source
  rs = map as_object.source touched.reports

  abbrev us : List Source
  us = map RolledUp touched.rollups

  -- each kind and those behind it stand in order
  pub all_in_order : IsStrictlySortedBy source_cmp (ps ++ (es ++ (rs ++ us)))
  all_in_order = subst (IsStrictlySortedBy source_cmp) (append_assoc (ps ++ es) rs us ∙ append_assoc ps es (rs ++ us)) it.stands.in_order

  pub from_events : IsStrictlySortedBy source_cmp (es ++ (rs ++ us))
  from_events = sorted_right source_cmp ps (es ++ (rs ++ us)) all_in_order

  pub from_reports : IsStrictlySortedBy source_cmp (rs ++ us)
  from_reports = sorted_right source_cmp es (rs ++ us) from_events

  pub rollups_last : IsStrictlySortedBy source_cmp (us ++ [])
  rollups_last = subst (IsStrictlySortedBy source_cmp) (sym (append-nil us)) (sorted_right source_cmp rs us from_reports)

  -- each kind is told as the machine tells it
  abbrev stamps : List (ViewKey × Stamps)
  stamps = beside.stamps

  abbrev its_owner : ℕ → ℕ
  its_owner = owner settings before after beside now numbers touched it stands

  objects_whole : AsWhole settings before after beside now numbers touched it stands as_object (λ subs old c. object_entries subs old c)
  objects_whole items rows there last end es many up were keeps untouched trail =
      trail_as_whole as_object (object_entries after.portfolio.subs) settings.client after.portfolio.subs its_owner before stamps after now stands
      (λ old rows there later cs so keeps untouched refreshed. object_as_whole settings.client after.portfolio.subs its_owner before stamps after now old rows there later cs it.stood stands keeps so untouched refreshed)
      items rows there last end es many up were keeps untouched trail

  events_whole : AsWhole settings before after beside now numbers touched it stands as_shown (λ subs id c. shown_entries subs id c)
  events_whole items rows there last end es many up were keeps untouched trail =
      let owns = (as_it_changes beside before after it.stood it.vens it.keeps).1 in
      trail_as_whole as_shown (shown_entries after.portfolio.subs) settings.client after.portfolio.subs its_owner before stamps after now stands
      (λ id rows there later cs so keeps untouched refreshed. event_as_whole settings.client after.portfolio.subs its_owner before stamps after now id rows there later cs it.stood stands owns (as_it_changes beside before after it.stood it.vens it.keeps).2 keeps untouched refreshed)
      items rows there last end es many up were keeps untouched trail

  rollups_whole : AsWhole settings before after beside now numbers touched it stands as_rolled_up (λ subs id c. rollup_entries settings.client id c)
  rollups_whole items rows there last end es many up were keeps untouched trail =
      trail_as_whole as_rolled_up (rollup_entries settings.client) settings.client after.portfolio.subs its_owner before stamps after now stands
      (λ id rows there later cs so keeps untouched refreshed. rollup_as_whole settings.client after.portfolio.subs its_owner before stamps after now id rows there later cs it.stood stands keeps untouched refreshed)
      items rows there last end es many up were keeps untouched trail

  -- all four kinds are visited, one behind the other
  module _ (v0 v1 v2 v3 v4 : Visit) (m1 m2 m3 m4 : Meta) (s0 s1 s2 s3 s4 : State) where
    pub all_visited : Begins settings.limits numbers (kept_beside beside after) v0 → HoldsBeside beside after s0
        → Goes settings before after beside now numbers touched it stands as_object (λ subs old c. object_entries subs old c) touched.programs v0 v1 numbers m1 s0 s1
        → Goes settings before after beside now numbers touched it stands as_shown (λ subs id c. shown_entries subs id c) touched.events v1 v2 m1 m2 s1 s2
        → Goes settings before after beside now numbers touched it stands as_object (λ subs old c. object_entries subs old c) touched.reports v2 v3 m2 m3 s2 s3
        → Goes settings before after beside now numbers touched it stands as_rolled_up (λ subs id c. rollup_entries settings.client id c) touched.rollups v3 v4 m3 m4 s3 s4
        → IsVisited settings before after beside now numbers touched it stands in_turn [] v4 m4 s4
    all_visited begins held programs events reports rollups =
        let none = nothing_visited settings before after beside now numbers touched it stands (ps ++ (es ++ (rs ++ us))) v0 s0 begins held in
        let one = then_visited settings before after beside now numbers touched it stands as_object (λ subs old c. object_entries subs old c) objects_whole [] (es ++ (rs ++ us)) touched.programs v0 v1 numbers m1 s0 s1 all_in_order it.stands.programs programs none in
        let two = then_visited settings before after beside now numbers touched it stands as_shown (λ subs id c. shown_entries subs id c) events_whole ps (rs ++ us) touched.events v1 v2 m1 m2 s1 s2 from_events (each_there (λ id. Unit {0}) touched.events (λ id there. tt)) events one in
        let three = then_visited settings before after beside now numbers touched it stands as_object (λ subs old c. object_entries subs old c) objects_whole (ps ++ es) us touched.reports v2 v3 m2 m3 s2 s3 from_reports it.stands.reports reports two in
        then_visited settings before after beside now numbers touched it stands as_rolled_up (λ subs id c. rollup_entries settings.client id c) rollups_whole (ps ++ es ++ rs) [] touched.rollups v3 v4 m3 m4 s3 s4 rollups_last (each_there (λ id. Unit {0}) touched.rollups (λ id there. tt)) rollups
        (record { last = three.last; end = three.end; entries = three.entries; told = three.told; at = three.at; untouched = subst (All (IsUntouched before stamps three.last three.end)) (sym (append-nil us)) three.untouched })

  module _ (visit : Visit) (then : Meta) (s : State) (was : IsVisited settings before after beside now numbers touched it stands in_turn [] visit then s) where
    abbrev entries : List Entry
    entries = entries_told settings.client before after beside.stamps now

    computed : IsAsComputed settings.client (subs settings before after beside now numbers touched it stands) before after now beside was.end was.entries visit.many
    computed =
        as_computed settings.client after.portfolio.subs before after now (sources_in touched) was.last beside was.end was.entries visit.many it.stood stands it.vens it.stands.in_order it.all it.keeps
        was.told

    -- what the tables keep then besides what is shown is as it was
    same_outbox : outbox_of numbers (kept_beside was.end after) ≡ outbox_of numbers (kept_beside beside after)
    same_outbox = ap (λ (b : Beside). outbox_of numbers (kept_beside b after)) computed.alone

    decided_so : further settings.limits numbers.serial was.entries (outbox_of numbers (kept_beside was.end after)) ≡ outbox_told settings before after beside now numbers
    decided_so =
        ap (λ (es : List Entry). further settings.limits numbers.serial es (outbox_of numbers (kept_beside was.end after))) computed.entries
        ∙ ap (further settings.limits numbers.serial entries) same_outbox

    told_so : IsAsComputed settings.client after.portfolio.subs before after now beside was.end entries visit.many
    told_so = subst (λ (es : List Entry). IsAsComputed settings.client after.portfolio.subs before after now beside was.end es visit.many) computed.entries computed

    -- nothing is appended where nothing is told
    none_told : numbers.counts.made ≤ most_tally → was.entries ≡ [] → outbox_told settings before after beside now numbers ≡ Ok (outbox_of numbers (kept_beside beside after), numbers.serial)
    none_told within none =
        let made = plus_none numbers.counts.made within in
        let serial : numbers.serial + 0 ≡ numbers.serial = omega arith in
        let o : Outbox = outbox_of numbers (kept_beside beside after) in
        ap (λ (es : List Entry). further settings.limits numbers.serial es o) (sym computed.entries ∙ none)
        ∙ λ i. Ok (record o { counts = record o.counts { made = made i } }, serial i)

    pub ended : numbers.counts.made ≤ most_tally → AreAppended settings.limits numbers then (kept_beside was.end after) was.entries s → IsCommitted settings now before after beside numbers then visit.many s
    ended within (inl none) = record {
      end = was.end;
      computed = told_so;
      outbox = outbox_of numbers (kept_beside beside after);
      serial = numbers.serial;
      decided = none_told within none.0;
      holds = subst (λ (o : Outbox). Keeps (with_outbox o (kept_beside was.end after)) s) same_outbox none.2;
      counted = none.1 ∙ (λ i. record numbers { pending = it.waits i });
    }
    ended within (inr some) = record {
      end = was.end;
      computed = told_so;
      outbox = some.outbox;
      serial = some.serial;
      decided = sym decided_so ∙ some.decided;
      holds = some.keeps;
      counted = some.counted;
    }

    -- a refusal of all that came is one of what is told
    pub refused : (refusal : Refusal) → ((limits : Limits) (first : Meta) (kept : Kept) (es : List Entry) → HaveCome limits first kept es visit.room → IsRefusalOf refusal (further limits first.serial es (outbox_of first kept)))
        → IsRefusalOf refusal (outbox_told settings before after beside now numbers)
    refused refusal refuses = subst (IsRefusalOf refusal) decided_so (refuses settings.limits numbers (kept_beside was.end after) was.entries was.at.come.come)
