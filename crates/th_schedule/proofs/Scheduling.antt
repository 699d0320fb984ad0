-- The search finds a schedule, and where it finds none there is none.
use Rattle.std.proofs.Common.{◌≡◌, ℕ, zero, suc, ◌+◌, ◌-◌, ◌<◌, true, Bool, List, [], ◌∷◌, ◌++◌, length, map, Some, slice_get, refl, ap, subst, ◌∙◌, inl, inr, arith}
use Rattle.std.specs.List.{AllByRecursion}
use Rattle.std.specs.Option.{option_map}
use Rattle.std.specs.Prelude.{if◌then◌else◌}
use Rattle.std.proofs.lemmas.Bool.{false≢true}
use Rattle.std.proofs.lemmas.Option.{slice_get-map, slice_get_within}
use Rattle.th_log.specs.Audit.{Stands}
use Rattle.th_log.specs.History.{Piece}
use Rattle.th_log.specs.Outcome as log
use Rattle.th_registry.specs.declared.channel.Channel.TheVariants.{Broadcast, Watch}
use Rattle.th_registry.specs.History.{ChannelSegment}
use Rattle.th_registry.specs.Legal.{IsLegalSegment}
use Rattle.th_registry.specs.Receipts.{ChannelReceipt}
use Rattle.th_orders.specs.declared.rests.EventAt.{EventAt}
use Rattle.th_orders.specs.declared.search.Unordered.{Unordered}
use Rattle.th_orders.specs.declared.search.Unordered.TheVariants as Unordereds
use Rattle.th_orders.specs.Search.{IsUnordered}
use Rattle.th_orders.specs.Orders.{IsHeldUp, IsOrder, Nexts, Sessions}
use Rattle.th_schedule.specs.Hub.{behind, first_of}
use Rattle.th_schedule.specs.Schedule.{AreEntries, IsEntry, IsSchedule, IsStranger, IsStuck, IsUnscheduled, StandsIn, Told, event_of, events_of, place_of}
use Rattle.th_schedule.specs.declared.schedules.Unscheduled.{Unscheduled}
use Rattle.th_schedule.specs.declared.schedules.Unscheduled.TheVariants.{Stranger, HeldUp, Short}
use Rattle.th_schedule.specs.Strangers.{IsStrangerOrShort, unordered_of}
use Rattle.th_schedule.specs.Untold.{own, untold_from}
use Rattle.th_schedule.specs.Woven.{is_told, tells, is_same}
use Rattle.th_schedule.proofs.HubRuns.{legal-hub}
use Rattle.th_schedule.proofs.Passing.{AreWithin, at}
use Rattle.th_schedule.proofs.Telling.{or-true, same-is}
use Rattle.th_schedule.proofs.Weaving.{found, searched, stuck}

-- what stands in a segment is before its end
stands-within : {S C R : Type 0} (p : Piece S C R) (t : log.Told C R) → Stands p t → t.place < p.first + length p.entries
stands-within p t s = omega (arith, s.begun, slice_get_within p.entries (t.place - p.first) (t.call, t.reply) s.entry)

within-segment : (p : ChannelSegment) (t : ChannelReceipt) → StandsIn p t → place_of t < behind p
within-segment (Broadcast p) (Broadcast t) s = stands-within p t s
within-segment (Broadcast p) (Watch t) s = absurd s
within-segment (Watch p) (Broadcast t) s = absurd s
within-segment (Watch p) (Watch t) s = stands-within p t s

abbrev Before : List ChannelSegment → EventAt → Type 0
Before ps e = (m : ℕ) × (slice_get (map behind ps) e.topic ≡ Some m) × (e.place < m)

entry-inside : (ps : List ChannelSegment) (t : Told) → IsEntry ps t → Before ps (event_of t)
entry-inside ps t (p, at, s) = (behind p, slice_get-map behind ps t.0.0 ∙ ap (option_map behind) at, within-segment p t.1 s)

session-inside : (ps : List ChannelSegment) (s : List Told) (e : EventAt) → AllByRecursion (IsEntry ps) s →
    tells (map event_of s) e ≡ true → Before ps e
session-inside ps [] e h told = absurd (false≢true told)
session-inside ps (t ∷ s) e h told = elim (or-true (is_same (event_of t) e) (tells (map event_of s) e) told) as (λ _. Before ps e) [
  | inl q ↦ subst (Before ps) (same-is e (event_of t) q) (entry-inside ps t h.0)
  | inr q ↦ session-inside ps s e h.1 q
]

pub inside : (ps : List ChannelSegment) (ss : List (List Told)) → AreEntries ps ss →
    (e : EventAt) → is_told (events_of ss) e ≡ true → Before ps e
inside ps [] h e told = absurd (false≢true told)
inside ps (s ∷ ss) h e told = elim (or-true (tells (map event_of s) e) (is_told (events_of ss) e) told) as (λ _. Before ps e) [
  | inl q ↦ session-inside ps s e h.0 q
  | inr q ↦ inside ps ss h.1 e q
]

starts-within : (ps : List ChannelSegment) → AreWithin (map first_of ps) (map behind ps)
starts-within [] = tt
starts-within (Broadcast p ∷ ps) = (omega arith, starts-within ps)
starts-within (Watch p ∷ ps) = (omega arith, starts-within ps)

-- of events that are told alike
untold-same : (f g : EventAt → Bool) → ((e : EventAt) → f e ≡ g e) → (t n c : ℕ) → untold_from f t n c ≡ untold_from g t n c
untold-same f g same t n zero = refl
untold-same f g same t n (suc c) =
    ap (λ (l : List EventAt). if f (at t n) then l else at t n ∷ l) (untold-same f g same t (n + 1) c)
    ∙ ap (λ (b : Bool). if b then untold_from g t (n + 1) c else at t n ∷ untold_from g t (n + 1) c) (same (at t n))

own-same : (f g : EventAt → Bool) → ((e : EventAt) → f e ≡ g e) → (t : ℕ) (ns ms : Nexts) → own f t ns ms ≡ own g t ns ms
own-same f g same t [] ms = refl
own-same f g same t (n ∷ ns) [] = refl
own-same f g same t (n ∷ ns) (m ∷ ms) =
    ap (λ (s : List EventAt). s ∷ own f (t + 1) ns ms) (untold-same f g same t n (m - n))
    ∙ ap (λ (r : Sessions). untold_from g t n (m - n) ∷ r) (own-same f g same (t + 1) ns ms)

module _ (ps : List ChannelSegment) (ss : List (List Told)) (entries : AreEntries ps ss) where
  abbrev pub all_sessions : Sessions
  all_sessions = events_of ss ++ own (is_told (events_of ss)) 0 (map first_of ps) (map behind ps)

  -- the sessions that the search is given
  pub all-are : (given new : Sessions) (told : EventAt → Bool) → given ≡ events_of ss → ((e : EventAt) → told e ≡ is_told given e) →
      new ≡ given ++ own told 0 (map first_of ps) (map behind ps) → new ≡ all_sessions
  all-are given new told is same more =
      let alike = own-same told (is_told (events_of ss)) (λ e. same e ∙ ap (λ (s : Sessions). is_told s e) is) 0
      (map first_of ps) (map behind ps) in
      more ∙ ap (λ (s : Sessions). s ++ own told 0 (map first_of ps) (map behind ps)) is ∙ ap (λ (o : Sessions). events_of ss ++ o) alike

  pub scheduled : (es : List EventAt) → AllByRecursion IsLegalSegment ps → IsOrder (map first_of ps) all_sessions es → IsSchedule ps ss es
  scheduled es legal order =
      let f = found (events_of ss) (map behind ps) es (map first_of ps) (inside ps ss entries) (starts-within ps) order in
      record {
        receipts = entries;
        over = f.0;
        woven = f.1;
        nothing = f.2;
        legal = legal-hub (events_of ss) ps es (events_of ss) f.0 legal f.1;
      }

  held-up : (session : ℕ) (e : EventAt) → IsHeldUp (map first_of ps) all_sessions session e →
      IsStuck ps (events_of ss) session e × ((es : List EventAt) → IsSchedule ps ss es → ⊥)
  held-up session e up =
      let s = stuck (events_of ss) (map behind ps) (map first_of ps) session e (inside ps ss entries) (starts-within ps) up in (
        record {
          taken = s.taken;
          nexts = s.nexts;
          left = s.left;
          woven = s.woven;
          held = s.held;
          told = s.told;
          here = s.here;
          first = s.first;
        },
        λ es is. up.none es (searched (events_of ss) (map behind ps) es (map first_of ps) is.over is.woven is.nothing),
      )

all-middle : {X : Type 0} (P : X → Type 0) (xs : List X) (x : X) (ys : List X) → AllByRecursion P (xs ++ x ∷ ys) → P x
all-middle P [] x ys h = h.0
all-middle P (y ∷ xs) x ys h = all-middle P xs x ys h.1

-- with a receipt that is no entry there is none
pub none-strange : (ps : List ChannelSegment) (ss : List (List Told)) (session : ℕ) (e : EventAt) → IsStranger ps ss session e →
    (es : List EventAt) → IsSchedule ps ss es → ⊥
none-strange ps ss session e s es is =
    let all = subst (λ l. AllByRecursion (λ (d : List Told). AllByRecursion (IsEntry ps) d) l) s.here is.receipts in
    let one = all-middle (λ (d : List Told). AllByRecursion (IsEntry ps) d) s.earlier (s.before ++ s.stranger ∷ s.after) s.later all in
    s.bad (all-middle (IsEntry ps) s.before s.stranger s.after one)

pub unscheduled : (ps : List ChannelSegment) (ss : List (List Told)) (why : Unscheduled) → IsStrangerOrShort ps ss why →
    IsUnscheduled ps ss why
unscheduled ps ss (Stranger session topic place) s = (s, none-strange ps ss session (at topic place) s)
unscheduled ps ss (HeldUp session topic place) s = absurd s
unscheduled ps ss Short s = tt

-- why there is none, by why there is no order
pub unordered : (ps : List ChannelSegment) (ss : List (List Told)) (entries : AreEntries ps ss) (why : Unordered) →
    IsUnordered (map first_of ps) (all_sessions ps ss entries) why → IsUnscheduled ps ss (unordered_of why)
unordered ps ss entries (Unordereds.HeldUp session topic place) up = held-up ps ss entries session (at topic place) up
unordered ps ss entries Unordereds.Short up = tt
