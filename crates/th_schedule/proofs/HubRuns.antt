-- An order that takes each topic's entries in turn is a run of the hub.
use Rattle.std.proofs.Common.{◌≡◌, ℕ, zero, suc, ◌+◌, ◌-◌, ◌<◌, ◌≤◌, List, [], ◌∷◌, length, map, set, drop, Some, slice_get, refl, sym, ap, subst, ◌∙◌, arith}
use Rattle.std.specs.List.{AllByRecursion}
use Rattle.std.specs.Option.{option_map}
use Rattle.std.proofs.lemmas.Option.{none-some, same_Some}
use Rattle.th_log.specs.History.{IsLegal, IsRun, Machine, Piece, end_of}
use Rattle.th_log.specs.Machines as machines
use Rattle.th_registry.specs.declared.channel.Channel.TheVariants.{Broadcast, Watch}
use Rattle.th_registry.specs.History.{ChannelSegment}
use Rattle.th_registry.specs.Legal.{IsLegalSegment}
use Rattle.th_orders.specs.declared.rests.EventAt.{EventAt}
use Rattle.th_orders.specs.Orders.{Nexts, Sessions, advanced}
use Rattle.th_schedule.specs.Hub.{Answers, Entry, Happens, IsHubRun, IsLegalHub, Shown, State, behind, entry_at, first_of, last_of, see, start_of, watch}
use Rattle.th_schedule.specs.Woven.{Weaves}
use Rattle.th_schedule.proofs.Weaving.{weaves-more}
use Rattle.th_orders.proofs.Greedy.{raised}

-- a list from a number on, where there is one there
drop-some : {X : Type 0} (xs : List X) (k : ℕ) → k < length xs → (x : X) × (slice_get xs k ≡ Some x) × (drop k xs ≡ (x ∷ drop (suc k) xs))
drop-some [] k lt = absurd (omega (arith, lt))
drop-some (x ∷ xs) zero lt = (x, refl, refl)
drop-some (x ∷ xs) (suc k) lt = drop-some xs k (omega (arith, lt))

drop-all : {X : Type 0} (xs : List X) (k : ℕ) → length xs ≤ k → drop k xs ≡ []
drop-all [] zero le = refl
drop-all [] (suc k) le = refl
drop-all (x ∷ xs) zero le = absurd (omega (arith, le))
drop-all (x ∷ xs) (suc k) le = drop-all xs k (omega (arith, le))

-- a channel stands before the entry at a place, and what is left is its machine's to the end
record Reaches {E S C R : Type 0} (m : Machine E S C R) (n : ℕ) (e : E) (p : Piece S C R) : Type 0 where
  k : ℕ
  place : n ≡ p.first + k
  run : IsRun m e (drop k p.entries)
  end : m.see (end_of m e (drop k p.entries)) ≡ p.last

record Steps {E S C R : Type 0} (m : Machine E S C R) (n : ℕ) (e : E) (p : Piece S C R) : Type 0 where
  x : C × R
  here : slice_get p.entries (n - p.first) ≡ Some x
  run : IsRun m e (x ∷ [])
  after : Reaches m (n + 1) (end_of m e (x ∷ [])) p

steps : {E S C R : Type 0} (m : Machine E S C R) (n : ℕ) (e : E) (p : Piece S C R) → Reaches m n e p → n < p.first + length p.entries →
    Steps m n e p
steps {E} {S} {C} {R} m n e p r lt =
    let d = drop-some p.entries r.k (omega (arith, r.place, lt)) in
    let number : n - p.first ≡ r.k = omega (arith, r.place) in
    let run = subst (λ (l : List (C × R)). IsRun m e l) d.2 r.run in
    record {
      x = d.0;
      here = ap (slice_get p.entries) number ∙ d.1;
      run = (run.0, run.1, tt);
      after = record {
        k = suc r.k;
        place = omega (arith, r.place);
        run = run.2;
        end = ap (λ (l : List (C × R)). m.see (end_of m e l)) (sym d.2) ∙ r.end;
      };
    }

starts : {E S C R : Type 0} (m : Machine E S C R) (ok : S → Type 0) (p : Piece S C R) → IsLegal m ok p →
    Reaches m p.first (m.whole p.start) p
starts m ok p l = record { k = 0; place = omega arith; run = l.run; end = l.end }

ends : {E S C R : Type 0} (m : Machine E S C R) (e : E) (p : Piece S C R) → Reaches m (p.first + length p.entries) e p → m.see e ≡ p.last
ends {E} {S} {C} {R} m e p r =
    let none = drop-all p.entries r.k (omega (arith, r.place)) in
    ap (λ (l : List (C × R)). m.see (end_of m e l)) (sym none) ∙ r.end

-- of a channel of either kind
abbrev ReachesIn : ℕ → State → ChannelSegment → Type 0
ReachesIn n (Broadcast e) (Broadcast p) = Reaches machines.broadcast n e p
ReachesIn n (Broadcast e) (Watch p) = ⊥
ReachesIn n (Watch e) (Broadcast p) = ⊥
ReachesIn n (Watch e) (Watch p) = Reaches watch n e p

record StepsIn (n : ℕ) (old : State) (p : ChannelSegment) : Type 0 where
  entry : Entry
  new : State
  here : entry_at p n ≡ Some entry
  answers : Answers old entry new
  after : ReachesIn (n + 1) new p

steps-in : (n : ℕ) (old : State) (p : ChannelSegment) → ReachesIn n old p → n < behind p → StepsIn n old p
steps-in n (Broadcast e) (Broadcast p) r lt =
    let s = steps machines.broadcast n e p r lt in
    record {
      entry = Broadcast s.x;
      new = Broadcast (end_of machines.broadcast e (s.x ∷ []));
      here = ap (option_map (λ x. Broadcast x)) s.here;
      answers = (s.run, refl);
      after = s.after;
    }
steps-in n (Broadcast e) (Watch p) r lt = absurd r
steps-in n (Watch e) (Broadcast p) r lt = absurd r
steps-in n (Watch e) (Watch p) r lt =
    let s = steps watch n e p r lt in
    record {
      entry = Watch s.x;
      new = Watch (end_of watch e (s.x ∷ []));
      here = ap (option_map (λ x. Watch x)) s.here;
      answers = (s.run, refl);
      after = s.after;
    }

-- of all topics
abbrev AllReach : Nexts → List State → List ChannelSegment → Type 0
AllReach [] [] [] = Unit {0}
AllReach (n ∷ ns) (e ∷ es) (p ∷ ps) = ReachesIn n e p × AllReach ns es ps
AllReach ns es ps = ⊥

record StepsAt (ns : Nexts) (hub : List State) (ps : List ChannelSegment) (t n : ℕ) : Type 0 where
  segment : ChannelSegment
  old : State
  topic : slice_get ps t ≡ Some segment
  channel : slice_get hub t ≡ Some old
  steps : StepsIn n old segment
  after : AllReach (advanced ns t) (set hub t steps.new) ps

steps-at : (ns : Nexts) (hub : List State) (ps : List ChannelSegment) (t n m : ℕ) → AllReach ns hub ps → slice_get ns t ≡ Some n →
    slice_get (map behind ps) t ≡ Some m → n < m → StepsAt ns hub ps t n
steps-at [] hub ps t n m r a b lt = absurd (none-some n a)
steps-at (x ∷ ns) [] ps t n m r a b lt = absurd r
steps-at (x ∷ ns) (e ∷ hub) [] t n m r a b lt = absurd r
steps-at (x ∷ ns) (e ∷ hub) (p ∷ ps) zero n m r a b lt =
    let x-is = same_Some x n a in
    let s = steps-in n e p (subst (λ (i : ℕ). ReachesIn i e p) x-is r.0) (omega (arith, same_Some (behind p) m b, lt)) in
    record {
      segment = p;
      old = e;
      topic = refl;
      channel = refl;
      steps = s;
      after = (subst (λ (i : ℕ). ReachesIn (i + 1) s.new p) (sym x-is) s.after, r.1);
    }
steps-at (x ∷ ns) (e ∷ hub) (p ∷ ps) (suc t) n m r a b lt =
    let s = steps-at ns hub ps t n m r.1 a b lt in
    record { segment = s.segment; old = s.old; topic = s.topic; channel = s.channel; steps = s.steps; after = (r.0, s.after) }

hub-run : (all : Sessions) (ps : List ChannelSegment) (es : List EventAt) (c : Nexts) (a : Sessions) (c' : Nexts) (a' : Sessions)
    (hub : List State) → c' ≡ map behind ps → Weaves all c a es c' a' → AllReach c hub ps →
    (hub' : List State) × IsHubRun ps hub es hub' × AllReach c' hub' ps
hub-run all ps [] c a c' a' hub end w r = (hub, refl, subst (λ (d : Nexts). AllReach d hub ps) (sym w.0) r)
hub-run all ps (e ∷ es) c a c' a' hub end (mid, pass, next, rest) r =
    let past = weaves-more all es (advanced c e.topic) mid c' a' e.topic (e.place + 1) rest (raised c e.topic e.place next) in
    let s = steps-at c hub ps e.topic e.place past.0 r next (ap (λ (d : Nexts). slice_get d e.topic) (sym end) ∙ past.1)
    (omega (arith, past.2)) in
    let more = hub-run all ps es (advanced c e.topic) mid c' a' (set hub e.topic s.steps.new) end rest s.after in
    let now : Happens ps hub e (set hub e.topic s.steps.new) = record {
      segment = s.segment;
      entry = s.steps.entry;
      old = s.old;
      new = s.steps.new;
      topic = s.topic;
      here = s.steps.here;
      channel = s.channel;
      answers = s.steps.answers;
      after = refl;
    } in
    (more.0, (set hub e.topic s.steps.new, now, more.1), more.2)

hub-starts : (ps : List ChannelSegment) → AllByRecursion IsLegalSegment ps → AllReach (map first_of ps) (map start_of ps) ps
hub-starts [] h = tt
hub-starts (Broadcast p ∷ ps) h = (starts machines.broadcast _ p h.0, hub-starts ps h.1)
hub-starts (Watch p ∷ ps) h = (starts watch _ p h.0, hub-starts ps h.1)

hub-ends : (ps : List ChannelSegment) (hub : List State) → AllReach (map behind ps) hub ps → map see hub ≡ map last_of ps
hub-ends [] [] r = refl
hub-ends [] (e ∷ hub) r = absurd r
hub-ends (p ∷ ps) [] r = absurd r
hub-ends (Broadcast p ∷ ps) (Broadcast e ∷ hub) r =
    ap (λ s. (Broadcast s ∷ map see hub)) (ends machines.broadcast e p r.0)
    ∙ ap (λ (l : List Shown). Broadcast p.last ∷ l) (hub-ends ps hub r.1)
hub-ends (Broadcast p ∷ ps) (Watch e ∷ hub) r = absurd r.0
hub-ends (Watch p ∷ ps) (Broadcast e ∷ hub) r = absurd r.0
hub-ends (Watch p ∷ ps) (Watch e ∷ hub) r =
    ap (λ s. (Watch s ∷ map see hub)) (ends watch e p r.0) ∙ ap (λ (l : List Shown). Watch p.last ∷ l) (hub-ends ps hub r.1)

pub legal-hub : (all : Sessions) (ps : List ChannelSegment) (es : List EventAt) (a a' : Sessions) → AllByRecursion IsLegalSegment ps →
    Weaves all (map first_of ps) a es (map behind ps) a' → IsLegalHub ps es
legal-hub all ps es a a' legal w =
    let r = hub-run all ps es (map first_of ps) a (map behind ps) a' (map start_of ps) refl w (hub-starts ps legal) in
    (r.0, r.1, hub-ends ps r.0 r.2)
