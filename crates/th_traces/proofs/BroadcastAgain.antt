-- The lines of a broadcast picture are read as that picture.
use Rattle.std.proofs.Common.{◌≡◌, inl, inr, ℕ, zero, suc, ◌+◌, ◌-◌, ◌*◌, ◌<◌, ◌≤◌, ◌^◌, Bool, true, false, List, [], ◌∷◌, ◌++◌, length, map, refl, sym, ap, ◌∙◌, Option, Some, None, subst, cond, arith, append_assoc, append-nil, length-append}
use Rattle.std.specs.Prelude.{codes, nat_le, ◌==◌}
use Rattle.std.specs.Option.{option_map}
use Rattle.std.specs.Fmt.{decimal}
use Rattle.std.specs.List.{AllByRecursion}
use Rattle.std.specs.Map.{keys_of}
use Rattle.std.proofs.lemmas.Bool.{cases_lt, eq-eqb, le-leb, lt-leb, lt-ltb}
use Rattle.std.proofs.lemmas.Nat.{pow_pos}
use Rattle.std.proofs.Math.Pow.{pow_mono}
use Rattle.std.proofs.Math.Nat.{pow-succ'}
use Rattle.th_model.specs.BroadcastPicture.{IsSound}
use Rattle.th_model.specs.Handles.{AreHandles, is_sender}
use Rattle.th_model.specs.Limits.{IsCapacity, capacity_of, doubled}
use Rattle.th_model.specs.Places.{ArePlaces, Places, low_of}
use Rattle.th_model.proofs.HandleLemmas.{with_sender-new}
use Rattle.th_lines.specs.Commands.{IsValue}
use Rattle.th_lines.proofs.Grammar.{number_last-again, number_then-again}
use Rattle.th_lines.proofs.Numbers.{and_both}
use Rattle.th_traces.specs.declared.head.Head.TheVariants as head
use Rattle.th_traces.specs.declared.head.Version.{Version}
use Rattle.th_traces.specs.declared.head.Version.TheVariants.{One, Two}
use Rattle.th_traces.specs.declared.picture.Picture.TheVariants as picture
use Rattle.th_traces.specs.declared.place.Place.{Place}
use Rattle.th_traces.specs.declared.place.Place.TheVariants.{Nothing, Headed, InBroadcast}
use Rattle.th_lines.specs.Fields.{Rest, number_last, number_then}
use Rattle.th_traces.specs.Broadcast.{standing, told}
use Rattle.th_traces.specs.BroadcastDrafts.{Drawn, body, handles, has_values, is_whole, may_start, parts, takes_value, with_handles, with_value}
use Rattle.th_traces.specs.Drafts.{More, Tells, Whole, allowed}
use Rattle.th_traces.specs.LiveHandles.{live, next_last, receiver_fields, takes_receiver, takes_sender, with_rx, with_tx}
use Rattle.th_traces.specs.Pictures.{Begun, Next, On, broadcast_next, goes_on, is_capacity, kinds, leads, step, versions}
use Rattle.th_traces.specs.Spelled.{Bytes, kept_line, line, picture_lines, receiver_line, sender_line, start_line}
use Rattle.th_traces.specs.Tables.{IsNumber}
use Rattle.th_traces.specs.Versions.{digit}
use Rattle.th_traces.proofs.Further.{entry-last, is_next, keys-more, not_false}

module _ (version : Version) (c low tail next : ℕ) where
  abbrev draft : List Bytes → Places → List ℕ → Drawn
  draft kept places senders = parts c low tail kept (live senders places next)

  abbrev at : List Bytes → Places → List ℕ → Place
  at kept places senders = InBroadcast version (draft kept places senders)

  abbrev leads_on : Drawn → Option (Tells Drawn) → Option Next
  leads_on p told = option_map (broadcast_next version p) told

  keep-step : (done : List Bytes) (v : Bytes) → IsValue v → length done < tail - low →
      step (at done [] []) (kept_line v) ≡ Some (On (at (done ++ v ∷ []) [] []))
  unfolding step body
  keep-step done v h few =
      let p = draft done [] [] in
      ap (λ (b : Bool). leads_on p (allowed (λ (x : Bytes). takes_value p) (λ x. More (with_value p x)) (cond b (Some v) None))) h
      ∙ ap (λ (b : Bool). leads_on p (cond b (Some (More (with_value p v))) None)) (lt-ltb (length done) (tail - low) few)

  sender-step : (kept : List Bytes) (done : List ℕ) (tx : ℕ) → IsNumber tx →
      takes_sender {X = ℕ} (has_values (draft kept [] done)) (live done [] next) tx ≡ true → AllByRecursion (λ x. x < tx) done →
      step (at kept [] done) (sender_line tx) ≡ Some (On (at kept [] (done ++ tx ∷ [])))
  unfolding step body
  sender-step kept done tx small may top =
      let p = draft kept [] done in
      ap (λ (o : Option ℕ). leads_on p
      (allowed (takes_sender (has_values p) (handles p)) (λ x. More (with_handles p (with_tx (handles p) x))) o))
      (number_last-again (λ (n : ℕ). n) tx small)
      ∙ ap (λ (b : Bool). leads_on p (cond b (Some (More (with_handles p (with_tx (handles p) tx)))) None)) may
      ∙ ap (λ (ks : List ℕ). Some (On (at kept [] ks))) (with_sender-new done tx top)

  receiver-step : (kept : List Bytes) (senders : List ℕ) (done : Places) (rx i : ℕ) → IsNumber rx → IsNumber i → nat_le i tail ≡ true →
      takes_receiver (has_values (draft kept done senders)) (live senders done next) rx ≡ true →
      AllByRecursion (λ x. x < rx) (keys_of done) →
      step (at kept done senders) (receiver_line (standing (rx, i))) ≡ Some (On (at kept (done ++ (rx, i) ∷ []) senders))
  unfolding step body
  receiver-step kept senders done rx i small fits within may top =
      let p = draft kept done senders in
      let pair : ℕ → ℕ → ℕ × ℕ = λ n m. (n, m) in
      let read = number_then-again (λ (n : ℕ). number_last (pair n)) rx (Some (decimal i)) small ∙ number_last-again (pair rx) i fits in
      let tells : Option (ℕ × ℕ) → Option Next =
      λ fields. leads_on p (receiver_fields (with_handles p) (has_values p) (handles p) fields) in
      ap (λ (o : Option (ℕ × ℕ)). tells (allowed (λ (r : ℕ × ℕ). nat_le r.1 tail) (λ r. r) o)) read
      ∙ ap (λ (b : Bool). tells (cond b (Some (pair rx i)) None)) within
      ∙ ap (λ (b : Bool). leads_on p (cond b (Some (More (with_handles p (with_rx (handles p) (pair rx i))))) None)) may
      ∙ ap (λ (ps : Places). Some (On (at kept ps senders))) (entry-last done rx i top)

  begin-step : (kept : List Bytes) (places : Places) (senders : List ℕ) → is_whole (draft kept places senders) ≡ true →
      step (at kept places senders) (codes "BEGIN") ≡ Some (Begun (head.Broadcast version) (picture.Broadcast (draft kept places senders)))
  unfolding step body
  begin-step kept places senders may =
      let p = draft kept places senders in
      ap (λ (b : Bool). leads_on p (cond b (Some Whole) None)) may

  keeps : (done todo : List Bytes) (rest : List Bytes) → AllByRecursion IsValue todo → length done + length todo ≤ tail - low →
      leads (at done [] []) (map kept_line todo ++ rest) ≡ leads (at (done ++ todo) [] []) rest
  keeps done [] rest h few = ap (λ (l : List Bytes). leads (at l [] []) rest) (sym (append-nil done))
  keeps done (v ∷ vs) rest h few = ap (λ (o : Option Next). goes_on o (map kept_line vs ++ rest) (λ n. leads n (map kept_line vs ++ rest)))
      (keep-step done v h.0 (omega arith))
      ∙ keeps (done ++ v ∷ []) vs rest h.1 (omega (arith, length-append done (v ∷ [])))
      ∙ ap (λ (l : List Bytes). leads (at l [] []) rest) (append_assoc done (v ∷ []) vs)

  module _ (fits : next < 2 ^ 64) (kept : List Bytes) (filled : (length kept == tail - low) ≡ true) where
    txs : (done todo : List ℕ) (rest : List Bytes) → AreHandles next (done ++ todo) →
        leads (at kept [] done) (map sender_line todo ++ rest) ≡ leads (at kept [] (done ++ todo)) rest
    txs done [] rest h = ap (λ (l : List ℕ). leads (at kept [] l) rest) (sym (append-nil done))
    txs done (x ∷ xs) rest h =
        let n = is_next next done x xs h in
        let may : takes_sender {X = ℕ} (has_values (draft kept [] done)) (live done [] next) x ≡ true = and_both _ _ filled n.0 in
        ap (λ (o : Option Next). goes_on o (map sender_line xs ++ rest) (λ n. leads n (map sender_line xs ++ rest)))
        (sender-step kept done x (omega (arith, n.2, fits)) may n.1)
        ∙ txs (done ++ x ∷ []) xs rest (subst (AreHandles next) (sym (append_assoc done (x ∷ []) xs)) h)
        ∙ ap (λ (l : List ℕ). leads (at kept [] l) rest) (append_assoc done (x ∷ []) xs)

    rxs : (tail < 2 ^ 64) → (senders : List ℕ) (done todo : Places) (rest : List Bytes) → AreHandles next (keys_of (done ++ todo)) →
        AllByRecursion (λ k. is_sender senders k ≡ false) (keys_of todo) → ArePlaces tail todo →
        leads (at kept done senders) (map receiver_line (map standing todo) ++ rest) ≡ leads (at kept (done ++ todo) senders) rest
    rxs small senders done [] rest h free within = ap (λ (l : Places). leads (at kept l senders) rest) (sym (append-nil done))
    rxs small senders done (x ∷ xs) rest h free within =
        let keys = keys-more done x xs in
        let n = is_next next (keys_of done) x.0 (keys_of xs) (subst (AreHandles next) keys h) in
        let may : takes_receiver (has_values (draft kept done senders)) (live senders done next) x.0 ≡ true =
        and_both _ _ filled (and_both _ _ n.0 (not_false _ free.0)) in
        ap (λ (o : Option Next). goes_on o (map receiver_line (map standing xs) ++ rest)
        (λ n. leads n (map receiver_line (map standing xs) ++ rest)))
        (receiver-step kept senders done x.0 x.1 (omega (arith, n.2, fits)) (omega (arith, within.0, small))
        (le-leb x.1 tail within.0) may n.1)
        ∙ rxs small senders (done ++ x ∷ []) xs rest
        (subst (λ (l : Places). AreHandles next (keys_of l)) (sym (append_assoc done (x ∷ []) xs)) h) free.1 within.1
        ∙ ap (λ (l : Places). leads (at kept l senders) rest) (append_assoc done (x ∷ []) xs)

-- the doubling stops at the power of two that is asked for
doubled-own : (k j n : ℕ) → n ≤ k → doubled k (2 ^ j) (2 ^ (j + n)) ≡ 2 ^ (j + n)
doubled-own zero j n h = let e : j ≡ j + n = omega arith in ap (λ (m : ℕ). 2 ^ m) e
doubled-own (suc k) j zero h =
    let e : j + 0 ≡ j = omega arith in
    let t = le-leb (2 ^ j) (2 ^ j) (omega arith) in
    subst (λ (m : ℕ). cond (nat_le (2 ^ m) (2 ^ j)) (2 ^ j) (doubled k (2 * 2 ^ j) (2 ^ m)) ≡ 2 ^ m) (sym e) (rw t refl)
doubled-own (suc k) j (suc n) h =
    let e : j + suc n ≡ suc j + n = omega arith in
    let up : suc j ≤ suc j + n = omega arith in
    let more : 2 ^ suc j ≤ 2 ^ (suc j + n) = pow_mono up in
    let two : 2 ^ suc j ≡ 2 * 2 ^ j = pow-succ' 2 j in
    let some : 1 ≤ 2 ^ j = pow_pos j in
    let over : nat_le (2 ^ (suc j + n)) (2 ^ j) ≡ false = lt-leb _ _ (omega (arith, more, two, some)) in
    let on : doubled k (2 ^ suc j) (2 ^ (suc j + n)) ≡ 2 ^ (suc j + n) = doubled-own k (suc j) n (omega (arith, h)) in
    subst (λ (m : ℕ). cond (nat_le (2 ^ m) (2 ^ j)) (2 ^ j) (doubled k (2 * 2 ^ j) (2 ^ m)) ≡ 2 ^ m) (sym e)
    (rw over (subst (λ (d : ℕ). doubled k d (2 ^ (suc j + n)) ≡ 2 ^ (suc j + n)) two on))

own : (c : ℕ) → IsCapacity c → is_capacity c ≡ true
unfolding capacity_of
own c h =
    let k = h.0.0 in
    let few : k ≤ 16 = elim (cases_lt k 17) [
      | inl low ↦ omega (arith, low)
      | inr high ↦ (let m : 2 ^ 17 ≤ 2 ^ k = pow_mono high in absurd (omega (arith, h.0.1, m, h.2)))
    ] in
    let none : 0 + k ≡ k = omega arith in
    let power : doubled 16 1 (2 ^ k) ≡ 2 ^ k = subst (λ (m : ℕ). doubled 16 1 (2 ^ m) ≡ 2 ^ m) none (doubled-own 16 0 k few) in
    let same : doubled 16 1 c ≡ c = subst (λ (m : ℕ). doubled 16 1 m ≡ m) (sym h.0.1) power in
    let some = lt-ltb 0 c h.1 in
    let within = le-leb c 65536 h.2 in
    rw (some, within) (eq-eqb (doubled 16 1 c) c same)

head-step : (version : Version) (c : ℕ) → IsCapacity c →
    step Nothing (line (codes "TRACE" ∷ digit version ∷ codes "B" ∷ decimal c ∷ [])) ≡ Some (On (Headed version c))
unfolding step versions kinds
head-step One c h =
    ap (λ (o : Option ℕ). option_map On (allowed is_capacity (Headed One) o)) (number_last-again (λ (n : ℕ). n) c (omega (arith, h.2)))
    ∙ ap (λ (b : Bool). option_map On (cond b (Some (Headed One c)) None)) (own c h)
head-step Two c h =
    ap (λ (o : Option ℕ). option_map On (allowed is_capacity (Headed Two) o)) (number_last-again (λ (n : ℕ). n) c (omega (arith, h.2)))
    ∙ ap (λ (b : Bool). option_map On (cond b (Some (Headed Two c)) None)) (own c h)

abbrev starting : ℕ → Option (ℕ × ℕ × ℕ) → Option Drawn
starting c fields = allowed (λ (s : ℕ × ℕ × ℕ). may_start c s.0 s.1 s.2) (λ s. parts c s.0 s.1 [] (live [] [] s.2)) fields

start-step : (version : Version) (c low tail next : ℕ) → IsNumber low → IsNumber tail → IsNumber next → may_start c low tail next ≡ true →
    step (Headed version c) (line (codes "AT" ∷ decimal low ∷ decimal tail ∷ codes "NEXT" ∷ decimal next ∷ []))
    ≡ Some (On (at version c low tail next [] [] []))
unfolding step
start-step version c low tail next l t n may =
    let triple : ℕ → ℕ → ℕ → ℕ × ℕ × ℕ = λ a b d. (a, b, d) in
    let last : ℕ → ℕ → Rest → Option (ℕ × ℕ × ℕ) = λ a b rest. option_map (triple a b) (next_last rest) in
    let read = number_then-again (λ (a : ℕ). number_then (last a)) low (Some (decimal tail ++ 32 ∷ (codes "NEXT" ++ 32 ∷ decimal next))) l
    ∙ number_then-again (last low) tail (Some (codes "NEXT" ++ 32 ∷ decimal next)) t
    ∙ ap (option_map (triple low tail)) (number_last-again (λ (d : ℕ). d) next n) in
    ap (λ (o : Option (ℕ × ℕ × ℕ)). option_map On (option_map (InBroadcast version) (starting c o))) read
    ∙ ap (λ (b : Bool). option_map On (option_map (InBroadcast version) (cond b (Some (parts c low tail [] (live [] [] next))) None))) may

-- the lines of a sound picture lead to that picture
pub broadcast-again : (version : Version) (p : Drawn) → IsSound p → AllByRecursion IsValue p.window.kept →
    leads Nothing (picture_lines (told version p)) ≡ Some (Begun (head.Broadcast version) (picture.Broadcast p))
unfolding low_of
broadcast-again version p s values =
    let w = p.window in
    let low : w.low ≤ w.tail = omega (arith, s.window.kept) in
    let few : w.tail - w.low ≤ w.capacity = omega (arith, s.window.low) in
    let filled : (length w.kept == w.tail - w.low) ≡ true = eq-eqb (length w.kept) (w.tail - w.low) (omega (arith, s.window.kept)) in
    let may : may_start w.capacity w.low w.tail p.next ≡ true =
    and_both _ _ (le-leb w.low w.tail low) (and_both _ _ (le-leb (w.tail - w.low) w.capacity few) (lt-ltb 0 p.next s.handles.first)) in
    let whole : is_whole p ≡ true = and_both _ _ filled (eq-eqb w.low (low_of w.tail w.capacity w.places) s.window.low) in
    let fits = s.handles.fits in
    let rxs_lines : List Bytes = map receiver_line (map standing w.places) ++ codes "BEGIN" ∷ [] in
    let txs_lines : List Bytes = map sender_line p.senders ++ rxs_lines in
    let body_is : List Bytes = map kept_line w.kept ++ txs_lines in
    ap (λ (o : Option Next). goes_on o (start_line (told version p) ∷ body_is) (λ n. leads n (start_line (told version p) ∷ body_is)))
    (head-step version w.capacity s.window.capacity)
    ∙ ap (λ (o : Option Next). goes_on o body_is (λ n. leads n body_is))
    (start-step version w.capacity w.low w.tail p.next (omega (arith, low, s.tail)) s.tail fits may)
    ∙ keeps version w.capacity w.low w.tail p.next [] w.kept txs_lines values (omega (arith, s.window.kept))
    ∙ txs version w.capacity w.low w.tail p.next fits w.kept filled [] p.senders rxs_lines s.handles.by_sender
    ∙ rxs version w.capacity w.low w.tail p.next fits w.kept filled s.tail p.senders [] w.places
    (codes "BEGIN" ∷ []) s.handles.by_receiver s.handles.apart s.window.places
    ∙ ap (λ (o : Option Next). goes_on o [] (λ n. leads n []))
    (begin-step version w.capacity w.low w.tail p.next w.kept w.places p.senders whole)
