-- The lines of a watch picture are read as that picture.
use Rattle.std.proofs.Common.{◌≡◌, ℕ, ◌<◌, ◌^◌, Bool, true, false, List, [], ◌∷◌, ◌++◌, map, refl, sym, ap, ◌∙◌, Option, Some, None, subst, cond, arith, append_assoc, append-nil}
use Rattle.std.specs.Prelude.{codes, nat_lt, ◌&&◌}
use Rattle.std.specs.Option.{option_map}
use Rattle.std.specs.Fmt.{decimal}
use Rattle.std.specs.List.{AllByRecursion}
use Rattle.std.specs.Map.{keys_of}
use Rattle.std.proofs.lemmas.Bool.{lt-ltb}
use Rattle.th_model.specs.Handles.{AreHandles, is_sender}
use Rattle.th_model.specs.WatchMachine.{Kept}
use Rattle.th_model.specs.WatchPicture.{IsSound, Picture}
use Rattle.th_model.proofs.HandleLemmas.{with_sender-new}
use Rattle.th_watch.specs.Held.{shown_picture}
use Rattle.th_lines.specs.Commands.{IsValue}
use Rattle.th_lines.specs.Fields.{Rest, field_then}
use Rattle.th_lines.proofs.Grammar.{number_last-again, number_then-again}
use Rattle.th_lines.proofs.Numbers.{and_both}
use Rattle.th_traces.specs.declared.head.Head.TheVariants as head
use Rattle.th_traces.specs.declared.picture.Picture.TheVariants as picture
use Rattle.th_traces.specs.declared.place.Place.{Place}
use Rattle.th_traces.specs.declared.place.Place.TheVariants.{Nothing, WatchHeaded, InWatch}
use Rattle.th_traces.specs.Watch.{seen_or_unseen as state_word, standing, told}
use Rattle.th_traces.specs.WatchDrafts.{Sketch, body, handles, seen_or_unseen, sketch, with_handles, with_value}
use Rattle.th_traces.specs.Drafts.{More, Tells, allowed}
use Rattle.th_traces.specs.LiveHandles.{live, next_last, receiver_fields, takes_receiver, takes_sender, with_rx, with_tx}
use Rattle.th_traces.specs.Pictures.{Begun, Next, On, goes_on, if_told, kinds, leads, step, versions, watch_next}
use Rattle.th_traces.specs.Spelled.{Bytes, kept_line, line, picture_lines, receiver_line, sender_line, start_line}
use Rattle.th_traces.specs.Tables.{IsNumber}
use Rattle.th_traces.proofs.Further.{entry-last, is_next, keys-more, not_false}

module _ (version next : ℕ) where
  abbrev drawn : Option Bytes → Kept Bool → List ℕ → Sketch
  drawn last readers senders = sketch version last (live senders readers next)

  abbrev at : Option Bytes → Kept Bool → List ℕ → Place
  at last readers senders = InWatch (drawn last readers senders)

  abbrev leads_on : Sketch → Option (Tells Sketch) → Option Next
  leads_on p told = if_told (watch_next p) told

  keep-step : (v : Bytes) → IsValue v → step (at None [] []) (kept_line v) ≡ Some (On (at (Some v) [] []))
  unfolding step body
  keep-step v h =
      let p = drawn None [] [] in
      ap (λ (b : Bool). leads_on p (allowed (λ (x : Bytes). true) (λ x. More (with_value p x)) (cond b (Some v) None))) h

  sender-step : (v : Bytes) (done : List ℕ) (tx : ℕ) → IsNumber tx → takes_sender {X = Bool} true (live done [] next) tx ≡ true →
      AllByRecursion (λ x. x < tx) done → step (at (Some v) [] done) (sender_line tx) ≡ Some (On (at (Some v) [] (done ++ tx ∷ [])))
  unfolding step body
  sender-step v done tx small may top =
      let p = drawn (Some v) [] done in
      ap (λ (o : Option ℕ). leads_on p (allowed (takes_sender true (handles p)) (λ x. More (with_handles p (with_tx (handles p) x))) o))
      (number_last-again (λ (n : ℕ). n) tx small)
      ∙ ap (λ (b : Bool). leads_on p (cond b (Some (More (with_handles p (with_tx (handles p) tx)))) None)) may
      ∙ ap (λ (ks : List ℕ). Some (On (at (Some v) [] ks))) (with_sender-new done tx top)

  abbrev state_then : ℕ → Rest → Option (ℕ × Bool)
  state_then rx rest = option_map (λ unseen. (rx, unseen)) (field_then seen_or_unseen rest)

  state-read : (rx : ℕ) (unseen : Bool) → state_then rx (Some (state_word unseen)) ≡ Some (rx, unseen)
  state-read rx true = refl
  state-read rx false = refl

  reader-step : (v : Bytes) (senders : List ℕ) (done : Kept Bool) (rx : ℕ) (unseen : Bool) → IsNumber rx →
      takes_receiver true (live senders done next) rx ≡ true → AllByRecursion (λ x. x < rx) (keys_of done) →
      step (at (Some v) done senders) (receiver_line (standing (rx, unseen))) ≡ Some (On (at (Some v) (done ++ (rx, unseen) ∷ []) senders))
  unfolding step body
  reader-step v senders done rx unseen small may top =
      let p = drawn (Some v) done senders in
      let read = number_then-again state_then rx (Some (state_word unseen)) small ∙ state-read rx unseen in
      ap (λ (o : Option (ℕ × Bool)). leads_on p (receiver_fields (with_handles p) true (handles p) o)) read
      ∙ ap (λ (b : Bool). leads_on p (cond b (Some (More (with_handles p (with_rx (handles p) (rx, unseen))))) None)) may
      ∙ ap (λ (rs : Kept Bool). Some (On (at (Some v) rs senders))) (entry-last done rx unseen top)

  begin-step : (v : Bytes) (readers : Kept Bool) (senders : List ℕ) →
      step (at (Some v) readers senders) (codes "BEGIN")
      ≡ Some (Begun head.Watch (picture.Watch (shown_picture version v readers senders next)))
  unfolding step body
  begin-step v readers senders = refl

  module _ (fits : next < 2 ^ 64) (v : Bytes) where
    txs : (done todo : List ℕ) (rest : List Bytes) → AreHandles next (done ++ todo) →
        leads (at (Some v) [] done) (map sender_line todo ++ rest) ≡ leads (at (Some v) [] (done ++ todo)) rest
    txs done [] rest h = ap (λ (l : List ℕ). leads (at (Some v) [] l) rest) (sym (append-nil done))
    txs done (x ∷ xs) rest h =
        let n = is_next next done x xs h in
        ap (λ (o : Option Next). goes_on o (map sender_line xs ++ rest) (λ n. leads n (map sender_line xs ++ rest)))
        (sender-step v done x (omega (arith, n.2, fits)) n.0 n.1)
        ∙ txs (done ++ x ∷ []) xs rest (subst (AreHandles next) (sym (append_assoc done (x ∷ []) xs)) h)
        ∙ ap (λ (l : List ℕ). leads (at (Some v) [] l) rest) (append_assoc done (x ∷ []) xs)

    rxs : (senders : List ℕ) (done todo : Kept Bool) (rest : List Bytes) → AreHandles next (keys_of (done ++ todo)) →
        AllByRecursion (λ k. is_sender senders k ≡ false) (keys_of todo) →
        leads (at (Some v) done senders) (map receiver_line (map standing todo) ++ rest) ≡ leads (at (Some v) (done ++ todo) senders) rest
    rxs senders done [] rest h free = ap (λ (l : Kept Bool). leads (at (Some v) l senders) rest) (sym (append-nil done))
    rxs senders done (x ∷ xs) rest h free =
        let keys = keys-more done x xs in
        let n = is_next next (keys_of done) x.0 (keys_of xs) (subst (AreHandles next) keys h) in
        let may : takes_receiver true (live senders done next) x.0 ≡ true = and_both _ _ n.0 (not_false _ free.0) in
        ap (λ (o : Option Next). goes_on o (map receiver_line (map standing xs) ++ rest)
        (λ n. leads n (map receiver_line (map standing xs) ++ rest)))
        (reader-step v senders done x.0 x.1 (omega (arith, n.2, fits)) may n.1)
        ∙ rxs senders (done ++ x ∷ []) xs rest
        (subst (λ (l : Kept Bool). AreHandles next (keys_of l)) (sym (append_assoc done (x ∷ []) xs)) h) free.1
        ∙ ap (λ (l : Kept Bool). leads (at (Some v) l senders) rest) (append_assoc done (x ∷ []) xs)

head-step : step Nothing (line (codes "TRACE" ∷ codes "1" ∷ codes "W" ∷ [])) ≡ Some (On WatchHeaded)
unfolding step versions kinds
head-step = refl

abbrev starting : Option (ℕ × ℕ) → Option Sketch
starting fields = allowed (λ (s : ℕ × ℕ). nat_lt 0 s.0 && nat_lt 0 s.1) (λ s. sketch s.0 None (live [] [] s.1)) fields

start-step : (version next : ℕ) → IsNumber version → IsNumber next → (nat_lt 0 version && nat_lt 0 next) ≡ true →
    step WatchHeaded (line (codes "AT" ∷ decimal version ∷ codes "NEXT" ∷ decimal next ∷ [])) ≡ Some (On (at version next None [] []))
unfolding step
start-step version next v n may =
    let pair : ℕ → ℕ → ℕ × ℕ = λ a b. (a, b) in
    let last : ℕ → Rest → Option (ℕ × ℕ) = λ a rest. option_map (pair a) (next_last rest) in
    let read = number_then-again last version (Some (codes "NEXT" ++ 32 ∷ decimal next)) v
    ∙ ap (option_map (pair version)) (number_last-again (λ (d : ℕ). d) next n) in
    ap (λ (o : Option (ℕ × ℕ)). option_map On (option_map InWatch (starting o))) read
    ∙ ap (λ (b : Bool). option_map On (option_map InWatch (cond b (Some (sketch version None (live [] [] next))) None))) may

-- the lines of a sound picture lead to that picture
pub watch-again : (p : Picture Bytes) → IsSound p → IsValue p.last →
    leads Nothing (picture_lines (told p)) ≡ Some (Begun head.Watch (picture.Watch p))
watch-again p s value =
    let may = and_both _ _ (lt-ltb 0 p.version s.first) (lt-ltb 0 p.next s.handles.first) in
    let rxs_lines : List Bytes = map receiver_line (map standing p.readers) ++ codes "BEGIN" ∷ [] in
    let txs_lines : List Bytes = map sender_line p.senders ++ rxs_lines in
    let body_is : List Bytes = kept_line p.last ∷ txs_lines in
    ap (λ (o : Option Next). goes_on o (start_line (told p) ∷ body_is) (λ n. leads n (start_line (told p) ∷ body_is))) head-step
    ∙ ap (λ (o : Option Next). goes_on o body_is (λ n. leads n body_is)) (start-step p.version p.next s.version s.handles.fits may)
    ∙ ap (λ (o : Option Next). goes_on o txs_lines (λ n. leads n txs_lines)) (keep-step p.version p.next p.last value)
    ∙ txs p.version p.next s.handles.fits p.last [] p.senders rxs_lines s.handles.by_sender
    ∙ rxs p.version p.next s.handles.fits p.last p.senders [] p.readers (codes "BEGIN" ∷ []) s.handles.by_receiver s.handles.apart
    ∙ ap (λ (o : Option Next). goes_on o [] (λ n. leads n [])) (begin-step p.version p.next p.last p.readers p.senders)
