-- What is printed of a broadcast channel's history is a legal text.
use Rattle.std.proofs.Common.{◌≡◌, ℕ, ◌-◌, ◌<◌, ◌≤◌, ◌^◌, Bool, true, List, [], ◌∷◌, length, map, refl, sym, ap, subst, arith, Option, Some, None}
use Rattle.std.specs.Prelude.{codes, slice_get, ◌==◌, nat_lt}
use Rattle.std.specs.Bool.{Decides}
use Rattle.std.specs.Fmt.{decimal}
use Rattle.std.specs.List.{AllByRecursion}
use Rattle.std.specs.Map.{keys_of}
use Rattle.th_model.specs.declared.broadcast.BCall.{BCall}
use Rattle.th_model.specs.declared.broadcast.BCall.TheVariants.{Send, TryRecv, Recv, Subscribe, SubscribeOldest, Resubscribe, CloneTx, DropTx, DropRx, Queued, Left, Readers}
use Rattle.th_model.specs.declared.broadcast.BReply.{BReply}
use Rattle.th_model.specs.declared.broadcast.BReply.TheVariants.{Sent, Value, Empty, Closed, Lagged, NewRx, NewTx, Count}
use Rattle.th_model.specs.BroadcastMachine.{Endless, at_index, receive, step, tail_of, value_reply, window_of}
use Rattle.th_model.specs.BroadcastPicture.{IsSound, Picture, whole}
use Rattle.th_model.specs.Handles.{is_full, is_sender}
use Rattle.th_model.specs.Places.{ArePlaces, Places, place_of}
use Rattle.th_lines.specs.Commands.{IsValue}
use Rattle.th_lines.specs.Lines.{lines_of}
use Rattle.th_log.specs.History.{IsRun}
use Rattle.th_log.specs.Machines as machines
use Rattle.th_traces.specs.declared.head.Head.TheVariants as head
use Rattle.th_traces.specs.declared.head.Version.{Version}
use Rattle.th_traces.specs.declared.head.Version.TheVariants.{One, Two}
use Rattle.th_traces.specs.declared.picture.Picture.TheVariants as picture
use Rattle.th_traces.specs.Broadcast.{call_fields, reply_fields, standing, told}
use Rattle.th_traces.specs.BroadcastWords.{HandsBack, HasFields, IsCall, IsReplyTo, ReplyFits, grammar, reply_of, value_given}
use Rattle.th_traces.specs.Spelled.{Bytes, call_line, reply_line}
use Rattle.th_traces.specs.Tables.{IsNumber}
use Rattle.th_traces.specs.Traces.{broadcast_trace}
use Rattle.th_traces.specs.Versions.{digit, has_call, version_from, version_of, version_with}
use Rattle.th_traces.proofs.BroadcastSpelling.{reply_of-again, reply_of-found}
use Rattle.th_check.specs.Printed.{IsBroadcastPrinted, IsPrinted}
use Rattle.th_check.specs.Stages.{GivenBy, most_entries}
use Rattle.th_check.specs.Verdicts.{IsLegalText}
use Rattle.th_check.proofs.Handing.{chosen, one_of}
use Rattle.th_check.proofs.PrintedLines.{IsLine, IsPlain, IsStanding, ArePlainFields, last_said, number, number_said, plain, senders_plain, value, value_said, word}
use Rattle.th_check.proofs.PrintedEntries.{all_with, printed_legal, says}

abbrev Entry : Type 0
Entry = BCall Bytes × BReply Bytes

-- the lines of an entry
call_plain : (call : BCall Bytes) → HasFields call → IsLine (call_line (call_fields call))
call_plain (Send t v) h = value_said (codes "C ") (codes "send") refl refl t.0 v h.0 h.1
call_plain (TryRecv k) h = number_said (codes "C ") (codes "try-recv") refl refl k.0 h
call_plain (Recv k) h = number_said (codes "C ") (codes "recv") refl refl k.0 h
call_plain (Subscribe k) h = number_said (codes "C ") (codes "subscribe") refl refl k.0 h
call_plain (SubscribeOldest k) h = number_said (codes "C ") (codes "subscribe-oldest") refl refl k.0 h
call_plain (Resubscribe k) h = number_said (codes "C ") (codes "resubscribe") refl refl k.0 h
call_plain (CloneTx k) h = number_said (codes "C ") (codes "clone-tx") refl refl k.0 h
call_plain (DropTx k) h = number_said (codes "C ") (codes "drop-tx") refl refl k.0 h
call_plain (DropRx k) h = number_said (codes "C ") (codes "drop-rx") refl refl k.0 h
call_plain (Queued k) h = number_said (codes "C ") (codes "queued") refl refl k.0 h
call_plain (Left k) h = number_said (codes "C ") (codes "left") refl refl k.0 h
call_plain (Readers k) h = number_said (codes "C ") (codes "readers") refl refl k.0 h

reply_plain : (reply : BReply Bytes) → ReplyFits reply → IsLine (reply_line (reply_fields reply))
reply_plain reply = elim reply as (λ reply. ReplyFits reply → IsLine (reply_line (reply_fields reply))) [
  | Sent n ↦ λ h. number_said (codes "R ") (codes "sent") refl refl n h
  | Value v ↦ λ h. last_said (codes "R ") (codes "value") refl refl v (value v h)
  | Lagged n ↦ λ h. number_said (codes "R ") (codes "lagged") refl refl n h
  | NewRx k ↦ λ h. number_said (codes "R ") (codes "new-rx") refl refl k.0 h
  | NewTx k ↦ λ h. number_said (codes "R ") (codes "new-tx") refl refl k.0 h
  | Count n ↦ λ h. number_said (codes "R ") (codes "count") refl refl n h
  | _ ↦ λ h. word 4096 _ refl
]

-- the lines of a picture
standing_plain : (next tail : ℕ) → next < 2 ^ 64 → tail < 2 ^ 64 → (places : Places)
    → AllByRecursion (λ k. (0 < k) × (k < next)) (keys_of places) → ArePlaces tail places
    → AllByRecursion IsStanding (map standing places)
standing_plain next tail fits small [] keys within = tt
standing_plain next tail fits small (x ∷ xs) keys within = (
  (omega (arith, keys.0.1, fits), number 1024 x.1 (omega arith) (omega (arith, within.0, small))),
  standing_plain next tail fits small xs keys.1 within.1,
)

digit_plain : (version : Version) → IsPlain 100 (digit version)
digit_plain One = word 100 (codes "1") refl
digit_plain Two = word 100 (codes "2") refl

picture_told : (version : Version) (p : Picture Bytes) → IsSound p → AllByRecursion IsValue p.window.kept → ArePlainFields (told version p)
picture_told version p s values =
    let w = p.window in
    let c : IsNumber w.capacity = omega (arith, s.window.capacity.2) in
    let low : IsNumber w.low = omega (arith, s.window.kept, s.tail) in
    record {
      head = plain 100 (codes "TRACE" ∷ digit version ∷ codes "B" ∷ decimal w.capacity ∷ [])
          (word 100 (codes "TRACE") refl, (digit_plain version, (word 100 (codes "B") refl, (number 100 w.capacity (omega arith) c, tt))))
          (omega arith);
      start = plain 100 (codes "AT" ∷ decimal w.low ∷ decimal w.tail ∷ codes "NEXT" ∷ decimal p.next ∷ []) (
        word 100 (codes "AT") refl,
        (
          number 100 w.low (omega arith) low,
          (
            number 100 w.tail (omega arith) s.tail,
            (word 100 (codes "NEXT") refl, (number 100 p.next (omega arith) s.handles.fits, tt)),
          ),
        ),
      ) (omega arith);
      kept = values;
      senders = senders_plain p.next s.handles.fits p.senders s.handles.by_sender.given;
      receivers = standing_plain p.next w.tail s.handles.fits s.tail w.places s.handles.by_receiver.given s.window.places;
    }

-- the version has each of the calls
two_stays : (calls : List (BCall Bytes)) → version_from Two calls ≡ Two
two_stays [] = refl
two_stays (call ∷ calls) = elim call as (λ call. version_from Two (call ∷ calls) ≡ Two)
    [ SubscribeOldest tx ↦ two_stays calls | _ ↦ two_stays calls ]

either : (version : Version) (call : BCall Bytes) → has_call One call ≡ true → has_call version call ≡ true
either One call h = h
either Two call h = refl

first_has : (version : Version) (call : BCall Bytes) (calls : List (BCall Bytes))
    → has_call (version_from (version_with version call) calls) call ≡ true
first_has version call calls =
    elim call as (λ call. has_call (version_from (version_with version call) calls) call ≡ true) [
      | SubscribeOldest tx ↦ ap (λ (v : Version). has_call {T = Bytes} v (SubscribeOldest tx)) (two_stays calls)
      | _ ↦ either (version_from version calls) _ refl
    ]

abbrev calls_of : {R : Type 0} → List (BCall Bytes × R) → List (BCall Bytes)
calls_of entries = map (λ e. e.0) entries

all_has : {R : Type 0} (version : Version) (entries : List (BCall Bytes × R))
    → AllByRecursion (λ e. has_call (version_from version (calls_of entries)) e.0 ≡ true) entries
all_has version [] = tt
all_has version (e ∷ es) = (first_has version e.0 (calls_of es), all_has (version_with version e.0) es)

indexed : (call : BCall Bytes) (e : Endless Bytes) (o : Option ℕ) (given : ℕ → BReply Bytes × Endless Bytes) → value_given call ≡ None
    → ((i : ℕ) → HandsBack call (given i).0) → HandsBack call (at_index e o given).0
indexed call e None given none h = none
indexed call e (Some i) given none h = h i

shown : (call : BCall Bytes) (o : Option Bytes) → HandsBack call (value_reply o)
shown call (Some v) = tt
shown call None = tt

received : (call : BCall Bytes) (e : Endless Bytes) (rx i : ℕ) → HandsBack call (receive e rx i).0
received call e rx i =
    let P = HandsBack call in
    chosen P (i == tail_of e) _ _ (one_of P (length e.senders == 0) Closed Empty tt tt)
    (chosen P (nat_lt i (window_of e)) _ _ tt (shown call (slice_get e.sent (i - e.base))))

gives : (e : Endless Bytes) (call : BCall Bytes) → HandsBack call (step e call).0
gives e (Send tx v) =
    let P = HandsBack (Send tx v) in
    chosen P (is_sender e.senders tx.0) _ _ (chosen P (length e.index == 0) _ _ refl (chosen P (tail_of e == 2 ^ 64 - 1) _ _ refl tt)) refl
gives e (TryRecv rx) = indexed (TryRecv rx) e (place_of e.index rx.0) _ refl (received (TryRecv rx) e rx.0)
gives e (Recv rx) = indexed (Recv rx) e (place_of e.index rx.0) _ refl (received (Recv rx) e rx.0)
gives e (Subscribe tx) =
    let P = HandsBack (Subscribe tx) in
    chosen P (is_sender e.senders tx.0) _ _ (chosen P (is_full (length e.index) e.next) _ _ tt tt) refl
gives e (SubscribeOldest tx) =
    let P = HandsBack (SubscribeOldest tx) in
    chosen P (is_sender e.senders tx.0) _ _ (chosen P (is_full (length e.index) e.next) _ _ tt tt) refl
gives e (Resubscribe rx) =
    let P = HandsBack (Resubscribe rx) in
    indexed (Resubscribe rx) e (place_of e.index rx.0) _ refl (λ i. chosen P (is_full (length e.index) e.next) _ _ tt tt)
gives e (CloneTx tx) =
    let P = HandsBack (CloneTx tx) in
    chosen P (is_sender e.senders tx.0) _ _ (chosen P (is_full (length e.senders) e.next) _ _ tt tt) refl
gives e (DropTx tx) = chosen (HandsBack (DropTx tx)) (is_sender e.senders tx.0) _ _ tt refl
gives e (DropRx rx) = indexed (DropRx rx) e (place_of e.index rx.0) _ refl (λ i. tt)
gives e (Queued tx) = chosen (HandsBack (Queued tx)) (is_sender e.senders tx.0) _ _ tt refl
gives e (Left rx) = indexed (Left rx) e (place_of e.index rx.0) _ refl (λ i. tt)
gives e (Readers tx) = chosen (HandsBack (Readers tx)) (is_sender e.senders tx.0) _ _ tt refl

-- so a reply of the machine is one to its call
answers : (state : Endless Bytes) (call : BCall Bytes) (reply : BReply Bytes) → reply ≡ (step state call).0 → ReplyFits reply
    → IsReplyTo call reply
answers state call reply own fits = (subst (HandsBack call) (sym own) (gives state call), fits)

pub broadcast_says : (line : List ℕ) (reply : BReply Bytes) (b : Bool) → Decides b (line ≡ reply_line (reply_fields reply))
    → ReplyFits reply
    → (call : BCall Bytes) → GivenBy machines.broadcast call reply → Decides b (reply_of call line ≡ Some reply)
broadcast_says = says machines.broadcast grammar IsReplyTo ReplyFits answers reply_of-found reply_of-again

-- the text of a legal history
pub broadcast_legal : (p : Picture Bytes) (entries : List Entry) → IsSound p → IsRun machines.broadcast (whole p) entries
    → AllByRecursion IsValue p.window.kept
    → AllByRecursion IsBroadcastPrinted entries → length entries ≤ most_entries → IsLegalText (lines_of (broadcast_trace p entries))
    (length entries)
broadcast_legal p entries sound run values printed few =
    let version = version_of (calls_of entries) in
    let each = all_with IsBroadcastPrinted (λ (e : Entry). has_call version e.0 ≡ true) (IsPrinted (IsCall version) ReplyFits)
    (λ e h has. ((h.0, has), h.1)) entries printed
    (all_has One entries) in
    printed_legal machines.broadcast grammar IsReplyTo ReplyFits answers (IsCall version) (λ call h. call_plain call h.0) reply_plain
    (head.Broadcast version) (picture.Broadcast p) (whole p) (λ lines count h. h) (told version p) (picture_told version p sound values)
    (sound, values, refl)
    entries run each few
