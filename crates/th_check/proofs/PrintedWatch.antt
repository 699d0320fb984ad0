-- What is printed of a watch channel's history is a legal text.
use Rattle.std.proofs.Common.{◌≡◌, ℕ, ◌-◌, ◌<◌, ◌≤◌, ◌^◌, Bool, true, false, List, [], ◌∷◌, length, map, refl, sym, subst, arith, Option, Some, None}
use Rattle.std.specs.Prelude.{codes, nat_eq, ◌==◌}
use Rattle.std.specs.Bool.{Decides}
use Rattle.std.specs.Cmp.Lexicographic.{pointwise}
use Rattle.std.specs.Fmt.{decimal}
use Rattle.std.specs.List.{AllByRecursion}
use Rattle.std.specs.Map.{keys_of}
use Rattle.th_model.specs.declared.watch.Edit.TheVariants.{Set, Differ, Quiet}
use Rattle.th_model.specs.declared.watch.WCall.{WCall}
use Rattle.th_model.specs.declared.watch.WCall.TheVariants.{Send, Replace, EditBy, Borrow, Take, HasChanged, TryChanged, Changed, MarkChanged, MarkUnchanged, Subscribe, CloneRx, CloneTx, DropTx, DropRx, IsClosed, Readers}
use Rattle.th_model.specs.declared.watch.WReply.{WReply}
use Rattle.th_model.specs.declared.watch.WReply.TheVariants.{Done, Was, Modified, Shown, NotYet, Closed, Gone, NewRx, NewTx, Count}
use Rattle.th_model.specs.declared.watch.WReply.TheVariants as reply
use Rattle.th_model.specs.WatchMachine.{Endless, Kept, at_mark, changed, is_unseen, open_reply, publish, reader_of, step, subscribe, version_of}
use Rattle.th_model.specs.WatchPicture.{IsSound, Picture, whole}
use Rattle.th_model.specs.Handles.{is_full, is_sender}
use Rattle.th_lines.specs.Commands.{IsValue}
use Rattle.th_lines.specs.Lines.{lines_of}
use Rattle.th_log.specs.History.{IsRun}
use Rattle.th_traces.specs.declared.head.Head.TheVariants as head
use Rattle.th_traces.specs.declared.picture.Picture.TheVariants as picture
use Rattle.th_traces.specs.Spelled.{Bytes, call_line, reply_line}
use Rattle.th_traces.specs.Traces.{watch_trace}
use Rattle.th_traces.specs.Watch.{call_fields, reply_fields, seen_or_unseen, standing, told}
use Rattle.th_traces.specs.WatchWords.{HandsBack, IsCall, IsReplyTo, ReplyFits, grammar, reply_of, value_given}
use Rattle.th_traces.proofs.WatchSpelling.{reply_of-again, reply_of-found}
use Rattle.th_check.specs.Points.{watch_machine}
use Rattle.th_check.specs.Printed.{IsWatchPrinted}
use Rattle.th_check.specs.Stages.{GivenBy, most_entries}
use Rattle.th_check.specs.Verdicts.{IsLegalText}
use Rattle.th_check.proofs.Handing.{chosen, one_of}
use Rattle.th_check.proofs.PrintedLines.{IsLine, IsPlain, IsStanding, ArePlainFields, last_said, marked, number, number_said, plain, senders_plain, value, value_said, word}
use Rattle.th_check.proofs.PrintedEntries.{printed_legal, says}

abbrev Entry : Type 0
Entry = WCall Bytes × WReply Bytes

-- the lines of an entry
call_plain : (call : WCall Bytes) → IsCall call → IsLine (call_line (call_fields call))
call_plain (Send t v) h = value_said (codes "C ") (codes "send") refl refl t.0 v h.0 h.1
call_plain (Replace t v) h = value_said (codes "C ") (codes "replace") refl refl t.0 v h.0 h.1
call_plain (EditBy t (Set v)) h = value_said (codes "C ") (codes "set") refl refl t.0 v h.0 h.1
call_plain (EditBy t (Differ v)) h = value_said (codes "C ") (codes "differ") refl refl t.0 v h.0 h.1
call_plain (EditBy t (Quiet v)) h = value_said (codes "C ") (codes "quiet") refl refl t.0 v h.0 h.1
call_plain (Borrow k) h = number_said (codes "C ") (codes "borrow") refl refl k.0 h
call_plain (Take k) h = number_said (codes "C ") (codes "take") refl refl k.0 h
call_plain (HasChanged k) h = number_said (codes "C ") (codes "has-changed") refl refl k.0 h
call_plain (TryChanged k) h = number_said (codes "C ") (codes "try-changed") refl refl k.0 h
call_plain (Changed k) h = number_said (codes "C ") (codes "changed") refl refl k.0 h
call_plain (MarkChanged k) h = number_said (codes "C ") (codes "mark-changed") refl refl k.0 h
call_plain (MarkUnchanged k) h = number_said (codes "C ") (codes "mark-unchanged") refl refl k.0 h
call_plain (Subscribe k) h = number_said (codes "C ") (codes "subscribe") refl refl k.0 h
call_plain (CloneRx k) h = number_said (codes "C ") (codes "clone-rx") refl refl k.0 h
call_plain (CloneTx k) h = number_said (codes "C ") (codes "clone-tx") refl refl k.0 h
call_plain (DropTx k) h = number_said (codes "C ") (codes "drop-tx") refl refl k.0 h
call_plain (DropRx k) h = number_said (codes "C ") (codes "drop-rx") refl refl k.0 h
call_plain (IsClosed k) h = number_said (codes "C ") (codes "is-closed") refl refl k.0 h
call_plain (Readers k) h = number_said (codes "C ") (codes "readers") refl refl k.0 h

shown_plain : (name v : Bytes) → IsPlain 1024 name → IsValue v → IsLine (reply_line (codes "shown" ∷ name ∷ v ∷ []))
shown_plain name v n h = marked (codes "R ") 1024 (codes "shown" ∷ name ∷ v ∷ []) (word 2 (codes "R ") refl)
    (word 1024 (codes "shown") refl, (n, (value v h, tt))) (omega arith)

reply_plain : (reply : WReply Bytes) → ReplyFits reply → IsLine (reply_line (reply_fields reply))
reply_plain said = elim said as (λ r. ReplyFits r → IsLine (reply_line (reply_fields r))) [
  | Was v ↦ λ h. last_said (codes "R ") (codes "was") refl refl v (value v h)
  | Shown v true ↦ λ h. shown_plain (codes "new") v (word 1024 (codes "new") refl) h
  | Shown v false ↦ λ h. shown_plain (codes "same") v (word 1024 (codes "same") refl) h
  | NewRx k ↦ λ h. number_said (codes "R ") (codes "new-rx") refl refl k.0 h
  | NewTx k ↦ λ h. number_said (codes "R ") (codes "new-tx") refl refl k.0 h
  | Count n ↦ λ h. number_said (codes "R ") (codes "count") refl refl n h
  | Modified true ↦ λ h. word 4096 _ refl
  | reply.Changed true ↦ λ h. word 4096 _ refl
  | Gone true ↦ λ h. word 4096 _ refl
  | _ ↦ λ h. word 4096 _ refl
]

-- the lines of a picture
state_plain : (unseen : Bool) → IsPlain 1024 (seen_or_unseen unseen)
state_plain true = word 1024 (codes "unseen") refl
state_plain false = word 1024 (codes "seen") refl

standing_plain : (next : ℕ) → next < 2 ^ 64 → (readers : Kept Bool) → AllByRecursion (λ k. (0 < k) × (k < next)) (keys_of readers)
    → AllByRecursion IsStanding (map standing readers)
standing_plain next fits [] keys = tt
standing_plain next fits (x ∷ xs) keys = ((omega (arith, keys.0.1, fits), state_plain x.1), standing_plain next fits xs keys.1)

picture_told : (p : Picture Bytes) → IsSound p → IsValue p.last → ArePlainFields (told p)
picture_told p s value = record {
  head = word 4096 (codes "TRACE 1 W") refl;
  start = plain 100 (codes "AT" ∷ decimal p.version ∷ codes "NEXT" ∷ decimal p.next ∷ []) (
    word 100 (codes "AT") refl,
    (
      number 100 p.version (omega arith) s.version,
      (word 100 (codes "NEXT") refl, (number 100 p.next (omega arith) s.handles.fits, tt)),
    ),
  ) (omega arith);
  kept = (value, tt);
  senders = senders_plain p.next s.handles.fits p.senders s.handles.by_sender.given;
  receivers = standing_plain p.next s.handles.fits p.readers s.handles.by_receiver.given;
}

published : (call : WCall Bytes) (e : Endless Bytes) (v : Bytes) (r : WReply Bytes) → value_given call ≡ Some v → HandsBack call r
    → HandsBack call (publish e v r).0
published call e v r h k = chosen (HandsBack call) (version_of e == 2 ^ 64 - 1) _ _ h k

marked_by : (call : WCall Bytes) (e : Endless Bytes) (o : Option ℕ) (given : ℕ → WReply Bytes × Endless Bytes) → value_given call ≡ None
    → ((mark : ℕ) → HandsBack call (given mark).0) → HandsBack call (at_mark e o given).0
marked_by call e None given none h = none
marked_by call e (Some mark) given none h = h mark

opened : (call : WCall Bytes) (senders : List ℕ) (r : WReply Bytes) → HandsBack call r → HandsBack call (open_reply senders r)
opened call senders r h = one_of (HandsBack call) (length senders == 0) Closed r tt h

waited : (call : WCall Bytes) (e : Endless Bytes) (rx mark : ℕ) → HandsBack call (changed e rx mark).0
waited call e rx mark = chosen (HandsBack call) (is_unseen e mark) _ _ tt (opened call e.senders NotYet tt)

subscribed : (call : WCall Bytes) (e : Endless Bytes) (mark : ℕ) → HandsBack call (subscribe e mark).0
subscribed call e mark = chosen (HandsBack call) (is_full (length e.marks) e.next) _ _ tt tt

module _ (eq : Bytes → Bytes → Bool) where
  gives : (e : Endless Bytes) (call : WCall Bytes) → HandsBack call (step eq e call).0
  gives e (Send tx v) =
      let P = HandsBack (Send tx v) in
      chosen P (is_sender e.senders tx.0) _ _ (chosen P (length e.marks == 0) _ _ refl (published (Send tx v) e v Done refl tt)) refl
  gives e (Replace tx v) =
      chosen (HandsBack (Replace tx v)) (is_sender e.senders tx.0) _ _ (published (Replace tx v) e v (Was e.last) refl tt) refl
  gives e (EditBy tx (Set v)) =
      chosen (HandsBack (EditBy tx (Set v))) (is_sender e.senders tx.0) _ _ (published (EditBy tx (Set v)) e v (Modified true) refl tt) refl
  gives e (EditBy tx (Differ v)) =
      let P = HandsBack (EditBy tx (Differ v)) in
      chosen P (is_sender e.senders tx.0) _ _
      (chosen P (eq v e.last) _ _ tt (published (EditBy tx (Differ v)) e v (Modified true) refl tt)) refl
  gives e (EditBy tx (Quiet v)) = chosen (HandsBack (EditBy tx (Quiet v))) (is_sender e.senders tx.0) _ _ tt refl
  gives e (Borrow rx) = marked_by (Borrow rx) e (reader_of e.marks rx.0) _ refl (λ mark. tt)
  gives e (Take rx) = marked_by (Take rx) e (reader_of e.marks rx.0) _ refl (λ mark. tt)
  gives e (HasChanged rx) = marked_by (HasChanged rx) e (reader_of e.marks rx.0) _ refl
      (λ mark. opened (HasChanged rx) e.senders (reply.Changed (is_unseen e mark)) tt)
  gives e (TryChanged rx) = marked_by (TryChanged rx) e (reader_of e.marks rx.0) _ refl (waited (TryChanged rx) e rx.0)
  gives e (Changed rx) = marked_by (Changed rx) e (reader_of e.marks rx.0) _ refl (waited (Changed rx) e rx.0)
  gives e (MarkChanged rx) = marked_by (MarkChanged rx) e (reader_of e.marks rx.0) _ refl (λ mark. tt)
  gives e (MarkUnchanged rx) = marked_by (MarkUnchanged rx) e (reader_of e.marks rx.0) _ refl (λ mark. tt)
  gives e (Subscribe tx) =
      chosen (HandsBack (Subscribe tx)) (is_sender e.senders tx.0) _ _ (subscribed (Subscribe tx) e (version_of e)) refl
  gives e (CloneRx rx) = marked_by (CloneRx rx) e (reader_of e.marks rx.0) _ refl (subscribed (CloneRx rx) e)
  gives e (CloneTx tx) =
      let P = HandsBack (CloneTx tx) in
      chosen P (is_sender e.senders tx.0) _ _ (chosen P (is_full (length e.senders) e.next) _ _ tt tt) refl
  gives e (DropTx tx) = chosen (HandsBack (DropTx tx)) (is_sender e.senders tx.0) _ _ tt refl
  gives e (DropRx rx) = marked_by (DropRx rx) e (reader_of e.marks rx.0) _ refl (λ mark. tt)
  gives e (IsClosed tx) = chosen (HandsBack (IsClosed tx)) (is_sender e.senders tx.0) _ _ tt refl
  gives e (Readers tx) = chosen (HandsBack (Readers tx)) (is_sender e.senders tx.0) _ _ tt refl

-- so a reply of the machine is one to its call
answers : (state : Endless Bytes) (call : WCall Bytes) (reply : WReply Bytes) → reply ≡ (step (pointwise nat_eq) state call).0
    → ReplyFits reply → IsReplyTo call reply
answers state call reply own fits = (subst (HandsBack call) (sym own) (gives (pointwise nat_eq) state call), fits)

pub watch_says : (line : List ℕ) (reply : WReply Bytes) (b : Bool) → Decides b (line ≡ reply_line (reply_fields reply)) → ReplyFits reply
    → (call : WCall Bytes) → GivenBy watch_machine call reply → Decides b (reply_of call line ≡ Some reply)
watch_says = says watch_machine grammar IsReplyTo ReplyFits answers reply_of-found reply_of-again

-- the text of a legal history
pub watch_legal : (p : Picture Bytes) (entries : List Entry) → IsSound p → IsRun watch_machine (whole p) entries → IsValue p.last
    → AllByRecursion IsWatchPrinted entries → length entries ≤ most_entries → IsLegalText (lines_of (watch_trace p entries))
    (length entries)
watch_legal p entries sound run value printed few =
    printed_legal watch_machine grammar IsReplyTo ReplyFits answers IsCall call_plain reply_plain head.Watch (picture.Watch p) (whole p)
    (λ lines count h. h)
    (told p) (picture_told p sound value) (sound, value, refl) entries run printed few
