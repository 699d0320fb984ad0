-- Calls and replies of a watch channel have one spelling.
use Rattle.std.proofs.Common.{◌≡◌, ℕ, Bool, true, false, List, ◌∷◌, ◌++◌, refl, sym, ap, ◌∙◌, Option, Some, None, subst, cond}
use Rattle.std.specs.Prelude.{codes}
use Rattle.std.specs.Str.{bytes_eq}
use Rattle.std.proofs.lemmas.Slice.Eq.{bytes_eq-Decides}
use Rattle.std.proofs.lemmas.Option.{none-some}
use Rattle.th_model.specs.declared.watch.Edit.TheVariants.{Set, Differ, Quiet}
use Rattle.th_model.specs.declared.watch.WCall.{WCall}
use Rattle.th_model.specs.declared.watch.WCall.TheVariants.{Send, Replace, EditBy, Borrow, Take, HasChanged, TryChanged, Changed, MarkChanged, MarkUnchanged, Subscribe, CloneRx, CloneTx, DropTx, DropRx, IsClosed, Readers}
use Rattle.th_model.specs.declared.watch.WReply.{WReply}
use Rattle.th_model.specs.declared.watch.WReply.TheVariants.{Done, NoReceivers, Exhausted, Was, Modified, Shown, Marked, NotYet, Closed, Gone, NewRx, NewTx, Count, TooMany, NoHandle}
use Rattle.th_model.specs.declared.watch.WReply.TheVariants as reply
use Rattle.th_lines.specs.Fields.{Rest, by_word, ended, field_then}
use Rattle.th_lines.proofs.Grammar.{joined, Finds, table-finds, ended-finds, ended-found, field-found, mapped, value_last-finds, number_last-finds, value-again, number_last-again}
use Rattle.th_lines.proofs.Tables.{◌&◌}
use Rattle.th_traces.specs.Spelled.{Bytes, call_line, line, reply_line}
use Rattle.th_traces.specs.Tables.{by_table, rx, tx}
use Rattle.th_traces.specs.Watch.{call_fields, reply_fields}
use Rattle.th_traces.specs.Watch.{yes_or_no as answer_word}
use Rattle.th_traces.specs.WatchWords.{IsCall, IsReplyTo, answer_last, call_of, calls, differ, grammar, handle_calls, number_calls, own_replies, quiet, replace, reply_of, send, set, shown, value_given, yes_or_no}
use Rattle.th_traces.specs.Grammars.{replies, reply_of as said_reply}
use Rattle.th_traces.proofs.Entries.{number_value-finds, number_value-again, handing-finds, handing-again, spelled-found, table-entry}

abbrev SpellsCall : List ℕ → WCall Bytes → Type 0
SpellsCall bytes call = IsCall call × (bytes ≡ line (call_fields call))

calls-find : (word : List ℕ) (rest : Rest) (call : WCall Bytes) → by_word calls word rest ≡ Some call → SpellsCall (joined word rest) call
unfolding number_calls handle_calls
calls-find = table-finds SpellsCall calls (
    number_value-finds SpellsCall (codes "send") send (λ n v h k. ((h, k), refl))
    & number_value-finds SpellsCall (codes "replace") replace (λ n v h k. ((h, k), refl))
    & number_value-finds SpellsCall (codes "set") set (λ n v h k. ((h, k), refl))
    & number_value-finds SpellsCall (codes "differ") differ (λ n v h k. ((h, k), refl))
    & number_value-finds SpellsCall (codes "quiet") quiet (λ n v h k. ((h, k), refl))
    & number_last-finds SpellsCall (codes "borrow") (λ n. Borrow (rx n)) (λ n h. (h, refl))
    & number_last-finds SpellsCall (codes "take") (λ n. Take (rx n)) (λ n h. (h, refl))
    & number_last-finds SpellsCall (codes "has-changed") (λ n. HasChanged (rx n)) (λ n h. (h, refl))
    & number_last-finds SpellsCall (codes "try-changed") (λ n. TryChanged (rx n)) (λ n h. (h, refl))
    & number_last-finds SpellsCall (codes "changed") (λ n. Changed (rx n)) (λ n h. (h, refl))
    & number_last-finds SpellsCall (codes "mark-changed") (λ n. MarkChanged (rx n)) (λ n h. (h, refl))
    & number_last-finds SpellsCall (codes "mark-unchanged") (λ n. MarkUnchanged (rx n)) (λ n h. (h, refl))
    & number_last-finds SpellsCall (codes "subscribe") (λ n. Subscribe (tx n)) (λ n h. (h, refl))
    & number_last-finds SpellsCall (codes "clone-rx") (λ n. CloneRx (rx n)) (λ n h. (h, refl))
    & number_last-finds SpellsCall (codes "clone-tx") (λ n. CloneTx (tx n)) (λ n h. (h, refl))
    & number_last-finds SpellsCall (codes "drop-tx") (λ n. DropTx (tx n)) (λ n h. (h, refl))
    & number_last-finds SpellsCall (codes "drop-rx") (λ n. DropRx (rx n)) (λ n h. (h, refl))
    & number_last-finds SpellsCall (codes "is-closed") (λ n. IsClosed (tx n)) (λ n h. (h, refl))
    & number_last-finds SpellsCall (codes "readers") (λ n. Readers (tx n)) (λ n h. (h, refl))
    & tt
    )

call-again : (call : WCall Bytes) → IsCall call → by_table calls (line (call_fields call)) ≡ Some call
unfolding number_calls handle_calls
call-again (Send t v) h = number_value-again send t.0 v h.0 h.1
call-again (Replace t v) h = number_value-again replace t.0 v h.0 h.1
call-again (EditBy t (Set v)) h = number_value-again set t.0 v h.0 h.1
call-again (EditBy t (Differ v)) h = number_value-again differ t.0 v h.0 h.1
call-again (EditBy t (Quiet v)) h = number_value-again quiet t.0 v h.0 h.1
call-again (Borrow k) h = number_last-again (λ n. Borrow (rx n)) k.0 h
call-again (Take k) h = number_last-again (λ n. Take (rx n)) k.0 h
call-again (HasChanged k) h = number_last-again (λ n. HasChanged (rx n)) k.0 h
call-again (TryChanged k) h = number_last-again (λ n. TryChanged (rx n)) k.0 h
call-again (Changed k) h = number_last-again (λ n. Changed (rx n)) k.0 h
call-again (MarkChanged k) h = number_last-again (λ n. MarkChanged (rx n)) k.0 h
call-again (MarkUnchanged k) h = number_last-again (λ n. MarkUnchanged (rx n)) k.0 h
call-again (Subscribe k) h = number_last-again (λ n. Subscribe (tx n)) k.0 h
call-again (CloneRx k) h = number_last-again (λ n. CloneRx (rx n)) k.0 h
call-again (CloneTx k) h = number_last-again (λ n. CloneTx (tx n)) k.0 h
call-again (DropTx k) h = number_last-again (λ n. DropTx (tx n)) k.0 h
call-again (DropRx k) h = number_last-again (λ n. DropRx (rx n)) k.0 h
call-again (IsClosed k) h = number_last-again (λ n. IsClosed (tx n)) k.0 h
call-again (Readers k) h = number_last-again (λ n. Readers (tx n)) k.0 h

-- what is read is a call, and the line its spelling
pub call_of-found : (text : List ℕ) (call : WCall Bytes) → call_of text ≡ Some call → IsCall call × (text ≡ call_line (call_fields call))
unfolding call_of
call_of-found = spelled-found (codes "C") IsCall (λ c. line (call_fields c)) calls calls-find

-- and a call's spelling is read as that call
pub call_of-again : (call : WCall Bytes) → IsCall call → call_of (call_line (call_fields call)) ≡ Some call
unfolding call_of
call_of-again call h = call-again call h

-- `yes` or `no` is found
answer-found : (rest : Rest) (b : Bool) → field_then yes_or_no rest ≡ Some b → rest ≡ Some (answer_word b)
answer-found rest b h =
    let f = field-found yes_or_no rest b h in
    f.2 ∙ ap (λ (l : List ℕ). Some l) (at f.0 f.1 (bytes_eq f.0 (codes "yes")) refl (bytes_eq f.0 (codes "no")) refl f.3)
  where
    same : (word spelled : List ℕ) → bytes_eq word spelled ≡ true → word ≡ spelled
    same word spelled t = (bytes_eq-Decides word spelled).0 t

    at : (word : List ℕ) (after : Rest) (y : Bool) → bytes_eq word (codes "yes") ≡ y → (n : Bool) → bytes_eq word (codes "no") ≡ n
        → cond y (ended true after) (cond n (ended false after) None) ≡ Some b → joined word after ≡ answer_word b
    at word after true yes_eq n no_eq k =
        let e = ended-found true b after k in
        subst (λ (c : Bool). joined word after ≡ answer_word c) e.1
        (subst (λ (r : Rest). joined word r ≡ codes "yes") (sym e.0) (same word (codes "yes") yes_eq))
    at word after false yes_eq true no_eq k =
        let e = ended-found false b after k in
        subst (λ (c : Bool). joined word after ≡ answer_word c) e.1
        (subst (λ (r : Rest). joined word r ≡ codes "no") (sym e.0) (same word (codes "no") no_eq))
    at word after false yes_eq false no_eq k = absurd (none-some b k)

answer-finds : (P : List ℕ → WReply Bytes → Type 0) (word : List ℕ) (read : Bool → WReply Bytes)
    → ((b : Bool) → P (word ++ 32 ∷ answer_word b) (read b)) → Finds P (word, answer_last read)
answer-finds P word read ok rest a h =
    let m = mapped read (field_then yes_or_no rest) a h in
    subst (λ (r : Rest). P (joined word r) a) (sym (answer-found rest m.0 m.1)) (subst (P (word ++ 32 ∷ answer_word m.0)) m.2 (ok m.0))

module _ (call : WCall Bytes) where
  abbrev SpellsReply : List ℕ → WReply Bytes → Type 0
  SpellsReply bytes reply = IsReplyTo call reply × (bytes ≡ line (reply_fields reply))

  -- a reply that shows a value
  abbrev SpellsShown : List ℕ → WReply Bytes → Type 0
  SpellsShown bytes reply = SpellsReply (codes "shown" ++ 32 ∷ bytes) reply

  shown-finds : (word : List ℕ) (rest : Rest) (reply : WReply Bytes) → by_word shown word rest ≡ Some reply
      → SpellsShown (joined word rest) reply
  unfolding shown
  shown-finds = table-finds SpellsShown shown (
      value_last-finds SpellsShown (codes "new") (λ v. Shown v true) (λ v h. ((tt, h), refl))
      & value_last-finds SpellsShown (codes "same") (λ v. Shown v false) (λ v h. ((tt, h), refl)) & tt
      )

  replies-find : (word : List ℕ) (rest : Rest) (reply : WReply Bytes) → by_word (replies grammar (value_given call)) word rest ≡ Some reply
      → SpellsReply (joined word rest) reply
  unfolding own_replies
  replies-find = table-finds SpellsReply (replies grammar (value_given call)) (
      handing-finds SpellsReply (codes "no-receivers") (value_given call) NoReceivers (λ v h. ((h, tt), refl))
      & handing-finds SpellsReply (codes "exhausted") (value_given call) Exhausted (λ v h. ((h, tt), refl))
      & ended-finds SpellsReply (codes "no-handle") (NoHandle (value_given call)) ((refl, tt), refl)
      & number_last-finds SpellsReply (codes "new-rx") (λ n. NewRx (rx n)) (λ n h. ((tt, h), refl))
      & number_last-finds SpellsReply (codes "new-tx") (λ n. NewTx (tx n)) (λ n h. ((tt, h), refl))
      & number_last-finds SpellsReply (codes "count") Count (λ n h. ((tt, h), refl))
      & ended-finds SpellsReply (codes "done") Done ((tt, tt), refl) & ended-finds SpellsReply (codes "closed") Closed ((tt, tt), refl)
      & ended-finds SpellsReply (codes "too-many") TooMany ((tt, tt), refl)
      & value_last-finds SpellsReply (codes "was") Was (λ v h. ((tt, h), refl)) & table-entry SpellsReply (codes "shown") shown shown-finds
      & answer-finds SpellsReply (codes "modified") Modified (λ b. ((tt, tt), refl))
      & answer-finds SpellsReply (codes "changed") reply.Changed (λ b. ((tt, tt), refl))
      & answer-finds SpellsReply (codes "gone") Gone (λ b. ((tt, tt), refl))
      & ended-finds SpellsReply (codes "marked") Marked ((tt, tt), refl) & ended-finds SpellsReply (codes "not-yet") NotYet ((tt, tt), refl)
      & tt
      )

  reply-again : (reply : WReply Bytes) → IsReplyTo call reply
      → by_table (replies grammar (value_given call)) (line (reply_fields reply)) ≡ Some reply
  unfolding own_replies shown
  reply-again Done h = refl
  reply-again (NoReceivers v) h = handing-again (value_given call) NoReceivers v h.0
  reply-again (Exhausted v) h = handing-again (value_given call) Exhausted v h.0
  reply-again (Was v) h = value-again Was v h.1
  reply-again (Modified true) h = refl
  reply-again (Modified false) h = refl
  reply-again (Shown v true) h = value-again (λ v. Shown v true) v h.1
  reply-again (Shown v false) h = value-again (λ v. Shown v false) v h.1
  reply-again (reply.Changed true) h = refl
  reply-again (reply.Changed false) h = refl
  reply-again Marked h = refl
  reply-again NotYet h = refl
  reply-again Closed h = refl
  reply-again (Gone true) h = refl
  reply-again (Gone false) h = refl
  reply-again (NewRx k) h = number_last-again (λ n. NewRx (rx n)) k.0 h.1
  reply-again (NewTx k) h = number_last-again (λ n. NewTx (tx n)) k.0 h.1
  reply-again (Count n) h = number_last-again Count n h.1
  reply-again TooMany h = refl
  reply-again (NoHandle back) h = ap (λ (o : Option Bytes). Some (NoHandle o)) h.0

  -- what is read is a reply to the call, and the line its spelling
  pub reply_of-found : (text : List ℕ) (reply : WReply Bytes) → reply_of call text ≡ Some reply
      → IsReplyTo call reply × (text ≡ reply_line (reply_fields reply))
  unfolding said_reply
  reply_of-found = spelled-found (codes "R") (IsReplyTo call) (λ r. line (reply_fields r)) (replies grammar (value_given call)) replies-find

  -- and a reply's spelling is read as that reply
  pub reply_of-again : (reply : WReply Bytes) → IsReplyTo call reply → reply_of call (reply_line (reply_fields reply)) ≡ Some reply
  unfolding said_reply
  reply_of-again reply h = reply-again reply h
