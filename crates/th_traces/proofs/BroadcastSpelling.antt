-- Calls and replies of a broadcast channel have one spelling.
use Rattle.std.proofs.Common.{◌≡◌, ℕ, Bool, true, false, List, refl, ap, ◌∙◌, Option, Some, None, subst, cond}
use Rattle.std.specs.Prelude.{codes}
use Rattle.std.proofs.lemmas.Option.{none-some, same_Some}
use Rattle.th_model.specs.declared.broadcast.BCall.{BCall}
use Rattle.th_model.specs.declared.broadcast.BCall.TheVariants.{Send, TryRecv, Recv, Subscribe, SubscribeOldest, Resubscribe, CloneTx, DropTx, DropRx, Queued, Left, Readers}
use Rattle.th_model.specs.declared.broadcast.BReply.{BReply}
use Rattle.th_model.specs.declared.broadcast.BReply.TheVariants.{Sent, NoReceivers, Exhausted, Value, Empty, Closed, Lagged, NewRx, NewTx, Count, Done, TooMany, NoHandle}
use Rattle.th_lines.specs.Fields.{Rest, by_word}
use Rattle.th_lines.proofs.Grammar.{joined, table-finds, ended-finds, value_last-finds, number_last-finds, value-again, number_last-again}
use Rattle.th_lines.proofs.Tables.{◌&◌}
use Rattle.th_traces.specs.Spelled.{Bytes, call_line, line, reply_line}
use Rattle.th_traces.specs.Tables.{behind, by_table, rx, tx}
use Rattle.th_traces.specs.declared.head.Version.{Version}
use Rattle.th_traces.specs.Broadcast.{call_fields, reply_fields}
use Rattle.th_traces.specs.BroadcastWords.{HasFields, IsCall, IsReplyTo, call_of, calls, grammar, handle_calls, if_had, number_calls, own_replies, reply_of, send, value_given}
use Rattle.th_traces.specs.Grammars.{replies, reply_of as said_reply}
use Rattle.th_traces.specs.Versions.{has_call}
use Rattle.th_traces.proofs.Entries.{number_value-finds, number_value-again, handing-finds, handing-again, spelled-found}

abbrev SpellsCall : List ℕ → BCall Bytes → Type 0
SpellsCall bytes call = HasFields call × (bytes ≡ line (call_fields call))

calls-find : (word : List ℕ) (rest : Rest) (call : BCall Bytes) → by_word calls word rest ≡ Some call → SpellsCall (joined word rest) call
unfolding number_calls handle_calls
calls-find = table-finds SpellsCall calls (
    number_value-finds SpellsCall (codes "send") send (λ n v h k. ((h, k), refl))
    & number_last-finds SpellsCall (codes "try-recv") (λ n. TryRecv (rx n)) (λ n h. (h, refl))
    & number_last-finds SpellsCall (codes "recv") (λ n. Recv (rx n)) (λ n h. (h, refl))
    & number_last-finds SpellsCall (codes "subscribe") (λ n. Subscribe (tx n)) (λ n h. (h, refl))
    & number_last-finds SpellsCall (codes "subscribe-oldest") (λ n. SubscribeOldest (tx n)) (λ n h. (h, refl))
    & number_last-finds SpellsCall (codes "resubscribe") (λ n. Resubscribe (rx n)) (λ n h. (h, refl))
    & number_last-finds SpellsCall (codes "clone-tx") (λ n. CloneTx (tx n)) (λ n h. (h, refl))
    & number_last-finds SpellsCall (codes "drop-tx") (λ n. DropTx (tx n)) (λ n h. (h, refl))
    & number_last-finds SpellsCall (codes "drop-rx") (λ n. DropRx (rx n)) (λ n h. (h, refl))
    & number_last-finds SpellsCall (codes "queued") (λ n. Queued (tx n)) (λ n h. (h, refl))
    & number_last-finds SpellsCall (codes "left") (λ n. Left (rx n)) (λ n h. (h, refl))
    & number_last-finds SpellsCall (codes "readers") (λ n. Readers (tx n)) (λ n h. (h, refl))
    & tt
    )

call-again : (call : BCall Bytes) → HasFields call → by_table calls (line (call_fields call)) ≡ Some call
unfolding number_calls handle_calls
call-again (Send t v) h = number_value-again send t.0 v h.0 h.1
call-again (TryRecv k) h = number_last-again (λ n. TryRecv (rx n)) k.0 h
call-again (Recv k) h = number_last-again (λ n. Recv (rx n)) k.0 h
call-again (Subscribe k) h = number_last-again (λ n. Subscribe (tx n)) k.0 h
call-again (SubscribeOldest k) h = number_last-again (λ n. SubscribeOldest (tx n)) k.0 h
call-again (Resubscribe k) h = number_last-again (λ n. Resubscribe (rx n)) k.0 h
call-again (CloneTx k) h = number_last-again (λ n. CloneTx (tx n)) k.0 h
call-again (DropTx k) h = number_last-again (λ n. DropTx (tx n)) k.0 h
call-again (DropRx k) h = number_last-again (λ n. DropRx (rx n)) k.0 h
call-again (Queued k) h = number_last-again (λ n. Queued (tx n)) k.0 h
call-again (Left k) h = number_last-again (λ n. Left (rx n)) k.0 h
call-again (Readers k) h = number_last-again (λ n. Readers (tx n)) k.0 h

had-found : (version : Version) (o : Option (BCall Bytes)) (call : BCall Bytes) → if_had version o ≡ Some call
    → (o ≡ Some call) × (has_call version call ≡ true)
had-found version None call h = absurd (none-some call h)
had-found version (Some c) call h = chosen (has_call version c) refl h
  where
    chosen : (b : Bool) → has_call version c ≡ b → cond b (Some c) None ≡ Some call → (Some c ≡ Some call) × (has_call version call ≡ true)
    chosen true is k = (k, subst (λ (d : BCall Bytes). has_call version d ≡ true) (same_Some _ _ k) is)
    chosen false is k = absurd (none-some call k)

-- what is read is a call, and the line its spelling
pub call_of-found : (version : Version) (text : List ℕ) (call : BCall Bytes) → call_of version text ≡ Some call
    → IsCall version call × (text ≡ call_line (call_fields call))
unfolding call_of
call_of-found version text call h =
    let had = had-found version (behind (codes "C") (by_table calls) text) call h in
    let s = spelled-found (codes "C") HasFields (λ c. line (call_fields c)) calls calls-find text call had.0 in
    ((s.0, had.1), s.1)

-- and a call's spelling is read as that call
pub call_of-again : (version : Version) (call : BCall Bytes) → IsCall version call
    → call_of version (call_line (call_fields call)) ≡ Some call
unfolding call_of
call_of-again version call h =
    let had : if_had version (Some call) ≡ Some call = ap (λ (b : Bool). cond b (Some call) None) h.1 in
    ap (λ (o : Option (BCall Bytes)). if_had version o) (call-again call h.0) ∙ had

module _ (call : BCall Bytes) where
  abbrev SpellsReply : List ℕ → BReply Bytes → Type 0
  SpellsReply bytes reply = IsReplyTo call reply × (bytes ≡ line (reply_fields reply))

  replies-find : (word : List ℕ) (rest : Rest) (reply : BReply Bytes) → by_word (replies grammar (value_given call)) word rest ≡ Some reply
      → SpellsReply (joined word rest) reply
  unfolding own_replies
  replies-find = table-finds SpellsReply (replies grammar (value_given call)) (
      handing-finds SpellsReply (codes "no-receivers") (value_given call) NoReceivers (λ v h. ((h, tt), refl))
      & handing-finds SpellsReply (codes "exhausted") (value_given call) Exhausted (λ v h. ((h, tt), refl))
      & ended-finds SpellsReply (codes "no-handle") (NoHandle (value_given call)) ((refl, tt), refl)
      & number_last-finds SpellsReply (codes "new-rx") (λ n. NewRx (rx n)) (λ n h. ((tt, h), refl))
      & number_last-finds SpellsReply (codes "new-tx") (λ n. NewTx (tx n)) (λ n h. ((tt, h), refl))
      & number_last-finds SpellsReply (codes "count") Count (λ n h. ((tt, h), refl))
      & ended-finds SpellsReply (codes "done") Done ((tt, tt), refl) & ended-finds SpellsReply (codes "closed") Closed ((tt, tt), refl)
      & ended-finds SpellsReply (codes "too-many") TooMany ((tt, tt), refl)
      & value_last-finds SpellsReply (codes "value") Value (λ v h. ((tt, h), refl))
      & number_last-finds SpellsReply (codes "sent") Sent (λ n h. ((tt, h), refl))
      & number_last-finds SpellsReply (codes "lagged") Lagged (λ n h. ((tt, h), refl))
      & ended-finds SpellsReply (codes "empty") Empty ((tt, tt), refl) & tt
      )

  reply-again : (reply : BReply Bytes) → IsReplyTo call reply
      → by_table (replies grammar (value_given call)) (line (reply_fields reply)) ≡ Some reply
  unfolding own_replies
  reply-again (Sent n) h = number_last-again Sent n h.1
  reply-again (NoReceivers v) h = handing-again (value_given call) NoReceivers v h.0
  reply-again (Exhausted v) h = handing-again (value_given call) Exhausted v h.0
  reply-again (Value v) h = value-again Value v h.1
  reply-again Empty h = refl
  reply-again Closed h = refl
  reply-again (Lagged n) h = number_last-again Lagged n h.1
  reply-again (NewRx k) h = number_last-again (λ n. NewRx (rx n)) k.0 h.1
  reply-again (NewTx k) h = number_last-again (λ n. NewTx (tx n)) k.0 h.1
  reply-again (Count n) h = number_last-again Count n h.1
  reply-again Done h = refl
  reply-again TooMany h = refl
  reply-again (NoHandle back) h = ap (λ (o : Option Bytes). Some (NoHandle o)) h.0

  -- what is read is a reply to the call, and the line its spelling
  pub reply_of-found : (text : List ℕ) (reply : BReply Bytes) → reply_of call text ≡ Some reply
      → IsReplyTo call reply × (text ≡ reply_line (reply_fields reply))
  unfolding said_reply
  reply_of-found = spelled-found (codes "R") (IsReplyTo call) (λ r. line (reply_fields r)) (replies grammar (value_given call)) replies-find

  -- and a reply's spelling is read as that reply
  pub reply_of-again : (reply : BReply Bytes) → IsReplyTo call reply → reply_of call (reply_line (reply_fields reply)) ≡ Some reply
  unfolding said_reply
  reply_of-again reply h = reply-again reply h
