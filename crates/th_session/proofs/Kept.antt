-- What comes of a line: of one that spells no command or is refused memory, and of one that is answered a trace.
use Rattle.std.proofs.Common.{◌≡◌, ℕ, ◌+◌, ◌-◌, List, [], ◌∷◌, ◌++◌, length, Option, Some, None, slice_get, inl, inr, refl, sym, ap, ◌∙◌, arith, Err}
use Rattle.std.specs.Option.{option_map}
use Rattle.std.proofs.lemmas.List.{length-append}
use Rattle.std.proofs.lemmas.Option.{none-some, same_Some}
use Rattle.th_lines.specs.Commands.{carries_value}
use Rattle.th_lines.specs.Reads.{Reads}
use Rattle.th_lines.specs.declared.fault.LineFault.{LineFault}
use Rattle.th_lines.specs.declared.fault.LineFault.TheVariants as Faults
use Rattle.th_lines.specs.declared.command.Command.{Command}
use Rattle.th_lines.specs.declared.reply.Code.TheVariants as Codes
use Rattle.th_lines.specs.declared.reply.Reply.{Reply}
use Rattle.th_lines.specs.declared.reply.Reply.TheVariants.{Refused}
use Rattle.th_lines.specs.Replies.{spell}
use Rattle.th_registry.specs.declared.opening.TopicId.{TopicId}
use Rattle.th_registry.specs.History.{ChannelSegment}
use Rattle.th_registry.specs.Receipts.{ChannelReceipt, reply_in}
use Rattle.th_registry.specs.Hub.{Query, Said}
use Rattle.th_session.specs.declared.session.Answer.TheVariants as answers
use Rattle.th_session.specs.Answer.{AnswersAs, refused, said, trace_told}
use Rattle.th_session.specs.Kept.{IsKept, Kept, last_of, told, with_receipt, with_segment}
use Rattle.th_session.specs.Script.{Answer, Replied, Told, Traced}
use Rattle.th_session.specs.Table.{replied_channel}

at-end : {X : Type 0} (xs : List X) (x : X) → slice_get (xs ++ x ∷ []) (length xs) ≡ Some x
at-end [] x = refl
at-end (y ∷ xs) x = at-end xs x

less-one : (n : ℕ) → n + 1 - 1 ≡ n
less-one n = omega arith

last-of : {A : Type 0} (es : List (TopicId × A)) (e : TopicId × A) → last_of (es ++ e ∷ []) ≡ Some e.1
last-of {A = A} es e =
    let at : length (es ++ e ∷ []) - 1 ≡ length es = ap (λ n. n - 1) (length-append es (e ∷ [])) ∙ less-one (length es) in
    ap (λ n. option_map (λ (p : TopicId × A). p.1) (slice_get (es ++ e ∷ []) n)) at
    ∙ ap (option_map (λ (p : TopicId × A). p.1)) (at-end es e)

module _ {D : Type 0} (says : D → (q : Query) → Said q → D → Type 0) (had : Kept) (old : D) where
  -- a line that spells no command, and one for which memory was refused
  pub refused_line : (command : Option Command) (fault : LineFault) → Reads {A = Command} carries_value (Err fault) command →
      AnswersAs says command had old (refused fault) had old
  refused_line None Faults.BadLine r = (refl, refl, refl)
  refused_line (Some command) Faults.BadLine r = absurd (let bad : ⊥ = cc in bad)
  refused_line None Faults.Short r = absurd r
  refused_line (Some command) Faults.Short r = inr (refl, refl, refl, r)

  -- a reply that tells of no event
  pub as-before : (has : Kept) (answer : Answer) (reply : Reply) → answer ≡ Replied reply → has ≡ had → IsKept had answer has
  as-before has answer reply is same = (
    ap (λ (k : Kept). k.receipts) same ∙ ap (with_receipt had.receipts) (sym is),
    ap (λ (k : Kept). k.segments) same ∙ ap (with_segment had.segments) (sym is),
  )

  -- what is kept after a line
  pub keeps_as : (has : Kept) (new : D) (answer : Answer) (command : Option Command) → AnswersAs says command had old answer has new →
      IsKept had answer has
  keeps_as has new answer None w = as-before has answer (Refused Codes.BadLine) w.0 w.1
  keeps_as has new answer (Some command) (inl w) = w.1
  keeps_as has new answer (Some command) (inr w) = as-before has answer (Refused Codes.NoMemory) w.0 w.1

-- the text of an answer by what is told of it: of a reply its spelling
pub told_reply : (answer : Answer) (reply : Reply) → answers.Reply reply ≡ told answer → said answer ≡ spell reply
told_reply (Replied r) reply t = let same : r ≡ reply = cc in ap spell same
told_reply (Told n r) reply t = absurd (let bad : ⊥ = cc in bad)
told_reply (Traced n s) reply t = absurd (let bad : ⊥ = cc in bad)

-- of an event that of the receipt kept last
module _ (answer : Answer) (had has : Kept) (t : answers.Event ≡ told answer) (kept : IsKept had answer has) where
  last-told : (answer : Answer) → answers.Event ≡ told answer →
      (r : ChannelReceipt) × (last_of (with_receipt had.receipts answer) ≡ Some r) × (said answer ≡ spell (replied_channel (reply_in r)))
  last-told (Replied reply) t = absurd (let bad : ⊥ = cc in bad)
  last-told (Told n r) t = (r, last-of had.receipts (record { 0 = n }, r), refl)
  last-told (Traced n s) t = absurd (let bad : ⊥ = cc in bad)

  pub told_event : (receipt : ChannelReceipt) → last_of has.receipts ≡ Some receipt →
      said answer ≡ spell (replied_channel (reply_in receipt))
  told_event receipt e =
      let k = last-told answer t in
      k.2 ∙ ap (λ r. spell (replied_channel (reply_in r))) (same_Some k.0 receipt (sym k.1 ∙ ap last_of (sym kept.0) ∙ e))

  pub some_receipt : last_of has.receipts ≡ None → ⊥
  some_receipt e = let k = last-told answer t in none-some k.0 (sym e ∙ ap last_of kept.0 ∙ k.1)

-- of a trace that of the segment kept last
module _ (answer : Answer) (had has : Kept) (t : answers.Trace ≡ told answer) (kept : IsKept had answer has) where
  last-kept : (answer : Answer) → answers.Trace ≡ told answer → (s : ChannelSegment)
      × (last_of (with_segment had.segments answer) ≡ Some s) × (said answer ≡ trace_told s)
  last-kept (Replied reply) t = absurd (let bad : ⊥ = cc in bad)
  last-kept (Told n r) t = absurd (let bad : ⊥ = cc in bad)
  last-kept (Traced n s) t = (s, last-of had.segments (record { 0 = n }, s), refl)

  pub told_last : (segment : ChannelSegment) → last_of has.segments ≡ Some segment → said answer ≡ trace_told segment
  told_last segment e =
      let k = last-kept answer t in
      k.2 ∙ ap trace_told (same_Some k.0 segment (sym k.1 ∙ ap last_of (sym kept.1) ∙ e))

  pub not_none : last_of has.segments ≡ None → ⊥
  not_none e = let k = last-kept answer t in none-some k.0 (sym e ∙ ap last_of kept.1 ∙ k.1)
