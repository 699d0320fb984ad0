-- The step of a command at the desk of one thread, by the handles of who gives it.
use Rattle.std.proofs.Common.{◌≡◌, ◌⊎◌, inl, inr, ℕ, Bool, true, false, ap, sym, subst, refl, ◌∙◌}
use Rattle.th_lines.specs.declared.command.Command.{Command}
use Rattle.th_lines.specs.declared.reply.Reply.{Reply}
use Rattle.th_lines.specs.declared.reply.Reply.TheVariants.{Bye, Refused}
use Rattle.th_lines.specs.declared.reply.Code.TheVariants as Codes
use Rattle.th_registry.specs.Pictures.{SeenTopics, pictures}
use Rattle.th_registry.specs.History.{ChannelSegment}
use Rattle.th_registry.specs.Receipts.{ChannelReceipt}
use Rattle.th_session.specs.declared.session.Answer.TheVariants as answers
use Rattle.th_session.specs.Held.{Holding}
use Rattle.th_session.specs.Kept.{IsKept, Kept, told, with_receipt, with_segment}
use Rattle.th_session.specs.Script.{Answer, Replied, Told, Traced, has_quit}
use Rattle.th_session.specs.Step.{Steps}
use Rattle.th_replay.specs.Schedule.{most_entries, picture_asks, picture_step}

-- The answer, what the actor holds and the topics afterwards are the hub's; or memory was refused where it is asked for,
-- and nothing has changed.
abbrev pub Ends : SeenTopics → Holding → Command → Answer → Holding → SeenTopics → Type 0
Ends topics held command answer held' topics' = (picture_step topics held command ≡ (answer, held', topics'))
    ⊎ ((answer ≡ Replied (Refused Codes.NoMemory)) × (held' ≡ held) × (topics' ≡ topics) × (picture_asks topics held command ≡ true))

module _ (had : Kept) (topics : SeenTopics) (command : Command) (answer : Answer) (has : Kept) (topics' : SeenTopics) where
  ends : Steps (pictures most_entries) had topics command answer has topics' → Ends topics had.handles command answer has.handles topics'
  ends (inl e) = inl (ap (λ (end : Answer × Kept × SeenTopics). (end.0, end.1.handles, end.2)) e)
  ends (inr h) = inr (h.0, ap (λ (k : Kept). k.handles) h.1, h.2, h.3)

  -- where segments have as many entries as in a schedule
  pub ends_so : (limit : ℕ) → limit ≡ most_entries → Steps (pictures limit) had topics command answer has topics' →
      Ends topics had.handles command answer has.handles topics'
  ends_so limit is s = ends (subst (λ (n : ℕ). Steps (pictures n) had topics command answer has topics') is s)

  -- and a segment that is answered is kept
  pub keeps : (limit : ℕ) → Steps (pictures limit) had topics command answer has topics' → IsKept had answer has
  keeps limit (inl e) = (
    sym (ap (λ (end : Answer × Kept × SeenTopics). end.1.receipts) e)
        ∙ ap (λ (end : Answer × Kept × SeenTopics). with_receipt had.receipts end.0) e,
    sym (ap (λ (end : Answer × Kept × SeenTopics). end.1.segments) e)
        ∙ ap (λ (end : Answer × Kept × SeenTopics). with_segment had.segments end.0) e,
  )
  keeps limit (inr h) = (
    ap (λ (k : Kept). k.receipts) h.1 ∙ ap (with_receipt had.receipts) (sym h.0),
    ap (λ (k : Kept). k.segments) h.1 ∙ ap (with_segment had.segments) (sym h.0),
  )

-- an answer by what is told of it
pub told_reply : (answer : Answer) (reply : Reply) → answers.Reply reply ≡ told answer → answer ≡ Replied reply
told_reply (Replied r) reply t = let same : r ≡ reply = cc in ap (λ (x : Reply). Replied x) same
told_reply (Told n r) reply t = absurd (let bad : ⊥ = cc in bad)
told_reply (Traced n s) reply t = absurd (let bad : ⊥ = cc in bad)

-- of no trace is anything so that is so of replies alone
pub told_trace : (P : Answer → Bool) (answer : Answer) → ((n : ℕ) (s : ChannelSegment) → P (Traced n s) ≡ false) →
    answers.Trace ≡ told answer → P answer ≡ false
told_trace P (Replied reply) none t = absurd (let bad : ⊥ = cc in bad)
told_trace P (Told n r) none t = absurd (let bad : ⊥ = cc in bad)
told_trace P (Traced n s) none t = none n s

-- what is so of no event is not so of the answer
pub told_event : (P : Answer → Bool) (answer : Answer) → ((n : ℕ) (r : ChannelReceipt) → P (Told n r) ≡ false) →
    answers.Event ≡ told answer → P answer ≡ false
told_event P (Replied reply) none t = absurd (let bad : ⊥ = cc in bad)
told_event P (Told n r) none t = none n r
told_event P (Traced n s) none t = absurd (let bad : ⊥ = cc in bad)

-- who is answered no reply has not quit
pub only_replies_quit : (answer : Answer) → ((reply : Reply) → told answer ≡ answers.Reply reply → ⊥) → has_quit answer ≡ false
only_replies_quit (Replied reply) none = absurd (none reply refl)
only_replies_quit (Told n r) none = refl
only_replies_quit (Traced n s) none = refl

-- an answer that is not the one to `QUIT`
pub no_quit : (answer : Answer) → (answer ≡ Replied Bye → ⊥) → has_quit answer ≡ false
no_quit answer = elim answer as (λ answer. (answer ≡ Replied Bye → ⊥) → has_quit answer ≡ false) [
  | Replied Bye ↦ λ other. absurd (other refl)
  | _ ↦ λ other. refl
]
