-- The answer to an action on a topic is no trace, and the answer to the question for a trace tells of no event.
use Rattle.std.proofs.Common.{◌≡◌, ℕ, inl, inr, Bool, true, false, cond, List, Option, Some, None, Result, Ok, Err, refl, sym, ap, ◌∙◌}
use Rattle.std.proofs.lemmas.Bool.{false≢true}
use Rattle.th_lines.specs.declared.command.Action.{Action}
use Rattle.th_lines.specs.declared.command.Action.TheVariants as Actions
use Rattle.th_lines.specs.declared.reply.Code.{Code}
use Rattle.th_lines.specs.declared.reply.Code.TheVariants as Codes
use Rattle.th_lines.specs.declared.reply.Reply.TheVariants.{Refused}
use Rattle.th_registry.specs.declared.opening.Found.{Found}
use Rattle.th_registry.specs.declared.opening.TopicId.{TopicId}
use Rattle.th_registry.specs.declared.outcome.NoEvent.{NoEvent}
use Rattle.th_registry.specs.Calls.{Bytes}
use Rattle.th_registry.specs.Events.{Event}
use Rattle.th_registry.specs.History.{ChannelSegment}
use Rattle.th_registry.specs.Receipts.{ChannelReceipt}
use Rattle.th_registry.specs.Hub.{Query, Find, Noted, On, Said}
use Rattle.th_session.specs.Held.{Holding, handles_at}
use Rattle.th_session.specs.Kept.{with_receipt, with_segment}
use Rattle.th_session.specs.Script.{Answer, Replied, Told, Traced, Script, Ask, Give, Room, Say, answered, at_topic, acting, by_event, kept, shown, traced, with_room, Plays}
use Rattle.th_session.specs.Table.{is_for, judged}

abbrev is_trace : Answer → Bool
is_trace (Traced n segment) = true
is_trace answer = false

answered-no : (n : ℕ) (noted : Noted) → is_trace (answered n noted) ≡ false
answered-no n (told, None) = refl
answered-no n (told, Some receipt) = refl

same-segments : (segments : List (TopicId × ChannelSegment)) (answer : Answer) → is_trace answer ≡ false →
    with_segment segments answer ≡ segments
same-segments segments (Replied reply) e = refl
same-segments segments (Told n receipt) e = refl
same-segments segments (Traced n segment) e = absurd (false≢true (sym e))

module _ {D : Type 0} (says : D → (q : Query) → Said q → D → Type 0) (answer : Answer) (after : Holding) (new : D) where
  abbrev IsNoTrace : Script → Type 0
  IsNoTrace s = (old : D) → Plays says s old answer after new → is_trace answer ≡ false

  room-no : (h : Holding) (s : Script) → IsNoTrace s → IsNoTrace (Room h s)
  room-no h s f old (inl p) = f old p
  room-no h s f old (inr w) = ap is_trace w.0

  with_room-no : (action : Action) (h : Holding) (s : Script) → IsNoTrace s → IsNoTrace (with_room action h s)
  with_room-no action h s f = elim action as (λ action. IsNoTrace (with_room action h s))
      [ Actions.Unbind ↦ f | Actions.Unsubscribe ↦ f | Actions.End ↦ f | _ ↦ room-no h s f ]

  event-no : (action : Action) (n : ℕ) (h : Holding) (judgement : Result Event Code) → IsNoTrace (by_event action n h judgement)
  event-no action n h (Err code) old p = ap is_trace p.0
  event-no action n h (Ok event) old p =
      with_room-no action h (Ask (On n event) (λ noted. Give (answered n noted) (kept action noted.0 n h)))
      (λ old (noted, mid, w, p). ap is_trace p.0 ∙ answered-no n noted) old p

  if-no : (b : Bool) (s t : Script) → IsNoTrace s → IsNoTrace t → IsNoTrace (cond b s t)
  if-no true s t f g = f
  if-no false s t f g = g

  topic-no : (action : Action) (h : Holding) (found : Option Found) → IsNoTrace (at_topic action h found)
  topic-no action h None old p = ap is_trace p.0
  topic-no action h (Some t) old p = if-no (is_for t.kind action) (acting action t.topic.0 h) (Say (Refused Codes.WrongKind) h)
      (event-no action t.topic.0 h (judged action (handles_at h t.topic.0))) (λ old p. ap is_trace p.0) old p

  -- so the segments that are kept stay the same
  pub no-segment : (action : Action) (h : Holding) (name : Bytes) (old : D) (segments : List (TopicId × ChannelSegment)) →
      Plays says (Ask (Find name) (at_topic action h)) old answer after new → with_segment segments answer ≡ segments
  no-segment action h name old segments (found, mid, w, p) = same-segments segments answer (topic-no action h found mid p)

abbrev is_told : Answer → Bool
is_told (Told n receipt) = true
is_told answer = false

same-receipts : (receipts : List (TopicId × ChannelReceipt)) (answer : Answer) → is_told answer ≡ false →
    with_receipt receipts answer ≡ receipts
same-receipts receipts (Replied reply) e = refl
same-receipts receipts (Told n receipt) e = absurd (false≢true (sym e))
same-receipts receipts (Traced n segment) e = refl

module _ {D : Type 0} (says : D → (q : Query) → Said q → D → Type 0) (answer : Answer) (after : Holding) (new : D) where
  shown-not : (n : ℕ) (h : Holding) (said : Result ChannelSegment NoEvent) (old : D) → Plays says (shown n h said) old answer after new →
      is_told answer ≡ false
  shown-not n h (Ok segment) old p = ap is_told p.0
  shown-not n h (Err why) old p = ap is_told p.0

  traced-not : (h : Holding) (found : Option Found) (old : D) → Plays says (traced h found) old answer after new → is_told answer ≡ false
  traced-not h None old p = ap is_told p.0
  traced-not h (Some t) old (inl (said, mid, w, p)) = shown-not t.topic.0 h said mid p
  traced-not h (Some t) old (inr w) = ap is_told w.0

  -- so the receipts that are kept stay the same
  pub no-receipt : (h : Holding) (name : Bytes) (old : D) (receipts : List (TopicId × ChannelReceipt)) →
      Plays says (Ask (Find name) (traced h)) old answer after new → with_receipt receipts answer ≡ receipts
  no-receipt h name old receipts (found, mid, w, p) = same-receipts receipts answer (traced-not h found mid p)
