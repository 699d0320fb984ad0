-- What an actor has: the handles that it holds, the receipt of each event that it was told of, and each segment that it
-- was answered.
use Rattle.std.specs.Prelude.{◌≡◌, ◌-◌, List, [], ◌∷◌, ◌++◌, length, Option, slice_get}
use Rattle.std.specs.Option.{option_map}
use Rattle.th_registry.specs.declared.opening.TopicId.{TopicId}
use Rattle.th_registry.specs.History.{ChannelSegment}
use Rattle.th_registry.specs.Receipts.{ChannelReceipt}
use Rattle.th_session.specs.declared.keeping.Keeping.{Keeping}
use Rattle.th_session.specs.declared.keeping.Keeping.TheVariants.{All, Nothing}
use Rattle.th_session.specs.declared.session.Answer as session
use Rattle.th_session.specs.declared.session.Answer.TheVariants as answers
use Rattle.th_session.specs.Held.{Holding}
use Rattle.th_session.specs.Script.{Answer, Replied, Told, Traced}

pub record Kept : Type 0 where
  pub handles : Holding
  -- in the order of the answers, each with its topic
  pub receipts : List (TopicId × ChannelReceipt)
  pub segments : List (TopicId × ChannelSegment)

-- what the last one is, without its topic
abbrev pub last_of : {A : Type 0} → List (TopicId × A) → Option A
last_of es = option_map (λ e. e.1) (slice_get es (length es - 1))

-- with the receipt of an answer that tells of an event, at the end
abbrev pub with_receipt : List (TopicId × ChannelReceipt) → Answer → List (TopicId × ChannelReceipt)
with_receipt receipts (Told n receipt) = receipts ++ (record { 0 = n }, receipt) ∷ []
with_receipt receipts answer = receipts

-- with the segment of an answer that is one, at the end
abbrev pub with_segment : List (TopicId × ChannelSegment) → Answer → List (TopicId × ChannelSegment)
with_segment segments (Traced n segment) = segments ++ (record { 0 = n }, segment) ∷ []
with_segment segments answer = segments

-- what an actor has after this answer, where it holds these handles then
abbrev pub having : Kept → Answer → Holding → Kept
having had answer h = record {
  handles = h;
  receipts = with_receipt had.receipts answer;
  segments = with_segment had.segments answer;
}

-- of what the actor had, and of this answer, that is kept which is to be kept
abbrev pub IsKept : Kept → Answer → Kept → Type 0
IsKept had answer has =
    (has.receipts ≡ with_receipt had.receipts answer)
    × (has.segments ≡ with_segment had.segments answer)

-- how an answer is told: of an event that its receipt, and of a trace that its segment, is the last one kept
abbrev pub told : Answer → session.Answer
told (Replied reply) = answers.Reply reply
told (Told n receipt) = answers.Event
told (Traced n segment) = answers.Trace

-- it is told so of an answer of this kind
abbrev pub Tells : session.Answer → (Answer → Type 0) → Type 0
Tells result P = (answer : Answer) × (result ≡ told answer) × P answer

-- what is left of this where a run keeps so much
abbrev pub kept_by : Keeping → Kept → Kept
kept_by All had = had
kept_by Nothing had = record had { receipts = []; segments = [] }
