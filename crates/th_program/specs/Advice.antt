-- What a replay says to people about refusals: what to do, once for each code.
use Rattle.std.specs.Prelude.{◌≡◌, ℕ, ◌-◌, Bool, true, false, List, [], ◌∷◌, ◌++◌, codes, take, drop, replicate, nat_eq, nat_le, nat_lt, ◌&&◌, if◌then◌else◌, Option, Some, None, slice_get, slice_set, slice_index_or}
use Rattle.std.specs.Option.{option_map}
use Rattle.std.specs.Str.{bytes_eq}
use Rattle.th_lines.specs.Fields.{number_of}
use Rattle.th_lines.specs.Replies.{refusal}
use Rattle.th_lines.specs.Tally.{Tally}
use Rattle.th_lines.specs.declared.reply.Code.{Code}
use Rattle.th_lines.specs.declared.reply.Code.TheVariants.{BadLine, NoTopic, Exists, WrongKind, BadCapacity, Held, NotHeld, NoReceivers, Closed, TooMany, Exhausted, NoMemory, LogFull, LongLine}
use Rattle.th_program.specs.Run.{IsSaid, errors_of}

-- what to do about a refusal
abbrev pub to_do : Code → List ℕ
to_do BadLine = codes "a line is ACTOR COMMAND, as `bob SUB news`; topichub replay --help lists them all"
to_do NoTopic = codes "OPEN t B cap or OPEN t W value first; LIST tells which topics there are"
to_do Exists = codes "the topic is open, and stays so: go on with it, or OPEN one of another name"
to_do WrongKind = codes "LIST tells the topic's kind, B or W, and topichub replay --help its commands"
to_do BadCapacity = codes "OPEN t B cap takes a cap from 1 to 65536"
to_do Held = codes "the actor has one already: go on with it, or spend it first by UNSUB t or UNBIND t"
to_do NotHeld = codes "the actor needs its own: SUB t first to receive or look, BIND t first to send"
to_do NoReceivers = codes "let an actor SUB t, then PUB again; on a W topic SWAP needs no receiver"
to_do Closed = codes "END t has spent the hub's sender: BIND t before END; who did can still SUB t"
to_do TooMany = codes "at most 1024 actors at once, QUIT makes room; at most 1024 topics, none is removed"
to_do Exhausted = codes "the topic takes no further value: OPEN another one, with a smaller AT base"
to_do NoMemory = codes "nothing has changed: give the line again once memory is free"
to_do LogFull = codes "nothing has changed: TRACE t makes room, then give the line again"
to_do LongLine = codes "a line has at most 4096 bytes, and the value in it at most 1024"

-- the line that says so: the refusal, and what to do
abbrev pub advice_on : Code → List ℕ
advice_on code = codes "ERR " ++ (refusal code ++ (codes ": " ++ (to_do code ++ 10 ∷ [])))

-- the refusals in the order of their codes, which begin at 10
abbrev pub refusals : List Code
refusals = BadLine ∷ NoTopic ∷ Exists ∷ WrongKind ∷ BadCapacity ∷ Held ∷ NotHeld ∷ NoReceivers
    ∷ Closed ∷ TooMany ∷ Exhausted ∷ NoMemory ∷ LogFull ∷ LongLine ∷ []

-- the place of a code among them
abbrev pub place_of : Option ℕ → Option ℕ
place_of None = None
place_of (Some code) = if nat_le 10 code && nat_lt code 24 then Some (code - 10) else None

-- the place of the code that a line tells of which begins so, as by `ERR 16`
abbrev pub place_in : List ℕ → Option ℕ
place_in head =
    if bytes_eq (take 4 head) (codes "ERR ") then place_of (number_of (drop 4 head)) else None

-- what was heard of the replies: the first six bytes of the line under way, and which refusals were told of
pub record Heard : Type 0 where
  pub head : List ℕ
  pub told : List Bool

abbrev pub nothing_heard : Heard
nothing_heard = record { head = []; told = replicate 14 false }

-- the first bytes of the line under way after one byte more
abbrev pub head_after : List ℕ → ℕ → List ℕ
head_after head byte = if nat_eq byte 10 then [] else take 6 (head ++ byte ∷ [])

abbrev pub told_after : List Bool → Option ℕ → List Bool
told_after told None = told
told_after told (Some place) = slice_set told place true

-- what was heard with one byte more
abbrev pub after : Heard → ℕ → Heard
after heard byte = record {
  head = head_after heard.head byte;
  told = told_after heard.told (place_in (head_after heard.head byte));
}

abbrev pub news_at : List Bool → Option ℕ → Option (List ℕ)
news_at told None = None
news_at told (Some place) =
    if slice_index_or told place true then None else option_map advice_on (slice_get refusals place)

-- the line of advice on a refusal that this byte is the first to tell of
abbrev pub news : Heard → ℕ → Option (List ℕ)
news heard byte = news_at heard.told (place_in (head_after heard.head byte))

abbrev pub text_of : Option (List ℕ) → List ℕ
text_of None = []
text_of (Some text) = text

-- the same of all these bytes, one after the other
abbrev pub heard_after : Heard → List ℕ → Heard
heard_after heard [] = heard
heard_after heard (byte ∷ bytes) = heard_after (after heard byte) bytes

abbrev pub advice_to : Heard → List ℕ → List ℕ
advice_to heard [] = []
advice_to heard (byte ∷ bytes) = text_of (news heard byte) ++ advice_to (after heard byte) bytes

-- a writer of replies that says what to do about refusals, where it is for people
pub record Advised (W E : Type 0) : Type 0 where
  pub output : W
  pub errors : Tally E
  pub heard : Heard
  pub to_people : Bool

-- one to which nothing was written yet
abbrev pub unheard : {W E : Type 0} → W → E → Bool → Advised W E
unheard output errors to_people = record {
  output = output;
  errors = record { device = errors; calls = 0; failures = 0 };
  heard = nothing_heard;
  to_people = to_people;
}

module _ {W E : Type 0} (contents : E → Option (List ℕ)) (old new : Advised W E) where
  -- these bytes were heard, and the advice on the refusals that they are the first to tell of was said
  pub record Hears (bytes : List ℕ) : Type 0 where
    pub heard : new.heard ≡ heard_after old.heard bytes
    pub said : IsSaid (errors_of contents old.errors) (errors_of contents new.errors)
        (advice_to old.heard bytes)
    pub still : new.errors.failures ≡ 0 → old.errors.failures ≡ 0
    pub people : new.to_people ≡ old.to_people

-- nothing was said and nothing heard
abbrev pub IsSilent : {W E : Type 0} → Advised W E → Advised W E → Type 0
IsSilent old new = new ≡ record old { output = new.output }
