-- Which values a broadcast channel lets go of by a call: the oldest ones.
use Rattle.std.specs.Prelude.{◌≡◌, ℕ, List, [], ◌∷◌, ◌++◌, drop}
use Rattle.th_model.specs.declared.broadcast.BCall.{BCall}
use Rattle.th_model.specs.declared.broadcast.BCall.TheVariants.{Send}
use Rattle.th_model.specs.declared.broadcast.BReply.{BReply}
use Rattle.th_model.specs.declared.broadcast.BReply.TheVariants.{Sent, Value}
use Rattle.th_model.specs.BroadcastPicture.{Picture, IsSound, answer}
use Rattle.th_c.specs.Broadcast.{tells}

-- the value that was sent, where this is the reply
abbrev pub sent_values : {T : Type 0} → BReply T → BCall T → List T
sent_values (Sent n) (Send tx value) = value ∷ []
sent_values reply call = []

-- Kept after a call are the values that were kept and then the one that was sent, without as many at
-- the front as C is told.
abbrev pub LetsGoOldestFirst : Type 0 → Type 0
LetsGoOldestFirst T = (number : T → ℕ) (p : Picture T) (call : BCall T)
    → (let a = answer p call in
    a.1.window.kept ≡ drop (tells number p call).let_go (p.window.kept ++ sent_values a.0 call))

-- A value that is read, where C is told of one that is let go, was the oldest of those kept.
abbrev pub LetsGoOfWhatIsRead : Type 0 → Type 0
LetsGoOfWhatIsRead T = (number : T → ℕ) (p : Picture T) (call : BCall T) (value : T) → IsSound p
    → (answer p call).0 ≡ Value value → (tells number p call).let_go ≡ 1
    → (rest : List T) × (p.window.kept ≡ value ∷ rest)
