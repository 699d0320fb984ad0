-- Events that a desk makes in a row, each with its receipt, where nothing is said of what comes between them.
use Rattle.std.specs.Prelude.{◌≡◌, ℕ, zero, suc, List, [], ◌∷◌, ◌++◌, length, map, Option, Ok}
use Rattle.th_model.specs.declared.handles.TxId.{TxId}
use Rattle.th_model.specs.declared.verb.SenderVerb.TheVariants.{Send}
use Rattle.th_registry.specs.declared.opening.Found.{Found}
use Rattle.th_registry.specs.declared.opening.TopicId.{TopicId}
use Rattle.th_registry.specs.Calls.{Bytes}
use Rattle.th_registry.specs.Events.{Event, Sends}
use Rattle.th_registry.specs.Hub.{Query, Said, Find, On}
use Rattle.th_registry.specs.Receipts.{ChannelReceipt}
use Rattle.th_registry.specs.Typed.{replied}

-- the same so often
abbrev pub times : {A : Type 0} → ℕ → A → List A
times zero a = []
times (suc n) a = a ∷ times n a

-- sends of these values by a sender
abbrev pub sends_of : TxId → List Bytes → List Event
sends_of t values = map (λ v. Sends t (Send v)) values

-- receipts of events on a topic, each with the topic
abbrev pub on_topic : ℕ → List ChannelReceipt → List (TopicId × ChannelReceipt)
on_topic n receipts = map (λ r. (record { 0 = n }, r)) receipts

module _ {D : Type 0} (says : D → (q : Query) → Said q → D → Type 0) where
  -- what is found by a name here is found so there
  abbrev pub IsFoundStill : (old new : D) → Type 0
  IsFoundStill old new = (name : Bytes) (found : Option Found) →
      says old (Find name) found old → says new (Find name) found new

  -- These events were made on a topic, each where the one before it had left the desk, and these are their receipts. What was
  -- found before each is found behind it.
  abbrev pub InRow : ℕ → List Event → List ChannelReceipt → (old new : D) → Type 0
  InRow n [] [] old new = new ≡ old
  InRow n [] (r ∷ rs) old new = ⊥
  InRow n (e ∷ es) [] old new = ⊥
  InRow n (e ∷ es) (r ∷ rs) old new =
      (mid : D) × says old (On n e) (replied (Ok r)) mid × IsFoundStill old mid
      × InRow n es rs mid new

  -- the first ones of these events were made in a row, so many, and their receipts stand behind the others
  pub record MadeInRow (n : ℕ) (events : List Event)
      (receipts receipts' : List (TopicId × ChannelReceipt)) (old new : D) (count : ℕ) : Type 0 where
    pub made : List Event
    pub later : List Event
    pub parts : events ≡ made ++ later
    pub added : List ChannelReceipt
    pub counted : length added ≡ count
    pub behind : receipts' ≡ receipts ++ on_topic n added
    pub row : InRow n made added old new
