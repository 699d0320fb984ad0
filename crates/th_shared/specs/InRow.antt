-- Events of a handle that were made in a row, under one lock.
use Rattle.std.specs.Prelude.{◌≡◌, ◌⊎◌, ℕ, ◌+◌, ◌≤◌, List, [], length, map, Option, Some}
use Rattle.th_block.specs.Handles.{Holder, rx, tx}
use Rattle.th_block.specs.Rows.{CallsInRow}
use Rattle.th_block.specs.Together.{CallsOf}
use Rattle.th_model.specs.declared.broadcast.BCall.TheVariants as BCalls
use Rattle.th_model.specs.declared.verb.ReceiverVerb.{ReceiverVerb}
use Rattle.th_registry.specs.Calls.{Bytes}
use Rattle.th_registry.specs.Events.{Receives, broadcast_call, watch_call}
use Rattle.th_registry.specs.Receipts.{BroadcastReceipt, ChannelReceipt, Receipt, WatchReceipt}
use Rattle.th_registry.specs.declared.channel.Channel.TheVariants.{Broadcast, Watch}
use Rattle.th_shared.specs.declared.handles.TopicReceiver.{TopicReceiver}
use Rattle.th_shared.specs.declared.handles.TopicReceiver.TheVariants.{Live}
use Rattle.th_shared.specs.Numbers.{TopicHandle}

-- Sends of these values on a topic, of the first ones, with these receipts: in a row, all of which the handle has seen now; its
-- share has exactly as many events more.
pub record SendsTogether (n : ℕ) (values : List Bytes) (old new : Holder)
    (told : List BroadcastReceipt) : Type 0 where
  pub on : old.known.share.key ≡ n + 1
  pub over : List Bytes
  pub row : CallsOf (λ v. BCalls.Send (tx old) v) old new values over [] told

-- the same, or none was made, and nothing has changed
abbrev pub SendsOnce : ℕ → List Bytes → (old new : Holder) → List BroadcastReceipt → Type 0
SendsOnce n values old new told =
    ((told ≡ []) × (new ≡ old)) ⊎ SendsTogether n values old new told

-- Events of one call on a topic, at most so many, whose receipts are these.
pub record CallsTogether {C R : Type 0} (n : ℕ) (call : Option C) (most : ℕ) (old new : Holder)
    (told : List (Receipt C R)) : Type 0 where
  pub on : old.known.share.key ≡ n + 1
  pub made : C
  pub is : call ≡ Some made
  pub row : CallsInRow old new made told
  pub within : length told ≤ most

-- the same, or none was made, and nothing has changed
abbrev pub CallsOnce : {C R : Type 0} → ℕ → Option C → (most : ℕ) → (old new : Holder)
    → List (Receipt C R) → Type 0
CallsOnce n call most old new told =
    ((told ≡ []) × (new ≡ old)) ⊎ CallsTogether n call most old new told

-- what a row of sends did to a handle that told of it by these receipts; a watch channel makes none
abbrev pub SendsInRow : ℕ → List Bytes → (old new : TopicHandle) → List ChannelReceipt → Type 0
SendsInRow n values (Broadcast old) (Broadcast new) told = (rs : List BroadcastReceipt)
    × (told ≡ map (λ r. Broadcast r) rs) × SendsOnce n values old new rs
SendsInRow n values old new told = (told ≡ []) × (new ≡ old)

-- what a row of receives did to a receiver that told of it by these receipts; one that was spent makes none
abbrev pub ReceivesInRow : ℕ → ReceiverVerb → (most : ℕ) → (old new : TopicReceiver)
    → List ChannelReceipt → Type 0
ReceivesInRow n verb most (Live (Broadcast old)) (Live (Broadcast new)) told =
    (rs : List BroadcastReceipt) × (told ≡ map (λ r. Broadcast r) rs)
    × CallsOnce n (broadcast_call (Receives (rx old) verb)) most old new rs
ReceivesInRow n verb most (Live (Watch old)) (Live (Watch new)) told =
    (rs : List WatchReceipt) × (told ≡ map (λ r. Watch r) rs)
    × CallsOnce n (watch_call (Receives (rx old) verb)) most old new rs
ReceivesInRow n verb most old new told = (told ≡ []) × (new ≡ old)
