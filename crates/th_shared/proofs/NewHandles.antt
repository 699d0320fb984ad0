-- New handles, as those of a topic.
use Rattle.std.proofs.Common.{◌≡◌, ℕ, Bool, Option, Some, None, Result, Ok, Err, IfOk, IfSome, inl, inr, sym, subst}
use Rattle.th_block.specs.Handles.{Holder}
use Rattle.th_log.specs.Outcome.{Told}
use Rattle.th_registry.specs.Receipts.{BroadcastReceipt, ChannelReceipt, WatchReceipt}
use Rattle.th_registry.specs.declared.channel.Channel.TheVariants.{Broadcast, Watch}
use Rattle.th_registry.specs.declared.outcome.Made.{Made}
use Rattle.th_registry.specs.declared.outcome.NoEvent.{NoEvent}
use Rattle.th_shared.specs.declared.handles.TopicReceiver.{TopicReceiver}
use Rattle.th_shared.specs.declared.handles.TopicReceiver.TheVariants.{Live}
use Rattle.th_shared.specs.Doing.{Hands, HandsNew, IsNew, IsNewHandle, IsNewReceiver}
use Rattle.th_shared.specs.Numbers.{TopicHandle}

module _ {C R H : Type 0} (n : ℕ) (rolls : Bool) (receipt : Told C R → ChannelReceipt) (turn : Holder → H)
    (P : ChannelReceipt → H → Type 0) (of : (r : Told C R) (h : Holder) → IsNew n rolls r h → P (receipt r) (turn h)) where
  pub handed : (r : Told C R) (made : Option Holder) (out : Option H) → IfSome made (IsNew n rolls r) → Hands turn made out →
      IfSome out (P (receipt r))
  handed r made out new (inl none) = subst (λ (o : Option H). IfSome o (P (receipt r))) (sym none) tt
  handed r (Some h) out new (inr is) = subst (λ (o : Option H). IfSome o (P (receipt r))) (sym is) (of r h new)
  handed r None out new (inr is) = subst (λ (o : Option H). IfSome o (P (receipt r))) (sym is) tt

  handed_new : (said : Result (Told C R × Option Holder) NoEvent) (told : ChannelReceipt) (out : Option H) →
      IfOk said (λ new. IfSome new.1 (IsNew n rolls new.0)) → HandsNew receipt turn said told out → IfSome out (P told)
  handed_new (Ok new) told out fresh hands =
      subst (λ (t : ChannelReceipt). IfSome out (P t)) (sym hands.0) (handed new.0 new.1 out fresh hands.1)
  handed_new (Err why) told out fresh hands = absurd hands

  new_made : (said : Result (Told C R × Option Holder) NoEvent) (result : Result (Made H) NoEvent) →
      IfOk said (λ new. IfSome new.1 (IsNew n rolls new.0)) →
      IfOk result (λ made. HandsNew receipt turn said made.receipt made.handle) → IfOk result (λ made. IfSome made.handle (P made.receipt))
  new_made said (Ok made) fresh hands = handed_new said made.receipt made.handle fresh hands
  new_made said (Err why) fresh hands = tt

module _ (n : ℕ) (rolls : Bool) where
  pub new_broadcast : (said : Result (BroadcastReceipt × Option Holder) NoEvent) (result : Result (Made TopicHandle) NoEvent) →
      IfOk said (λ new. IfSome new.1 (IsNew n rolls new.0)) →
      IfOk result (λ made. HandsNew (λ r. Broadcast r) (λ h. Broadcast h) said made.receipt made.handle) →
      IfOk result (λ made. IfSome made.handle (IsNewHandle n rolls made.receipt))
  new_broadcast = new_made n rolls (λ r. Broadcast r) (λ h. Broadcast h) (IsNewHandle n rolls)
      (λ r h new. record { share = new.share; seen = new.seen; rolls_is = new.rolls_is })

  pub new_watch : (said : Result (WatchReceipt × Option Holder) NoEvent) (result : Result (Made TopicHandle) NoEvent) →
      IfOk said (λ new. IfSome new.1 (IsNew n rolls new.0)) →
      IfOk result (λ made. HandsNew (λ r. Watch r) (λ h. Watch h) said made.receipt made.handle) →
      IfOk result (λ made. IfSome made.handle (IsNewHandle n rolls made.receipt))
  new_watch = new_made n rolls (λ r. Watch r) (λ h. Watch h) (IsNewHandle n rolls)
      (λ r h new. record { share = new.share; seen = new.seen; rolls_is = new.rolls_is })

  pub new_broadcast_receiver : (said : Result (BroadcastReceipt × Option Holder) NoEvent) (result : Result (Made TopicReceiver) NoEvent) →
      IfOk said (λ new. IfSome new.1 (IsNew n rolls new.0)) →
      IfOk result (λ made. HandsNew (λ r. Broadcast r) (λ h. Live (Broadcast h)) said made.receipt made.handle) →
      IfOk result (λ made. IfSome made.handle (IsNewReceiver n rolls made.receipt))
  new_broadcast_receiver = new_made n rolls (λ r. Broadcast r) (λ h. Live (Broadcast h)) (IsNewReceiver n rolls)
      (λ r h new. record { share = new.share; seen = new.seen; rolls_is = new.rolls_is })

  pub new_watch_receiver : (said : Result (WatchReceipt × Option Holder) NoEvent) (result : Result (Made TopicReceiver) NoEvent) →
      IfOk said (λ new. IfSome new.1 (IsNew n rolls new.0)) →
      IfOk result (λ made. HandsNew (λ r. Watch r) (λ h. Live (Watch h)) said made.receipt made.handle) →
      IfOk result (λ made. IfSome made.handle (IsNewReceiver n rolls made.receipt))
  new_watch_receiver = new_made n rolls (λ r. Watch r) (λ h. Live (Watch h)) (IsNewReceiver n rolls)
      (λ r h new. record { share = new.share; seen = new.seen; rolls_is = new.rolls_is })

  pub new_in_place : (r : BroadcastReceipt) (made : Option Holder) (told : ChannelReceipt) (out : Option TopicReceiver) →
      told ≡ Broadcast r → IfSome made (IsNew n rolls r) → Hands (λ h. Live (Broadcast h)) made out →
      IfSome out (IsNewReceiver n rolls told)
  new_in_place r made told out is new hands =
      subst (λ (t : ChannelReceipt). IfSome out (IsNewReceiver n rolls t)) (sym is)
      (handed n rolls (λ r. Broadcast r) (λ h. Live (Broadcast h)) (IsNewReceiver n rolls)
      (λ r h new. record { share = new.share; seen = new.seen; rolls_is = new.rolls_is }) r made out new hands)
