-- How many handles of a broadcast channel are live after a call, counted.
use Rattle.std.specs.Prelude.{ℕ, ◌+◌, ◌-◌, length, if◌then◌else◌}
use Rattle.th_model.specs.declared.broadcast.BCall.{BCall}
use Rattle.th_model.specs.declared.broadcast.BCall.TheVariants.{Subscribe, SubscribeOldest, Resubscribe, CloneTx, DropTx, DropRx}
use Rattle.th_model.specs.Handles.{is_sender, is_full}
use Rattle.th_model.specs.Places.{place_of}
use Rattle.th_model.specs.BroadcastPicture.{Picture}
use Rattle.th_model.specs.Live.{live_handles, if_there}

module _ {T : Type 0} where
  -- one handle more of a kind of which n are live, where there is room
  abbrev pub one_more : Picture T → ℕ → ℕ
  one_more p n = if is_full n p.next then live_handles p else live_handles p + 1

  -- what a sender's call leaves, where it is live
  abbrev pub by_sender : Picture T → ℕ → ℕ → ℕ
  by_sender p tx n = if is_sender p.senders tx then n else live_handles p

  -- what a receiver's call leaves, where it is live
  abbrev pub by_receiver : Picture T → ℕ → ℕ → ℕ
  by_receiver p rx n = if_there (place_of p.window.places rx) n (live_handles p)

  -- the live handles after a call
  abbrev pub live_then : Picture T → BCall T → ℕ
  live_then p (Subscribe tx) = by_sender p tx.0 (one_more p (length p.window.places))
  live_then p (SubscribeOldest tx) = by_sender p tx.0 (one_more p (length p.window.places))
  live_then p (Resubscribe rx) = by_receiver p rx.0 (one_more p (length p.window.places))
  live_then p (CloneTx tx) = by_sender p tx.0 (one_more p (length p.senders))
  live_then p (DropTx tx) = by_sender p tx.0 (live_handles p - 1)
  live_then p (DropRx rx) = by_receiver p rx.0 (live_handles p - 1)
  live_then p call = live_handles p
