-- How many handles of a watch channel are live after a call, counted.
use Rattle.std.specs.Prelude.{ℕ, ◌+◌, ◌-◌, length, if◌then◌else◌}
use Rattle.th_model.specs.declared.watch.WCall.{WCall}
use Rattle.th_model.specs.declared.watch.WCall.TheVariants.{Subscribe, CloneRx, CloneTx, DropTx, DropRx}
use Rattle.th_model.specs.Handles.{is_sender, is_full}
use Rattle.th_model.specs.WatchMachine.{reader_of}
use Rattle.th_model.specs.WatchPicture.{Picture}
use Rattle.th_model.specs.Live.{live_watchers, if_there}

module _ {T : Type 0} where
  -- one handle more of a kind of which n are live, where there is room
  abbrev pub one_more : Picture T → ℕ → ℕ
  one_more p n = if is_full n p.next then live_watchers p else live_watchers p + 1

  -- what a sender's call leaves, where it is live
  abbrev pub by_sender : Picture T → ℕ → ℕ → ℕ
  by_sender p tx n = if is_sender p.senders tx then n else live_watchers p

  -- what a reader's call leaves, where it is live
  abbrev pub by_reader : Picture T → ℕ → ℕ → ℕ
  by_reader p rx n = if_there (reader_of p.readers rx) n (live_watchers p)

  -- the live handles after a call
  abbrev pub live_then : Picture T → WCall T → ℕ
  live_then p (Subscribe tx) = by_sender p tx.0 (one_more p (length p.readers))
  live_then p (CloneRx rx) = by_reader p rx.0 (one_more p (length p.readers))
  live_then p (CloneTx tx) = by_sender p tx.0 (one_more p (length p.senders))
  live_then p (DropTx tx) = by_sender p tx.0 (live_watchers p - 1)
  live_then p (DropRx rx) = by_reader p rx.0 (live_watchers p - 1)
  live_then p call = live_watchers p
