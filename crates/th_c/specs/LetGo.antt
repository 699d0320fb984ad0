-- How many values a broadcast channel lets go of by a call, from what is known before it and seen
-- after it.
use Rattle.std.specs.Prelude.{ℕ, ◌-◌, ◌==◌, if◌then◌else◌, length, Option, Some, None}
use Rattle.th_model.specs.declared.broadcast.BCall.{BCall}
use Rattle.th_model.specs.declared.broadcast.BCall.TheVariants.{Send, TryRecv, Recv, DropRx}
use Rattle.th_model.specs.declared.broadcast.BReply.{BReply}
use Rattle.th_model.specs.declared.broadcast.BReply.TheVariants.{Sent, Value}
use Rattle.th_model.specs.BroadcastPicture.{Picture}
use Rattle.th_model.specs.Places.{place_of}
use Rattle.th_model.specs.Window.{Window, value_at}
use Rattle.th_c.specs.declared.let_go.Note.{Note}
use Rattle.th_c.specs.declared.let_go.Note.TheVariants.{Nothing, Full, Alone, Place, Kept}

-- the note of a receive: that its receiver is the only one, or else that receiver's place
abbrev pub noted_receive : {T : Type 0} → Picture T → ℕ → Note
noted_receive before rx =
    if length before.window.places == 1 then Alone else Place (place_of before.window.places rx)

-- the note of a call: of a send whether the window is full, of a receive by whom it is, and of a
-- receiver's last call how many values are kept
abbrev pub noted : {T : Type 0} → Picture T → BCall T → Note
noted before (Send tx value) = Full (length before.window.kept == before.window.capacity)
noted before (TryRecv rx) = noted_receive before rx.0
noted before (Recv rx) = noted_receive before rx.0
noted before (DropRx rx) = Kept (length before.window.kept)
noted before call = Nothing

-- one where nothing is kept at the position
abbrev pub one_if_none : {T : Type 0} → Option T → ℕ
one_if_none (Some value) = 0
one_if_none None = 1

abbrev pub gone_at : {T : Type 0} → Window T → ℕ → ℕ
gone_at after position = one_if_none (value_at after position)

-- A value that is sent into a full window takes the oldest one's place; one that is read is gone
-- where it is kept no longer, as it is where nobody else has to read it.
abbrev pub gone : {T : Type 0} → Note → BReply T → Picture T → ℕ
gone (Full full) (Sent n) after = if full then 1 else 0
gone Alone (Value value) after = 1
gone (Place (Some place)) (Value value) after = gone_at after.window place
gone (Kept count) reply after = count - length after.window.kept
gone note reply after = 0
