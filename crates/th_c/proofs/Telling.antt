-- What C is told of a call, by the machine's answer to it.
use Rattle.std.proofs.Common.{◌≡◌, ℕ, ◌+◌, ◌-◌, ap, sym, length}
use Rattle.th_model.specs.declared.broadcast.BCall.{BCall}
use Rattle.th_model.specs.declared.broadcast.BReply.{BReply}
use Rattle.th_model.specs.BroadcastPicture.{Picture, answer}
use Rattle.th_c.specs.Broadcast.{number_of, sent_by, status_of, tells}
use Rattle.th_c.specs.declared.reply.Reply.{Reply}

-- by an answer of a broadcast channel
abbrev pub told_by : {T : Type 0} → (T → ℕ) → Picture T → BReply T × Picture T → Reply
told_by number before a = record {
  status = status_of a.0;
  let_go = length before.window.kept + sent_by a.0 - length a.1.window.kept;
  number = number_of number a.0;
}

pub tells_of : {T : Type 0} (number : T → ℕ) (before after : Picture T) (call : BCall T) (reply : BReply T)
    → answer before call ≡ (reply, after) → told_by number before (reply, after) ≡ tells number before call
tells_of number before after call reply e = ap (told_by number before) (sym e)
