-- Room in a script: where there is some the script is carried out as without it.
use Rattle.std.proofs.Common.{◌≡◌, ℕ, inl, inr, Result, Ok, refl, sym, subst}
use Rattle.th_lines.specs.declared.command.Action.{Action}
use Rattle.th_lines.specs.declared.command.Action.TheVariants.{Bind, Unbind, Unsubscribe, End}
use Rattle.th_lines.specs.declared.reply.Code.{Code}
use Rattle.th_lines.specs.declared.reply.Code.TheVariants as Codes
use Rattle.th_lines.specs.declared.reply.Reply.TheVariants.{Refused}
use Rattle.th_registry.specs.Events.{Event}
use Rattle.th_registry.specs.Hub.{Machines, Query, Said, Topics}
use Rattle.th_session.specs.Held.{Holding}
use Rattle.th_session.specs.Script.{Answer, Plays, Replied, Room, Script, by_event, run, with_room}

-- the hub has room
pub run-in-room : {B W : Type 0} (m : Machines B W) (ts : Topics B W) (action : Action) (h : Holding) (s : Script) →
    run m ts (with_room action h s) ≡ run m ts s
run-in-room m ts action h s = elim action as (λ action. run m ts (with_room action h s) ≡ run m ts s) [ Bind ↦ refl | _ ↦ refl ]

module _ {D : Type 0} (says : D → (q : Query) → Said q → D → Type 0) where
  -- where there was room, what was done is the script
  pub plays-in-room : (action : Action) (h : Holding) (s : Script) (old : D) (answer : Answer) (after : Holding) (new : D) →
      Plays says s old answer after new → Plays says (with_room action h s) old answer after new
  plays-in-room action h s old answer after new p = elim action as (λ action. Plays says (with_room action h s) old answer after new)
      [ Unbind ↦ p | Unsubscribe ↦ p | End ↦ p | _ ↦ inl p ]

-- there was no room, and what is held is as before
module _ {D : Type 0} (says : D → (q : Query) → Said q → D → Type 0) (topic : ℕ) (h after : Holding) (old : D)
    {judgement : Result Event Code} {event : Event} where
  pub no-room : (action : Action) → ((s : Script) → with_room action h s ≡ Room h s) → judgement ≡ Ok event → after ≡ h →
      Plays says (by_event action topic h judgement) old (Replied (Refused Codes.NoMemory)) after old
  no-room action needs j same =
      let P : Script → Type 0 = λ s. Plays says s old (Replied (Refused Codes.NoMemory)) after old in
      subst (λ k. P (by_event action topic h k)) (sym j) (subst P (sym (needs _)) (inr (refl, same, refl)))
