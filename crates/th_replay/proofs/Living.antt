-- What the actors of a schedule's hub hold is live, and none of it is held by two.
use Rattle.std.proofs.Common.{◌≡◌, ℕ, zero, suc, ◌<◌, ◌⊎◌, inl, inr, Bool, true, false, cond, List, [], ◌∷◌, ◌++◌, length, Option, Some, None, slice_get, refl, sym, ap, subst, arith}
use Rattle.std.specs.Prelude.{◌↔◌, IsSome, nat_eq, nat_le, remove}
use Rattle.std.specs.Cmp.Lexicographic.{pointwise}
use Rattle.std.specs.Option.{unwrap_or}
use Rattle.std.specs.List.{AllByRecursion}
use Rattle.std.specs.Map.{keys_of, values_of}
use Rattle.std.proofs.lemmas.Bool.{false≢true, lt-leb}
use Rattle.std.proofs.lemmas.List.Quantifiers.{position-Some}
use Rattle.std.proofs.lemmas.Option.{none-some, same_Some}
use Rattle.indexmap.specs.IndexMap.{set_value_at}
use Rattle.th_model.proofs.BroadcastProperness.{cond_case}
use Rattle.th_lines.specs.Lines.{Line, Good, Long}
use Rattle.th_lines.specs.Replies.{spell}
use Rattle.th_lines.specs.Commands.{step_of}
use Rattle.th_lines.specs.declared.command.Actor.{Actor}
use Rattle.th_lines.specs.declared.command.Action.{Action}
use Rattle.th_lines.specs.declared.command.Command.{Command}
use Rattle.th_lines.specs.declared.command.Command.TheVariants.{On}
use Rattle.th_lines.specs.declared.reply.Reply.TheVariants.{Refused}
use Rattle.th_lines.specs.declared.reply.Code.TheVariants as Codes
use Rattle.th_registry.specs.declared.opening.Found.{Found}
use Rattle.th_registry.specs.Calls.{Bytes}
use Rattle.th_registry.specs.Endless.{EndlessTopics}
use Rattle.th_registry.specs.Hub.{find}
use Rattle.th_registry.specs.Live.{Handle}
use Rattle.th_session.specs.Held.{Holding, handles_at}
use Rattle.th_session.specs.Laws.{Lacks}
use Rattle.th_session.specs.Live.{Has, AllIsLive}
use Rattle.th_session.specs.Script.{Answer, Replied, has_quit, reply_of}
use Rattle.th_session.specs.Table.{is_for}
use Rattle.th_session.proofs.Live.{what_is_lacking_is_exact}
use Rattle.th_session.proofs.Living.{AreSound, Lives, IsOthers, Keeps, has-nothing, lives-nothing, command_keeps}
use Rattle.th_replay.specs.Session.{turn, session_end, first_mark, later_marks}
use Rattle.th_replay.specs.Schedule.{Hub, Actors, machine, start, by_step, by_place, by_holding, started, most_actors, most_entries, place_of, endless_step, answer_to}
use Rattle.th_replay.specs.Live.{MayAct, holding_at, held_at, held_by}
use Rattle.th_replay.specs.Laws.{WhatIsHeldIsLive, WhatIsHeldIsNotShared, NotHeldIsExact}

-- no handle is held by both
abbrev Apart : Holding → Holding → Type 0
Apart h k = (n : ℕ) (x : Handle) → Has (handles_at h n) x → Has (handles_at k n) x → ⊥

abbrev AllApart : Holding → Actors → Type 0
AllApart h actors = AllByRecursion (λ b. Apart h b.1) actors

-- what each actor holds is live, and none of it is held by a later one
abbrev Living : EndlessTopics → Actors → Type 0
Living ts [] = Unit {0}
Living ts (a ∷ actors) = Lives ts a.1 × AllApart a.1 actors × Living ts actors

turned : (h k : Holding) → Apart h k → Apart k h
turned h k apart n x has also = apart n x also has

apart-at : (h k : Holding) (actors : Actors) (place : ℕ) → AllApart h actors → holding_at actors place ≡ Some k → Apart h k
apart-at h k [] place all at = absurd (none-some k at)
apart-at h k (a ∷ actors) zero all at = subst (Apart h) (same_Some a.1 k at) all.0
apart-at h k (a ∷ actors) (suc place) all at = apart-at h k actors place all.1 at

apart-set : (h k : Holding) (actors : Actors) (place : ℕ) → AllApart h actors → Apart h k → AllApart h (set_value_at actors place k)
apart-set h k [] place all apart = tt
apart-set h k (a ∷ actors) zero all apart = (apart, all.1)
apart-set h k (a ∷ actors) (suc place) all apart = (all.0, apart-set h k actors place all.1 apart)

apart-remove : (h : Holding) (actors : Actors) (place : ℕ) → AllApart h actors → AllApart h (remove actors place)
apart-remove h [] zero all = tt
apart-remove h [] (suc place) all = tt
apart-remove h (a ∷ actors) zero all = all.1
apart-remove h (a ∷ actors) (suc place) all = (all.0, apart-remove h actors place all.1)

apart-append : (h k : Holding) (actors : Actors) (name : List ℕ) → AllApart h actors → Apart h k → AllApart h (actors ++ (name, k) ∷ [])
apart-append h k [] name all apart = (apart, tt)
apart-append h k (a ∷ actors) name all apart = (all.0, apart-append h k actors name all.1 apart)

-- one actor's command
module _ {ts ts' : EndlessTopics} {h h' : Holding} (keeps : Keeps h ts h' ts') where
  -- what another holds is live then, and the two are apart
  other : (k : Holding) → Lives ts k → Apart h k → Lives ts' k × Apart h' k
  other k l apart =
      let others : (n : ℕ) (x : Handle) → Has (handles_at k n) x → IsOthers ts' h' n x =
      λ n x has. keeps.others n x (record { live = l.live n x has; own = l.own n x has; apart = λ mine. apart n x mine has }) in
      (record { rising = l.rising; live = λ n x has. (others n x has).live; own = l.own }, λ n x mine has. (others n x has).apart mine)

  all-others : (actors : Actors) → AllApart h actors → Living ts actors → Living ts' actors × AllApart h' actors
  all-others [] all living = (tt, tt)
  all-others (b ∷ actors) all living =
      let here = other b.1 living.0 all.0 in
      let rest = all-others actors all.1 living.2 in
      ((here.0, living.1, rest.0), (here.1, rest.1))

  -- one that is apart from the actor at this place stays so
  living-set : (actors : Actors) (place : ℕ) → Living ts actors → holding_at actors place ≡ Some h →
      Living ts' (set_value_at actors place h')
  living-set [] place living at = tt
  living-set (a ∷ actors) zero living at =
      let rest = all-others actors (subst (λ k. AllApart k actors) (same_Some a.1 h at) living.1) living.2 in
      (keeps.lives, rest.1, rest.0)
  living-set (a ∷ actors) (suc place) living at =
      let here = other a.1 living.0 (turned a.1 h (apart-at a.1 h actors place living.1 at)) in
      (here.0, apart-set a.1 h' actors place living.1 (turned h' a.1 here.1), living-set actors place living.2 at)

  living-remove : (actors : Actors) (place : ℕ) → Living ts actors → holding_at actors place ≡ Some h → Living ts' (remove actors place)
  living-remove [] place living at = absurd (none-some h at)
  living-remove (a ∷ actors) zero living at = (all-others actors (subst (λ k. AllApart k actors) (same_Some a.1 h at) living.1) living.2).0
  living-remove (a ∷ actors) (suc place) living at =
      let here = other a.1 living.0 (turned a.1 h (apart-at a.1 h actors place living.1 at)) in
      (here.0, apart-remove a.1 actors place living.1, living-remove actors place living.2 at)

  living-append : (actors : Actors) (name : List ℕ) → Living ts' actors → AllApart h' actors → Living ts' (actors ++ (name, h') ∷ [])
  living-append [] name living all = (keeps.lives, tt, tt)
  living-append (a ∷ actors) name living all = (
    living.0,
    apart-append a.1 h' actors name living.1 (turned h' a.1
        all.0),
    living-append actors name living.2 all.1,
  )

-- one who holds nothing is apart from all
nothing-apart : (actors : Actors) → AllApart [] actors
nothing-apart [] = tt
nothing-apart (a ∷ actors) = (λ n x has also. has-nothing x has, nothing-apart actors)

-- the hub
pub record IsLiving (hub : Hub EndlessTopics) : Type 0 where
  pub sound : AreSound hub.topics
  pub living : Living hub.topics hub.actors

module _ (hub : Hub EndlessTopics) (l : IsLiving hub) where
  lives-at : (actors : Actors) (place : ℕ) (held : Holding) → Living hub.topics actors → holding_at actors place ≡ Some held →
      Lives hub.topics held
  lives-at [] place held living at = absurd (none-some held at)
  lives-at (a ∷ actors) zero held living at = subst (Lives hub.topics) (same_Some a.1 held at) living.0
  lives-at (a ∷ actors) (suc place) held living at = lives-at actors place held living.2 at

  holding_living : (place : ℕ) (command : Command) (o : Option Holding) → holding_at hub.actors place ≡ o →
      IsLiving (by_holding endless_step hub place command o).1
  holding_living place command None at = l
  holding_living place command (Some held) at =
      let end : Answer × Holding × EndlessTopics = endless_step hub.topics held command in
      let keeps : Keeps held hub.topics end.1 end.2 = command_keeps most_entries hub.topics held command l.sound
      (lives-at hub.actors place held l.living at) in
      record {
        sound = keeps.sound;
        living = cond_case (Living end.2) (has_quit end.0) (remove hub.actors place) (set_value_at hub.actors place end.1)
            (λ _. living-remove keeps hub.actors place l.living at) (λ _. living-set keeps hub.actors place l.living at);
      }

  first_living : (name : List ℕ) (command : Command) → IsLiving (started endless_step hub name (endless_step hub.topics [] command)).1
  first_living name command =
      let end : Answer × Holding × EndlessTopics = endless_step hub.topics [] command in
      let keeps : Keeps [] hub.topics end.1 end.2 = command_keeps most_entries hub.topics [] command l.sound
      (lives-nothing hub.topics [] refl) in
      let rest = all-others keeps hub.actors (nothing-apart hub.actors) l.living in
      record {
        sound = keeps.sound;
        living = cond_case (Living end.2) _ hub.actors (hub.actors ++ (name, end.1) ∷ []) (λ _. rest.0)
            (λ _. living-append keeps hub.actors name rest.0 rest.1);
      }

  place_living : (name : List ℕ) (command : Command) (o : Option ℕ) → IsLiving (by_place endless_step hub name command o).1
  place_living name command None = cond_case (λ (end : Answer × Hub EndlessTopics). IsLiving end.1) (nat_le 1024 (length hub.actors))
      (Replied (Refused Codes.TooMany), hub)
      (started endless_step hub name (endless_step hub.topics [] command)) (λ _. l) (λ _. first_living name command)
  place_living name command (Some place) = holding_living place command (slice_get (values_of hub.actors) place) refl

  step_living : (o : Option (Actor × Command)) → IsLiving (by_step endless_step hub o).1
  step_living None = l
  step_living (Some order) = place_living order.0.0 order.1 (place_of hub.actors order.0.0)

  answer_living : (line : Line) → IsLiving (machine.answer hub line).1
  unfolding answer_to machine
  answer_living Long = l
  answer_living (Good bytes) = step_living (step_of bytes)

  -- a line is answered, or refused with nothing changed
  turn_living : (line : Line) (marked : Bool) → IsLiving (turn machine hub line marked).1
  unfolding turn machine
  turn_living line marked =
      cond_case (λ (said : List ℕ × Hub EndlessTopics). IsLiving said.1) _ (spell (Refused Codes.NoMemory), hub) (machine.answer hub line)
      (λ _. l) (λ _. answer_living line)

end_living : (hub : Hub EndlessTopics) → IsLiving hub → (lines : List Line) (marks : List Bool) →
    IsLiving (session_end machine hub lines marks)
end_living hub l [] marks = l
end_living hub l (line ∷ lines) marks =
    end_living (turn machine hub line (first_mark marks)).1 (turn_living hub l line (first_mark marks)) lines (later_marks marks)

start_living : IsLiving start
start_living = record { sound = record { proper = tt; numbered = tt }; living = tt }

-- the law

all-live : (ts : EndlessTopics) (actors : Actors) → Living ts actors → AllByRecursion (λ actor. AllIsLive ts actor.1) actors
all-live ts [] living = tt
all-live ts (a ∷ actors) living = (living.0.live, all-live ts actors living.2)

pub what_is_held_is_live : WhatIsHeldIsLive
what_is_held_is_live lines marks =
    let hub = session_end machine start lines marks in all-live hub.topics hub.actors (end_living start start_living lines marks).living

none-shared : (ts : EndlessTopics) (actors : Actors) → Living ts actors → (i j : ℕ) (h k : Holding) (n : ℕ) (x : Handle) →
    holding_at actors i ≡ Some h → holding_at actors j ≡ Some k → Has (handles_at h n) x → Has (handles_at k n) x → i ≡ j
none-shared ts [] living i j h k n x at at' has also = absurd (none-some h at)
none-shared ts (a ∷ actors) living zero zero h k n x at at' has also = refl
none-shared ts (a ∷ actors) living zero (suc j) h k n x at at' has also =
    absurd (apart-at a.1 k actors j living.1 at' n x (subst (λ held. Has (handles_at held n) x) (sym (same_Some a.1 h at)) has) also)
none-shared ts (a ∷ actors) living (suc i) zero h k n x at at' has also =
    absurd (apart-at a.1 h actors i living.1 at n x (subst (λ held. Has (handles_at held n) x) (sym (same_Some a.1 k at')) also) has)
none-shared ts (a ∷ actors) living (suc i) (suc j) h k n x at at' has also =
    ap suc (none-shared ts actors living.2 i j h k n x at at' has also)

pub what_is_held_is_not_shared : WhatIsHeldIsNotShared
what_is_held_is_not_shared lines marks =
    let hub = session_end machine start lines marks in none-shared hub.topics hub.actors (end_living start start_living lines marks).living

-- what follows of the refusals

-- an actor that is found is there
there : (actors : Actors) (place : ℕ) → place < length (keys_of actors) → IsSome (holding_at actors place)
there [] place h = absurd (omega (arith, h))
there (a ∷ actors) zero h = refl
there (a ∷ actors) (suc place) h = there actors place (omega (arith, h))

found-there : (actors : Actors) (name : List ℕ) (place : ℕ) → place_of actors name ≡ Some place → IsSome (holding_at actors place)
found-there actors name place e = there actors place (position-Some (pointwise nat_eq name) (keys_of actors) place [] e).0

-- the answer is that the handle is not held exactly where it is lacking
abbrev IsExact : Answer → Action → Holding → ℕ → Type 0
IsExact answer action h n = (reply_of answer ≡ Some (Refused Codes.NotHeld)) ↔ Lacks action (handles_at h n)

module _ (hub : Hub EndlessTopics) (l : IsLiving hub) (name : Bytes) (action : Action) (t : Found)
    (e : find hub.topics name ≡ Some t) (right : is_for t.kind action ≡ true) where
  holding-exact : (place : ℕ) (o : Option Holding) → holding_at hub.actors place ≡ o → IsSome o →
      IsExact (by_holding endless_step hub place (On name action) o).0 action (unwrap_or o []) t.topic.0
  holding-exact place None at some = absurd (false≢true some)
  holding-exact place (Some held) at some = what_is_lacking_is_exact most_entries hub.topics held name action t e right
      ((lives-at hub l hub.actors place held l.living at).live t.topic.0)

  starting-exact : (full : Bool) (actor : List ℕ) → full ≡ false →
      IsExact (cond {A = Answer × Hub EndlessTopics} full (Replied (Refused Codes.TooMany), hub)
      (started endless_step hub actor (endless_step hub.topics [] (On name action)))).0 action [] t.topic.0
  starting-exact true actor room = absurd (false≢true (sym room))
  starting-exact false actor room = what_is_lacking_is_exact most_entries hub.topics [] name action t e right
      (λ x has. absurd (has-nothing x has))

  has-room : (o : Option ℕ) → IsSome o ⊎ (length hub.actors < most_actors) → o ≡ None → nat_le most_actors (length hub.actors) ≡ false
  has-room o (inl some) none = absurd (false≢true (subst IsSome none some))
  has-room o (inr few) none = lt-leb most_actors (length hub.actors) few

  place-exact : (actor : List ℕ) (o : Option ℕ) → place_of hub.actors actor ≡ o → MayAct hub.actors actor →
      IsExact (by_place endless_step hub actor (On name action) o).0 action (held_at hub.actors o) t.topic.0
  place-exact actor None at may = starting-exact (nat_le most_actors (length hub.actors)) actor
      (has-room (place_of hub.actors actor) may at)
  place-exact actor (Some place) at may = holding-exact place (holding_at hub.actors place) refl (found-there hub.actors actor place at)

  answer-exact : (bytes : List ℕ) (actor : Actor) → step_of bytes ≡ Some (actor, On name action) → MayAct hub.actors actor.0 →
      IsExact (answer_to endless_step hub (Good bytes)).0 action (held_by hub.actors actor.0) t.topic.0
  unfolding answer_to
  answer-exact bytes actor is may =
      subst (λ (o : Option (Actor × Command)). IsExact (by_step endless_step hub o).0 action (held_by hub.actors actor.0) t.topic.0)
      (sym is) (place-exact actor.0 (place_of hub.actors actor.0) refl may)

pub not_held_is_exact : NotHeldIsExact
not_held_is_exact lines marks bytes actor name action t is may e right =
    answer-exact (session_end machine start lines marks) (end_living start start_living lines marks) name action t e right bytes actor is
    may
