-- Calls of a handle that are made together, of what stands in a queue, or as many as have their answers.
use Rattle.std.specs.Prelude.{◌≡◌, ℕ, ◌+◌, ◌≤◌, ◌<◌, Bool, false, List, [], ◌∷◌, ◌++◌, length, Result, Ok, Err, MatchResult}
use Rattle.th_log.specs.Outcome.{Told}
use Rattle.th_log.specs.declared.receipt.Refused.{Refused}
use Rattle.th_block.specs.Handles.{Holder, IsBack, IsFullAsSeen, Known, Looked, Tells, call_of, seen_of}
use Rattle.th_block.specs.declared.more.More.{More}
use Rattle.th_block.specs.declared.more.More.TheVariants.{Made, Waits}
use Rattle.th_block.specs.declared.more.More.TheVariants.{Refused as WasRefused}
use Rattle.th_block.specs.Rows.{CallsInRow, EnteredInRow, counted_by}

-- no call is made of the first of these, since it would wait in some state; or there is none
abbrev pub StopsAt : {S V C : Type 0} → (ready : S → C → Bool) → (call : V → C) → List V → Type 0
StopsAt ready call [] = Unit {0}
StopsAt {S} ready call (v ∷ vs) = (p : S) × (ready p (call v) ≡ false)

-- the call of the first of these would wait as things stand; or there is none
abbrev pub WaitsAt : {V C : Type 0} → (ready : C → Bool) → (call : V → C) → List V → Type 0
WaitsAt ready call [] = Unit {0}
WaitsAt ready call (v ∷ vs) = ready (call v) ≡ false

-- How a row of tries ended: with one that made an event, and then all were made; with one that would
-- wait; or with one that was refused.
abbrev pub EndsAs : More → (all waits : Type 0) → Type 0
EndsAs Made all waits = all
EndsAs Waits all waits = waits
EndsAs WasRefused all waits = Unit {0}

-- what is over once calls were made: what is left in the queue, and before it what was refused
abbrev pub LeavesOver : {X V C : Type 0} → (call : V → C) → Result X (Refused C) → (left : List V)
    → (List V → Type 0) → Type 0
LeavesOver call (Ok _) left P = P left
LeavesOver {X} {V} {C} call (Err e) left P = (v : V) × (call_of e ≡ call v) × P (v ∷ left)

module _ {V C R : Type 0} where
  -- these receipts stand in a row from this place on, with nothing between them: they are of the
  -- calls of these values, one of each in their order, have the share's key, and places that the
  -- handle had not seen
  abbrev pub AreOf : (old : Known) (call : V → C) (place : ℕ) → List V → List (Told C R) → Type 0
  AreOf old call place [] [] = Unit {0}
  AreOf old call place [] (r ∷ rs) = ⊥
  AreOf old call place (v ∷ vs) [] = ⊥
  AreOf old call place (v ∷ vs) (r ∷ rs) =
      Tells old (call v) r × (r.place ≡ place) × AreOf old call (place + 1) vs rs

  -- calls of the first values of a queue were made together, and these are over: in a row, all of
  -- which the handle has seen now; its share has exactly as many events more, and their receipts
  -- stand behind the others
  pub record CallsOf (call : V → C) (old new : Holder) (queue over : List V)
      (receipts receipts' : List (Told C R)) : Type 0 where
    pub number : new.number ≡ old.number
    pub rolls : new.rolls ≡ old.rolls
    pub made : List V
    pub added : List (Told C R)
    pub first : ℕ
    pub queue_is : queue ≡ made ++ over
    pub behind : receipts' ≡ receipts ++ added
    pub row : AreOf old.known call first made added
    pub seen : first + length added ≤ seen_of new.known
    pub eye : Looked old.known.eye new.known.eye
    pub share : new.known.share ≡ counted_by (length added) old.known.share

  -- calls of the first values of a queue: of all but those that are left in it, and the one that
  -- was refused before them
  abbrev pub MakesEach : (call : V → C) (old new : Holder) (queue queue' : List V)
      (receipts receipts' : List (Told C R)) → Result (Unit {0}) (Refused C) → Type 0
  MakesEach call old new queue queue' receipts receipts' result =
      LeavesOver call result queue' (λ over. CallsOf call old new queue over receipts receipts')

  -- the events of these calls were made, from a place on where the book was, up to where it is now;
  -- and the handle's eye has not looked since
  pub record EnteredOf (call : V → C) (old new : Known) (first total : ℕ) (queue over : List V)
      (receipts receipts' : List (Told C R)) : Type 0 where
    pub made : List V
    pub added : List (Told C R)
    pub queue_is : queue ≡ made ++ over
    pub behind : receipts' ≡ receipts ++ added
    pub row : AreOf old call first made added
    pub total_is : total ≡ first + length added
    pub share : new.share ≡ counted_by (length added) old.share
    pub eye : new.eye ≡ old.eye

module _ {C R : Type 0} where
  -- no reply but the last says that nothing comes any more
  abbrev pub EndsLast : (ends : R → Bool) → List (Told C R) → Type 0
  EndsLast ends [] = Unit {0}
  EndsLast ends (r ∷ []) = Unit {0}
  EndsLast ends (r ∷ s ∷ rs) = (ends r.reply ≡ false) × EndsLast ends (s ∷ rs)

  -- whether the last reply says so
  abbrev pub has_ended : (ends : R → Bool) → List (Told C R) → Bool
  has_ended ends [] = false
  has_ended ends (r ∷ []) = ends r.reply
  has_ended ends (r ∷ s ∷ rs) = has_ended ends (s ∷ rs)

  -- this call was made so often, at least once and at most up to a limit; the receipts stand in a
  -- row behind the others, and there is none behind one that nothing comes any more
  pub record Takes (ends : R → Bool) (old new : Holder) (call : C) (limit : ℕ)
      (receipts receipts' : List (Told C R)) (count : ℕ) : Type 0 where
    pub added : List (Told C R)
    pub behind : receipts' ≡ receipts ++ added
    pub count_is : count ≡ length added
    pub some : 0 < count
    pub most : count ≤ limit
    pub row : CallsInRow old new call added
    pub last : EndsLast ends added

  -- the same; or the first call came back, and nothing has changed
  abbrev pub TakesMany : (ends : R → Bool) (old new : Holder) (call : C) (limit : ℕ)
      (receipts receipts' : List (Told C R)) → Result ℕ (Refused C) → Type 0
  TakesMany ends old new call limit receipts receipts' result =
      MatchResult result (Takes ends old new call limit receipts receipts')
      (λ e. (new.number ≡ old.number) × (new.rolls ≡ old.rolls)
      × IsBack old.known new.known call e × IsFullAsSeen old.rolls old.known e
      × (receipts' ≡ receipts))

  -- what became of the book, before the handle's eye looks
  pub record EnteredMany (ends : R → Bool) (old new : Known) (call : C) (limit first total : ℕ)
      (receipts receipts' : List (Told C R)) (count : ℕ) : Type 0 where
    pub added : List (Told C R)
    pub behind : receipts' ≡ receipts ++ added
    pub count_is : count ≡ length added
    pub some : 0 < count
    pub most : count ≤ limit
    pub row : EnteredInRow old new call first total added
    pub last : EndsLast ends added
