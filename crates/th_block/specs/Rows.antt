-- Calls of a handle that are made together, with nothing between them.
use Rattle.std.specs.Prelude.{◌≡◌, ℕ, ◌+◌, ◌≤◌, List, [], ◌∷◌, ◌++◌, length}
use Rattle.std.specs.List.{AllByRecursion}
use Rattle.th_seats.specs.Tally.{Part, Tally}
use Rattle.th_log.specs.History.{Machine}
use Rattle.th_log.specs.Outcome.{IsAnswered, Told, ticked}
use Rattle.th_block.specs.Handles.{Holder, Known, Looked, Tells, seen_of}
use Rattle.th_block.specs.Locked.{Entered}
use Rattle.th_block.specs.declared.more.More.{More}
use Rattle.th_block.specs.declared.more.More.TheVariants.{Made}

-- a share with so many events more
abbrev pub counted_by : ℕ → Part → Part
counted_by n s = record { key = s.key; count = s.count + n }

module _ {C R : Type 0} where
  -- these receipts stand in a row from this place on, with nothing between them: each is of this
  -- call, has the share's key, and a place that the handle had not seen
  abbrev pub IsRow : (old : Known) (call : C) (place : ℕ) → List (Told C R) → Type 0
  IsRow old call place [] = Unit {0}
  IsRow old call place (r ∷ rs) =
      Tells old call r × (r.place ≡ place) × IsRow old call (place + 1) rs

  -- calls of a handle that were made together: in a row, all of which the handle has seen now; and
  -- its share has exactly as many events more
  pub record CallsInRow (old new : Holder) (call : C) (receipts : List (Told C R)) : Type 0 where
    pub number : new.number ≡ old.number
    pub rolls : new.rolls ≡ old.rolls
    pub first : ℕ
    pub row : IsRow old.known call first receipts
    pub seen : first + length receipts ≤ seen_of new.known
    pub eye : Looked old.known.eye new.known.eye
    pub share : new.known.share ≡ counted_by (length receipts) old.known.share

  -- one event was made: it stands where the book was, and its receipt behind the others
  pub record AddsOne (old new : Known) (call : C) (book book' : Tally)
      (receipts receipts' : List (Told C R)) : Type 0 where
    pub receipt : Told C R
    pub entered : Entered old new call receipt
    pub place : receipt.place ≡ book.total
    pub ticks : book' ≡ ticked book
    pub behind : receipts' ≡ receipts ++ receipt ∷ []

  -- the same, where a try made one; else nothing has changed
  abbrev pub AddsMore : More → (old new : Known) → C → (book book' : Tally)
      → (receipts receipts' : List (Told C R)) → Type 0
  AddsMore Made old new call book book' receipts receipts' =
      AddsOne old new call book book' receipts receipts'
  AddsMore _ old new call book book' receipts receipts' =
      (new ≡ old) × (book' ≡ book) × (receipts' ≡ receipts)

  -- a receipt of this call that is right (docs/HISTORIES.md, "Receipts")
  abbrev pub IsAnswerTo : {E S : Type 0} → Machine E S C R → (S → Type 0) → C → Told C R → Type 0
  IsAnswerTo m is_sound call r = (r.call ≡ call) × IsAnswered m is_sound r

  -- receipts were put behind the others, each of which is so
  abbrev pub EachBehind : (Told C R → Type 0) → (receipts receipts' : List (Told C R)) → Type 0
  EachBehind P receipts receipts' =
      (added : List (Told C R)) × (receipts' ≡ receipts ++ added) × AllByRecursion P added

  -- the events of these receipts were made, from a place on where the book was, up to where it is
  -- now; and the handle's eye has not looked since
  pub record EnteredInRow (old new : Known) (call : C) (first total : ℕ)
      (receipts : List (Told C R)) : Type 0 where
    pub row : IsRow old call first receipts
    pub total_is : total ≡ first + length receipts
    pub share : new.share ≡ counted_by (length receipts) old.share
    pub eye : new.eye ≡ old.eye
