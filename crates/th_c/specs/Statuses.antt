-- What all statuses have in common (lib/c/topichub.h).
use Rattle.std.specs.Prelude.{◌≡◌, ℕ, ◌≤◌, Bool, true, not, ◌&&◌, nat_eq, List, [], ◌∷◌}
use Rattle.std.specs.List.{list_any}
use Rattle.th_model.specs.declared.broadcast.BCall.{BCall}
use Rattle.th_model.specs.declared.watch.WCall.{WCall}
use Rattle.th_model.specs.BroadcastPicture as broadcast
use Rattle.th_model.specs.WatchPicture as watch
use Rattle.th_c.specs.declared.status.TheConstants.{DONE, SENT, VALUE, LAGGED, EMPTY, CLOSED, NEW_RX, NEW_TX, COUNT, WAS, NEW, SAME, YES, NO, MARKED, NOT_YET, NO_RECEIVERS, EXHAUSTED, TOO_MANY, NO_HANDLE, WOULD_WAIT, LOG_FULL, NO_MEMORY, NOT_OPEN, IS_OPEN, BAD_CAPACITY, BAD_VERSION, BAD_LIMIT, NOT_RECORDED, LEGAL, ILLEGAL, BAD_TRACE, OTHER_VALUES, BAD_VALUE, SMALL_BUFFER}
use Rattle.th_c.specs.Broadcast as of_broadcast
use Rattle.th_c.specs.Watch as of_watch

-- the answers; what a channel refuses by its rules; and why a call was not made, or a text is no trace
abbrev pub statuses : List ℕ
statuses =
    DONE ∷ SENT ∷ VALUE ∷ LAGGED ∷ EMPTY ∷ CLOSED ∷ NEW_RX ∷ NEW_TX ∷ COUNT ∷ WAS ∷ NEW ∷ SAME
    ∷ YES ∷ NO ∷ MARKED ∷ NOT_YET
    ∷ NO_RECEIVERS ∷ EXHAUSTED ∷ TOO_MANY ∷ NO_HANDLE
    ∷ WOULD_WAIT ∷ LOG_FULL ∷ NO_MEMORY ∷ NOT_OPEN ∷ IS_OPEN ∷ BAD_CAPACITY ∷ BAD_VERSION
    ∷ BAD_LIMIT ∷ NOT_RECORDED ∷ LEGAL ∷ ILLEGAL ∷ BAD_TRACE ∷ OTHER_VALUES ∷ BAD_VALUE
    ∷ SMALL_BUFFER ∷ []

-- no two of these numbers are the same
abbrev pub are_apart : List ℕ → Bool
are_apart [] = true
are_apart (n ∷ ns) = not (list_any (nat_eq n) ns) && are_apart ns

-- a reply whose status is NO_RECEIVERS or a later one leaves a channel as it was
abbrev pub BroadcastRefusesUnchanged : Type 0 → Type 0
BroadcastRefusesUnchanged T = (p : broadcast.Picture T) (call : BCall T)
    → (let a = broadcast.answer p call in NO_RECEIVERS ≤ of_broadcast.status_of a.0 → a.1 ≡ p)

abbrev pub WatchRefusesUnchanged : Type 0 → Type 0
WatchRefusesUnchanged T = (eq : T → T → Bool) (p : watch.Picture T) (call : WCall T)
    → (let a = watch.answer eq p call in NO_RECEIVERS ≤ of_watch.status_of a.0 → a.1 ≡ p)
