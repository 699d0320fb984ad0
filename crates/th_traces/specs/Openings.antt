-- What a picture's lines tell in front of the live handles, as the code holds it.
use Rattle.std.specs.Prelude.{ℕ, List, [], ◌∷◌, Option, Some, None}
use Rattle.std.specs.Borrow.{Bor}
use Rattle.std.specs.VecDeque.Iter.{deque_iter_rest}
use Rattle.th_traces.specs.Broadcast as broadcast
use Rattle.th_traces.specs.Watch as watch
use Rattle.th_traces.specs.Spelled.{Bytes, PictureFields, told_by}
use Rattle.th_traces.specs.declared.opening.Opening.{Opening}
use Rattle.th_traces.specs.declared.opening.Opening.TheVariants.{Broadcast, Watch}

abbrev pub head : Opening → List Bytes
head (Broadcast version capacity low tail values) = broadcast.head version capacity
head (Watch version value) = watch.head

abbrev pub start : Opening → List Bytes
start (Broadcast version capacity low tail values) = broadcast.start low tail
start (Watch version value) = watch.start version

-- the value of a watch picture, where it is left
abbrev pub if_left : Option (Bor Bytes) → List Bytes
if_left None = []
if_left (Some value) = value.now ∷ []

-- what is left of the values
abbrev pub kept : Opening → List Bytes
kept (Broadcast version capacity low tail values) = deque_iter_rest values
kept (Watch version value) = if_left value

abbrev pub told_of : Opening → ℕ → List ℕ → List (ℕ × Bytes) → PictureFields
told_of opening next senders receivers =
    told_by (head opening) (start opening) next (kept opening) senders receivers
