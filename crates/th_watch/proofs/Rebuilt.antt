-- A map that is rebuilt entry by entry, and the picture of a channel that was made from one.
use Rattle.std.proofs.Common.{◌≡◌, ℕ, ◌<◌, Bool, List, [], ◌∷◌, ◌++◌, map, refl, sym, ap, subst, ◌∙◌}
use Rattle.std.specs.Map.{keys_of}
use Rattle.std.specs.Ordering.{nat_cmp}
use Rattle.std.specs.BTreeMap.{insert_entry}
use Rattle.th_model.specs.Handles.{IsRising}
use Rattle.th_model.specs.WatchMachine.{Kept}
use Rattle.th_model.specs.WatchPicture.{IsSound, mark_at, shown}
use Rattle.th_model.proofs.LiveCounts.{entry-last, front-below}
use Rattle.th_model.proofs.WatchReaders.{keys-mark_at, keys-shown, marks-mark_at, shown-mark_at}
use Rattle.th_watch.specs.Held.{IsHeld, shown_picture}

snoc-append : {X : Type 0} (xs : List X) (x : X) (ys : List X) → (xs ++ x ∷ []) ++ ys ≡ xs ++ x ∷ ys
snoc-append [] x ys = refl
snoc-append (y ∷ xs) x ys = ap (λ l. y ∷ l) (snoc-append xs x ys)

-- the next entry goes behind those before it
inserted : {X : Type 0} (front : List (ℕ × X)) (e : ℕ × X) (rest all : List (ℕ × X)) → IsRising (keys_of all) → front ++ e ∷ rest ≡ all
    → insert_entry nat_cmp front e.0 e.1 ++ rest ≡ all
inserted {X = X} front e rest all rising is =
    let below = front-below front e rest (subst (λ (es : List (ℕ × X)). IsRising (keys_of es)) (sym is) rising) in
    ap (λ (es : List (ℕ × X)). es ++ rest) (entry-last front e.0 e.1 below) ∙ (snoc-append front e rest ∙ is)

pub inserted-reader : (v : ℕ) (front : Kept Bool) (m : ℕ × ℕ) (rest all : Kept ℕ) → IsRising (keys_of all)
    → front ++ map (shown v) (m ∷ rest) ≡ map (shown v) all →
    insert_entry nat_cmp front m.0 (shown v m).1 ++ map (shown v) rest ≡ map (shown v) all
inserted-reader v front m rest all rising is =
    inserted front (shown v m) (map (shown v) rest) (map (shown v) all) (rw (keys-shown v all) rising) is

pub inserted-mark : (v : ℕ) (front : Kept ℕ) (r : ℕ × Bool) (rest all : Kept Bool) → IsRising (keys_of all)
    → front ++ map (mark_at v) (r ∷ rest) ≡ map (mark_at v) all →
    insert_entry nat_cmp front r.0 (mark_at v r).1 ++ map (mark_at v) rest ≡ map (mark_at v) all
inserted-mark v front r rest all rising is =
    inserted front (mark_at v r) (map (mark_at v) rest) (map (mark_at v) all) (rw (keys-mark_at v all) rising) is

-- such marks are held where the picture is sound
pub held_marks : {T : Type 0} (v : ℕ) (x : T) (readers : Kept Bool) (senders : List ℕ) (next : ℕ) (marks : Kept ℕ) →
    IsSound (shown_picture v x readers senders next)
    → marks ≡ map (mark_at v) readers → IsHeld v marks senders next
held_marks v x readers senders next marks s is = rw is (record {
  first = s.first;
  fits = s.version;
  handles = rw (keys-mark_at v readers) s.handles;
  within = marks-mark_at v readers;
})

-- and what is seen of them is the picture
pub shown_marks : (v : ℕ) (readers : Kept Bool) (marks : Kept ℕ) → 0 < v → marks ≡ map (mark_at v) readers → map (shown v) marks ≡ readers
shown_marks v readers marks pos is = rw is (shown-mark_at v readers pos)
