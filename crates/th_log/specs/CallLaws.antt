-- What is true of the tables of calls, of the last calls of handles, and of what ends a wait.
use Rattle.std.specs.Prelude.{◌≡◌, ◌≢◌, ◌<◌, ℕ, Bool, true, false, ◌||◌, is_some, Option, Some, None}
use Rattle.th_log.specs.History.{Machine, live_after}

-- where there is a call, this handle makes it, by whoever tells who makes calls
abbrev pub IsBy : {C : Type 0} → (C → Option ℕ) → ℕ → Option C → Type 0
IsBy caller n None = Unit {0}
IsBy caller n (Some call) = caller call ≡ Some n

-- The last call of a handle, which is live where `is_live` says so: it never waits, it spends a live handle, and where
-- it spends one it is replied `done`.
pub record IsLast {E S C R : Type 0} (m : Machine E S C R) (done : R) (is_live : S → Bool)
    (call : C) : Type 0 where
  pub ready : (p : S) → m.ready p call ≡ true
  pub spends : (p : S) → is_live p ≡ true → live_after m p call < m.live p
  pub reply : (p : S) → live_after m p call < m.live p → (m.answer p call).0 ≡ done

-- where the call made a handle, this receiver is still live
abbrev pub StaysBeside : {E S C R : Type 0} → Machine E S C R → (R → Option ℕ)
    → (S → Bool) → Option C → Type 0
StaysBeside m made is_live None = Unit {0}
StaysBeside {S = S} m made is_live (Some call) = (p : S)
    → is_some (made (m.answer p call).0) ≡ true → is_live (m.answer p call).1 ≡ true

-- another handle's call, which would have waited before, has its answer after a call
pub record EndsWait {E S C R : Type 0} (m : Machine E S C R) (handle_of : C → ℕ) (old : S)
    (call : C) (new : S) (waiting : C) : Type 0 where
  pub other : handle_of call ≢ handle_of waiting
  pub before : m.ready old waiting ≡ false
  pub after : m.ready new waiting ≡ true

-- only news ends another's wait, or that no sender is left (docs/HISTORIES.md, "Who waits")
abbrev pub OnlyNewsEndsWaits : {E S C R : Type 0} → Machine E S C R → (S → Type 0) → (C → ℕ)
    → (C → R → Bool) → Type 0
OnlyNewsEndsWaits {S = S} {C = C} m is_sound handle_of is_news = (p : S) (call waiting : C)
    → is_sound p → EndsWait m handle_of p call (m.answer p call).1 waiting
    → (m.closed (m.answer p call).1 || is_news call (m.answer p call).0) ≡ true
