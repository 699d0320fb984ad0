-- Why a channel with a log makes no event of a call.
use Rattle.std.specs.Prelude.{◌≡◌, ℕ, true, false}
use Rattle.th_registry.specs.declared.outcome.NoEvent.{NoEvent}
use Rattle.th_registry.specs.declared.outcome.NoEvent.TheVariants.{LogFull, Short}
use Rattle.th_registry.specs.History.{History, is_full}

-- after which so many handles would be live: there is no room in the log, or no memory; and nothing has changed
abbrev pub RefusesEvent : {E S C R : Type 0} → (old new : History E S C R) →
    (live : ℕ) → NoEvent → Type 0
RefusesEvent old new live LogFull = (is_full old live ≡ true) × (new ≡ old)
RefusesEvent old new live Short = (is_full old live ≡ false) × (new ≡ old)
RefusesEvent old new live why = ⊥
