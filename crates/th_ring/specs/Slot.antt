-- A slot of the ring.
use Rattle.std.specs.Prelude.{◌≡◌, ◌+◌, ◌-◌, ◌<◌, ℕ, None, IsSome, nat_eq, if◌then◌else◌}
use Rattle.th_ring.specs.declared.slot.Slot.{Slot}

-- no value, and nobody waits
abbrev pub vacant : {T : Type 0} → Slot T
vacant = record { value = None; to_come = 0 }

-- after one receiver less has still to read it
abbrev pub less_one : {T : Type 0} → Slot T → Slot T
less_one s = if nat_eq s.to_come 1 then vacant else record s { to_come = s.to_come - 1 }

-- and after one more has
abbrev pub more_one : {T : Type 0} → Slot T → Slot T
more_one s = record s { to_come = s.to_come + 1 }

-- n receivers have still to read it, and it has a value just where there are some
pub record IsSlot {T : Type 0} (n : ℕ) (s : Slot T) : Type 0 where
  pub count : s.to_come ≡ n
  pub kept : 0 < n → IsSome s.value
  pub freed : n ≡ 0 → s.value ≡ None
