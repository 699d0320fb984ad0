-- What the topics of a hub may hold together.
use Rattle.std.specs.Prelude.{ℕ, ◌+◌}
use Rattle.th_shared.specs.declared.room.Room.{Room}

-- as how many values a topic counts whose window has so many
abbrev pub size_of : ℕ → ℕ
size_of values = values + 68

-- with room for so many entries
abbrev pub with_entries : ℕ → Room → Room
with_entries entries room = record room { entries = entries }
