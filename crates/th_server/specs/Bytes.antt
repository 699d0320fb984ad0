-- How the bytes that a server may take are divided.
use Rattle.std.specs.Prelude.{◌≡◌, ◌<◌, ◌≤◌, ◌+◌, ◌-◌, ◌*◌, ◌^◌, ℕ, IfSome}
use Rattle.th_program.specs.declared.modes.Standing.{Standing}
use Rattle.th_server.specs.declared.bytes.Division.{Division}

-- How many values and entries there are where all is held that may be: in windows, in histories, as many entries again in parts that
-- wait to be written, in two parts that are being written, and in traces that are told.
abbrev pub held_by : Division → ℕ
held_by d = d.room.values + d.memory + d.memory + 2 * d.history + d.room.entries

-- what is held where no bytes are said
abbrev pub as_asked : Standing → Division
as_asked how = record {
  history = how.history;
  memory = how.memory;
  room = record { values = 2 ^ 64 - 1; entries = 2 ^ 64 - 1 };
}

-- what the sessions take that are served at a time
abbrev pub session_bytes : Standing → ℕ
session_bytes how = how.at_once * 262144

-- all that is held, and the sessions, take no more bytes than were said
abbrev pub Fits : Standing → Division → Type 0
Fits how d = IfSome how.memory_bytes (λ bytes.
    session_bytes how + held_by d * 1280 ≤ bytes)

-- fewer bytes were said than the sessions and 32 MiB take, which are so many
abbrev pub IsLeast : Standing → ℕ → Type 0
IsLeast how least = (least ≡ session_bytes how + 33554432)
    × IfSome how.memory_bytes (λ bytes. bytes < least)
