-- How long histories may become that are cut by themselves (docs/HISTORIES.md, "Histories that go on").
use Rattle.std.specs.Prelude.{◌≡◌, ℕ}
use Rattle.th_shared.specs.declared.histories.Histories.{Histories}

-- that of a topic is cut from so many entries on, and those of all topics have so many together
abbrev pub HaveLimits : (most memory : ℕ) → Histories → Type 0
HaveLimits most memory histories = (histories.most ≡ most) × (histories.memory ≡ memory)
