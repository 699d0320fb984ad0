-- The versions of traces (docs/FORMATS.md, "Traces").
use Rattle.std.specs.Prelude.{ℕ, List, [], ◌∷◌, Bool, true, false, codes}
use Rattle.th_model.specs.declared.broadcast.BCall.{BCall}
use Rattle.th_model.specs.declared.broadcast.BCall.TheVariants.{SubscribeOldest}
use Rattle.th_traces.specs.declared.head.Version.{Version}
use Rattle.th_traces.specs.declared.head.Version.TheVariants.{One, Two}

-- the digit of a version
abbrev pub digit : Version → List ℕ
digit One = codes "1"
digit Two = codes "2"

module _ {T : Type 0} where
  -- whether traces of the version have the call: there is no `subscribe-oldest` in version 1
  abbrev pub has_call : Version → BCall T → Bool
  has_call One (SubscribeOldest tx) = false
  has_call version call = true

  -- the version after a further call: 2 as soon as a call asks for it
  abbrev pub version_with : Version → BCall T → Version
  version_with version (SubscribeOldest tx) = Two
  version_with version call = version

  abbrev pub version_from : Version → List (BCall T) → Version
  version_from version [] = version
  version_from version (call ∷ calls) = version_from (version_with version call) calls

  -- the version of a trace with these calls: 2 exactly where one of them is `subscribe-oldest`
  abbrev pub version_of : List (BCall T) → Version
  version_of calls = version_from One calls
