-- A session that has ended: what is left of a run.
use Rattle.std.specs.Prelude.{◌≡◌}
use Rattle.th_registry.specs.Hub.{Query, Said}
use Rattle.th_session.specs.Ending.{Devices}
use Rattle.th_session.specs.Kept.{Kept}
use Rattle.th_session.specs.Run.{Served, Strictness}
use Rattle.th_session.specs.declared.bounds.Bounds.{Bounds}
use Rattle.th_session.specs.declared.keeping.Keeping.{Keeping}
use Rattle.th_sockets.specs.declared.attended.Attended.{Attended}

module _ {D : Type 0} (says : D → (q : Query) → Said q → D → Type 0)
    (gate : Strictness) (keeping : Keeping) (bounds : Bounds) where
  -- From where these devices and the desk stood, a session was run at a gate that is so strict, by these bounds, and this is left
  -- of it.
  pub record WasRun (old : Devices) (desk : D) (left : Attended) : Type 0 where
    pub new : Devices
    pub after : D
    pub kept : Kept
    pub served :
        Served keeping says gate bounds.lines bounds.reads old new desk after kept left.fault
    pub receipts : left.receipts.items ≡ kept.receipts
    pub segments : left.segments.items ≡ kept.segments

  -- the same, wherever they stood
  pub record HasEnded (left : Attended) : Type 0 where
    pub old : Devices
    pub desk : D
    pub run : WasRun old desk left
