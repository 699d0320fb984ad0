-- Sessions in threads, each on terms of its own.
use Rattle.std.specs.Prelude.{◌≡◌, ◌<◌, ◌+◌, ℕ, Bool, List, length, slice_index_or}
use Rattle.std.specs.declared.thread.PromisedHandle.{PromisedHandle}
use Rattle.th_session.specs.Run.{strictness}
use Rattle.th_session.specs.declared.bounds.Bounds.{Bounds}
use Rattle.th_session.specs.declared.keeping.Keeping.{Keeping}
use Rattle.th_shared.specs.Saying.{Says}
use Rattle.th_sockets.specs.Attended.{HasEnded}
use Rattle.th_sockets.specs.declared.attended.Attended.{Attended}
use Rattle.th_sockets.specs.declared.terms.Terms.{Terms}

-- by what gates may say: a session has ended that was run so
abbrev pub HasEndedBy : {G : Type 0} → (holds_back lets : G → ℕ → ℕ → Bool) →
    (gives_up : G → ℕ → Bool) → Terms G → Attended → Type 0
HasEndedBy holds_back lets gives_up t left = HasEnded Says
    (strictness holds_back lets gives_up (t.gate.now, t.number)) t.keeping t.bounds left

-- the terms of the session behind so many
pub record IsBehind {G : Type 0} (gate : G) (keeping : Keeping) (bounds : Bounds) (before : ℕ)
    (t : Terms G) : Type 0 where
  pub at : t.gate.now ≡ gate
  pub next : t.number ≡ before + 1
  pub keeps : t.keeping ≡ keeping
  pub bound : t.bounds ≡ bounds

-- each of these threads has the terms of its place
abbrev pub AreOnTerms : {G : Type 0} → G → Keeping → Bounds →
    List (PromisedHandle Attended (Terms G)) → Type 0
AreOnTerms {G} gate keeping bounds threads =
    (at : ℕ) (other : PromisedHandle Attended (Terms G)) → at < length threads →
    IsBehind gate keeping bounds at (slice_index_or threads at other).promise
