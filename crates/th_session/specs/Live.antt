-- What an actor holds is live on its topics.
use Rattle.std.specs.Prelude.{ℕ, ◌≡◌, Some}
use Rattle.th_model.specs.declared.handles.TxId.{TxId}
use Rattle.th_model.specs.declared.handles.RxId.{RxId}
use Rattle.th_registry.specs.Endless.{EndlessTopics}
use Rattle.th_registry.specs.Live.{Handle, Sender, Receiver, IsLive}
use Rattle.th_session.specs.declared.handles.Handles.{Handles}
use Rattle.th_session.specs.Held.{Holding, handles_at}

-- the handle is held here
abbrev pub Has : Handles TxId RxId → Handle → Type 0
Has s (Sender t) = s.sender ≡ Some t
Has s (Receiver r) = s.receiver ≡ Some r

-- each handle that is held on topic n is live there
abbrev pub IsHeldLive : EndlessTopics → Holding → ℕ → Type 0
IsHeldLive ts h n = (x : Handle) → Has (handles_at h n) x → IsLive ts n x

-- each handle that is held is live on its topic
abbrev pub AllIsLive : EndlessTopics → Holding → Type 0
AllIsLive ts h = (n : ℕ) → IsHeldLive ts h n
