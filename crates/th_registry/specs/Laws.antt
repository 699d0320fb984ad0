-- The laws of the hub: one of endless states is seen as the hub of pictures, and handles live until they are spent.
use Rattle.std.specs.Prelude.{◌≡◌, ℕ, false, Some}
use Rattle.th_registry.specs.Events.{Event}
use Rattle.th_registry.specs.Hub.{Query, On, say}
use Rattle.th_registry.specs.Endless.{EndlessTopics, endless, AreProper}
use Rattle.th_registry.specs.Live.{Handle, IsLive, EndsOn, AskedBy, new_handle, lacks_handle}
use Rattle.th_registry.specs.Pictures.{pictures, see_topics}

-- to each query the pictures say what the endless states say, and are afterwards what is seen of them
abbrev pub SaysWhatIsSeen : Type 0
SaysWhatIsSeen = (limit : ℕ) (ts : EndlessTopics) (q : Query) → AreProper ts →
    say (pictures limit) (see_topics ts) q ≡
    ((say (endless limit) ts q).0, see_topics (say (endless limit) ts q).1)

-- and the endless states stay proper
abbrev pub StaysProper : Type 0
StaysProper = (limit : ℕ) (ts : EndlessTopics) (q : Query) → AreProper ts →
    AreProper (say (endless limit) ts q).1

-- a handle that is live stays so, but for one that the query ends
abbrev pub HandlesStayLive : Type 0
HandlesStayLive = (limit : ℕ) (ts : EndlessTopics) (q : Query) (n : ℕ) (x : Handle) → AreProper ts →
    (EndsOn q (say (endless limit) ts q).0 n x → ⊥) →
    IsLive ts n x → IsLive (say (endless limit) ts q).1 n x

-- a handle that an event made is live on its topic, and was not so before
abbrev pub NewHandlesAreNew : Type 0
NewHandlesAreNew = (limit : ℕ) (ts : EndlessTopics) (n : ℕ) (event : Event) (x : Handle) →
    AreProper ts →
    new_handle (say (endless limit) ts (On n event)).0.0 ≡ Some x →
    IsLive (say (endless limit) ts (On n event)).1 n x × (IsLive ts n x → ⊥)

-- where the handle is live by which an event is asked for, no channel says that there is no such handle
abbrev pub LiveHandlesAreServed : Type 0
LiveHandlesAreServed = (limit : ℕ) (ts : EndlessTopics) (n : ℕ) (event : Event) →
    ((x : Handle) → AskedBy event x → IsLive ts n x) →
    lacks_handle (say (endless limit) ts (On n event)).0.0 ≡ false
