-- Sessions whose threads kept their promises.
use Rattle.std.proofs.Common.{◌+◌, ℕ, Bool, subst}
use Rattle.th_session.specs.Run.{strictness}
use Rattle.th_session.specs.declared.bounds.Bounds.{Bounds}
use Rattle.th_session.specs.declared.keeping.Keeping.{Keeping}
use Rattle.th_shared.specs.Saying.{Says}
use Rattle.th_sockets.specs.Attended.{HasEnded}
use Rattle.th_sockets.specs.Terms.{HasEndedBy, IsBehind}
use Rattle.th_sockets.specs.declared.attended.Attended.{Attended}
use Rattle.th_sockets.specs.declared.terms.Terms.{Terms}

-- of the session that was run on the terms of its place
pub ended_behind : {G : Type 0} (holds_back lets : G → ℕ → ℕ → Bool) (gives_up : G → ℕ → Bool)
    (gate : G) (keeping : Keeping) (bounds : Bounds) (before : ℕ) (t : Terms G) (left : Attended) →
    IsBehind gate keeping bounds before t → HasEndedBy holds_back lets gives_up t left →
    HasEnded Says (strictness holds_back lets gives_up (gate, before + 1)) keeping bounds left
ended_behind {G} holds_back lets gives_up gate keeping bounds before t left b ended =
    let strict : G → ℕ → _ = λ x n. strictness holds_back lets gives_up (x, n) in
    subst (λ (s : Bounds). HasEnded Says (strict gate (before + 1)) keeping s left) b.bound
    (subst (λ (k : Keeping). HasEnded Says (strict gate (before + 1)) k t.bounds left) b.keeps
    (subst (λ (n : ℕ). HasEnded Says (strict gate n) t.keeping t.bounds left) b.next
    (subst (λ (x : G). HasEnded Says (strict x t.number) t.keeping t.bounds left) b.at ended)))
