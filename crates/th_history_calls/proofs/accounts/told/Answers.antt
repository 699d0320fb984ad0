use Rattle.std.proofs.Common.{MatchResult, Ok, Err}
use Rattle.std.specs.Prelude.{⊤}
use Rattle.th_log.specs.Audit.{told_of}
use Rattle.th_accounts.specs.Accounts.{IsAccount, IsNoAccount}
use Rattle.th_accounts.specs.Clients.{LiveReceiversWereTold, NewReceiversWereTold}
use Rattle.th_history_calls.proofs.accounts.told.Goals as goal

-- src/accounts.rt
pub returns-clause-live : goal.returns-clause-live
returns-clause-live c =
    let p = c.args.segment.now in
    let ds = told_of c.args.diaries.now in
    elim c.audit_whole.result as
    (λ r. MatchResult r (λ _. IsAccount p ds) (λ fault. IsNoAccount p ds fault) → MatchResult r (λ _. LiveReceiversWereTold p ds) (λ _. ⊤)) [
      | Ok _ ↦ λ whole. c.clients_were_told.ensures p ds c.len-legal.ensures.legal whole.good whole.count
      | Err _ ↦ λ _. tt
    ] c.audit_whole.ensures

pub returns-clause-new : goal.returns-clause-new
returns-clause-new c =
    let p = c.args.segment.now in
    let ds = told_of c.args.diaries.now in
    elim c.audit_whole.result as
    (λ r. MatchResult r (λ _. IsAccount p ds) (λ fault. IsNoAccount p ds fault) → MatchResult r (λ _. NewReceiversWereTold p ds) (λ _. ⊤)) [
      | Ok _ ↦ λ whole. c.clients_were_told_from_their_making.ensures p ds c.len-legal.ensures.legal whole.good whole.count
      | Err _ ↦ λ _. tt
    ] c.audit_whole.ensures
