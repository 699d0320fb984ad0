use Rattle.std.proofs.Common.{subst, refl, sym, Result, Ok, Err, inl, inr, ◌≡◌, IfOk, ℕ}
use Rattle.std.specs.Prelude as prelude
use Rattle.th_model.specs.declared.listing.Listed.{Listed}
use Rattle.th_model.specs.declared.short.Short.{Short}
use Rattle.th_registry.specs.Hub.{List, Says, list}
use Rattle.th_registry.specs.Pictures.{Desk, DeskSays, SeenTopics, pictures}
use Rattle.th_registry.proofs.local.LocalDeskDesk.list.Goals as goal

-- the topics are listed, or memory is refused
listed : (limit : ℕ) (ts : SeenTopics) (result : Result (prelude.List Listed) (Short (Unit {0}))) → IfOk result (λ rows. rows ≡ list ts) →
    Says (pictures limit) ts List result ts
listed limit ts (Ok rows) is = inl (λ i. (Ok (sym is i), ts))
listed limit ts (Err short) is = inr (refl, refl, refl)

pub returns : goal.returns
returns c =
    let desk = c.self.inside in
    subst (λ (d : Desk). DeskSays d List c.list.result d) c.self.view_is
    (refl, listed desk.limit desk.topics.entries c.list.result c.list.ensures)
