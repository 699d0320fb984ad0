-- Events in a row.
use Rattle.std.proofs.Common.{◌≡◌, ℕ, List, [], ◌++◌, refl, sym, append-nil}
use Rattle.th_registry.specs.declared.opening.TopicId.{TopicId}
use Rattle.th_registry.specs.Events.{Event}
use Rattle.th_registry.specs.Hub.{Query, Said}
use Rattle.th_registry.specs.Receipts.{ChannelReceipt}
use Rattle.th_registry.specs.Rows.{MadeInRow}

-- none was made
pub none_in_row : {D : Type 0} (says : D → (q : Query) → Said q → D → Type 0) (n : ℕ) (events : List Event)
    (receipts : List (TopicId × ChannelReceipt)) (desk : D) → MadeInRow says n events receipts receipts desk desk 0
none_in_row says n events receipts desk = record {
  made = [];
  later = events;
  parts = refl;
  added = [];
  counted = refl;
  behind = sym (append-nil receipts);
  row = refl;
}
