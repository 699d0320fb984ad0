-- Events of a handle that were made in a row, as a desk says them.
use Rattle.std.proofs.Common.{◌≡◌, ◌∙◌, inl, inr, ℕ, ◌+◌, ◌≤◌, suc, zero, false, List, [], ◌∷◌, ◌++◌, length, map, Some, Result, Ok, Err, refl, sym, ap, subst, arith, length-append}
use Rattle.std.proofs.lemmas.List.{length-map, map-append}
use Rattle.th_block.specs.Handles.{Holder, Known, tx}
use Rattle.th_block.specs.Rows.{IsRow}
use Rattle.th_block.specs.Together.{AreOf, CallsOf, MakesEach}
use Rattle.th_log.specs.declared.receipt.Refused.{Refused}
use Rattle.th_model.specs.declared.broadcast.BCall.{BCall}
use Rattle.th_model.specs.declared.broadcast.BCall.TheVariants as BCalls
use Rattle.th_model.specs.declared.watch.WCall.{WCall}
use Rattle.th_model.specs.declared.handles.TxId.{TxId}
use Rattle.th_model.specs.declared.verb.SenderVerb.TheVariants.{Send}
use Rattle.th_registry.specs.declared.channel.Channel.TheVariants.{Broadcast, Watch}
use Rattle.th_registry.specs.declared.opening.TopicId.{TopicId}
use Rattle.th_registry.specs.Calls.{Bytes}
use Rattle.th_registry.specs.Events.{Event, Replied, Sends, broadcast_call, broadcast_outcome, is_end, watch_call, watch_outcome}
use Rattle.th_registry.specs.Hub.{On}
use Rattle.th_registry.specs.Receipts.{BroadcastReceipt, ChannelReceipt, WatchReceipt}
use Rattle.th_registry.specs.Rows.{InRow, MadeInRow, on_topic, sends_of, times}
use Rattle.th_registry.specs.Typed.{replied}
use Rattle.th_shared.specs.InRow.{CallsOnce, SendsOnce}
use Rattle.th_shared.specs.Saying.{AtHub, Says}

-- one event of a broadcast topic, with its receipt, as a desk says it
broadcast_said : (hub : AtHub) (n : ℕ) (e : Event) (r : BroadcastReceipt) → is_end e ≡ false →
    broadcast_call e ≡ Some r.call → r.key ≡ n + 1 → Replied (Broadcast r.reply) ≡ broadcast_outcome e r.reply →
    Says hub (On n e) (replied (Ok (Broadcast r))) hub
broadcast_said hub n e r stays call key outcome = record {
  hub = (refl, refl, refl);
  spent = λ _. refl;
  may = (((call, key), outcome), stays);
}

watch_said : (hub : AtHub) (n : ℕ) (e : Event) (r : WatchReceipt) → is_end e ≡ false →
    watch_call e ≡ Some r.call → r.key ≡ n + 1 → Replied (Watch r.reply) ≡ watch_outcome e r.reply →
    Says hub (On n e) (replied (Ok (Watch r))) hub
watch_said hub n e r stays call key outcome = record {
  hub = (refl, refl, refl);
  spent = λ _. refl;
  may = (((call, key), outcome), stays);
}

-- sends in a row
sends_row : (hub : AtHub) (n : ℕ) (t : TxId) (old : Known) (first : ℕ) (made : List Bytes) (told : List BroadcastReceipt) →
    old.share.key ≡ n + 1 → AreOf old (λ v. BCalls.Send t v) first made told →
    InRow Says n (sends_of t made) (map (λ r. Broadcast r) told) hub hub
sends_row hub n t old first [] [] on row = refl
sends_row hub n t old first [] (r ∷ told) on row = absurd row
sends_row hub n t old first (v ∷ made) [] on row = absurd row
sends_row hub n t old first (v ∷ made) (r ∷ told) on row = (
  hub,
  broadcast_said hub n (Sends t (Send v)) r refl (ap (λ (c : BCall Bytes). Some c) (sym row.0.call_is)) (row.0.key_is ∙ on) refl,
  λ name found said. said,
  sends_row hub n t old (first + 1) made told on row.2,
)

pub sends_in_row : (hub : AtHub) (n : ℕ) (values : List Bytes) (old new : Holder) (told : List BroadcastReceipt)
    (receipts receipts' : List (TopicId × ChannelReceipt)) (count : ℕ) → SendsOnce n values old new told →
    receipts' ≡ receipts ++ on_topic n (map (λ r. Broadcast r) told) → count ≡ length told →
    MadeInRow Says n (sends_of (tx old) values) receipts receipts' hub hub count
sends_in_row hub n values old new told receipts receipts' count (inl none) behind many = record {
  made = [];
  later = sends_of (tx old) values;
  parts = refl;
  added = [];
  counted = sym (many ∙ ap length none.0);
  behind = behind ∙ ap (λ (l : List BroadcastReceipt). receipts ++ on_topic n (map (λ r. Broadcast r) l)) none.0;
  row = refl;
}
sends_in_row hub n values old new told receipts receipts' count (inr s) behind many =
    let added : s.row.added ≡ told = sym s.row.behind in
    record {
      made = sends_of (tx old) s.row.made;
      later = sends_of (tx old) s.over;
      parts = ap (λ (l : List Bytes). sends_of (tx old) l) s.row.queue_is ∙ map-append _ s.row.made s.over;
      added = map (λ r. Broadcast r) told;
      counted = length-map told (λ r. Broadcast r) ∙ sym many;
      behind = behind;
      row = subst (λ (l : List BroadcastReceipt). InRow Says n (sends_of (tx old) s.row.made) (map (λ r. Broadcast r) l) hub hub) added
          (sends_row hub n (tx old) old.known s.row.first s.row.made s.row.added s.on s.row.row);
    }

-- what a receiver does, of a broadcast topic
front_times : {A : Type 0} (k most : ℕ) (a : A) → k ≤ most → (later : List A) × (times most a ≡ times k a ++ later)
front_times zero most a few = (times most a, refl)
front_times (suc k) zero a few = absurd (omega (arith, few))
front_times (suc k) (suc most) a few =
    let rest = front_times k most a (omega (arith, few)) in
    (rest.0, ap (λ l. a ∷ l) rest.1)

module _ (hub : AtHub) (n : ℕ) (e : Event) (stays : is_end e ≡ false) where
  broadcast_row : (old : Known) (call : BCall Bytes) (first : ℕ) (told : List BroadcastReceipt) → old.share.key ≡ n + 1 →
      broadcast_call e ≡ Some call → ((r : BroadcastReceipt) → Replied (Broadcast r.reply) ≡ broadcast_outcome e r.reply) →
      IsRow old call first told →
      InRow Says n (times (length told) e) (map (λ r. Broadcast r) told) hub hub
  broadcast_row old call first [] on is outcome row = refl
  broadcast_row old call first (r ∷ told) on is outcome row = (
    hub,
    broadcast_said hub n e r stays (is ∙ ap (λ (c : BCall Bytes). Some c) (sym row.0.call_is)) (row.0.key_is ∙ on) (outcome r),
    λ name found said. said,
    broadcast_row old call (first + 1) told on is outcome row.2,
  )

  pub broadcast_in_row : (most : ℕ) (old new : Holder) (told : List BroadcastReceipt)
      (receipts receipts' : List (TopicId × ChannelReceipt)) (count : ℕ) →
      ((r : BroadcastReceipt) → Replied (Broadcast r.reply) ≡ broadcast_outcome e r.reply) →
      CallsOnce n (broadcast_call e) most old new told → length told ≤ most →
      receipts' ≡ receipts ++ on_topic n (map (λ r. Broadcast r) told) → count ≡ length told →
      MadeInRow Says n (times most e) receipts receipts' hub hub count
  broadcast_in_row most old new told receipts receipts' count outcome (inl none) few behind many = record {
    made = [];
    later = times most e;
    parts = refl;
    added = [];
    counted = sym (many ∙ ap length none.0);
    behind = behind ∙ ap (λ (l : List BroadcastReceipt). receipts ++ on_topic n (map (λ r. Broadcast r) l)) none.0;
    row = refl;
  }
  broadcast_in_row most old new told receipts receipts' count outcome (inr s) few behind many =
      let rest = front_times (length told) most e few in
      record {
        made = times (length told) e;
        later = rest.0;
        parts = rest.1;
        added = map (λ r. Broadcast r) told;
        counted = length-map told (λ r. Broadcast r) ∙ sym many;
        behind = behind;
        row = broadcast_row old.known s.made s.row.first told s.on s.is outcome s.row.row;
      }

  watch_row : (old : Known) (call : WCall Bytes) (first : ℕ) (told : List WatchReceipt) → old.share.key ≡ n + 1 →
      watch_call e ≡ Some call → ((r : WatchReceipt) → Replied (Watch r.reply) ≡ watch_outcome e r.reply) →
      IsRow old call first told →
      InRow Says n (times (length told) e) (map (λ r. Watch r) told) hub hub
  watch_row old call first [] on is outcome row = refl
  watch_row old call first (r ∷ told) on is outcome row = (
    hub,
    watch_said hub n e r stays (is ∙ ap (λ (c : WCall Bytes). Some c) (sym row.0.call_is)) (row.0.key_is ∙ on) (outcome r),
    λ name found said. said,
    watch_row old call (first + 1) told on is outcome row.2,
  )

  pub watch_in_row : (most : ℕ) (old new : Holder) (told : List WatchReceipt)
      (receipts receipts' : List (TopicId × ChannelReceipt)) (count : ℕ) →
      ((r : WatchReceipt) → Replied (Watch r.reply) ≡ watch_outcome e r.reply) →
      CallsOnce n (watch_call e) most old new told → length told ≤ most →
      receipts' ≡ receipts ++ on_topic n (map (λ r. Watch r) told) → count ≡ length told →
      MadeInRow Says n (times most e) receipts receipts' hub hub count
  watch_in_row most old new told receipts receipts' count outcome (inl none) few behind many = record {
    made = [];
    later = times most e;
    parts = refl;
    added = [];
    counted = sym (many ∙ ap length none.0);
    behind = behind ∙ ap (λ (l : List WatchReceipt). receipts ++ on_topic n (map (λ r. Watch r) l)) none.0;
    row = refl;
  }
  watch_in_row most old new told receipts receipts' count outcome (inr s) few behind many =
      let rest = front_times (length told) most e few in
      record {
        made = times (length told) e;
        later = rest.0;
        parts = rest.1;
        added = map (λ r. Watch r) told;
        counted = length-map told (λ r. Watch r) ∙ sym many;
        behind = behind;
        row = watch_row old.known s.made s.row.first told s.on s.is outcome s.row.row;
      }

-- sends of the first values of a queue, whatever became of the next one
pub sent_of : (t : TxId) (old new : Holder) (queue queue' : List Bytes) (receipts receipts' : List BroadcastReceipt)
    (result : Result (Unit {0}) (Refused (BCall Bytes))) →
    MakesEach (λ v. BCalls.Send t v) old new queue queue' receipts receipts' result →
    (over : List Bytes) × CallsOf (λ v. BCalls.Send t v) old new queue over receipts receipts'
sent_of t old new queue queue' receipts receipts' (Ok _) made = (queue', made)
sent_of t old new queue queue' receipts receipts' (Err e) made = (made.0 ∷ queue', made.2)

are_of_many : (old : Known) (t : TxId) (place : ℕ) (values : List Bytes) (rs : List BroadcastReceipt) →
    AreOf old (λ v. BCalls.Send t v) place values rs → length rs ≡ length values
are_of_many old t place [] [] row = refl
are_of_many old t place [] (r ∷ rs) row = absurd row
are_of_many old t place (v ∷ vs) [] row = absurd row
are_of_many old t place (v ∷ vs) (r ∷ rs) row = ap suc (are_of_many old t (place + 1) vs rs row.2)

-- no more of them than values
pub few_sent : (t : TxId) (old new : Holder) (queue over : List Bytes) (receipts receipts' : List BroadcastReceipt) → receipts ≡ [] →
    CallsOf (λ v. BCalls.Send t v) old new queue over receipts receipts' → length receipts' ≤ length queue
few_sent t old new queue over receipts receipts' none row =
    let many = are_of_many old.known t row.first row.made row.added row.row in
    let all = ap length row.queue_is in
    let behind = ap length row.behind in
    let start = ap length none in
    omega (arith, many, all, behind, start, length-append receipts row.added, length-append row.made over)
