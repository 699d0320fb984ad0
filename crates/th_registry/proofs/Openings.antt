-- Which refusal an opening meets, and what it adds.
use Rattle.std.proofs.Common.{◌≡◌, ℕ, zero, suc, ◌+◌, ◌^◌, ◌<◌, ◌≤◌, Bool, true, false, cond, nat_eq, nat_lt, [], ◌∷◌, ◌++◌, length, Option, Some, None, is_some, slice_get, position, Ok, Err, IsOk, inr, refl, sym, ap, subst, ◌∙◌, true≢false, arith}
use Rattle.std.specs.Option.{option_map}
use Rattle.std.specs.Map.{keys_of, lookup}
use Rattle.std.specs.Cmp.Lexicographic.{pointwise}
use Rattle.std.proofs.lemmas.Bool.{lt-ltb, le-leb, lt-leb}
use Rattle.std.proofs.lemmas.List.Quantifiers.{position-Some}
use Rattle.indexmap.proofs.MapLemmas.{some_index, absent_from_lookup, insert_entry-absent}
use Rattle.indexmap.specs.IndexMap.{insert_entry}
use Rattle.th_model.specs.Limits.{capacity_of}
use Rattle.th_registry.specs.declared.channel.Channel.{Channel}
use Rattle.th_registry.specs.declared.channel.Channel.TheVariants.{Broadcast}
use Rattle.th_model.specs.declared.making.Making.{Making}
use Rattle.th_model.specs.declared.making.Making.TheVariants as Makings
use Rattle.th_registry.specs.declared.opening.Refusal.TheVariants as Refusals
use Rattle.th_registry.specs.Calls.{Bytes}
use Rattle.th_registry.specs.Hub.{Machines, Topics, Open, most_topics, find, found_in, found_at, added, made, open_topic, Says}

none-of : {X : Type 0} (o : Option X) → is_some o ≡ false → o ≡ None
none-of None h = refl
none-of (Some x) h = absurd (true≢false h)

module _ {B W : Type 0} where
  found-in : (n : ℕ) (t : Option (Bytes × Channel B W)) → is_some t ≡ true → is_some (found_in n t) ≡ true
  found-in n None h = h
  found-in n (Some t) h = refl

  found-at : (ts : Topics B W) (o : Option ℕ) → ((n : ℕ) → o ≡ Some n → is_some (slice_get ts n) ≡ true) →
      is_some (found_at ts o) ≡ is_some o
  found-at ts None h = refl
  found-at ts (Some n) h = found-in n (slice_get ts n) (h n refl)

  there : (ts : Topics B W) (n : ℕ) → n < length (keys_of ts) → is_some (slice_get ts n) ≡ true
  there [] n h = absurd (omega (arith, h))
  there (t ∷ ts) zero h = refl
  there (t ∷ ts) (suc n) h = there ts n (omega (arith, h))

  -- a topic is found exactly where its name is among the keys
  is-found : (ts : Topics B W) (name : Bytes) → is_some (find ts name) ≡ is_some (lookup (pointwise nat_eq name) ts)
  is-found ts name = found-at ts (position (pointwise nat_eq name) (keys_of ts))
      (λ n e. there ts n (position-Some (pointwise nat_eq name) (keys_of ts) n [] e).0)
      ∙ some_index (pointwise nat_eq name) ts

  -- a name that is not found goes last
  pub insert-new : (ts : Topics B W) (name : Bytes) (c : Channel B W) → is_some (find ts name) ≡ false →
      insert_entry (pointwise nat_eq) ts name c ≡ ts ++ (name, c) ∷ []
  insert-new ts name c h = insert_entry-absent (pointwise nat_eq) name c ts
      (absent_from_lookup (pointwise nat_eq name) ts (none-of _ (sym (is-found ts name) ∙ h)))

module _ {B W : Type 0} (m : Machines B W) (ts : Topics B W) (name : Bytes) (new : is_some (find ts name) ≡ false) where
  opens : (making : Making) (x : Option (ℕ × Channel B W)) → made m (length ts + 1) making ≡ x →
      open_topic m ts name making ≡ added ts name x
  opens making x e = ap (λ b. cond b (Err Refusals.Exists, ts) (added ts name (made m (length ts + 1) making))) new ∙ ap (added ts name) e

  -- of a making that gives this channel and this number
  pub opens-full : (making : Making) (n : ℕ) (c : Channel B W) → made m (length ts + 1) making ≡ Some (n, c) → most_topics ≤ length ts →
      open_topic m ts name making ≡ (Err Refusals.TooManyTopics, ts)
  opens-full making n c e full = opens making _ e
      ∙ ap (λ b. cond b (Err Refusals.TooManyTopics, ts) (Ok n, ts ++ (name, c) ∷ [])) (le-leb most_topics (length ts) full)

  pub opens-new : (making : Making) (n : ℕ) (c : Channel B W) → made m (length ts + 1) making ≡ Some (n, c) → length ts < most_topics →
      open_topic m ts name making ≡ (Ok n, ts ++ (name, c) ∷ [])
  opens-new making n c e room = opens making _ e
      ∙ ap (λ b. cond b (Err Refusals.TooManyTopics, ts) (Ok n, ts ++ (name, c) ∷ [])) (lt-leb most_topics (length ts) room)

  -- want of memory is told only where the topic would be opened
  pub opens-short : (making : Making) (n : ℕ) (c : Channel B W) → made m (length ts + 1) making ≡ Some (n, c) → length ts < most_topics →
      (after : Topics B W) → after ≡ ts → Says m ts (Open name making) (Err Refusals.Short) after
  opens-short making n c e room after same = inr (refl, same, subst (λ r. IsOk r.0) (sym (opens-new making n c e room)) refl)

  pub opens-bad : (making : Making) → made m (length ts + 1) making ≡ None → open_topic m ts name making ≡ (Err Refusals.BadCapacity, ts)
  opens-bad making e = opens making None e

-- the channel of a making
module _ {B W : Type 0} (m : Machines B W) (key asked base : ℕ) where
  abbrev making : Making
  making = Makings.BroadcastAt asked base

  none-either : (b : Bool) (o : Option (ℕ × Channel B W)) → o ≡ None → cond b o None ≡ None
  none-either true o e = e
  none-either false o e = refl

  pub made-none : capacity_of asked ≡ None → made m key making ≡ None
  made-none e = none-either (nat_lt base (2 ^ 64)) _ (ap (option_map (λ c. (c, Broadcast (m.broadcast_opened c base key)))) e)

  pub made-some : (c : ℕ) → base < 2 ^ 64 → capacity_of asked ≡ Some c →
      made m key making ≡ Some (c, Broadcast (m.broadcast_opened c base key))
  made-some c fits e = ap (λ o. cond (nat_lt base (2 ^ 64)) (option_map (λ c. (c, Broadcast (m.broadcast_opened c base key))) o) None) e
      ∙ ap (λ b. cond b (Some (c, Broadcast (m.broadcast_opened c base key))) None) (lt-ltb base (2 ^ 64) fits)
