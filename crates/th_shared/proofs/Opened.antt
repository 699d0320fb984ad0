-- An opening, where of the topics their names and kinds are seen.
use Rattle.std.proofs.Common.{◌≡◌, ℕ, zero, suc, ◌+◌, ◌^◌, ◌<◌, ◌≤◌, Bool, true, false, cond, nat_eq, nat_lt, nat_le, [], ◌∷◌, ◌++◌, length, Option, Some, None, is_some, slice_get, position, Result, Ok, Err, refl, sym, ap, subst, ◌∙◌, inl, inr, true≢false}
use Rattle.std.specs.Prelude.{is_ok}
use Rattle.std.specs.Option.{option_map}
use Rattle.std.specs.Map.{keys_of}
use Rattle.std.specs.Cmp.Lexicographic.{pointwise}
use Rattle.th_model.specs.Limits.{capacity_of}
use Rattle.th_model.specs.declared.kind.Kind.{Kind}
use Rattle.th_model.specs.declared.making.Making.{Making}
use Rattle.th_model.specs.declared.making.Making.TheVariants as Makings
use Rattle.th_registry.specs.declared.channel.Channel.{Channel}
use Rattle.th_registry.specs.declared.channel.Channel.TheVariants.{Broadcast, Watch}
use Rattle.th_registry.specs.declared.opening.Refusal.{Refusal}
use Rattle.th_registry.specs.declared.opening.Refusal.TheVariants as Refusals
use Rattle.th_registry.specs.Calls.{Bytes}
use Rattle.th_registry.specs.Hub.{ChannelMachine, Machines, Open, Says, Topics, added, find, found_at, found_in, made, most_topics, open_topic}
use Rattle.th_registry.specs.Kinds.{kind_of}
use Rattle.th_registry.specs.Pictures.{pictures}
use Rattle.th_registry.proofs.Openings.{opens-bad, opens-full, opens-new, opens-short}
use Rattle.th_shared.specs.Rows.{Opens, Rows, Stay, bare, row, rows}
use Rattle.th_shared.specs.Saying.{IsOpened, told_of}

module _ {B W : Type 0} where
  kind-bare : (c : Channel B W) → kind_of (bare c) ≡ kind_of c
  kind-bare (Broadcast c) = refl
  kind-bare (Watch c) = refl

  keys-rows : (ts : Topics B W) → keys_of (rows ts) ≡ keys_of ts
  keys-rows [] = refl
  keys-rows (t ∷ ts) = ap (λ ks. t.0 ∷ ks) (keys-rows ts)

  found-rows : (n : ℕ) (ts : Topics B W) (m : ℕ) → found_in n (slice_get (rows ts) m) ≡ found_in n (slice_get ts m)
  found-rows n [] m = refl
  found-rows n (t ∷ ts) zero = ap (λ (k : Kind). Some (record { topic = record { 0 = n }; kind = k })) (kind-bare t.1)
  found-rows n (t ∷ ts) (suc m) = found-rows n ts m

  found-at-rows : (ts : Topics B W) (o : Option ℕ) → found_at (rows ts) o ≡ found_at ts o
  found-at-rows ts None = refl
  found-at-rows ts (Some n) = found-rows n ts n

  -- the same topic is found
  pub find-rows : (ts : Topics B W) (name : Bytes) → find (rows ts) name ≡ find ts name
  find-rows ts name = ap (λ ks. found_at (rows ts) (position (pointwise nat_eq name) ks)) (keys-rows ts)
      ∙ found-at-rows ts (position (pointwise nat_eq name) (keys_of ts))

  length-rows : (ts : Topics B W) → length (rows ts) ≡ length ts
  length-rows [] = refl
  length-rows (t ∷ ts) = ap suc (length-rows ts)

  rows-later : (ts : Topics B W) (t : Bytes × Channel B W) → rows (ts ++ t ∷ []) ≡ rows ts ++ row t ∷ []
  rows-later [] t = refl
  rows-later (s ∷ ts) t = ap (λ rest. row s ∷ rest) (rows-later ts t)

  with-none : (ts : Topics B W) → ts ≡ ts ++ []
  with-none [] = refl
  with-none (t ∷ ts) = ap (λ rest. t ∷ rest) (with-none ts)

  stay : (ts after : Topics B W) → after ≡ ts → Stay ts after
  stay ts after same = ([], same ∙ with-none ts)

  -- a topic of the name is there
  pub opens-there : (ts : Topics B W) (name : Bytes) (making : Making) → is_some (find ts name) ≡ true → Opens ts name making
      (Err Refusals.Exists) ts
  opens-there ts name making there = (
    (λ m. inl (ap (λ b. cond b (Err Refusals.Exists, rows ts) (added (rows ts) name (made m (length (rows ts) + 1) making)))
        (ap is_some (find-rows ts name) ∙ there))),
    stay ts ts refl,
  )

  module _ (ts : Topics B W) (name : Bytes) (new : is_some (find ts name) ≡ false) where
    absent : is_some (find (rows ts) name) ≡ false
    absent = ap is_some (find-rows ts name) ∙ new

    pub opens-none : (making : Making) → ((m : Machines (Unit {0}) (Unit {0})) (key : ℕ) → made m key making ≡ None) →
        Opens ts name making (Err Refusals.BadCapacity) ts
    opens-none making none =
        ((λ m. inl (opens-bad m (rows ts) name absent making (none m (length (rows ts) + 1)))), stay ts ts refl)

    -- of a making that gives this number and this kind
    module _ (making : Making) (n : ℕ) (kind : Channel (Unit {0}) (Unit {0}))
        (makes : (m : Machines (Unit {0}) (Unit {0})) (key : ℕ) → made m key making ≡ Some (n, kind)) where
      pub opens-too-many : most_topics ≤ length ts → Opens ts name making (Err Refusals.TooManyTopics) ts
      opens-too-many full = (
        (λ m. inl (opens-full m (rows ts) name absent making n kind (makes m (length (rows ts) + 1))
            (subst (λ k. most_topics ≤ k) (sym (length-rows ts)) full))),
        stay ts ts refl,
      )

      pub opens-no-memory : length ts < most_topics → (after : Topics B W) → after ≡ ts → Opens ts name making (Err Refusals.Short) after
      opens-no-memory room after same = (
        (λ m. opens-short m (rows ts) name absent making n kind (makes m (length (rows ts) + 1))
            (subst (λ k. k < most_topics) (sym (length-rows ts)) room) (rows after) (ap rows same)),
        stay ts after same,
      )

      pub opens-last : length ts < most_topics → (topic : Channel B W) → bare topic ≡ kind → (told : ℕ) → told ≡ n → (after : Topics B W) →
          after ≡ ts ++ (name, topic) ∷ [] → Opens ts name making (Ok told) after
      opens-last room topic is told tells after last =
          let seen : rows ts ++ (name, kind) ∷ [] ≡ rows after =
          ap (λ (c : Channel (Unit {0}) (Unit {0})). rows ts ++ (name, c) ∷ []) (sym is)
          ∙ sym (rows-later ts (name, topic)) ∙ ap rows (sym last) in (
            (λ m. inl (opens-new m (rows ts) name absent making n kind (makes m (length (rows ts) + 1))
                (subst (λ k. k < most_topics) (sym (length-rows ts)) room) ∙ (λ i. (Ok (sym tells i), seen i)))),
            ((name, topic) ∷ [], last),
          )

-- some hub of which nothing is seen but names and kinds
bare-machine : {C K R P : Type 0} → ChannelMachine C K R P → C → ChannelMachine (Unit {0}) K R P
bare-machine m c = record {
  step = λ u k. ((m.step c k).0, tt);
  is_full = λ u k. m.is_full c k;
  has_sender = λ u t. m.has_sender c t;
  has_receiver = λ u r. m.has_receiver c r;
  cut = λ u. ((m.cut c).0, tt);
  receipt = λ u k r. m.receipt c k r;
}

bare-machines : Machines (Unit {0}) (Unit {0})
bare-machines = record {
  broadcast = bare-machine (pictures 1).broadcast ((pictures 1).broadcast_opened 1 0 1);
  broadcast_opened = λ capacity base key. tt;
  watch = bare-machine (pictures 1).watch ((pictures 1).watch_opened [] 1);
  watch_opened = λ value key. tt;
}

-- the number that is told of a new topic does not depend on the hub
same-told : {X Y : Type 0} (x : ℕ → X) (y : ℕ → Y) (b : Bool) (o : Option ℕ) →
    option_map (λ (p : ℕ × X). p.0) (cond b (option_map (λ (c : ℕ). (c, x c)) o) None)
    ≡ option_map (λ (p : ℕ × Y). p.0) (cond b (option_map (λ (c : ℕ). (c, y c)) o) None)
same-told x y true None = refl
same-told x y true (Some c) = refl
same-told x y false o = refl

told-alike : {B W D V : Type 0} (m : Machines B W) (o : Machines D V) (key other : ℕ) (making : Making) →
    option_map (λ (p : ℕ × Channel B W). p.0) (made m key making) ≡ option_map (λ (p : ℕ × Channel D V). p.0) (made o other making)
told-alike m o key other (Makings.Broadcast asked) = same-told _ _ (nat_lt 0 (2 ^ 64)) (capacity_of asked)
told-alike m o key other (Makings.BroadcastAt asked base) = same-told _ _ (nat_lt base (2 ^ 64)) (capacity_of asked)
told-alike m o key other (Makings.Watch value) = refl

module _ (ts : Rows) (name : Bytes) (told : Option ℕ) where
  by-room : (b : Bool) (n : ℕ) (c : Channel (Unit {0}) (Unit {0})) → Some n ≡ told →
      IsOpened told (cond {A = Result ℕ Refusal × Rows} b (Err Refusals.TooManyTopics, ts) (Ok n, ts ++ (name, c) ∷ [])).0
  by-room true n c e = ap is_some (sym e)
  by-room false n c e = sym e

  by-capacity : (x : Option (ℕ × Channel (Unit {0}) (Unit {0}))) → option_map (λ (p : ℕ × Channel (Unit {0})
      (Unit {0})). p.0) x ≡ told → IsOpened told (added ts name x).0
  by-capacity None e = sym e
  by-capacity (Some made) e = by-room (nat_le most_topics (length ts)) made.0 made.1 e

  by-name : (b : Bool) (x : Option (ℕ × Channel (Unit {0}) (Unit {0}))) → option_map (λ (p : ℕ × Channel (Unit {0})
      (Unit {0})). p.0) x ≡ told →
      IsOpened told (cond {A = Result ℕ Refusal × Rows} b (Err Refusals.Exists, ts) (added ts name x)).0
  by-name true x e = tt
  by-name false x e = by-capacity x e

  some-told : (r : Result ℕ Refusal) → is_ok r ≡ true → IsOpened told r → is_some told ≡ true
  some-told (Ok n) ok is = ap is_some is
  some-told (Err why) ok is = absurd (true≢false (sym ok))

-- what a desk says of an opening follows from what the hub says
pub says-opened : {B W : Type 0} (old new : Topics B W) (name : Bytes) (making : Making) (said : Result ℕ Refusal) →
    Opens old name making said new → IsOpened (told_of making) said
says-opened old new name making said opens = by-what (opens.0 bare-machines)
  where
    ts : Rows
    ts = rows old

    plain : IsOpened (told_of making) (open_topic bare-machines ts name making).0
    plain = by-name ts name (told_of making) (is_some (find ts name)) (made bare-machines (length ts + 1) making)
        (told-alike bare-machines (pictures 1) (length ts + 1) 1 making)

    by-what : Says bare-machines ts (Open name making) said (rows new) → IsOpened (told_of making) said
    by-what (inl e) = subst (IsOpened (told_of making)) (ap (λ p. p.0) e) plain
    by-what (inr short) = subst (IsOpened (told_of making)) (sym short.0)
        (some-told ts name (told_of making) (open_topic bare-machines ts name making).0 short.2 plain)
