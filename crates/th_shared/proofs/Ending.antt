-- What is left of topics has their keys.
use Rattle.std.proofs.Common.{◌≡◌, ◌∙◌, ℕ, ◌+◌, List, [], ◌∷◌, Option, Some, None, MatchOption, sym, ap, inl, inr}
use Rattle.std.specs.Option.{option_map, unwrap_or}
use Rattle.th_log.specs.History.{Log}
use Rattle.th_registry.specs.declared.channel.Channel.{Channel}
use Rattle.th_registry.specs.declared.channel.Channel.TheVariants.{Broadcast, Watch}
use Rattle.th_registry.specs.Calls.{Bytes}
use Rattle.th_registry.specs.Hub.{Topics}
use Rattle.th_seats.specs.Tally.{Part, Tally}
use Rattle.th_shared.specs.declared.ended.Ended.{Ended}
use Rattle.th_shared.specs.declared.ended.Ended.TheVariants as Ends
use Rattle.th_shared.specs.Ending.{AreEnds, AreInOrder, HasKey, IsEnd, IsLeft, Joins}
use Rattle.th_shared.specs.OwnSender.{HaveKeys, OwnSender, own_key, own_share}

-- a share that others are joined with keeps its key
joined_key : (old : Tally) (own : Part) (returned : Option Part) (share : Part) (new : Tally) → Joins old own returned share new →
    share.key ≡ own.key
joined_key old own None share new joins = ap (λ (s : Part). s.key) joins.0
joined_key old own (Some returned) share new (inl joins) = ap (λ (s : Part). s.key) joins.1
joined_key old own (Some returned) share new (inr joins) = ap (λ (s : Part). s.key) joins.1

-- where it is there it is this one
there : (key : ℕ) (share : Part) → option_map (λ (s : Part). s.key) (Some share) ≡ Some key → share.key ≡ key
there key share is = ap (λ (o : Option ℕ). unwrap_or o 0) is

module _ {S C R : Type 0} (key : ℕ) (log : Log S C R) (share : Part) where
  left_key : (own : Option Part) → option_map (λ (s : Part). s.key) own ≡ Some key → MatchOption own ⊥ (λ part. IsLeft part
      (Some log) share) →
      (log.tally.key ≡ key) × (share.key ≡ key)
  left_key (Some part) is left =
      (left.0 ∙ there key part is, joined_key left.1 part left.2 share log.tally left.3 ∙ there key part is)
  left_key None is left = absurd left

held_key : (key : ℕ) (own : OwnSender) (share : Part) → option_map (λ (s : Part). s.key) (own_share own) ≡ Some key →
    own_share own ≡ Some share → share.key ≡ key
held_key key own share is held = there key share (ap (λ o. option_map (λ (s : Part). s.key) o) (sym held) ∙ is)

end_key : (key : ℕ) (name : Bytes) (topic : Channel OwnSender OwnSender) (ended : Ended) → own_key topic ≡ Some key → IsEnd name topic
    ended →
    HasKey key ended
end_key key name (Broadcast own) (Ends.Broadcast n log share) is end = left_key key log share (own_share own) is end.1
end_key key name (Broadcast own) (Ends.Watch n log share) is end = absurd end
end_key key name (Broadcast own) (Ends.Held n share) is end = held_key key own share is end.1
end_key key name (Watch own) (Ends.Watch n log share) is end = left_key key log share (own_share own) is end.1
end_key key name (Watch own) (Ends.Broadcast n log share) is end = absurd end
end_key key name (Watch own) (Ends.Held n share) is end = held_key key own share is end.1

pub in_order : (key : ℕ) (topics : Topics OwnSender OwnSender) (list : List Ended) → HaveKeys key topics → AreEnds topics list →
    AreInOrder key list
in_order key [] [] keys ends = tt
in_order key [] (e ∷ list) keys ends = absurd ends
in_order key (t ∷ topics) [] keys ends = absurd ends
in_order key (t ∷ topics) (e ∷ list) keys ends = (end_key key t.0 t.1 e keys.0 ends.0, in_order (key + 1) topics list keys.1 ends.1)
