use Rattle.std.proofs.Common.{◌≡◌, ℕ, ◌+◌, ◌<◌, ◌≤◌, length, [], ◌∷◌, ◌++◌, Ok, refl, sym, ap, ◌∙◌, inl, arith}
use Rattle.th_model.specs.BroadcastMachine as machine
use Rattle.th_model.specs.BroadcastPicture.{Picture, see}
use Rattle.th_registry.specs.History.{opened}
use Rattle.th_registry.specs.declared.channel.Channel.TheVariants.{Broadcast}
use Rattle.th_model.specs.declared.making.Making.TheVariants as Makings
use Rattle.th_registry.specs.Calls.{Bytes}
use Rattle.th_registry.proofs.Openings.{made-none, made-some, opens-bad, opens-full, opens-new, opens-short, insert-new}
use Rattle.th_registry.specs.Pictures.{SeenBroadcast, pictures}
use Rattle.th_registry.proofs.topics.open_broadcast.Goals as goal

pub returns-in_default : goal.returns-in_default
returns-in_default c = inl (opens-bad (pictures c.args.limit) c.args.channels.now.entries c.args.name c.requires
    (Makings.BroadcastAt c.args.asked c.args.base)
    (made-none (pictures c.args.limit) (length c.args.channels.now.entries + 1) c.args.asked c.args.base c.in_default.ensures.refused))

pub returns-then-len-ge-MOST_TOPICS : goal.returns-then-len-ge-MOST_TOPICS
returns-then-len-ge-MOST_TOPICS c =
    let full : 1024 ≤ length c.args.channels.now.entries = omega (arith, c.len.ensures.len, c.if-len-ge-MOST_TOPICS.true) in
    let made =
    made-some (pictures c.args.limit) (length c.args.channels.now.entries + 1) c.args.asked c.args.base c.in-Ok.capacity
    (omega arith) c.in-Ok.ensures.in_force in
    inl (opens-full (pictures c.args.limit) c.args.channels.now.entries c.args.name c.requires
    (Makings.BroadcastAt c.args.asked c.args.base) _ _ made full)

pub returns-in_default-starting_at : goal.returns-in_default-starting_at
returns-in_default-starting_at c =
    let room : length c.args.channels.now.entries < 1024 = omega (arith, c.len.ensures.len, c.if-len-ge-MOST_TOPICS.false) in
    let made =
    made-some (pictures c.args.limit) (length c.args.channels.now.entries + 1) c.args.asked c.args.base c.in-Ok.capacity
    (omega arith) c.in-Ok.ensures.in_force in
    opens-short (pictures c.args.limit) c.args.channels.now.entries c.args.name c.requires
    (Makings.BroadcastAt c.args.asked c.args.base) _ _ made room _ refl

pub returns-in_default-new : goal.returns-in_default-new
returns-in_default-new c =
    let room : length c.args.channels.now.entries < 1024 = omega (arith, c.len.ensures.len, c.if-len-ge-MOST_TOPICS.false) in
    let made =
    made-some (pictures c.args.limit) (length c.args.channels.now.entries + 1) c.args.asked c.args.base c.in-Ok.capacity
    (omega arith) c.in-Ok.ensures.in_force in
    opens-short (pictures c.args.limit) c.args.channels.now.entries c.args.name c.requires
    (Makings.BroadcastAt c.args.asked c.args.base) _ _ made room _ refl

pub returns-in_default-insert : goal.returns-in_default-insert
returns-in_default-insert c =
    let room : length c.args.channels.now.entries < 1024 = omega (arith, c.len.ensures.len, c.if-len-ge-MOST_TOPICS.false) in
    let made =
    made-some (pictures c.args.limit) (length c.args.channels.now.entries + 1) c.args.asked c.args.base c.in-Ok.capacity
    (omega arith) c.in-Ok.ensures.in_force in
    opens-short (pictures c.args.limit) c.args.channels.now.entries c.args.name c.requires
    (Makings.BroadcastAt c.args.asked c.args.base) _ _ made room _ (c.in_default-insert.ensures.err)

pub returns : goal.returns
returns c =
    let ts = c.args.channels.now.entries in
    let room : length ts < 1024 = omega (arith, c.len.ensures.len, c.if-len-ge-MOST_TOPICS.false) in
    let made =
    made-some (pictures c.args.limit) (length ts + 1) c.args.asked c.args.base c.in-Ok.capacity
    (omega arith) c.in-Ok.ensures.in_force in
    let opened : c.in-Ok-new.channel ≡ (pictures c.args.limit).broadcast_opened c.in-Ok.capacity c.args.base (length ts + 1) =
    c.in-Ok-new.ensures.new
    ∙ ap (λ (p : Picture Bytes). opened c.args.limit (c.len-2.result + 1) p p) c.in-Ok-starting_at.ensures
    ∙ (let count : c.len-2.result ≡ length ts = omega (arith, c.len-2.ensures.len) in let p =
    see (machine.opened c.in-Ok.capacity c.args.base) in ap (λ (n : ℕ). opened c.args.limit (n + 1) p p) count) in
    let last : ts ++ (c.args.name, Broadcast ((pictures c.args.limit).broadcast_opened c.in-Ok.capacity c.args.base (length ts + 1))) ∷ []
    ≡ c.insert.new.self.entries =
    sym (c.in-Ok-insert.ensures.entries
    ∙ insert-new ts c.args.name (Broadcast c.in-Ok-new.channel) c.requires
    ∙ ap (λ (h : SeenBroadcast). ts ++ (c.args.name, Broadcast h) ∷ []) opened) in
    inl (opens-new (pictures c.args.limit) ts c.args.name c.requires (Makings.BroadcastAt c.args.asked c.args.base) _ _ made room
    ∙ (λ i. (Ok (sym c.in_force.ensures.value i), last i)))
