use Rattle.std.proofs.Common.{◌≡◌, ℕ, ◌+◌, ◌<◌, ◌≤◌, length, [], ◌∷◌, ◌++◌, Ok, refl, sym, ap, ◌∙◌, inl, arith}
use Rattle.th_model.specs.WatchMachine as machine
use Rattle.th_model.specs.WatchPicture.{Picture, see}
use Rattle.th_registry.specs.History.{opened}
use Rattle.th_registry.specs.declared.channel.Channel.TheVariants.{Watch}
use Rattle.th_model.specs.declared.making.Making.TheVariants as Makings
use Rattle.th_registry.specs.Calls.{Bytes}
use Rattle.th_registry.proofs.Openings.{opens-full, opens-new, opens-short, insert-new}
use Rattle.th_registry.specs.Pictures.{SeenWatch, pictures}
use Rattle.th_registry.proofs.topics.open_watch.Goals as goal

pub returns-then-len-ge-MOST_TOPICS : goal.returns-then-len-ge-MOST_TOPICS
returns-then-len-ge-MOST_TOPICS c =
    let full : 1024 ≤ length c.args.channels.now.entries = omega (arith, c.len.ensures.len, c.if-len-ge-MOST_TOPICS.true) in
    inl (opens-full (pictures c.args.limit) c.args.channels.now.entries c.args.name c.requires (Makings.Watch c.args.value) _ _ refl full)

pub returns-in_default : goal.returns-in_default
returns-in_default c =
    let room : length c.args.channels.now.entries < 1024 = omega (arith, c.len.ensures.len, c.if-len-ge-MOST_TOPICS.false) in
    opens-short (pictures c.args.limit) c.args.channels.now.entries c.args.name c.requires (Makings.Watch c.args.value) _ _ refl room _ refl

pub returns-in_default-new : goal.returns-in_default-new
returns-in_default-new c =
    let room : length c.args.channels.now.entries < 1024 = omega (arith, c.len.ensures.len, c.if-len-ge-MOST_TOPICS.false) in
    opens-short (pictures c.args.limit) c.args.channels.now.entries c.args.name c.requires (Makings.Watch c.args.value) _ _ refl room _ refl

pub returns-in_default-insert : goal.returns-in_default-insert
returns-in_default-insert c =
    let room : length c.args.channels.now.entries < 1024 = omega (arith, c.len.ensures.len, c.if-len-ge-MOST_TOPICS.false) in
    opens-short (pictures c.args.limit) c.args.channels.now.entries c.args.name c.requires (Makings.Watch c.args.value) _ _ refl room _
    (c.in_default-insert.ensures.err)

pub returns : goal.returns
returns c =
    let ts = c.args.channels.now.entries in
    let room : length ts < 1024 = omega (arith, c.len.ensures.len, c.if-len-ge-MOST_TOPICS.false) in
    let opened : c.in-Ok-new.channel ≡ (pictures c.args.limit).watch_opened c.args.value (length ts + 1) =
    c.in-Ok-new.ensures.new
    ∙ ap (λ (p : Picture Bytes). opened c.args.limit (c.len-2.result + 1) p p) c.in-Ok.ensures.opened
    ∙ (let count : c.len-2.result ≡ length ts = omega (arith, c.len-2.ensures.len) in let p = see (machine.opened c.args.value 1) in
    ap (λ (n : ℕ). opened c.args.limit (n + 1) p p) count) in
    let last : ts ++ (c.args.name, Watch ((pictures c.args.limit).watch_opened c.args.value (length ts + 1))) ∷ []
    ≡ c.insert.new.self.entries =
    sym (c.in-Ok-insert.ensures.entries
    ∙ insert-new ts c.args.name (Watch c.in-Ok-new.channel) c.requires
    ∙ ap (λ (h : SeenWatch). ts ++ (c.args.name, Watch h) ∷ []) opened) in
    inl (opens-new (pictures c.args.limit) ts c.args.name c.requires (Makings.Watch c.args.value) _ _ refl room ∙ (λ i. (Ok 1, last i)))
