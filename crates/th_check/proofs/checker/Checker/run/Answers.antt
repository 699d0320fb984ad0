use Rattle.std.proofs.Common.{◌≡◌, ◌∙◌, ◌-◌, ◌^◌, ◌<◌, ℕ, Option, Err, Ok, ap, arith, subst}
use Rattle.th_lines.specs.Feeding.{Feeding}
use Rattle.th_check.specs.declared.fault.Expected.{Expected}
use Rattle.th_check.specs.Judging.{Concludes, Reached}
use Rattle.th_check.proofs.Running.{counted_within, held_so, says_so, stands_so, stops_so}
use Rattle.th_check.proofs.checker.Checker.run.Goals as goal

pub conclude-requires : goal.conclude-requires
conclude-requires g c = λ e.
    let A = Option Expected in
    let f = c.feed-fed.new.self in
    let now : Reached = (c.feed-fed.new.taker, tt, tt) in
    let limit : f.limit ≡ 2 ^ 64 - 2 = c.feed-fed.ensures.limit ∙ ap (λ (k : Feeding). k.limit) c.requires.feeder in
    let most : 2 ^ 49 < f.limit = omega (arith, limit) in
    let s = stands_so _ _ A c.args.reader.now.calls c.feed-fed.new.reader.calls c.args.reads f now c.requires.reads most
    c.args.self.now.spot c.feed-fed.result c.requires.spot c.feed-fed.ensures.fed in
    let within = counted_within _ _ A c.args.reader.now.calls c.feed-fed.new.reader.calls c.args.reads f now c.requires.reads most
    c.feed-fed.result s e in
    omega (arith, within, limit, c.taken-self.ensures.taken)

pub returns-in-Ok-clause-verdict : goal.returns-in-Ok-clause-verdict
returns-in-Ok-clause-verdict g c =
    let A = Option Expected in
    let f = c.feed-fed.new.self in
    let now : Reached = (c.feed-fed.new.taker, tt, tt) in
    let limit : f.limit ≡ 2 ^ 64 - 2 = c.feed-fed.ensures.limit ∙ ap (λ (k : Feeding). k.limit) c.requires.feeder in
    let most : 2 ^ 49 < f.limit = omega (arith, limit) in
    let s = stands_so _ _ A c.args.reader.now.calls c.feed-fed.new.reader.calls c.args.reads f now c.requires.reads most
    c.args.self.now.spot c.feed-fed.result c.requires.spot c.feed-fed.ensures.fed in
    says_so _ _ A c.args.reader.now.calls c.feed-fed.new.reader.calls c.args.reads f now c.requires.reads most c.feed-fed.result
    (Ok (c.in-Ok.verdict, c.in-Ok.expected)) s
    (subst (λ (n : ℕ). Concludes c.feed-fed.result c.feed-fed.new.taker n (Ok (c.in-Ok.verdict, c.in-Ok.expected)))
    c.taken-self.ensures.taken c.in-Ok.ensures.concludes)

pub returns-in-Ok-clause-held : goal.returns-in-Ok-clause-held
returns-in-Ok-clause-held g c =
    let A = Option Expected in
    let f = c.feed-fed.new.self in
    let now : Reached = (c.feed-fed.new.taker, tt, tt) in
    let limit : f.limit ≡ 2 ^ 64 - 2 = c.feed-fed.ensures.limit ∙ ap (λ (k : Feeding). k.limit) c.requires.feeder in
    let most : 2 ^ 49 < f.limit = omega (arith, limit) in
    let s = stands_so _ _ A c.args.reader.now.calls c.feed-fed.new.reader.calls c.args.reads f now c.requires.reads most
    c.args.self.now.spot c.feed-fed.result c.requires.spot c.feed-fed.ensures.fed in
    held_so _ _ A c.args.reader.now.calls c.feed-fed.new.reader.calls c.args.reads f now c.requires.reads most c.feed-fed.result
    (Ok (c.in-Ok.verdict, c.in-Ok.expected)) s
    (subst (λ (n : ℕ). Concludes c.feed-fed.result c.feed-fed.new.taker n (Ok (c.in-Ok.verdict, c.in-Ok.expected)))
    c.taken-self.ensures.taken c.in-Ok.ensures.concludes)

pub returns-in-Err-clause-fault : goal.returns-in-Err-clause-fault
returns-in-Err-clause-fault g c =
    let A = Option Expected in
    let f = c.feed-fed.new.self in
    let now : Reached = (c.feed-fed.new.taker, tt, tt) in
    let limit : f.limit ≡ 2 ^ 64 - 2 = c.feed-fed.ensures.limit ∙ ap (λ (k : Feeding). k.limit) c.requires.feeder in
    let most : 2 ^ 49 < f.limit = omega (arith, limit) in
    let s = stands_so _ _ A c.args.reader.now.calls c.feed-fed.new.reader.calls c.args.reads f now c.requires.reads most
    c.args.self.now.spot c.feed-fed.result c.requires.spot c.feed-fed.ensures.fed in
    stops_so _ _ A c.args.reader.now.calls c.feed-fed.new.reader.calls c.args.reads f now c.requires.reads most c.feed-fed.result
    (Err c.in-Err.fault) s
    (subst (λ (n : ℕ). Concludes c.feed-fed.result c.feed-fed.new.taker n (Err c.in-Err.fault)) c.taken-self.ensures.taken
    c.in-Err.ensures.concludes)
