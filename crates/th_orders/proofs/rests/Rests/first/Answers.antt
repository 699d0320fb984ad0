use Rattle.std.proofs.Common.{◌∙◌, ◌<◌, ap, arith, length, refl, slice_get, subst, sym}
use Rattle.std.proofs.lemmas.Option.{slice_get_past, slice_get_read}
use Rattle.th_orders.specs.Orders.{Sessions, first_of}
use Rattle.th_orders.proofs.RestLemmas.{first-at, first-past}
use Rattle.th_orders.proofs.rests.Rests.first.Goals as goal

pub returns-then-session-len : goal.returns-then-session-len
returns-then-session-len c =
    let i = c.self.inside in
    sym (ap (λ (s : Sessions). first_of (slice_get s c.args.session)) (sym c.self.view_is)
    ∙ first-past i.taken.items i.sessions.items c.args.session c.self.invariant
    (omega (arith, c.len.ensures, i.sessions.ok.0, c.if-session-len.true)))

pub returns-then-taken-len : goal.returns-then-taken-len
returns-then-taken-len c =
    let i = c.self.inside in
    let k = c.args.session in
    let lt : k < length i.sessions.items = omega (arith, c.len.ensures, i.sessions.ok.0, c.if-session-len.false) in
    let s = slice_get_read i.sessions.items _ k c.index-events.result.now refl lt c.index-events.ensures in
    let n = slice_get_read i.taken.items _ k c.index-taken.result.now refl
    (subst (λ j. k < j) (sym c.self.invariant) lt) c.index-taken.ensures in
    sym (ap (λ (s : Sessions). first_of (slice_get s k)) (sym c.self.view_is)
    ∙ first-at i.taken.items i.sessions.items k c.index-taken.result.now c.index-events.result.now n s
    ∙ slice_get_past c.index-events.result.now.items c.index-taken.result.now
    (omega (arith, c.len-2.ensures, c.index-events.result.now.ok.0, c.if-taken-len.true)))

pub returns : goal.returns
returns c =
    let i = c.self.inside in
    let k = c.args.session in
    let lt : k < length i.sessions.items = omega (arith, c.len.ensures, i.sessions.ok.0, c.if-session-len.false) in
    let s = slice_get_read i.sessions.items _ k c.index-events.result.now refl lt c.index-events.ensures in
    let n = slice_get_read i.taken.items _ k c.index-taken.result.now refl
    (subst (λ j. k < j) (sym c.self.invariant) lt) c.index-taken.ensures in
    let more : c.index-taken.result.now < length c.index-events.result.now.items =
    omega (arith, c.len-2.ensures, c.index-events.result.now.ok.0, c.if-taken-len.false) in
    sym (ap (λ (s : Sessions). first_of (slice_get s k)) (sym c.self.view_is)
    ∙ first-at i.taken.items i.sessions.items k c.index-taken.result.now c.index-events.result.now n s
    ∙ slice_get_read c.index-events.result.now.items _ c.index-taken.result.now c.index.result.now refl more c.index.ensures)
