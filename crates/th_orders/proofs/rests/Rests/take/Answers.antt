use Rattle.std.proofs.Common.{◌∙◌, ◌≡◌, ◌+◌, Some, ap, arith, refl, set, slice_get, subst}
use Rattle.std.proofs.lemmas.Option.{slice_get_read}
use Rattle.th_orders.specs.Orders.{Sessions, Takes, first_of}
use Rattle.th_orders.specs.Rests.{rests}
use Rattle.th_orders.proofs.RestLemmas.{number-within, session-within, takes-at, takes-others}
use Rattle.th_orders.proofs.rests.Rests.take.Goals as goal

pub index_mut-requires : goal.index_mut-requires
index_mut-requires c =
    let i = c.self.inside in
    let there : first_of (slice_get (rests i.taken.items i.sessions.items) c.args.session) ≡ Some c.args.event =
    ap (λ (s : Sessions). first_of (slice_get s c.args.session)) c.self.view_is ∙ c.requires in
    omega (arith, i.taken.ok.0, session-within i.taken.items i.sessions.items c.args.session c.args.event there)

pub overflow_add-index_mut : goal.overflow_add-index_mut
overflow_add-index_mut c =
    let i = c.self.inside in
    let there : first_of (slice_get (rests i.taken.items i.sessions.items) c.args.session) ≡ Some c.args.event =
    ap (λ (s : Sessions). first_of (slice_get s c.args.session)) c.self.view_is ∙ c.requires in
    let lt = session-within i.taken.items i.sessions.items c.args.session c.args.event there in
    let n = slice_get_read i.taken.items _ c.args.session c.index_mut.result.now refl lt c.index_mut.ensures.value in
    let w = number-within i.taken.items i.sessions.items c.args.session c.index_mut.result.now c.args.event n there in
    omega (arith, w.1, w.0.ok.0, w.0.small)

pub returns-clause-takes : goal.returns-clause-takes
returns-clause-takes c =
    let i = c.self.inside in
    let there : first_of (slice_get (rests i.taken.items i.sessions.items) c.args.session) ≡ Some c.args.event =
    ap (λ (s : Sessions). first_of (slice_get s c.args.session)) c.self.view_is ∙ c.requires in
    let lt = session-within i.taken.items i.sessions.items c.args.session c.args.event there in
    let n = slice_get_read i.taken.items _ c.args.session c.index_mut.result.now refl lt c.index_mut.ensures.value in
    let new : Sessions = rests (set i.taken.items c.args.session (c.index_mut.result.now + 1)) i.sessions.items in
    subst (λ (old : Sessions). Takes old c.args.event new) c.self.view_is
    (takes-at i.taken.items i.sessions.items c.args.session c.index_mut.result.now c.args.event n there)

pub returns-clause-others : goal.returns-clause-others
returns-clause-others c = λ k ne.
    let i = c.self.inside in
    takes-others i.taken.items i.sessions.items c.args.session (c.index_mut.result.now + 1) k ne
    ∙ ap (λ (s : Sessions). slice_get s k) c.self.view_is
