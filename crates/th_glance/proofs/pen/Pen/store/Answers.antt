use Rattle.std.proofs.Common.{rules, ◌≡◌, ℕ, ◌+◌, List, [], ◌∷◌, ◌++◌, ap, sym, subst, ◌∙◌}
use Rattle.th_glance.specs.declared.glance.Glance.{Glance}
use Rattle.th_glance.specs.Lists.{glance_of, word_of, last_of, last_count, IsCounted}
use Rattle.th_glance.specs.Seats.{Known}
use Rattle.th_glance.proofs.Keeps.{writes}
use Rattle.th_glance.proofs.Prefix.{last-snoc, counted-snoc}
use Rattle.th_glance.proofs.pen.Pen.store.Goals as goal

pub store-requires : goal.store-requires
store-requires c = (search rules, search rules, writes _ _ _ c.args.closed _ (search rules) (search rules))

pub invariant_of-self : goal.invariant_of-self
invariant_of-self c =
    let old : List Glance = c.self.inside.seat.me.0.seen in
    let new : List Glance = c.store.new.seat.me.0.seen in
    let g : Glance = glance_of (last_count old + 1) c.args.closed in
    let word = c.word-word.ensures ∙ ap (λ (n : ℕ). word_of (glance_of (n + 1) c.args.closed)) c.self.invariant.3 in
    let is : new ≡ old ++ g ∷ [] = c.store.ensures.2 g word in
    let last : last_of new ≡ g = ap last_of is ∙ last-snoc old g in
    let count : c.self.inside.count + 1 ≡ last_count new =
    ap (λ (n : ℕ). n + 1) c.self.invariant.3 ∙ sym (ap (λ (z : Glance). z.count) last) in
    (search rules, search rules, search rules, count, subst IsCounted (sym is) (counted-snoc old c.args.closed c.self.invariant.4))

pub returns-clause-last : goal.returns-clause-last
returns-clause-last c =
    let g : Glance = glance_of (c.self.inside.count + 1) c.args.closed in
    let last : last_of c.store.new.seat.me.0.seen ≡ g =
    ap last_of (c.store.ensures.2 g c.word-word.ensures) ∙ last-snoc c.self.inside.seat.me.0.seen g in
    last ∙ ap (λ (n : ℕ). glance_of (n + 1) c.args.closed) (c.self.invariant.3 ∙ ap (λ (k : Known). last_count k.list) c.self.view_is)

pub returns-clause-counted : goal.returns-clause-counted
returns-clause-counted c =
    let old : List Glance = c.self.inside.seat.me.0.seen in
    let g : Glance = glance_of (last_count old + 1) c.args.closed in
    let word = c.word-word.ensures ∙ ap (λ (n : ℕ). word_of (glance_of (n + 1) c.args.closed)) c.self.invariant.3 in
    subst IsCounted (sym (c.store.ensures.2 g word)) (counted-snoc old c.args.closed c.self.invariant.4)
