-- Parts of a log that go on, and those that are cut.
use Rattle.std.proofs.Common.{◌≡◌, ◌∙◌, inl, inr, Option, List, [], ◌∷◌, ◌++◌, ap, append_assoc, append-nil, refl, sym, subst, ⊎_elim}
use Rattle.th_glance.proofs.Prefix.{prefix_self, prefix_trans}
use Rattle.th_log.specs.History.{Piece}
use Rattle.th_log.specs.Outcome.{added}
use Rattle.th_block.specs.Locked.{Extends, Guarded, HandsOn, HandsOnAll, RunsOn, next_part, parts_of}

module _ {S C R : Type 0} where
  pub extends_self : (a b : Piece S C R) → b ≡ a → Extends a b
  extends_self a b is = subst (λ (p : Piece S C R). Extends a p) (sym is) (record {
    key = refl;
    first = refl;
    start = refl;
    entries = prefix_self a.entries;
  })

  pub extends_added : (a b : Piece S C R) (call : C) (reply : R) (last : S) → b ≡ added a call reply last → Extends a b
  extends_added a b call reply last is = subst (λ (p : Piece S C R). Extends a p) (sym is) (record {
    key = refl;
    first = refl;
    start = refl;
    entries = ((call, reply) ∷ [], refl);
  })

  pub extends_on : (a b c : Piece S C R) → Extends a b → Extends b c → Extends a c
  extends_on a b c one other = record {
    key = other.key ∙ one.key;
    first = other.first ∙ one.first;
    start = other.start ∙ one.start;
    entries = prefix_trans _ _ _ one.entries other.entries;
  }

  runs_on : (ps : List (Piece S C R)) (a b c : Piece S C R) → RunsOn ps a b → Extends b c → RunsOn ps a c
  runs_on [] a b c runs more = extends_on a b c runs more
  runs_on (p ∷ ps) a b c runs more = (runs.0, runs_on ps (next_part p) b c runs.1 more)

  runs_over : (ps : List (Piece S C R)) (a b c : Piece S C R) → RunsOn ps a b → Extends (next_part b) c → RunsOn (ps ++ b ∷ []) a c
  runs_over [] a b c runs more = (runs, more)
  runs_over (p ∷ ps) a b c runs more = (runs.0, runs_over ps (next_part p) b c runs.1 more)

  pub hands_none : (a : Piece S C R) (cut : Option (List (Piece S C R))) → HandsOnAll a a cut cut
  hands_none a cut = ([], sym (append-nil (parts_of cut)), extends_self a a refl)

  pub hands_more : (a b c : Piece S C R) (cut cut' cut'' : Option (List (Piece S C R)))
      → HandsOnAll a b cut cut' → HandsOn b cut' cut'' (λ p. Extends p c) → HandsOnAll a c cut cut''
  hands_more a b c cut cut' cut'' so_far more = ⊎_elim
      (λ (none : (cut'' ≡ cut') × Extends b c). (
        so_far.0,
        ap parts_of none.0 ∙ so_far.1,
        runs_on so_far.0 a b c so_far.2 none.1,
      ))
      (λ (one : (parts_of cut'' ≡ parts_of cut' ++ b ∷ []) × Extends (next_part b) c). (
        so_far.0 ++ b ∷ [],
        one.0 ∙ ap (λ (l : List (Piece S C R)). l ++ b ∷ []) so_far.1 ∙ append_assoc (parts_of cut) so_far.0 (b ∷ []),
        runs_over so_far.0 a b c so_far.2 one.1,
      ))
      more

  pub hands_so : (a : Piece S C R) (cut cut' : Option (List (Piece S C R))) (P Q : Piece S C R → Type 0)
      → ((p : Piece S C R) → P p → Q p) → HandsOn a cut cut' P → HandsOn a cut cut' Q
  hands_so a cut cut' P Q so hands = ⊎_elim
      (λ (none : (cut' ≡ cut) × P a). inl (none.0, so a none.1))
      (λ (one : (parts_of cut' ≡ parts_of cut ++ a ∷ []) × P (next_part a)). inr (one.0, so (next_part a) one.1))
      hands

  pub hands_same : (a b : Piece S C R) (cut cut' : Option (List (Piece S C R))) → cut' ≡ cut → b ≡ a
      → HandsOn a cut cut' (λ p. Extends p b)
  hands_same a b cut cut' none is = inl (none, extends_self a b is)

  -- nothing but the log has changed, nor did it before
  pub rest_on : (a b c : Guarded S C R) → b ≡ record a { log = b.log } → c ≡ record b { log = c.log } → c ≡ record a { log = c.log }
  rest_on a b c one other = other ∙ ap (λ (g : Guarded S C R). record g { log = c.log }) one

  pub hands_added : (a b : Piece S C R) (call : C) (reply : R) (last : S) (cut cut' : Option (List (Piece S C R)))
      → HandsOn a cut cut' (λ p. b ≡ added p call reply last) → HandsOn a cut cut' (λ p. Extends p b)
  hands_added a b call reply last cut cut' = hands_so a cut cut' (λ p. b ≡ added p call reply last) (λ p. Extends p b)
      (λ p is. extends_added p b call reply last is)

  pub hands_self : (a b : Piece S C R) (cut cut' : Option (List (Piece S C R))) → HandsOn a cut cut' (λ p. b ≡ p)
      → HandsOn a cut cut' (λ p. Extends p b)
  hands_self a b cut cut' = hands_so a cut cut' (λ p. b ≡ p) (λ p. Extends p b) (λ p is. extends_self p b is)
