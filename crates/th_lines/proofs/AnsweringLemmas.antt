-- How lines are answered, one after another, and what is written of the texts.
use Rattle.std.proofs.Common.{◌≡◌, ℕ, Bool, true, false, List, [], ◌∷◌, ◌++◌, refl, sym, ap, ◌∙◌, append_assoc, append-nil, subst}
use Rattle.std.specs.Io.KnownBytes.{Appends}
use Rattle.std.specs.List.{concat}
use Rattle.std.proofs.lemmas.List.Folds.{concat-append}
use Rattle.th_lines.specs.Answering.{Answers, Breaks, Ended, Says, Turned}
use Rattle.th_lines.specs.Lines.{Line}
use Rattle.th_lines.specs.Output.{Output, Adds, WritesAll, WritesFront}
use Rattle.th_lines.proofs.OutputLemmas.{adds_both, adds_flushed, adds_none, front_after, waiting_front}

-- something came behind what waited, and then more
pub says_after : (whole : Bool) {a b : Output} {x : List ℕ} (c : Output) (y : List ℕ) → Adds x a b → Says whole y b c →
    Says whole (x ++ y) a c
says_after true c y p q = adds_both p q
says_after false c y p q = front_after y p q

pub says_as : (whole : Bool) (a b : Output) {x y : List ℕ} → x ≡ y → Says whole x a b → Says whole y a b
says_as whole a b e q = subst (λ (l : List ℕ). Says whole l a b) e q

-- nothing waited at first; what came was written at the end
pub wrote_all : {a b c : Output} {x : List ℕ} → a.waiting ≡ [] → Adds x a b → WritesAll b.waiting b c → WritesAll x a c
wrote_all {a} {b} {c} {x} none p q =
    let all = adds_flushed p q in
    record { wrote = subst (λ (l : List ℕ). Appends a.written c.written (l ++ x)) none all.wrote; same = all.same }

pub wrote_front : {a b c : Output} {x : List ℕ} → a.waiting ≡ [] → Adds x a b → WritesFront b.waiting b c → WritesFront x a c
wrote_front {a} {b} {c} {x} none p q = subst (λ (l : List ℕ). WritesFront (l ++ x) a c) none (waiting_front p q)

-- nothing waits at the end
pub at_end : (whole : Bool) (x : List ℕ) (a b : Output) → Ended whole x a b → Ended whole x a (record b { waiting = [] })
at_end true x a b p = record { wrote = p.wrote; same = p.same }
at_end false x a b p = record { shown = p.shown; unsaid = p.unsaid; wrote = p.wrote; text = p.text; failed = p.failed }

module _ {S : Type 0} (turn : S → Line → List ℕ → S → Type 0) where
  pub turned-append : (xs ys : List Line) (s m e : S) (a b : List (List ℕ)) → Turned turn xs s a m → Turned turn ys m b e →
      Turned turn (xs ++ ys) s (a ++ b) e
  turned-append [] ys s m e [] b p q = subst (λ (t : S). Turned turn ys t b e) p q
  turned-append [] ys s m e (r ∷ a) b p q = absurd p
  turned-append (x ∷ xs) ys s m e [] b p q = absurd p
  turned-append (x ∷ xs) ys s m e (r ∷ a) b p q = (p.0, p.1, turned-append xs ys p.0 m e a b p.2 q)

module _ {S : Type 0} {turn : S → Line → List ℕ → S → Type 0} where
  -- nothing was done
  pub answers_none : (a : S × Output) → Answers turn a [] a
  answers_none a = record { texts = []; turned = refl; said = adds_none a.1 }

  module _ {a b : S × Output} {ls : List Line} (p : Answers turn a ls b) where
    -- one line more
    pub answers_line : (line : Line) (text : List ℕ) (c : S × Output) → turn b.0 line text c.0 → Adds text b.1 c.1 →
        Answers turn a (ls ++ line ∷ []) c
    answers_line line text c t said = record {
      texts = p.texts ++ text ∷ [];
      turned = turned-append turn ls (line ∷ []) a.0 b.0 c.0 p.texts (text ∷ []) p.turned (c.0, t, refl);
      said = subst (λ (l : List ℕ). Adds l a.1 c.1) (sym (concat-append p.texts (text ∷ [])
          ∙ ap (λ (l : List ℕ). concat p.texts ++ l) (append-nil text)))
          (adds_both p.said said);
    }

    -- what waited was written, or some of it
    pub answers_on : (out : Output) → Adds [] b.1 out → Answers turn a ls (b.0, out)
    answers_on out said = record {
      texts = p.texts;
      turned = p.turned;
      said = subst (λ (l : List ℕ). Adds l a.1 out) (append-nil (concat p.texts)) (adds_both p.said said);
    }

    -- it came to an end after them
    unfoldable pub breaks_after : {whole : Bool} {later : List Line} {c : S × Output} → Breaks turn whole b later c →
        Breaks turn whole a (ls ++ later) c
    breaks_after {whole} {later} {c} q = record {
      done = ls ++ q.done;
      later = q.later;
      texts = p.texts ++ q.texts;
      parts = ap (λ (l : List Line). ls ++ l) q.parts ∙ sym (append_assoc ls q.done q.later);
      turned = turned-append turn ls q.done a.0 b.0 c.0 p.texts q.texts p.turned q.turned;
      said = says_as whole a.1 c.1 (sym (concat-append p.texts q.texts)) (says_after whole c.1 (concat q.texts) p.said q.said);
    }

  -- it comes to an end before any further line
  unfoldable pub breaks_here : (whole : Bool) (a : S × Output) (ls : List Line) (out : Output) → Says whole [] a.1 out →
      Breaks turn whole a ls (a.0, out)
  breaks_here whole a ls out said = record { done = []; later = ls; texts = []; parts = refl; turned = refl; said = said }

  -- or with the text that answers a line
  unfoldable pub breaks_at : (whole : Bool) (a : S × Output) (line : Line) (text : List ℕ) (b : S × Output) → turn a.0 line text b.0 →
      Says whole text a.1 b.1
      → Breaks turn whole a (line ∷ []) b
  breaks_at whole a line text b t said = record {
    done = line ∷ [];
    later = [];
    texts = text ∷ [];
    parts = refl;
    turned = (b.0, t, refl);
    said = says_as whole a.1 b.1 (sym (append-nil text)) said;
  }
