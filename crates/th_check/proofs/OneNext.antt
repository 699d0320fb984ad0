-- Of the lines that come next in a history one thing is said.
use Rattle.std.proofs.Common.{◌≡◌, ◌∙◌, ℕ, List, [], ◌∷◌, refl, sym, ap, subst, Option, Some}
use Rattle.std.proofs.lemmas.Option.{same_Some}
use Rattle.th_lines.specs.Lines.{Line}
use Rattle.th_check.specs.declared.parts.Joined.{Joined}
use Rattle.th_check.specs.declared.parts.Joined.TheVariants.{Judged, Apart}
use Rattle.th_check.specs.declared.verdict.Verdict.{Verdict}
use Rattle.th_check.specs.declared.verdict.Verdict.TheVariants as verdict
use Rattle.th_check.specs.Joined.{BeginsAt, IsApart, IsPart, Part, Reach, SaysNext, part_at, reach_by}
use Rattle.th_check.specs.Points.{Point, start}
use Rattle.th_check.specs.Verdicts.{IsLegalText, IsSo, Leads}
use Rattle.th_check.proofs.Adding.{counts}
use Rattle.th_check.proofs.Deciding.{one_does, one_so}
use Rattle.th_check.proofs.Running.{no_legal}
use Rattle.th_check.proofs.Telling.{same_on}

led_one : (here a b : Point) (lines : List Line) → Leads here lines a → Leads here lines b → a ≡ b
led_one here a b [] p q = p ∙ sym q
led_one here a b (line ∷ lines) p q =
    led_one p.0 a b lines p.2 (subst (λ (x : Point). Leads x lines b) (same_on _ _ (one_does here line _ _ q.1 p.1)) q.2)

module _ (here : Option Reach) (lines : List Line) where
  one_part : (one other : Part) → IsPart lines one → IsPart lines other → one ≡ other
  one_part one other p q =
      same_Some one other (sym p.is ∙ ap part_at (led_one start p.end q.end lines p.led q.led) ∙ q.is)

  legal_part : (part : Part) → IsPart lines part → IsLegalText lines part.count
  legal_part part is = record { end = is.end; led = is.led; ended = counts is.end part is.is }

  verdict_of : (v : Verdict) (there : Option Reach) → SaysNext here lines (Judged v) there → IsSo lines v
  verdict_of (verdict.Legal count) there p = subst (λ (n : ℕ). IsLegalText lines n) p.counted (legal_part p.part p.is)
  verdict_of (verdict.Illegal number) there p = p.0
  verdict_of (verdict.BadTrace number) there p = p.0

  same_there : (v : Verdict) (there elsewhere : Option Reach) → SaysNext here lines (Judged v) there →
      SaysNext here lines (Judged v) elsewhere → there ≡ elsewhere
  same_there (verdict.Legal count) there elsewhere p q =
      p.ends ∙ ap (λ (x : Part). Some (reach_by here x.from x.to)) (one_part p.part q.part p.is q.is) ∙ sym q.ends
  same_there (verdict.Illegal number) there elsewhere p q = p.1 ∙ sym q.1
  same_there (verdict.BadTrace number) there elsewhere p q = p.1 ∙ sym q.1

  never_apart : {A : Type 0} (v : Verdict) (there : Option Reach) → SaysNext here lines (Judged v) there → IsApart here lines → A
  never_apart (verdict.Legal count) there p q =
      absurd (q.elsewhere (subst (λ (x : Part). BeginsAt here x.from) (one_part p.part q.part p.is q.is) p.begins))
  never_apart (verdict.Illegal number) there p q =
      no_legal (verdict.Illegal number) q.part.count refl (one_so lines _ _ p.0 (legal_part q.part q.is))
  never_apart (verdict.BadTrace number) there p q =
      no_legal (verdict.BadTrace number) q.part.count refl (one_so lines _ _ p.0 (legal_part q.part q.is))

  pub one_next : (said other : Joined) (there elsewhere : Option Reach) → SaysNext here lines said there →
      SaysNext here lines other elsewhere → (said ≡ other) × (there ≡ elsewhere)
  one_next (Judged v) (Judged w) there elsewhere p q =
      let e = one_so lines v w (verdict_of v there p) (verdict_of w elsewhere q) in
      (ap Judged e, same_there v there elsewhere p (subst (λ (x : Verdict). SaysNext here lines (Judged x) elsewhere) (sym e) q))
  one_next (Judged v) Apart there elsewhere p q = never_apart v there p q.0
  one_next Apart (Judged w) there elsewhere p q = never_apart w elsewhere q p.0
  one_next Apart Apart there elsewhere p q = (refl, p.1 ∙ sym q.1)
