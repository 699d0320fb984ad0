-- What is said of a text that was read as the next part of a history.
use Rattle.std.proofs.Common.{◌≡◌, ◌∙◌, ℕ, List, [], ◌++◌, refl, sym, ap, ap₂, subst, append-nil, Option, Some}
use Rattle.th_lines.specs.Lines.{Line, lines_of}
use Rattle.th_traces.specs.declared.picture.Picture.{Picture}
use Rattle.th_check.specs.declared.parts.Joined.TheVariants.{Judged, Apart}
use Rattle.th_check.specs.declared.parts.Span.{Span}
use Rattle.th_check.specs.declared.point.Spot.{Spot}
use Rattle.th_check.specs.declared.verdict.Verdict.{Verdict}
use Rattle.th_check.specs.declared.verdict.Verdict.TheVariants as verdict
use Rattle.th_check.specs.Checked.{Checked}
use Rattle.th_check.specs.Joined.{Adds, BeginsAt, IsApart, IsPart, Joins, Part, Reach, reach_by}
use Rattle.th_check.specs.Judging.{IsEndedWith, IsHeldAfter}
use Rattle.th_check.specs.Spans.{IsEnded, IsSpan}
use Rattle.th_check.proofs.Adding.{ended_part}

-- of a whole input, whatever may come after it
at_end : (P : List Line → Type 0) (input more : List ℕ) → more ≡ [] → P (lines_of input) → P (lines_of (input ++ more))
at_end P input more none p =
    subst (λ (l : List ℕ). P (lines_of l)) (sym (ap (λ (l : List ℕ). input ++ l) none ∙ append-nil input)) p

module _ (r r' : Option (List ℕ)) (here : Option Reach) where
  pub not_legal : (v : Verdict) → ((n : ℕ) → v ≡ verdict.Legal n → ⊥) → Checked r r' v → Joins r r' here (Judged v) here
  not_legal (verdict.Legal count) never checked = absurd (never count refl)
  not_legal (verdict.Illegal number) never checked = record {
    input = checked.input;
    read = checked.read;
    so = λ more end. (checked.so more end, refl);
    whole = λ legal. absurd legal;
  }
  not_legal (verdict.BadTrace number) never checked = record {
    input = checked.input;
    read = checked.read;
    so = λ more end. (checked.so more end, refl);
    whole = λ legal. absurd legal;
  }

  module _ (count : ℕ) (held : Spot) (ended : IsEndedWith r r' count held) where
    pub is_ended : IsEnded held
    is_ended = (ended.end, count, ended.holds, ended.ended)

    module _ (span : Span) (is : IsSpan held span) where
      part_is : (part : Part) × IsPart (lines_of ended.input) part × (part.count ≡ count)
          × (span.from ≡ part.from) × (span.to ≡ part.to)
      part_is =
          let p = ended_part ended.end count ended.ended in
          let s = is ended.end p.0 ended.holds p.1 in
          (p.0, record { end = ended.end; led = ended.led; is = p.1; sound = s.sound }, p.2, s.from, s.to)

      pub goes_on : (there : Option Reach) → BeginsAt here span.from → there ≡ Some (reach_by here span.from span.to) →
          Joins r r' here (Judged (verdict.Legal count)) there
      goes_on there begins to =
          let p = part_is in
          record {
            input = ended.input;
            read = ended.read;
            so = λ more end. at_end (λ (lines : List Line). Adds here lines count there) ended.input more (end ended.whole)
                (record {
                  part = p.0;
                  is = p.1;
                  begins = subst (λ (from : Picture). BeginsAt here from) p.3 begins;
                  counted = p.2;
                  ends = to ∙ ap₂ (λ (a b : Picture). Some (reach_by here a b)) p.3 p.4;
                });
            whole = λ legal. ended.whole;
          }

      pub is_apart : (there : Option Reach) → (BeginsAt here span.from → ⊥) → there ≡ here → Joins r r' here Apart there
      is_apart there elsewhere same =
          let p = part_is in
          record {
            input = ended.input;
            read = ended.read;
            so = λ more end. (
              at_end (λ (lines : List Line). IsApart here lines) ended.input more (end ended.whole)
                  (record {
                    part = p.0;
                    is = p.1;
                    elsewhere = λ begins. elsewhere (subst (λ (from : Picture). BeginsAt here from) (sym p.3) begins);
                  }),
              same,
            );
            whole = λ legal. ended.whole;
          }

-- a legal verdict
pub held_legal : (r r' : Option (List ℕ)) (v : Verdict) (count : ℕ) (held : Spot) → v ≡ verdict.Legal count → IsHeldAfter r r' v held →
    IsEndedWith r r' count held
held_legal r r' v count held e h = subst (λ (w : Verdict). IsHeldAfter r r' w held) e h

pub said_legal : (r r' : Option (List ℕ)) (here : Option Reach) (v : Verdict) (count : ℕ) → v ≡ verdict.Legal count
    → (there : Option Reach) → Joins r r' here (Judged (verdict.Legal count)) there → Joins r r' here (Judged v) there
said_legal r r' here v count e there h = subst (λ (w : Verdict). Joins r r' here (Judged w) there) (sym e) h
