-- Lines that were answered in turn by a machine of lines have its session text.
use Rattle.std.proofs.Common.{◌≡◌, ℕ, Bool, List, [], ◌∷◌, ◌++◌, length, refl, sym, ap, ◌∙◌, arith}
use Rattle.std.specs.List.{concat}
use Rattle.th_lines.specs.Lines.{Line}
use Rattle.th_lines.specs.Answering.{Turned}
use Rattle.th_replay.specs.Session.{LineMachine, Turns, session_text, session_end}

module _ {S : Type 0} (m : LineMachine S) where
  -- some lines are marked, and the texts of the answers are the session text
  pub record Text (lines : List Line) (s : S) (texts : List (List ℕ)) (s' : S) : Type 0 where
    pub marks : List Bool
    pub each : length marks ≡ length lines
    pub text : session_text m s lines marks ≡ concat texts
    pub after : s' ≡ session_end m s lines marks

  pub turned_text : (lines : List Line) (s : S) (texts : List (List ℕ)) (s' : S) → Turned (Turns m) lines s texts s' → Text lines s texts s'
  turned_text [] s [] s' e = record { marks = []; each = refl; text = refl; after = e }
  turned_text [] s (x ∷ xs) s' e = absurd e
  turned_text (l ∷ ls) s [] s' e = absurd e
  turned_text (l ∷ ls) s (x ∷ xs) s' t =
      let later = turned_text ls t.0 xs s' t.2 in
      record {
        marks = t.1.marked ∷ later.marks;
        each = omega (arith, later.each);
        text = ap (λ (e : List ℕ × S). e.0 ++ session_text m e.1 ls later.marks) t.1.said ∙ ap (λ (rest : List ℕ). x ++ rest) later.text;
        after = later.after ∙ sym (ap (λ (e : List ℕ × S). session_end m e.1 ls later.marks) t.1.said);
      }
