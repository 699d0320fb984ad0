-- A verdict on what was read of a text is one on the text.
use Rattle.std.proofs.Common.{ℕ, List, sym, subst}
use Rattle.std.specs.Prelude.{Option, Some, None}
use Rattle.th_lines.specs.Lines.{lines_of}
use Rattle.th_check.specs.Checked.{Checked}
use Rattle.th_check.specs.Verdicts.{IsSo}
use Rattle.th_check.specs.declared.verdict.Verdict.{Verdict}

pub so_of_text : (text : List ℕ) (rest : Option (List ℕ)) (v : Verdict) → Checked (Some text) rest v → IsSo (lines_of text) v
so_of_text text None v c = absurd c.read
so_of_text text (Some rest) v c =
    subst (λ (t : List ℕ). IsSo (lines_of t) v) (sym c.read) (c.so rest (λ at_end. at_end))
