use Rattle.std.proofs.Common.{◌≡◌, ◌∙◌, ◌+◌, ◌∷◌, ◌++◌, ℕ, true, List, [], Option, sym, ap, append_assoc, arith, drop, take}
use Rattle.std.specs.Borrow.{Bor}
use Rattle.th_lines.specs.Intake.{HasLfAt, line_given}
use Rattle.th_lines.specs.Lines.{Good, Line, line_of, lines_from}
use Rattle.th_lines.proofs.Cuts.{range_rest}
use Rattle.th_lines.proofs.LineLemmas.{lf_at, lines_from-lf}
use Rattle.th_lines.proofs.intake.front_line.Goals as goal

pub returns : goal.returns
returns c ended more =
    let bytes : List ℕ = c.args.bytes.now in
    let count : ℕ = c.in_ok-count.count in
    let part : List ℕ = take count bytes in
    let rest : List ℕ = drop (count + 1) bytes in
    let lf : HasLfAt bytes count =
    lf_at bytes count c.in_ok-count.ensures.0.high c.in_ok-count.ensures.1
    (λ j lt e. c.in_ok-count.ensures.0.before j (omega arith) lt e) in
    let line : line_of true part ≡ Good c.in_ok-line.line.now =
    sym c.given.ensures ∙ ap (λ (r : Option (Bor (List ℕ))). line_given r) c.in_ok-line.was in
    ap (λ (l : List ℕ). lines_from ended [] (l ++ more)) lf.parts
    ∙ ap (λ (l : List ℕ). lines_from ended [] l) (append_assoc part (10 ∷ rest) more)
    ∙ lines_from-lf ended [] part (rest ++ more) lf.first
    ∙ ap (λ (l : Line). l ∷ lines_from ended [] (rest ++ more)) line
    ∙ ap (λ (l : List ℕ). Good c.in_ok-line.line.now ∷ lines_from ended [] (l ++ more)) (sym (range_rest bytes (count + 1)))
