use Rattle.std.proofs.Common.{List, arith, get_or, subst, sym, take, ℕ}
use Rattle.std.proofs.lemmas.Bool.{false≢true}
use Rattle.std.proofs.lemmas.Int.Digits.{digits_push}
use Rattle.std.proofs.lemmas.List.{take_more}
use Rattle.std.proofs.lemmas.Str.{digit_value_digit}
use Rattle.std.proofs.lemmas.Str.Parse.{digit_at}
use Rattle.std.specs.Str.Parse.{AllDigits}
use Rattle.th_program.proofs.part_names.are_digits.Goals as goal
use Rattle.th_program.proofs.part_names.are_digits.Goals.{then-byte-lt48-via-then-byte-lt48, then-byte-lt48-via-else-byte-lt48+then-byte-gt57}

pub returns-then-byte-lt48 : goal.returns-then-byte-lt48
returns-then-byte-lt48 c = (
  λ t. absurd (false≢true t),
  λ all.
      let here = digit_at c.args.bytes.now c.loop-byte.byte-index all c.loop-byte-test.true in
      absurd (elim c.then-byte-lt48.branch [
        | then-byte-lt48-via-then-byte-lt48 w ↦ omega (arith, here, w.if-byte-lt48.true)
        | then-byte-lt48-via-else-byte-lt48+then-byte-gt57 w ↦ omega (arith, here, w.if-byte-gt57.true)
      ]),
)

pub loop-byte-preserved : goal.loop-byte-preserved
loop-byte-preserved c =
    let i = c.loop-byte.byte-index in
    let bytes = c.args.bytes.now in
    let b = get_or bytes i 0 in
    let value = digit_value_digit b (omega (arith, c.if-byte-lt48.false), omega (arith, c.if-byte-gt57.false)) in
    subst (λ (l : List ℕ). AllDigits 10 l) (sym (take_more bytes i 0 c.loop-byte-test.true))
    (digits_push 10 (take i bytes) b c.loop-byte.invariant (omega (arith, value, c.if-byte-gt57.false)))
