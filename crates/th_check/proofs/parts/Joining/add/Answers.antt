use Rattle.std.proofs.Common.{refl}
use Rattle.th_check.proofs.NextPart.{goes_on, held_legal, is_apart, not_legal, said_legal}
use Rattle.th_check.proofs.parts.Joining.add.Goals as goal

pub returns-in_default : goal.returns-in_default
returns-in_default g c = record {
  joins = not_legal _ _ _ c.in-Ok.judged.0 c.in_default.not-Legal c.in-Ok.ensures.verdict;
  fault = tt;
  reads = c.in-Ok.ensures.reads;
  reader = c.in-Ok.ensures.reader;
  text = c.explain.ensures;
  same = tt;
  silent = tt;
}

pub returns-then-takes-clause-joins : goal.returns-then-takes-clause-joins
returns-then-takes-clause-joins g c =
    let n = c.in-Legal.field-0 in
    let ended = held_legal _ _ c.in-Ok.judged.0 n c.in-Ok.judged.1.spot c.in-Legal.is c.in-Ok.ensures.held in
    said_legal _ _ _ c.in-Ok.judged.0 n c.in-Legal.is c.takes.new.self
    (goes_on _ _ _ n c.in-Ok.judged.1.spot ended c.in-Ok-ends_of.span c.in-Ok-ends_of.ensures.span c.takes.new.self
    (c.if-takes.ensures.on refl).0 (c.if-takes.ensures.on refl).1)

pub returns-clause-joins : goal.returns-clause-joins
returns-clause-joins g c =
    let n = c.in-Legal.field-0 in
    let ended = held_legal _ _ c.in-Ok.judged.0 n c.in-Ok.judged.1.spot c.in-Legal.is c.in-Ok.ensures.held in
    is_apart _ _ _ n c.in-Ok.judged.1.spot ended c.in-Ok-ends_of.span c.in-Ok-ends_of.ensures.span c.takes.new.self
    (c.if-takes.ensures.apart refl).0 (c.if-takes.ensures.apart refl).1
