-- Replies that wait, and what is written of them.
use Rattle.std.proofs.Common.{◌≡◌, ℕ, ◌+◌, ◌-◌, ◌<◌, List, [], ◌++◌, length, take, drop, get_or, refl, sym, ap, ◌∙◌, append_assoc, append-nil, arith, Option, Ok, Err, subst, length-drop, take-append-drop}
use Rattle.std.specs.Prelude.{Result}
use Rattle.std.specs.Io.KnownBytes.{Appends, Keeps}
use Rattle.std.proofs.KnownBytes.{Appends-nil, Appends-trans, Appends-kept}
use Rattle.std.proofs.Math.Seq.{take-add}
use Rattle.std.proofs.lemmas.List.{take_all}
use Rattle.std.specs.List.{concat}
use Rattle.std.proofs.lemmas.List.Folds.{concat-append}
use Rattle.th_lines.specs.Device.{one_more}
use Rattle.th_lines.specs.Output.{Output, WritesAll, WritesFront, Writes, Adds, AddsOrFails, Flushes}
use Rattle.th_lines.proofs.ReplyLemmas.{concat-more}

-- nothing came
pub adds_none : (o : Output) → Adds [] o o
adds_none o = record { shown = []; wrote = Appends-nil o.written; text = append-nil o.waiting; same = refl }

-- bytes were put behind those that wait
pub adds_waiting : (o : Output) (bytes waiting : List ℕ) → waiting ≡ o.waiting ++ bytes
    → Adds bytes o (record o { waiting = waiting })
adds_waiting o bytes waiting e = record { shown = []; wrote = Appends-nil o.written; text = sym e; same = refl }

-- one after the other
pub adds_both : {a b c : Output} {x y : List ℕ} → Adds x a b → Adds y b c → Adds (x ++ y) a c
adds_both {a} {b} {c} {x} {y} p q = record {
  shown = p.shown ++ q.shown;
  wrote = Appends-trans a.written b.written c.written p.shown q.shown p.wrote q.wrote;
  text =
      let e1 : a.waiting ++ (x ++ y) ≡ (a.waiting ++ x) ++ y = sym (append_assoc a.waiting x y) in
      let e2 : (a.waiting ++ x) ++ y ≡ (p.shown ++ b.waiting) ++ y = ap (λ (l : List ℕ). l ++ y) p.text in
      let e3 : (p.shown ++ b.waiting) ++ y ≡ p.shown ++ (b.waiting ++ y) = append_assoc p.shown b.waiting y in
      let e4 : p.shown ++ (b.waiting ++ y) ≡ p.shown ++ (q.shown ++ c.waiting) =
      ap (λ (l : List ℕ). p.shown ++ l) q.text in
      e1 ∙ e2 ∙ e3 ∙ e4 ∙ sym (append_assoc p.shown q.shown c.waiting);
  same = q.same ∙ p.same;
}

-- all that waited was written
pub flushed_adds : {o n : Output} → WritesAll o.waiting o n → n.waiting ≡ [] → Adds [] o n
flushed_adds {o} {n} p none = record {
  shown = o.waiting;
  wrote = p.wrote;
  text = ap (λ (l : List ℕ). o.waiting ++ l) (sym none);
  same = p.same;
}

-- what was written, and then what came and was flushed
pub adds_flushed : {a b c : Output} {bytes : List ℕ} → Adds bytes a b → WritesAll b.waiting b c → WritesAll (a.waiting ++ bytes) a c
adds_flushed {a} {b} {c} {bytes} p q = record {
  wrote = subst (λ (l : List ℕ). Appends a.written c.written l) (sym p.text)
      (Appends-trans a.written b.written c.written p.shown b.waiting p.wrote q.wrote);
  same = q.same ∙ p.same;
}

-- all that waited was written, and then the writer flushed
pub flushed : {R E : Type 0} (a b c : Output) (r : Result R E) → WritesAll a.waiting a b → b.waiting ≡ [] → c.waiting ≡ b.waiting
    → Writes [] (record b { waiting = [] }) (record c { waiting = [] }) r → Flushes a c r
flushed a b c (Ok done) p none same q =
    let wrote = Appends-trans a.written b.written c.written a.waiting [] p.wrote q.wrote in
    let all = subst (λ (l : List ℕ). Appends a.written c.written l) (append-nil a.waiting) wrote in
    (record { wrote = all; same = q.same ∙ p.same }, same ∙ none)
flushed a b c (Err e) p none same f = record {
  shown = a.waiting ++ f.shown;
  unsaid = f.unsaid;
  wrote = Appends-trans a.written b.written c.written a.waiting f.shown p.wrote f.wrote;
  text = append_assoc a.waiting f.shown f.unsaid ∙ ap (λ (l : List ℕ). a.waiting ++ l) f.text ∙ append-nil a.waiting;
  failed = f.failed ∙ ap one_more p.same;
}

-- a front of some bytes is one of more
pub front_more : {o n : Output} {bytes : List ℕ} → (more : List ℕ) → WritesFront bytes o n → WritesFront (bytes ++ more) o n
front_more {o} {n} {bytes} more f = record {
  shown = f.shown;
  unsaid = f.unsaid ++ more;
  wrote = f.wrote;
  text = sym (append_assoc f.shown f.unsaid more) ∙ ap (λ (l : List ℕ). l ++ more) f.text;
  failed = f.failed;
}

pub front_as : {o n : Output} {bytes same : List ℕ} → bytes ≡ same → WritesFront bytes o n → WritesFront same o n
front_as {o} {n} {bytes} {same} e f = record { shown = f.shown; unsaid = f.unsaid; wrote = f.wrote; text = f.text ∙ e; failed = f.failed }

pub front_after : {a b c : Output} {x : List ℕ} (y : List ℕ) → Adds x a b → WritesFront (b.waiting ++ y) b c
    → WritesFront (a.waiting ++ (x ++ y)) a c
front_after {a} {b} {c} {x} y p q = record {
  shown = p.shown ++ q.shown;
  unsaid = q.unsaid;
  wrote = Appends-trans a.written b.written c.written p.shown q.shown p.wrote q.wrote;
  text =
      let e1 : (p.shown ++ q.shown) ++ q.unsaid ≡ p.shown ++ (q.shown ++ q.unsaid) = append_assoc p.shown q.shown q.unsaid in
      let e2 : p.shown ++ (q.shown ++ q.unsaid) ≡ p.shown ++ (b.waiting ++ y) = ap (λ (l : List ℕ). p.shown ++ l) q.text in
      let e3 : p.shown ++ (b.waiting ++ y) ≡ (p.shown ++ b.waiting) ++ y = sym (append_assoc p.shown b.waiting y) in
      let e4 : (p.shown ++ b.waiting) ++ y ≡ (a.waiting ++ x) ++ y = ap (λ (l : List ℕ). l ++ y) (sym p.text) in
      e1 ∙ e2 ∙ e3 ∙ e4 ∙ append_assoc a.waiting x y;
  failed = q.failed ∙ ap one_more p.same;
}

-- a front of what waits, whatever comes behind it
pub waiting_front : {a b c : Output} {x : List ℕ} → Adds x a b → WritesFront b.waiting b c → WritesFront (a.waiting ++ x) a c
waiting_front {a} {b} {c} {x} p q = front_as (ap (λ (l : List ℕ). a.waiting ++ l) (append-nil x)) (front_after [] p (front_more [] q))

-- the writer failed before they came
pub front_all : (o n : Output) (bytes : List ℕ) → WritesFront (o.waiting ++ []) o n → WritesFront (o.waiting ++ bytes) o n
front_all o n bytes f = front_as (ap (λ (l : List ℕ). l ++ bytes) (append-nil o.waiting)) (front_more bytes f)

-- a first line, where there is room for it, and then others
pub adds_first : (a b : Output) (line waiting : List ℕ) → Adds [] a b → waiting ≡ b.waiting ++ line
    → Adds line a (record b { waiting = waiting })
adds_first a b line waiting p e = adds_both p (adds_waiting b line waiting e)

pub adds_others : {R E : Type 0} (a b c : Output) (line others : List ℕ) (r : Result R E) → Adds line a b
    → AddsOrFails others b c r → AddsOrFails (line ++ others) a c r
adds_others a b c line others (Ok done) p q = adds_both p q
adds_others a b c line others (Err e) p f = front_after others p f

-- lines of which the first k were put behind what waited, and one line more
pub adds_line : {a b c : Output} (lines : List (List ℕ)) (k : ℕ) → k < length lines → Adds (concat (take k lines)) a b
    → Adds (get_or lines k []) b c → Adds (concat (take (k + 1) lines)) a c
adds_line {a} {b} {c} lines k within p q = subst (λ (t : List ℕ). Adds t a c) (sym (concat-more lines k within)) (adds_both p q)

-- the writer failed at it
pub front_line : {a b c : Output} (lines : List (List ℕ)) (k : ℕ) → k < length lines → Adds (concat (take k lines)) a b
    → WritesFront (b.waiting ++ get_or lines k []) b c → WritesFront (a.waiting ++ concat lines) a c
front_line {a} {b} {c} lines k within p f =
    let next : List ℕ = get_or lines k [] in
    let rest : List ℕ = concat (drop (k + 1) lines) in
    let more : (concat (take k lines) ++ next) ++ rest ≡ concat (take (k + 1) lines) ++ rest =
    ap (λ (t : List ℕ). t ++ rest) (sym (concat-more lines k within)) in
    let whole : concat (take (k + 1) lines) ++ rest ≡ concat lines =
    sym (concat-append (take (k + 1) lines) (drop (k + 1) lines)) ∙ ap concat (take-append-drop (k + 1) lines) in
    let same : (a.waiting ++ (concat (take k lines) ++ next)) ++ rest ≡ a.waiting ++ concat lines =
    append_assoc a.waiting (concat (take k lines) ++ next) rest ∙ ap (λ (t : List ℕ). a.waiting ++ t) (more ∙ whole) in
    front_as same (front_more rest (front_after next p f))

-- a write in parts
pub range_rest : (bytes : List ℕ) (i : ℕ) → take (length bytes - i) (drop i bytes) ≡ drop i bytes
range_rest bytes i = take_all (length bytes - i) (drop i bytes) (omega (arith, length-drop i bytes))

pub write_next : (a b c : Option (List ℕ)) (bytes : List ℕ) (i n : ℕ) → Appends a b (take i bytes)
    → Appends b c (take n (take (length bytes - i) (drop i bytes))) → Appends a c (take (i + n) bytes)
write_next a b c bytes i n p q = subst (λ (t : List ℕ). Appends a c t) (sym (take-add i n bytes))
    (Appends-trans a b c (take i bytes) (take n (drop i bytes)) p (subst (λ (t : List ℕ). Appends b c (take n t)) (range_rest bytes i) q))

pub write_failed : (o n : Output) (b : Option (List ℕ)) (bytes : List ℕ) (i : ℕ) → Appends o.written b (take i bytes)
    → Keeps b n.written → n.failures ≡ one_more o.failures → WritesFront bytes o n
write_failed o n b bytes i p k f = record {
  shown = take i bytes;
  unsaid = drop i bytes;
  wrote = Appends-kept o.written b n.written (take i bytes) p k;
  text = take-append-drop i bytes;
  failed = f;
}
