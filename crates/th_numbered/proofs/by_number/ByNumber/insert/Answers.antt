use Rattle.std.proofs.Common.{◌≡◌, ◌≤◌, Some, None, set, sym, ap, ◌∙◌, arith}
use Rattle.th_numbered.specs.Slots.{present, slot_at}
use Rattle.th_numbered.proofs.Lemmas.{gaps-insert, gaps-less, gaps-put, gaps-write, insert-absent, insert-found, length-le, length-new, length-put, one, rising-insert, rising-put, room_within, set-put, slot_is, within}
use Rattle.th_numbered.proofs.by_number.ByNumber.insert.Goals.{in-Some, in-None, in-Ok-insert, in-Err-insert}
use Rattle.th_numbered.proofs.by_number.ByNumber.insert.Goals as goal

pub index_mut-requires : goal.index_mut-requires
index_mut-requires g c = omega (arith, within c.args.n c.self.inside.list.items c.in-Ok.i c.in-Ok.ensures)

pub invariant_of-self : goal.invariant_of-self
invariant_of-self g c =
    let ss = c.self.inside.list.items in
    let here = within c.args.n ss c.in-Ok.i c.in-Ok.ensures in
    let item = c.index_mut.result.now in
    let old : slot_at ss c.in-Ok.i ≡ Some c.in-Some.field-0 = sym (c.in-Some.ensures.value
    ∙ slot_is ss c.in-Ok.i item here c.index_mut.ensures.value) in
    rw (c.replace.ensures.after, set-put ss c.in-Ok.i item (Some c.args.value) here c.index_mut.ensures.value) (
      rising-put ss c.in-Ok.i (Some c.args.value) c.self.invariant.0,
      omega (arith, length-put c.args.n ss c.in-Ok.i (Some c.args.value) c.in-Ok.ensures, ap one old, c.self.invariant.1),
      gaps-write ss c.self.inside.first c.in-Ok.i c.in-Some.field-0 c.args.value old c.self.invariant.2,
    )

pub overflow_add-self : goal.overflow_add-self
overflow_add-self g c = omega (arith, c.self.invariant.1, length-le c.self.inside.list.items, c.self.inside.list.small)

pub invariant_of-self-in-None : goal.invariant_of-self-in-None
invariant_of-self-in-None g c =
    let ss = c.self.inside.list.items in
    let here = within c.args.n ss c.in-Ok.i c.in-Ok.ensures in
    let item = c.index_mut.result.now in
    let low : c.min-self-inside.result ≤ c.in-Ok.i = omega (arith, c.min-self-inside.ensures) in
    let fewer : c.min-self-inside.result ≤ c.self.inside.first = omega (arith, c.min-self-inside.ensures) in
    let old : slot_at ss c.in-Ok.i ≡ None = sym (c.in-None.ensures.value ∙ slot_is ss c.in-Ok.i item here c.index_mut.ensures.value) in
    rw (c.replace.ensures.after, set-put ss c.in-Ok.i item (Some c.args.value) here c.index_mut.ensures.value) (
      rising-put ss c.in-Ok.i (Some c.args.value) c.self.invariant.0,
      omega (arith, length-put c.args.n ss c.in-Ok.i (Some c.args.value) c.in-Ok.ensures, ap one old, c.self.invariant.1),
      gaps-put ss c.min-self-inside.result c.in-Ok.i (Some c.args.value) low
          (gaps-less ss c.self.inside.first c.min-self-inside.result fewer c.self.invariant.2),
    )

pub insert-requires : goal.insert-requires
insert-requires g c = omega (arith, room_within c.args.n c.self.inside.list.items c.in-Err.i c.in-Err.ensures)

pub overflow_add-self-in-Ok-insert : goal.overflow_add-self-in-Ok-insert
overflow_add-self-in-Ok-insert g c = omega (arith, c.self.invariant.1, length-le c.self.inside.list.items, c.self.inside.list.small)

pub invariant_of-self-in-Ok-insert : goal.invariant_of-self-in-Ok-insert
invariant_of-self-in-Ok-insert g c =
    let ss = c.self.inside.list.items in
    let low : c.min-self-inside-in-Ok-insert.result ≤ c.in-Err.i = omega (arith, c.min-self-inside-in-Ok-insert.ensures) in
    let fewer : c.min-self-inside-in-Ok-insert.result ≤ c.self.inside.first = omega (arith, c.min-self-inside-in-Ok-insert.ensures) in
    rw c.in-Ok-insert.ensures.items (
      rising-insert c.args.n ss c.in-Err.i (Some c.args.value) c.in-Err.ensures c.self.invariant.0,
      omega (arith, length-new c.args.n ss c.in-Err.i c.args.value c.in-Err.ensures, c.self.invariant.1),
      gaps-insert ss c.min-self-inside-in-Ok-insert.result c.in-Err.i (c.args.n, Some c.args.value) low
          (room_within c.args.n ss c.in-Err.i c.in-Err.ensures)
          (gaps-less ss c.self.inside.first c.min-self-inside-in-Ok-insert.result fewer c.self.invariant.2),
    )

pub returns-after-replace-clause-entries : goal.returns-after-replace-clause-entries
returns-after-replace-clause-entries g c =
    let ss = c.self.inside.list.items in
    let here = within c.args.n ss c.in-Ok.i c.in-Ok.ensures in
    let item = c.index_mut.result.now in
    let new = ap present (ap (λ o. set ss c.in-Ok.i (item.0, o)) c.replace.ensures.after
    ∙ set-put ss c.in-Ok.i item (Some c.args.value) here c.index_mut.ensures.value)
    ∙ insert-found c.args.n ss c.in-Ok.i c.args.value c.in-Ok.ensures c.self.invariant.0 in
    elim c.match-replace.branch [
      | in-Some w ↦ rw (w.result-is, w.self-is, ← c.self.view_is) new
      | in-None w ↦ rw (w.result-is, w.self-is, ← c.self.view_is) new
    ]

pub returns-after-insert-clause-entries : goal.returns-after-insert-clause-entries
returns-after-insert-clause-entries g c =
    let ss = c.self.inside.list.items in
    elim c.match-insert.branch [
      | in-Ok-insert w ↦ rw (w.result-is, w.self-is, ← c.self.view_is) (ap present w.in-Ok-insert.ensures.items
          ∙ insert-absent c.args.n ss c.in-Err.i c.args.value c.in-Err.ensures)
      | in-Err-insert w ↦ rw w.result-is tt
    ]
