-- What a list ends as where a `&mut` to one of its values is handed out.
use Rattle.std.specs.Prelude.{ℕ, Option}
use Rattle.std.specs.Borrow.{Lends, LendsIf, Fml, RattleType, MutBor}
use Rattle.th_numbered.specs.Numbered.{Numbered, with_value}
use Rattle.th_numbered.specs.contracts.by_number.ByNumber.{the_row}

module _ (V : RattleType) (m : MutBor (Numbered V.Denot)) (n : ℕ) where
  -- once the borrow r ends, the number has the last value written through r
  abbrev pub lends_value : MutBor V.Denot → Fml
  lends_value r = Lends (the_row V) V m r (with_value m.now n)

  -- the same where r is a reference; at `None` the list stays as it is
  abbrev pub lends_get : Option (MutBor V.Denot) → Fml
  lends_get r = LendsIf (the_row V) V m r (with_value m.now n) m.now
